-- The supertypes of the types of nodes, and their order.
use Rattle.std.proofs.Common.{◌≡◌, ◌≢◌, ◌↔◌, ℕ, suc, ◌+◌, ◌&&◌, Bool, true, false, List, [], ◌∷◌, ◌++◌, Option, Some, None, Contains, refl, sym, ap, ◌∙◌, subst, arith, inl, inr, ⊎_elim}
use Rattle.std.specs.Prelude.{◌⊎◌, not, length, map, option_and_then}
use Rattle.std.specs.Option.{option_map, option_map_or, option_to_list}
use Rattle.std.proofs.lemmas.Bool.{false≢true, and_from, and_parts, cases_Bool, not-true}
use Rattle.kaba_base.specs.declared.ClassId.{ClassId}
use Rattle.kaba_base.proofs.ListLemmas.{contains_cases}
use Rattle.kaba_order.specs.Orders.{IsPartialOrder, is_le, is_live}
use Rattle.java_tree.specs.Syntax.{DeclTree}
use Rattle.java_core.specs.Programs.{Plain, PlainClass}
use Rattle.java_core.specs.Classes.{supers_of, IsSubclass, same_class, through}
use Rattle.java_core.specs.Formed.{IsFormed}
use Rattle.java_core.proofs.Upwards.{above_object}
use Rattle.name_rules.specs.Outline.{parent_named, faces_named, parent_meant, id_meant, types_in}
use Rattle.name_rules.specs.Resolves.{Resolves}
use Rattle.fact_model.specs.declared.facts.Facts.{Facts}
use Rattle.fact_model.specs.declared.sets.PointsTo.{PointsTo}
use Rattle.hier_model.specs.Hierarchies.{Hierarchy, is_class_node}
use Rattle.hier_rules.specs.First.{first_broken}
use Rattle.flow_rules.specs.Facts.{IsFactsOf}
use Rattle.flow_rules.proofs.Listed.{first, more, map_has, map_from}
use Rattle.write_model.specs.Supers.{is_cover, nodes_that, superclass, type_id}
use Rattle.write_model.specs.Written.{type_tree, java_tree}
use Rattle.write_laws.specs.rebuilds.Supertypes.{NamesSupertypes, extends, implements, Subtype, itself, by_name}
use Rattle.write_laws.proofs.rebuilds.Covers.{count, subtype_of_le, names_le}
use Rattle.write_laws.proofs.rebuilds.Chains.{class_down, chained}
use Rattle.write_laws.proofs.rebuilds.Order.{ordered, cover_from, cover_is, superclass_is, superclass_from, among_from, among_has}
use Rattle.write_laws.proofs.rebuilds.Outlined.{class_there}
use Rattle.write_laws.proofs.rebuilds.Nodes.{by_node, items, node_tree, node_at, node_number, places, nodes_once}

module _ (P : Plain) (F : Facts) (H : Hierarchy) (V : Plain) (resolves : Resolves (java_tree P F H) V) (new : IsFormed V)
    (order : IsPartialOrder H.order) (pt : PointsTo) (none : first_broken F pt H ≡ None) where
  abbrev types : List (List ℕ)
  types = types_in (java_tree P F H)

  abbrev type : ℕ → ℕ
  type n = (places P F H V resolves new).type_of n

  abbrev le : ℕ → ℕ → Bool
  le = is_le H.order

  abbrev class : ℕ → Bool
  class = is_class_node F H

  abbrev shown : Bool → ℕ → DeclTree
  shown b n = type_tree P (by_node P F H) F H (items P F H) b n

  abbrev super_ids : Bool → ℕ → List ClassId
  super_ids b n = parent_meant types (parent_named (shown b n)) ∷ map (id_meant types) (faces_named (shown b n))

  supers_is : (n : ℕ) → is_live H.order n ≡ true → supers_of V (type n) ≡ super_ids (class n) n
  supers_is n h =
      let z = node_at P F H n h in
      ap (supers_of V) (node_number P F H V resolves new n z.0 z.1)
      ∙ ap (λ o. option_to_list (option_and_then (λ (k : PlainClass). k.parent) o) ++ option_map_or (λ (k : PlainClass). k.faces) o [])
      (class_there (java_tree P F H) V resolves new z.0 (node_tree P F H n) z.1)

  meant : (m : ℕ) → (id_meant types (type_id F H m)).0 ≡ type m
  unfolding places
  meant m = refl

  abbrev IsNamed : ℕ → ClassId → Type 0
  IsNamed n c = (c.0 ≡ 0) ⊎ ((m : ℕ) × NamesSupertypes le class n m × (c.0 ≡ type m))

  parent_from : (n : ℕ) (o : Option ℕ) (c : ClassId) → class n ≡ true → superclass F H n ≡ o → parent_meant types (option_map (type_id F H) o) ≡ c → IsNamed n c
  parent_from n None c k e d = inl (ap (λ z. z.0) (sym d))
  parent_from n (Some s) c k e d = inr (s, extends k (superclass_from F H order pt none n s e), ap (λ z. z.0) (sym d) ∙ meant s)

  faces_from : (n : ℕ) (p : ℕ → Bool) (c : ClassId) → ((m : ℕ) → p m ≡ true → NamesSupertypes le class n m)
      → Contains (map (id_meant types) (map (type_id F H) (nodes_that H.order p))) c → IsNamed n c
  faces_from n p c f h =
      let z = map_from (id_meant types) (map (type_id F H) (nodes_that H.order p)) c h in
      let w = map_from (type_id F H) (nodes_that H.order p) z.0 z.1 in
      inr (w.0, f w.0 (among_from F H order pt none p w.0 w.1), ap (λ z. z.0) (sym z.2) ∙ ap (λ y. (id_meant types y).0) (sym w.2) ∙ meant w.0)

  face_cover : (n m : ℕ) → (is_cover H.order n m && not (class m)) ≡ true → NamesSupertypes le class n m
  face_cover n m h =
      let p = and_parts (is_cover H.order n m) (not (class m)) h in
      implements (not-true (class m) p.1) (cover_from F H order pt none n m p.0)

  -- what stands above an interface is one
  above_interface : (n m : ℕ) → class n ≡ false → le n m ≡ true → class m ≡ false
  above_interface n m k h = ⊎_elim (λ c. absurd (false≢true (sym k ∙ class_down F H order n m h c))) (λ f. f) (cases_Bool (class m))

  named_from : (b : Bool) (n : ℕ) (c : ClassId) → class n ≡ b → Contains (super_ids b n) c → IsNamed n c
  named_from true n c k h =
      ⊎_elim (λ e. parent_from n (superclass F H n) c k refl e) (λ d. faces_from n (λ a. is_cover H.order n a && not (class a)) c (face_cover n) d)
      (contains_cases _ _ c h)
  named_from false n c k h =
      ⊎_elim (λ e. inl (ap (λ z. z.0) (sym e)))
      (λ d. faces_from n (λ a. is_cover H.order n a) c (λ m p. let u = cover_from F H order pt none n m p in implements (above_interface n m k u.above) u) d)
      (contains_cases _ _ c h)

  abbrev Has : Bool → ℕ → ℕ → Type 0
  Has b n m = (c : ClassId) × Contains (super_ids b n) c × (c.0 ≡ type m)

  face_has : (n m : ℕ) (p : ℕ → Bool) (x : ClassId) → le n m ≡ true → p m ≡ true
      → (c : ClassId) × Contains (x ∷ map (id_meant types) (map (type_id F H) (nodes_that H.order p))) c × (c.0 ≡ type m)
  face_has n m p x h k = (
    id_meant types (type_id F H m),
    more (id_meant types (type_id F H m)) x _ (map_has (id_meant types) (map (type_id F H) (nodes_that H.order p)) (type_id F H m)
        (map_has (type_id F H) (nodes_that H.order p) m (among_has F H order pt none p m ((ordered F H order pt none).upper n m h) k))),
    meant m,
  )

  named_has : (b : Bool) (n m : ℕ) → class n ≡ b → NamesSupertypes le class n m → Has b n m
  named_has true n m k (extends c l) =
      let faces : List ClassId = map (id_meant types) (faces_named (shown true n)) in
      let it : ClassId = id_meant types (type_id F H m) in (
        it,
        subst (λ o. Contains (parent_meant types (option_map (type_id F H) o) ∷ faces) it) (sym (superclass_is F H order pt none n m l))
            (first it faces),
        meant m,
      )
  named_has true n m k (implements i c) =
      face_has n m (λ a. is_cover H.order n a && not (class a)) _ c.above
      (and_from (is_cover H.order n m) (not (class m)) (cover_is F H order pt none n m c) (ap not i))
  named_has false n m k (extends c l) = absurd (false≢true (sym k ∙ c))
  named_has false n m k (implements i c) = face_has n m (λ a. is_cover H.order n a) _ c.above (cover_is F H order pt none n m c)

  below_node : (a b : ℕ) → Subtype le class a b → is_live H.order a ≡ true → IsSubclass V (type a) (type b)
  below_node a _ itself h = same_class
  below_node a b (by_name {b = m} k s) h =
      let z = named_has (class a) a m refl k in
      let up = names_le (length H.order.live) le (ordered F H order pt none) class (class_down F H order) (chained F H order pt none) a m k in
      through {c = z.0} (subst (λ y. Contains y z.0) (sym (supers_is a h)) z.1)
      (subst (λ y. IsSubclass V y (type b)) (sym z.2) (below_node m b s (order.upper_lives a m up)))

  module _ (formed : IsFormed P) (facts : IsFactsOf P F) where
    node_below : (x y : ℕ) → IsSubclass V x y → (a b : ℕ) → is_live H.order a ≡ true → is_live H.order b ≡ true → x ≡ type a → y ≡ type b
        → y ≢ 0 → le a b ≡ true
    node_below x _ same_class a b la lb e d o =
        subst (λ z. le a z ≡ true) (nodes_once P F H V resolves new formed facts pt none a b la lb (sym e ∙ d)) (order.reflexive a la)
    node_below x y (through {c = c} direct rest) a b la lb e d o =
        ⊎_elim
        (λ zero. absurd (o (above_object V new zero rest)))
        (λ m. let up = names_le (length H.order.live) le (ordered F H order pt none) class (class_down F H order) (chained F H order pt none) a m.0 m.1 in
        order.transitive a m.0 b up (node_below c.0 y rest m.0 b (order.upper_lives a m.0 up) lb m.2 d o))
        (named_from (class a) a c refl (subst (λ z. Contains z c) (ap (supers_of V) e ∙ supers_is a la) direct))

    pub order_is : (a b : ℕ) → is_live H.order a ≡ true → is_live H.order b ≡ true → IsSubclass V (type a) (type b) ↔ (le a b ≡ true)
    order_is a b la lb = (
      λ h. let z = node_at P F H b lb in
          node_below (type a) (type b) h a b la lb refl refl (λ o. no_zero z.0 (type b) (node_number P F H V resolves new b z.0 z.1) o),
      λ h. below_node a b (subtype_of_le (length H.order.live) le (ordered F H order pt none) class (class_down F H order) (chained F H order pt none)
          (count (length H.order.live) (le a) + 1) a b (omega arith) h) la,
    )
      where
        no_zero : (n k : ℕ) → k ≡ suc n → k ≢ 0
        no_zero n k e d = cc (e, d)
