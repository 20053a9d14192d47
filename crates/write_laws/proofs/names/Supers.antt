-- The types of the written tree by number, and the supertypes that they name.
use Rattle.std.proofs.Common.{◌≡◌, ◌≢◌, ℕ, zero, suc, ◌<◌, ◌&&◌, Bool, true, false, List, [], ◌∷◌, ◌++◌, Option, Some, None, Contains, refl, sym, ap, ◌∙◌, subst, arith, inl, inr, ⊎_elim}
use Rattle.std.specs.Prelude.{◌⊎◌, not, map, slice_get, codes, length}
use Rattle.std.specs.Option.{option_map, option_map_or, option_to_list, option_and_then}
use Rattle.std.specs.List.{range_with_len}
use Rattle.std.proofs.lemmas.Bool.{false≢true, and_parts, cases_Bool, cases_order, not-true}
use Rattle.std.proofs.lemmas.Option.{same_Some}
use Rattle.std.proofs.lemmas.List.Elements.{Contains-append_cases}
use Rattle.kaba_base.specs.declared.ClassId.{ClassId}
use Rattle.kaba_order.specs.Orders.{is_live, is_le}
use Rattle.java_tree.specs.declared.Id.{Id}
use Rattle.java_tree.specs.Syntax.{DeclTree}
use Rattle.java_core.specs.Programs.{Plain, PlainClass}
use Rattle.java_core.specs.Classes.{supers_of, IsSubclass, same_class, through, IsProperSubclass}
use Rattle.java_core.specs.Formed.{HasNoTwice}
use Rattle.fact_model.specs.declared.facts.Facts.{Facts}
use Rattle.fact_model.specs.declared.sets.PointsTo.{PointsTo}
use Rattle.hier_model.specs.Hierarchies.{Hierarchy, type_name, is_class_node}
use Rattle.flow_rules.specs.Facts.{is_holder, PlainMakers, makers_of}
use Rattle.flow_rules.proofs.Listed.{first, more, at_contains, contains_at, at_map, map_at, map_from, one_from}
use Rattle.name_rules.specs.Outline.{name_of, type_named, class_at, class_outline, id_meant, parent_meant, parent_named, faces_named, outline}
use Rattle.name_rules.specs.Meanings.{type_names, class_named}
use Rattle.name_rules.specs.Asked.{IsSuper, a_parent, a_face}
use Rattle.write_model.specs.Supers.{is_cover, nodes_that, superclass, type_id}
use Rattle.write_model.specs.Written.{type_tree}
use Rattle.write_laws.proofs.rebuilds.Apart.{types_apart}
use Rattle.write_laws.proofs.rebuilds.Chains.{class_down}
use Rattle.write_laws.proofs.rebuilds.Order.{cover_from, superclass_from, among_from}
use Rattle.write_laws.proofs.rebuilds.Outlined.{named_at}
use Rattle.write_laws.proofs.rebuilds.Nodes.{items, node_tree, old_tree, node_at, holder_at, tree_name, Declares, a_node, a_holder, declares, makers_tree, makers_at, a_makers}
use Rattle.write_laws.proofs.rebuilds.Named.{names_are}
use Rattle.write_laws.specs.names.Laws.{IsNamedProgram}
use Rattle.write_laws.proofs.names.Origins.{written, R}
use Rattle.write_laws.proofs.names.Once.{Once, once_at, map_once, filter_once, range_once}
use Rattle.write_laws.proofs.names.Types.{type_once, type_is_new}

-- what agrees only where it is the same agrees never in a list without repetition
once_within : {A : Type 0} (agree same : A → A → Type 0) (xs : List A) → ((x y : A) → Contains xs x → Contains xs y → agree x y → same x y) → Once same xs
    → Once agree xs
once_within agree same [] h o = tt
once_within agree same (x ∷ xs) h o = (
  λ y c a. o.0 y c (h x y (first x xs) (more y x xs c) a),
  once_within agree same xs (λ a b c d. h a b (more a x xs c) (more b x xs d)) o.1,
)

module _ {P : Plain} {F : Facts} {pt : PointsTo} {H : Hierarchy} (G : IsNamedProgram P F pt H) where
  open written P F H use {trees as T, types, program as O}

  abbrev class : ℕ → Bool
  class = is_class_node F H

  abbrev shown : Bool → ℕ → DeclTree
  shown b n = type_tree P (R P F H) F H (items P F H) b n

  pub types_are : type_names O ≡ types
  unfolding outline
  types_are = ap (λ z. codes "Object" ∷ z) (names_are types T)

  no_first : (j : ℕ) (x : List ℕ) → x ≡ codes "Object" → slice_get (map name_of T) j ≡ Some x → ⊥
  no_first j x e h = let z = map_at name_of T j x h in type_is_new G z.0 (contains_at T j z.0 z.1) (inl (z.2 ∙ e))

  pub types_once : HasNoTwice types
  unfolding HasNoTwice
  types_once zero zero x p q = refl
  types_once zero (suc j) x p q = absurd (no_first j x (sym (same_Some (codes "Object") x p)) q)
  types_once (suc i) zero x p q = absurd (no_first i x (sym (same_Some (codes "Object") x q)) p)
  types_once (suc i) (suc j) x p q =
      let a = map_at name_of T i x p in
      let b = map_at name_of T j x q in
      ⊎_elim (λ e. ap suc e) (λ o. absurd (⊎_elim (λ lt. type_once G i j a.0 b.0 a.1 b.1 lt (a.2 ∙ sym b.2))
      (λ gt. type_once G j i b.0 a.0 b.1 a.1 gt (b.2 ∙ sym a.2)) o)) (cases_order i j)

  -- each declaration is found by its name
  pub type_number : (i : ℕ) (d : DeclTree) → slice_get T i ≡ Some d → type_named types (name_of d) ≡ Some (suc i)
  type_number i d e = named_at types types_once (suc i) (name_of d) (at_map name_of T i d e)

  pub named : (i : ℕ) (d : DeclTree) → slice_get T i ≡ Some d → class_named O (name_of d) ≡ Some (suc i)
  named i d e = ap (λ z. type_named z (name_of d)) types_are ∙ type_number i d e

  pub node_named : (n : ℕ) → is_live H.order n ≡ true → (i : ℕ) × (slice_get T i ≡ Some (node_tree P F H n)) ×
      (class_named O (type_name H n) ≡ Some (suc i))
  node_named n h =
      let z = node_at P F H n h in
      (z.0, z.1, ap (class_named O) (sym (tree_name P F H (class n) n)) ∙ named z.0 (node_tree P F H n) z.1)

  pub holder_named : (c : ℕ) (k : PlainClass) → slice_get P.classes c ≡ Some k → is_holder P c ≡ true
      → (i : ℕ) × (slice_get T i ≡ Some (old_tree P F H c k)) × (class_named O k.name ≡ Some (suc i))
  holder_named c k e h = let z = holder_at P F H c k e h in (z.0, z.1, named z.0 (old_tree P F H c k) z.1)

  pub makers_named : (m : PlainMakers) → makers_of P ≡ Some m
      → (i : ℕ) × (slice_get T i ≡ Some (makers_tree P F H m)) × (class_named O m.holder ≡ Some (suc i))
  makers_named m e = let z = makers_at P F H m e in (z.0, z.1, named z.0 (makers_tree P F H m) z.1)

  pub class_is : (i : ℕ) (d : DeclTree) → slice_get T i ≡ Some d → slice_get O.classes (suc i) ≡ Some (class_outline types d)
  unfolding outline
  class_is i d e = at_map (class_outline types) T i d e

  -- ---- supertypes

  -- a supertype that the node n names: the type of a node strictly above
  pub record IsAbove (n : ℕ) (i : Id) (is_class : Bool) : Type 0 where
    pub node : ℕ
    pub is : type_id F H node ≡ i
    pub above : is_le H.order n node ≡ true
    pub other : n ≢ node
    pub kind : class node ≡ is_class

  pub live_above : (n : ℕ) (i : Id) (b : Bool) (a : IsAbove n i b) → is_live H.order a.node ≡ true
  live_above n i b a = G.hierarchy.sized.order.upper_lives n a.node a.above

  pub parent_is : (b : Bool) (n : ℕ) (i : Id) → class n ≡ b → parent_named (shown b n) ≡ Some i → IsAbove n i true
  parent_is true n i k e = go (superclass F H n) refl e
    where
      go : (o : Option ℕ) → superclass F H n ≡ o → option_map (type_id F H) o ≡ Some i → IsAbove n i true
      go None p q = absurd (cc q)
      go (Some m) p q = let z = superclass_from F H G.hierarchy.sized.order pt G.unbroken n m p in record
          { node = m; is = same_Some _ i q; above = z.above; other = z.other; kind = z.class }
  parent_is false n i k e = absurd (cc e)

  interface_above : (n m : ℕ) → class n ≡ false → is_le H.order n m ≡ true → class m ≡ false
  interface_above n m k h = ⊎_elim (λ c. absurd (false≢true (sym k ∙ class_down F H G.hierarchy.sized.order n m h c))) (λ f. f) (cases_Bool (class m))

  pub faces_is : (b : Bool) (n : ℕ) (i : Id) → class n ≡ b → Contains (faces_named (shown b n)) i → IsAbove n i false
  faces_is true n i k c =
      let test : ℕ → Bool = λ a. is_cover H.order n a && not (class a) in
      let z = map_from (type_id F H) (nodes_that H.order test) i c in
      let p = and_parts (is_cover H.order n z.0) (not (class z.0)) (among_from F H G.hierarchy.sized.order pt G.unbroken test z.0 z.1) in
      let u = cover_from F H G.hierarchy.sized.order pt G.unbroken n z.0 p.0 in
      record { node = z.0; is = z.2; above = u.above; other = u.other; kind = not-true (class z.0) p.1 }
  faces_is false n i k c =
      let test : ℕ → Bool = λ a. is_cover H.order n a in
      let z = map_from (type_id F H) (nodes_that H.order test) i c in
      let u = cover_from F H G.hierarchy.sized.order pt G.unbroken n z.0 (among_from F H G.hierarchy.sized.order pt G.unbroken test z.0 z.1) in
      record { node = z.0; is = z.2; above = u.above; other = u.other; kind = interface_above n z.0 k u.above }

  pub declared_parent : (d : DeclTree) → Declares P F H d → (i : Id) → parent_named d ≡ Some i → (n : ℕ) × IsAbove n i true
  declared_parent _ (a_node n live) i e = (n, parent_is (class n) n i refl e)
  declared_parent _ (a_holder c k h d) i e = absurd (cc e)
  declared_parent _ (a_makers m h) i e = absurd (cc e)

  pub declared_face : (d : DeclTree) → Declares P F H d → (i : Id) → Contains (faces_named d) i → (n : ℕ) × IsAbove n i false
  declared_face _ (a_node n live) i c = (n, faces_is (class n) n i refl c)
  declared_face _ (a_holder c k h d) i e = absurd (omega (arith, e.1))
  declared_face _ (a_makers m h) i e = absurd (omega (arith, e.1))

  -- what is above has a type, of its kind
  above_type : (n : ℕ) (i : Id) (b : Bool) (a : IsAbove n i b) (c : ℕ) (k : PlainClass) → class_named O i.name ≡ Some c → slice_get O.classes c ≡ Some k
      → k.is_interface ≡ not b
  above_type n i b a c k e at =
      let z = node_named a.node (live_above n i b a) in
      let number : suc z.0 ≡ c = same_Some _ _ (sym z.2 ∙ ap (λ (x : Id). class_named O x.name) a.is ∙ e) in
      let is : class_outline types (node_tree P F H a.node) ≡ k = same_Some _ _
      (sym (class_is z.0 (node_tree P F H a.node) z.1) ∙ ap (slice_get O.classes) number ∙ at) in
      ap (λ (x : PlainClass). x.is_interface) (sym is) ∙ interface_is (class a.node) a.node ∙ ap not a.kind
    where
      interface_is : (b : Bool) (n : ℕ) → (class_outline types (shown b n)).is_interface ≡ not b
      interface_is true n = refl
      interface_is false n = refl

  pub no_face_as_parent : (d : DeclTree) (i : Id) (c : ℕ) (k : PlainClass) → Contains T d → parent_named d ≡ Some i → class_named O i.name ≡ Some c
      → slice_get O.classes c ≡ Some k
      → k.is_interface ≡ true → ⊥
  no_face_as_parent d i c k h e f at is =
      let z = at_contains T d h in
      let a = declared_parent d (declares P F H z.0 d z.1) i e in
      false≢true (sym (above_type a.0 i true a.1 c k f at) ∙ is)

  pub no_class_as_face : (d : DeclTree) (i : Id) (c : ℕ) (k : PlainClass) → Contains T d → Contains (faces_named d) i → class_named O i.name ≡ Some c
      → slice_get O.classes c ≡ Some k
      → k.is_interface ≡ false → ⊥
  no_class_as_face d i c k h e f at is =
      let z = at_contains T d h in
      let a = declared_face d (declares P F H z.0 d z.1) i e in
      false≢true (sym is ∙ above_type a.0 i false a.1 c k f at)

  above_known : (n : ℕ) (i : Id) (b : Bool) → IsAbove n i b → class_named O i.name ≢ None
  above_known n i b a e =
      let z = node_named a.node (live_above n i b a) in
      absurd (cc (sym z.2 ∙ ap (λ (x : Id). class_named O x.name) a.is ∙ e))

  -- each supertype that is named is there
  pub super_known : (i : Id) → IsSuper T i → class_named O i.name ≢ None
  super_known i (a_parent {d = d} h e) =
      let z = at_contains T d h in
      let a = declared_parent d (declares P F H z.0 d z.1) i e in
      above_known a.0 i true a.1
  super_known i (a_face {d = d} h e) =
      let z = at_contains T d h in
      let a = declared_face d (declares P F H z.0 d z.1) i e in
      above_known a.0 i false a.1

  -- ---- each supertype once

  abbrev SameName : Id → Id → Type 0
  SameName a b = a.name ≡ b.name

  nodes_once : (test : ℕ → Bool) → ((a : ℕ) → test a ≡ true → is_live H.order a ≡ true) → Once SameName (map (type_id F H) (nodes_that H.order test))
  nodes_once test live =
      map_once SameName (type_id F H) (nodes_that H.order test)
      (once_within (λ x y. type_name H x ≡ type_name H y) (λ x y. x ≡ y) (nodes_that H.order test)
      (λ x y c d e. types_apart F pt H G.unbroken x y (live x (among_from F H G.hierarchy.sized.order pt G.unbroken test x c))
      (live y (among_from F H G.hierarchy.sized.order pt G.unbroken test y d)) e)
      (filter_once (λ x y. x ≡ y) test (range_with_len 0 (length H.order.live)) (range_once (length H.order.live) 0)))

  cover_live : (n a : ℕ) → is_cover H.order n a ≡ true → is_live H.order a ≡ true
  cover_live n a h = let u = cover_from F H G.hierarchy.sized.order pt G.unbroken n a h in G.hierarchy.sized.order.upper_lives n a u.above

  faces_once : (b : Bool) (n : ℕ) → Once SameName (faces_named (shown b n))
  faces_once true n = nodes_once (λ a. is_cover H.order n a && not (class a)) (λ a h. cover_live n a (and_parts (is_cover H.order n a) (not (class a)) h).0)
  faces_once false n = nodes_once (λ a. is_cover H.order n a) (λ a h. cover_live n a h)

  declared_once : (d : DeclTree) → Declares P F H d → Once SameName (faces_named d)
  declared_once _ (a_node n live) = faces_once (class n) n
  declared_once _ (a_holder c k h d) = tt
  declared_once _ (a_makers m h) = tt

  pub super_once : (d : DeclTree) (i j : ℕ) (a b : Id) → Contains T d → slice_get (faces_named d) i ≡ Some a → slice_get (faces_named d) j ≡ Some b
      → i < j → a.name ≡ b.name → ⊥
  super_once d i j a b h p q lt e =
      let z = at_contains T d h in
      once_at SameName (faces_named d) (declared_once d (declares P F H z.0 d z.1)) i j a b p q lt e

  -- ---- no loop

  pub object_supers : supers_of O 0 ≡ []
  unfolding outline
  object_supers = refl

  pub supers_are : (i : ℕ) (d : DeclTree) → slice_get T i ≡ Some d → supers_of O (suc i) ≡ parent_meant types (parent_named d) ∷ map (id_meant types)
      (faces_named d)
  supers_are i d e =
      ap (λ o. option_to_list (option_and_then (λ (k : PlainClass). k.parent) o) ++ option_map_or (λ (k : PlainClass). k.faces) o []) (class_is i d e)

  pub above_object : (x y : ℕ) → IsSubclass O x y → x ≡ 0 → y ≡ 0
  above_object x _ same_class e = e
  above_object x y (through {c = c} direct rest) e =
      let h = subst (λ z. Contains z c) (ap (supers_of O) e ∙ object_supers) direct in absurd (let l = h.1 in omega (arith, l))

  -- a node's type at a number
  pub record IsNumber (x n : ℕ) : Type 0 where
    pub number : ℕ
    pub is : x ≡ suc number
    pub stands : slice_get T number ≡ Some (node_tree P F H n)
    pub live : is_live H.order n ≡ true

  above_number : (n : ℕ) (i : Id) (b : Bool) (a : IsAbove n i b) (c : ClassId) → id_meant types i ≡ c → IsNumber c.0 a.node
  above_number n i b a c e =
      let live = live_above n i b a in
      let z = node_at P F H a.node live in
      record {
        number = z.0;
        is = ap (λ (x : ClassId). x.0) (sym e) ∙ ap (λ (x : Id). (id_meant types x).0) (sym a.is)
            ∙ ap (λ o. (class_at o).0) (ap (type_named types) (sym (tree_name P F H (class a.node) a.node))
            ∙ type_number z.0 (node_tree P F H a.node) z.1);
        stands = z.1;
        live = live;
      }

  abbrev Next : ℕ → ℕ → Type 0
  Next n x = (x ≡ 0) ⊎ ((m : ℕ) × IsNumber x m × (is_le H.order n m ≡ true) × (n ≢ m))

  -- what stands directly above a node's type is Object or the type of a node strictly above
  step : (b : Bool) (n : ℕ) (c : ClassId) → class n ≡ b → Contains
      (parent_meant types (parent_named (shown b n)) ∷ map (id_meant types) (faces_named (shown b n))) c → Next n c.0
  step b n c k h =
      ⊎_elim
      (λ d. by_parent (parent_named (shown b n)) refl (one_from _ c d))
      (λ d. let z = map_from (id_meant types) (faces_named (shown b n)) c d in let a = faces_is b n z.0 k z.1 in inr
      (a.node, above_number n z.0 false a c z.2, a.above, a.other))
      (Contains-append_cases (parent_meant types (parent_named (shown b n)) ∷ []) (map (id_meant types) (faces_named (shown b n))) c h)
    where
      by_parent : (o : Option Id) → parent_named (shown b n) ≡ o → parent_meant types o ≡ c → Next n c.0
      by_parent None p q = inl (ap (λ (x : ClassId). x.0) (sym q))
      by_parent (Some i) p q = let a = parent_is b n i k p in inr (a.node, above_number n i true a c q, a.above, a.other)

  pub node_step : (x n : ℕ) (c : ClassId) → IsNumber x n → Contains (supers_of O x) c → Next n c.0
  node_step x n c a h = step (class n) n c refl (subst (λ z. Contains z c) (ap (supers_of O) a.is ∙ supers_are a.number (node_tree P F H n) a.stands) h)

  -- what is above a node's type is Object or the type of a node at or above
  pub above_node : (x y n : ℕ) → IsNumber x n → IsSubclass O x y → (y ≡ 0) ⊎ ((m : ℕ) × IsNumber y m × (is_le H.order n m ≡ true))
  above_node x _ n a same_class = inr (n, a, G.hierarchy.sized.order.reflexive n a.live)
  above_node x y n a (through {c = c} direct rest) =
      ⊎_elim
      (λ zero. inl (above_object c.0 y rest zero))
      (λ m. ⊎_elim (λ e. inl e) (λ z. inr (z.0, z.1, G.hierarchy.sized.order.transitive n m.0 z.0 m.2 z.2)) (above_node c.0 y m.0 m.1 rest))
      (node_step x n c a direct)

  pub same_node : (x n m : ℕ) → IsNumber x n → IsNumber x m → n ≡ m
  same_node x n m a b =
      let e = suc_same a.number b.number (sym a.is ∙ b.is) in
      let one : node_tree P F H n ≡ node_tree P F H m = same_Some _ _ (sym a.stands ∙ ap (slice_get T) e ∙ b.stands) in
      types_apart F pt H G.unbroken n m a.live b.live (sym (tree_name P F H (class n) n) ∙ ap name_of one ∙ tree_name P F H (class m) m)
    where
      suc_same : (i j : ℕ) → suc i ≡ suc j → i ≡ j
      suc_same i j e = omega (arith, e)

  no_zero : (c : ℕ) → suc c ≡ 0 → ⊥
  no_zero c e = omega (arith, e)

  declared_loop : (c : ℕ) (d : DeclTree) → slice_get T c ≡ Some d → Declares P F H d → IsProperSubclass O (suc c) (suc c) → ⊥
  declared_loop c _ e (a_node n live) p =
      let a : IsNumber (suc c) n = record { number = c; is = refl; stands = e; live = live } in
      ⊎_elim
      (λ zero. no_zero c (above_object p.by.0 (suc c) p.rest zero))
      (λ m. ⊎_elim
      (λ zero. no_zero c zero)
      (λ z. let same = same_node (suc c) n z.0 a z.1 in
      m.3 (G.hierarchy.sized.order.antisymmetric n m.0 m.2 (subst (λ w. is_le H.order m.0 w ≡ true) (sym same) z.2)))
      (above_node p.by.0 (suc c) m.0 m.1 p.rest))
      (node_step (suc c) n p.by a p.direct)
  declared_loop c _ e (a_holder h k f g) p =
      let d = subst (λ z. Contains z p.by) (supers_are c (old_tree P F H h k) e) p.direct in
      no_zero c (above_object p.by.0 (suc c) p.rest (ap (λ (x : ClassId). x.0) (sym (one_from _ p.by d))))
  declared_loop c _ e (a_makers m f) p =
      let d = subst (λ z. Contains z p.by) (supers_are c (makers_tree P F H m) e) p.direct in
      no_zero c (above_object p.by.0 (suc c) p.rest (ap (λ (x : ClassId). x.0) (sym (one_from _ p.by d))))

  pub no_loop : (c : ℕ) (d : DeclTree) → slice_get T c ≡ Some d → IsProperSubclass O (suc c) (suc c) → ⊥
  no_loop c d e p = declared_loop c d e (declares P F H c d e) p
