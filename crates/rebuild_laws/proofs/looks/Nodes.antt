-- The types of nodes in a program that rebuilds another: their order, which of them are classes, and that no holder stands between them.
use Rattle.std.proofs.Common.{◌≡◌, ◌≢◌, ℕ, ◌&&◌, eqb, [], ◌∷◌, Option, Some, None, Contains, refl, sym, ap, ◌∙◌, subst, ⊎_elim, arith}
use Rattle.std.specs.Prelude.{true, not, length, slice_get}
use Rattle.std.specs.Option.{is_some}
use Rattle.std.proofs.lemmas.Bool.{false≢true, and_from, and_parts, or_left, or_right, eqb-true}
use Rattle.std.proofs.lemmas.Option.{same_Some}
use Rattle.std.specs.Cmp.{both_ways}
use Rattle.kaba_base.specs.declared.NodeId.{NodeId}
use Rattle.kaba_base.specs.declared.ClassId.{ClassId}
use Rattle.kaba_base.proofs.ListLemmas.{contains_cases}
use Rattle.java_core.specs.Programs.{Plain, PlainClass}
use Rattle.java_core.specs.Classes.{supers_of, IsSubclass, same_class, through, below, is_concrete}
use Rattle.java_core.proofs.Subclasses.{below-subclass, subclass-below}
use Rattle.java_core.proofs.Upwards.{IsMemberClass, above_object}
use Rattle.kaba_order.specs.Orders.{is_le, is_live}
use Rattle.fact_model.specs.Items.{site_at, site_row, column_kind}
use Rattle.fact_model.specs.declared.facts.Facts.{Facts}
use Rattle.hier_model.specs.Hierarchies.{Hierarchy, place_of_column, place_of_row, is_above, is_offered, is_of_class, has_class_member, has_object, is_class_node}
use Rattle.hier_model.proofs.AnyLemmas.{any_below_some, any_below_has}
use Rattle.flow_rules.specs.Facts.{numbers, kind_of, is_holder, PlainMakers, makers_of}
use Rattle.flow_rules.specs.declared.items.ColumnItem.{ColumnItem}
use Rattle.rebuild_model.specs.Members.{is_made_at, StandsAt}
use Rattle.rebuild_laws.specs.looks.Known.{KnownOfBoth, Offers}

module _ {P : Plain} {F : Facts} {H : Hierarchy} {W : Plain} (K : KnownOfBoth P F H W) where
  open K.rebuilt use {places as T}

  abbrev is_node : ℕ → Type 0
  is_node n = is_live H.order n ≡ true

  -- the order of the types is that of the nodes
  pub subclass_of : (a b : ℕ) → is_le H.order a b ≡ true → IsSubclass W (T.type_of a) (T.type_of b)
  subclass_of a b h = (K.rebuilt.order a b (K.order.lower_lives a b h) (K.order.upper_lives a b h)).1 h

  pub le_of : (a b : ℕ) → is_node a → is_node b → IsSubclass W (T.type_of a) (T.type_of b) → is_le H.order a b ≡ true
  le_of a b la lb h = (K.rebuilt.order a b la lb).0 h

  pub below_is : (a b : ℕ) → is_node a → is_node b → below W (T.type_of a) (T.type_of b) ≡ is_le H.order a b
  below_is a b la lb =
      both_ways (below W (T.type_of a) (T.type_of b)) (is_le H.order a b)
      (λ h. le_of a b la lb (below-subclass W (T.type_of a) (T.type_of b) h))
      (λ h. subclass-below W K.new.acyclic (subclass_of a b h))

  -- a node at or below a class node with a member is a class
  pub is_offered_at : (n : ℕ) (i : ColumnItem) (c : ℕ) → (numbers P).column i ≡ Some c → Offers K n i → is_offered H n c ≡ true
  is_offered_at n i c e o =
      let same : o.stands.number ≡ c = same_Some _ _ (sym o.stands.numbered ∙ e) in
      let at : place_of_column H c ≡ Some o.stands.place = subst (λ z. place_of_column H z ≡ Some o.stands.place) same o.stands.placed in
      rw at (subst (λ z. is_le H.order n z ≡ true) (sym o.stands.at) o.above)

  pub offers_at : (n : ℕ) (i : ColumnItem) (c : ℕ) → (numbers P).column i ≡ Some c → is_offered H n c ≡ true → Offers K n i
  offers_at n i c e h = at (place_of_column H c) refl h
    where
      at : (o : Option NodeId) → place_of_column H c ≡ o → is_above H.order n o ≡ true → Offers K n i
      at None d k = absurd (false≢true k)
      at (Some p) d k = record { node = p.0; stands = record { number = c; numbered = e; place = p; placed = d; at = refl }; above = k }

  pub stands_live : (n : ℕ) (i : ColumnItem) → StandsAt P F H W T i n → is_node n
  stands_live n i s = subst is_node s.at (K.placed s.number s.place s.placed)

  pub offers_own : (n : ℕ) (i : ColumnItem) → StandsAt P F H W T i n → Offers K n i
  offers_own n i s = record { node = n; stands = s; above = K.order.reflexive n (stands_live n i s) }

  pub offers_below : (n m : ℕ) (i : ColumnItem) → is_le H.order n m ≡ true → Offers K m i → Offers K n i
  offers_below n m i h o = record { node = o.node; stands = o.stands; above = K.order.transitive n m o.node h o.above }

  -- an item stands at one node
  pub stands_once : (n m : ℕ) (i : ColumnItem) → StandsAt P F H W T i n → StandsAt P F H W T i m → n ≡ m
  stands_once n m i a b =
      let same : a.number ≡ b.number = same_Some _ _ (sym a.numbered ∙ b.numbered) in
      let place : a.place ≡ b.place = same_Some _ _ (sym a.placed ∙ ap (place_of_column H) same ∙ b.placed) in
      sym a.at ∙ ap (λ (z : NodeId). z.0) place ∙ b.at

  -- what offers a field or a body is a class node
  pub class_node : (n : ℕ) (i : ColumnItem) → is_of_class (kind_of i) ≡ true → Offers K n i → is_class_node F H n ≡ true
  class_node n i k o =
      let s = o.stands in
      or_left (has_class_member F H n) (has_object F H n)
      (any_below_has (λ c. is_of_class (column_kind F c) && is_offered H n c) (length F.columns.items) s.number (K.columns.below i s.number s.numbered)
      (and_from (is_of_class (column_kind F s.number)) (is_offered H n s.number)
      (ap is_of_class (K.columns.kind i s.number s.numbered) ∙ k)
      (is_offered_at n i s.number s.numbered o)))

  -- what is created at a node makes it one
  pub made_class : (n : ℕ) → is_node n → is_made_at F H n ≡ true → is_class_node F H n ≡ true
  made_class n live h =
      let s = any_below_some (λ s. eqb (site_at F s).dim 0 && eqb (place_of_row H (site_row F s)) n) (length F.sites.items) h in
      or_right (has_class_member F H n) (has_object F H n)
      (any_below_has (λ s. eqb (site_at F s).dim 0 && is_le H.order n (place_of_row H (site_row F s))) (length F.sites.items) s.0 s.1
      (let both = and_parts (eqb (site_at F s.0).dim 0) (eqb (place_of_row H (site_row F s.0)) n) s.2 in
      and_from (eqb (site_at F s.0).dim 0) (is_le H.order n (place_of_row H (site_row F s.0))) both.0
      (subst (λ z. is_le H.order n z ≡ true) (sym (eqb-true (place_of_row H (site_row F s.0)) n both.1)) (K.order.reflexive n live))))

  -- objects are created at nodes whose types are classes that have objects
  pub concrete : (n : ℕ) → is_node n → is_made_at F H n ≡ true → is_concrete W (T.type_of n) ≡ true
  concrete n live h =
      let t = K.rebuilt.types.nodes n live in
      let c = made_class n live h in
      rw (t.stands, t.kind, t.abstract c, c, h) refl

  -- the type of a class node is a class with members, and no Object
  pub member_class : (n : ℕ) → is_node n → is_class_node F H n ≡ true → IsMemberClass W (T.type_of n)
  member_class n live c =
      let t = K.rebuilt.types.nodes n live in
      record { class = t.class; stands = t.stands; no_interface = t.kind ∙ ap not c; no_object = t.no_object }

  -- a class right below Object that is no node's is below no node's
  alone : (h m : ℕ) (class : PlainClass) → slice_get W.classes h ≡ Some class → class.parent ≡ Some (record { 0 = 0 }) → class.faces ≡ []
      → T.type_of m ≢ h → is_node m → IsSubclass W h (T.type_of m) → ⊥
  alone h m class stands parent faces apart live up = go h (T.type_of m) refl refl up
    where
      object : (k : ClassId) → Contains (supers_of W h) k → k.0 ≡ 0
      object k i =
          let supers : supers_of W h ≡ record { 0 = 0 } ∷ [] = rw (stands, parent, faces) refl in
          let one : Contains (record { 0 = 0 } ∷ []) k = subst (λ z. Contains z k) supers i in
          ⊎_elim (λ e. sym (ap (λ (z : ClassId). z.0) e)) (λ r. absurd (omega (arith, r.1))) (contains_cases (record { 0 = 0 }) [] k one)

      go : (x y : ℕ) → x ≡ h → y ≡ T.type_of m → IsSubclass W x y → ⊥
      go x y e f same_class = apart (sym f ∙ e)
      go x y e f (through {c = k} direct rest) =
          (K.rebuilt.types.nodes m live).no_object (sym f ∙ above_object W K.new (object k (subst (λ z. Contains (supers_of W z) k) e direct)) rest)

  -- a holder stands below no node
  pub no_holder : (c m : ℕ) → is_holder P c ≡ true → is_node m → IsSubclass W (T.holder_of c) (T.type_of m) → ⊥
  no_holder c m holder live up =
      let t = K.rebuilt.types.holders c holder in
      alone (T.holder_of c) m t.class t.stands t.parent t.faces (K.rebuilt.types.apart m c live holder) live up

  -- nor does that of the methods that make objects
  pub no_makers : (m : ℕ) → is_some (makers_of P) ≡ true → is_node m → IsSubclass W T.makers (T.type_of m) → ⊥
  no_makers m makers live up = go (makers_of P) refl makers
    where
      go : (o : Option PlainMakers) → makers_of P ≡ o → is_some o ≡ true → ⊥
      go None e h = false≢true h
      go (Some k) e h =
          let t = K.rebuilt.types.makers k e in
          alone T.makers m t.class t.stands t.parent t.faces (K.rebuilt.types.makers_no_node m live makers) live up
