-- The types of flow points and of sites.
use Rattle.std.proofs.Common.{◌≡◌, ℕ, Option, Some, None, length, refl, sym, ap, ◌∙◌, subst, arith}
use Rattle.std.specs.Prelude.{◌<◌, ◌≤◌, slice_get, option_and_then}
use Rattle.std.proofs.lemmas.Option.{same_Some}
use Rattle.java_core.specs.Programs.{Plain, PlainMethod}
use Rattle.java_core.specs.Typing.{IsTyped}
use Rattle.java_core.specs.Formed.{IsFormed}
use Rattle.fact_model.specs.Items.{row_class, point_row}
use Rattle.fact_model.specs.declared.facts.Facts.{Facts}
use Rattle.flow_rules.specs.declared.items.ObjectType.{ObjectType}
use Rattle.flow_rules.specs.declared.items.Operand.{Operand}
use Rattle.flow_rules.specs.declared.items.RowItem.{RowItem}
use Rattle.flow_rules.specs.declared.items.RowItem.TheVariants as row
use Rattle.flow_rules.specs.declared.items.PointItem.{PointItem}
use Rattle.flow_rules.specs.declared.items.PointAt.{PointAt}
use Rattle.flow_rules.specs.declared.items.Point.{Point}
use Rattle.flow_rules.specs.Operands.{object_if, class_object}
use Rattle.flow_rules.specs.Types.{variable_object}
use Rattle.flow_rules.specs.Parts.{Part, a_load, an_element, a_creation, a_call, a_static_call, a_super_call, a_test}
use Rattle.flow_rules.specs.Lists.{point_in, point_at}
use Rattle.flow_rules.specs.Numbered.{row_number, sites_of, site_number, points_of, point_number}
use Rattle.flow_rules.specs.Facts.{site_info, numbers, IsFactsOf}
use Rattle.flow_laws.proofs.cover.Kinded.{site_type}
use Rattle.flow_rules.proofs.Listed.{at_map, map_at, below_at, index_at}
use Rattle.flow_rules.proofs.NumberedItems.{numbered_sites, numbered_points}
use Rattle.flow_laws.proofs.order.Rows.{row_types}
use Rattle.flow_laws.proofs.order.Sites.{own_typed, own_type, site_part}
use Rattle.flow_laws.proofs.order.Bodies.{this_method}
use Rattle.flow_laws.proofs.order.Points.{given_by, Follows, a_static, a_this, a_variable, a_result, a_form, point_of}
use Rattle.flow_laws.proofs.order.Operands.{field_type, variable_type}
use Rattle.flow_laws.proofs.order.Classed.{Typing}
use Rattle.flow_laws.proofs.order.Sound.{item_type, IsSound}
use Rattle.flow_laws.proofs.order.Fitted.{IsFitted, part_fitted}
use Rattle.flow_laws.proofs.order.Owners.{IsRowAt, row_there, class_of_row}
use Rattle.flow_laws.proofs.order.Tied.{result_row_type}

module _ (P : Plain) (formed : IsFormed P) (typed : IsTyped P) (F : Facts) (facts : IsFactsOf P F) where
  -- the type of what a flow point holds
  abbrev pub point_type : ℕ → Option ObjectType
  point_type q = option_and_then (λ x. item_type P x.item) (slice_get (points_of P) q)

  pub number_type : (i : PointItem) (q : ℕ) → point_number P i ≡ Some q → point_type q ≡ item_type P i
  number_type i q e = let x = (numbered_points P).at i q e in ap (option_and_then (λ x. item_type P x.item)) x.1 ∙ ap (item_type P) x.2

  -- the item of a point that an operand may be
  pub point_item_of : (i : Option PointItem) (q : ℕ) → point_in (numbers P) i ≡ Some q → (j : PointItem) × (i ≡ Some j) × (point_number P j ≡ Some q)
  unfolding numbers
  point_item_of None q e = absurd (cc)
  point_item_of (Some i) q e = (i, refl, e)

  -- a flow point has a type, whose class is that of its row
  pub record IsPointTyped (x : Point) : Type 0 where
    pub type : ObjectType
    pub stated : item_type P x.item ≡ Some type
    pub item : RowItem
    pub number : row_number P item ≡ Some x.row
    pub at : IsRowAt P formed typed F facts x.row item
    pub class : row_class F x.row ≡ type.class.0
    pub dim : type.dim ≤ at.here.ty.dim

  module _ (m : ℕ) (k : PlainMethod) (stands : slice_get P.methods m ≡ Some k) where
    abbrev pub IsGood : Operand → Type 0
    IsGood o = IsSound P formed typed F facts m k stands o

    pub operand_type : (o : Operand) (q : ℕ) → IsGood o → point_at (numbers P) o ≡ Some q → point_type q ≡ o.ty
    operand_type o q g e = let j = point_item_of o.point q e in number_type j.0 q j.2 ∙ g.pointed j.0 j.1

    -- what a part gives is sound
    pub given_sound : (p : Part) (o : Operand) → IsFitted P formed typed F facts m k stands p → given_by p ≡ Some o → IsGood o
    given_sound (a_load w b f q) o h e = subst (λ z. IsGood z) (same_Some q o e) h.0
    given_sound (an_element w b q) o h e = subst (λ z. IsGood z) (same_Some q o e) h.1
    given_sound (a_creation w u q s d es) o h e = subst (λ z. IsGood z) (same_Some q o e) h.0
    given_sound (a_call w b s d es q) o h e = subst (λ z. IsGood z) (same_Some q o e) h.0
    given_sound (a_static_call w d es q) o h e = subst (λ z. IsGood z) (same_Some q o e) h.0
    given_sound (a_super_call w d es q) o h e = subst (λ z. IsGood z) (same_Some q o e) h.0
    given_sound (a_test w d q) o h e = subst (λ z. IsGood z) (same_Some q o e) h.1
    given_sound _ o h e = absurd (cc)

    -- a creation has the type of its site
    pub made_type : (o : Operand) (n s : ℕ) → IsGood o → o.created ≡ Some n → site_number P n ≡ Some s → o.ty ≡ Some (site_type F s)
    made_type o n s g c e =
        let w = g.created n c in
        let z = (numbered_sites P).at n s e in
        let p = site_part P formed typed s z.0 z.1 in
        let y = row_there P formed typed F facts (row.New z.0.number) z.0.row p.row_number_is in
        let t = own_type P formed typed (a_creation p.of.place p.of.used p.of.operand p.of.slot p.of.declaration p.of.arguments) p.of.operand
        (row.New z.0.number) z.0.ty z.0.row
        y.here p.of.is_part
        refl p.row_is p.of.type y.stands y.item in
        let i = index_at F.sites.items s _ (site_info z.0) (subst (λ y. slice_get y s ≡ Some (site_info z.0)) (sym facts.sites)
        (at_map (site_info) (sites_of P) s z.0 z.1)) in
        own_typed P formed typed (a_creation w.place w.used o w.slot w.declaration w.arguments) o (row.New n) z.0.row y.here
        (record { number = m; method = k; stands = stands; part = w.part }) refl w.row_is y.stands (y.item ∙ ap row.New z.2)
        ∙ ap Some t ∙ ap (λ i. Some (record { class = i.class; dim = i.dim })) (sym i)

  with_type : (a : PointAt) (x : Point) (t : ObjectType) → a.item ≡ x.item → (n : row_number P a.row ≡ Some x.row) → item_type P a.item ≡ Some t
      → (y : IsRowAt P formed typed F facts x.row a.row) → y.here.ty.class ≡ t.class → t.dim ≤ y.here.ty.dim → IsPointTyped x
  with_type a x t i n s y c d = record {
    type = t;
    stated = ap (item_type P) (sym i) ∙ s;
    item = a.row;
    number = n;
    at = y;
    class = class_of_row P formed typed F facts x.row a.row y ∙ ap (λ z. z.0) c;
    dim = d;
  }

  follows_typed : (a : PointAt) (x : Point) → a.item ≡ x.item → row_number P a.row ≡ Some x.row → Follows P a → IsPointTyped x
  unfolding Typing
  follows_typed a x i n (a_static f k e s r) =
      let y = row_there P formed typed F facts a.row x.row n in
      with_type a x y.here.ty i n (ap (item_type P) s ∙ field_type P formed typed f x.row y.here y.stands (y.item ∙ r)) y refl (omega arith)
  follows_typed a x i n (a_this m k e s r) =
      let y = row_there P formed typed F facts a.row x.row n in
      let t = this_method P formed typed F facts m y.here (row_types P x.row y.here y.stands) (y.item ∙ r) in
      with_type a x y.here.ty i n (ap (item_type P) s ∙ ap (option_and_then (λ k. class_object k.owner)) t.stands ∙ ap Some (sym t.type)) y refl (omega arith)
  follows_typed a x i n (a_variable m k j e s r) =
      let y = row_there P formed typed F facts a.row x.row n in
      with_type a x y.here.ty i n (ap (item_type P) s ∙ ap (option_and_then (λ k. variable_object k j)) e
      ∙ variable_type P formed typed m j k x.row y.here e y.stands (y.item ∙ r)) y refl (omega arith)
  follows_typed a x i n (a_result m k e s r) =
      let y = row_there P formed typed F facts a.row x.row n in
      with_type a x y.here.ty i n
      (ap (item_type P) s ∙ ap (option_and_then (λ k. object_if k.result)) e ∙ result_row_type P formed typed F facts m k e x.row k.slot
      refl (record { here = y.here; stands = y.stands; item = y.item ∙ r; info = y.info; below = y.below })) y refl (omega arith)
  follows_typed a x i n (a_form m k p e c g) =
      let y = row_there P formed typed F facts a.row x.row n in
      let s = given_sound m k e p g.operand (part_fitted P formed typed F facts m k e p c) g.given in
      let t = s.classed a.row x.row y.here g.row_is y.stands y.item in
      with_type a x t.type i n (s.pointed a.item g.point_is ∙ t.stated) y t.class t.dim

  pub point_typed : (q : ℕ) (x : Point) → slice_get (points_of P) q ≡ Some x → IsPointTyped x
  point_typed q x e = let z = point_of P q x e in follows_typed z.at x z.item z.number z.follows

  -- a point of the facts, and its row
  pub point_there : (q : ℕ) → q < length F.points.items → (x : Point) × (slice_get (points_of P) q ≡ Some x) × (point_row F q ≡ x.row)
  point_there q h =
      let z = below_at F.points.items q h in
      let w = map_at (λ p. record { 0 = p.row }) (points_of P) q z.0 (subst (λ y. slice_get y q ≡ Some z.0) facts.points z.1) in
      (w.0, w.1, ap (λ y. y.0) (index_at F.points.items q _ _ z.1 ∙ sym w.2))

  -- a numbered point has a type
  pub has_type : (i : PointItem) (q : ℕ) → point_number P i ≡ Some q → (t : ObjectType) × (point_type q ≡ Some t)
  has_type i q e = let x = (numbered_points P).at i q e in let t = point_typed q x.0 x.1 in
      (t.type, ap (option_and_then (λ x. item_type P x.item)) x.1 ∙ t.stated)
