-- Each site in a set has a type at or below that of the set, and as many brackets.
use Rattle.std.proofs.Common.{◌≡◌, ℕ, ◌+◌, ◌-◌, List, ◌++◌, Option, Some, None, refl, sym, ap, ◌∙◌, subst, arith, ⊎_elim}
use Rattle.std.specs.Prelude.{◌<◌, Contains, slice_get, option_and_then}
use Rattle.std.specs.Option.{option_map_or}
use Rattle.std.specs.List.{AllByRecursion}
use Rattle.std.proofs.lemmas.Option.{same_Some}
use Rattle.std.proofs.lemmas.List.Elements.{Contains-append_cases}
use Rattle.kaba_base.specs.declared.ColId.{ColId}
use Rattle.kaba_derivations.proofs.Derivations.{derivable_least}
use Rattle.java_core.specs.Programs.{Plain, PlainMethod}
use Rattle.java_core.specs.Classes.{IsSubclass}
use Rattle.java_core.specs.Typing.{IsTyped}
use Rattle.java_core.specs.Formed.{IsFormed}
use Rattle.java_core.proofs.Subclasses.{subclass-then}
use Rattle.fact_model.specs.Items.{site_at as site_info_at, cell_at, site_class}
use Rattle.fact_model.specs.Classes.{IsBelow}
use Rattle.fact_model.specs.Flowing.{Fact, in_point, in_cell, IsCell, FitsStore, CallRuns, point_at as listed_at, Inclusion, by_new, by_flow, by_load, by_store, by_this, by_argument, by_result, by_cast, Holds}
use Rattle.fact_model.specs.declared.facts.Facts.{Facts}
use Rattle.fact_model.specs.declared.facts.NewInfo.{NewInfo}
use Rattle.fact_model.specs.declared.facts.FlowInfo.{FlowInfo}
use Rattle.fact_model.specs.declared.facts.LoadInfo.{LoadInfo}
use Rattle.fact_model.specs.declared.facts.StoreInfo.{StoreInfo}
use Rattle.fact_model.specs.declared.facts.CastInfo.{CastInfo}
use Rattle.fact_model.specs.declared.facts.CallInfo.{CallInfo}
use Rattle.fact_model.specs.declared.facts.BodyInfo.{BodyInfo}
use Rattle.flow_rules.specs.declared.items.ObjectType.{ObjectType}
use Rattle.flow_rules.specs.declared.items.Operand.{Operand}
use Rattle.flow_rules.specs.declared.items.PointItem.{PointItem}
use Rattle.flow_rules.specs.declared.items.PointItem.TheVariants as point
use Rattle.flow_rules.specs.declared.items.ColumnItem.TheVariants as column
use Rattle.flow_rules.specs.Ordered.{each}
use Rattle.flow_rules.specs.Operands.{object_if, class_object}
use Rattle.flow_rules.specs.Types.{field_object, slot_object, method_object, variable_object, element_object}
use Rattle.flow_rules.specs.Parts.{Part, a_load, an_element, a_creation, a_static_call, a_super_call, a_test, a_set, a_store, an_element_store, a_return, parts_of}
use Rattle.flow_rules.specs.Lists.{point_at, site_in, created, moved, news_of, flows_of, loads_of, stores_of, casts_of}
use Rattle.flow_rules.specs.Numbered.{column_number, site_number, point_number}
use Rattle.flow_rules.specs.Facts.{numbers, owner_of, IsFactsOf}
use Rattle.flow_laws.proofs.cover.Kinded.{site_type}
use Rattle.flow_rules.proofs.Listed.{each_from_zero}
use Rattle.flow_rules.proofs.NumberedItems.{numbered_columns}
use Rattle.flow_laws.proofs.order.Classes.{below_subclass}
use Rattle.flow_laws.proofs.order.Tests.{gathered_from, both_from, these_from}
use Rattle.flow_laws.proofs.order.Operands.{param_object, slot_param}
use Rattle.flow_laws.proofs.order.Fits.{IsUnder, under_same, under_then, under_as, paired_dim, element_some, element_parts}
use Rattle.flow_laws.proofs.order.Sound.{item_type, IsSound}
use Rattle.flow_laws.proofs.order.Fitted.{IsFitted, IsValue, part_fitted}
use Rattle.flow_laws.proofs.order.Supers.{super_above}
use Rattle.flow_laws.proofs.order.Pointed.{point_type, number_type, point_item_of, operand_type, made_type, has_type}
use Rattle.flow_laws.proofs.order.Called.{runs_body, arg_at, param_at}

module _ (P : Plain) (formed : IsFormed P) (typed : IsTyped P) (F : Facts) (facts : IsFactsOf P F) where
  -- a site goes into what has the type
  abbrev pub Under : ℕ → ObjectType → Type 0
  Under s t = IsUnder P (site_type F s) t

  -- what a cell holds: of a field, sites at or below its type; of an array, elements
  pub record InCell (c s : ℕ) : Type 0 where
    pub field : (f : ℕ) (d : ColId) (t : ObjectType) → (cell_at F c).column ≡ Some d → column_number P (column.Fld f) ≡ Some d.0
        → field_object P f ≡ Some t → Under s t
    pub class : (cell_at F c).column ≡ None → IsSubclass P (site_class F s) (site_class F (cell_at F c).site.0)
    pub dim : (cell_at F c).column ≡ None → (site_info_at F s).dim + 1 ≡ (site_info_at F (cell_at F c).site.0).dim

  abbrev types_at : ℕ → Option ObjectType
  types_at q = point_type P formed typed F facts q

  abbrev pub IsHeld : Fact → Type 0
  IsHeld (in_point q s) = (t : ObjectType) → types_at q ≡ Some t → Under s t
  IsHeld (in_cell c s) = InCell c s

  number_types : (i : PointItem) (q : ℕ) → point_number P i ≡ Some q → types_at q ≡ item_type P i
  number_types i q e = number_type P formed typed F facts i q e

  -- the type of a point that is numbered
  typed_item : (i : PointItem) (q : ℕ) → point_number P i ≡ Some q → (t : ObjectType) × (types_at q ≡ Some t) × (item_type P i ≡ Some t)
  typed_item i q e = let z = has_type P formed typed F facts i q e in (z.0, z.1, sym (number_types i q e) ∙ z.1)

  pub created_from : (o : Operand) (q : Option ℕ) (x : NewInfo) → Contains (created (numbers P) o q) x → (n : ℕ) × (q ≡ Some x.point)
      × (o.created ≡ Some n) × (site_number P n ≡ Some x.site.0)
  unfolding numbers
  created_from o q x c =
      let z = both_from q (site_in (numbers P) o.created) (λ p s. record { point = p; site = record { 0 = s } }) x c in
      let n = number_of o.created z.1 z.3 in
      (n.0, z.2 ∙ ap (λ y. Some y.point) z.4, n.1, n.2 ∙ ap (λ y. Some y.site.0) z.4)
    where
      number_of : (a : Option ℕ) (s : ℕ) → site_in (numbers P) a ≡ Some s → (n : ℕ) × (a ≡ Some n) × (site_number P n ≡ Some s)
      number_of None s e = absurd (cc)
      number_of (Some n) s e = (n, refl, e)

  pub moved_from : (p q : Option ℕ) (x : FlowInfo) → Contains (moved p q) x → (p ≡ Some x.from) × (q ≡ Some x.to)
  moved_from p q x c = let z = both_from p q (λ a b. record { from = a; to = b }) x c in (z.2 ∙ ap (λ y. Some y.from) z.4, z.3 ∙ ap (λ y. Some y.to) z.4)

  -- the result of a method
  result_same : (d : ℕ) (t : ObjectType) → item_type P (point.Result d) ≡ Some t → method_object P d ≡ Some t
  result_same d t e = go (slice_get P.methods d) refl e
    where
      go : (o : Option PlainMethod) → slice_get P.methods d ≡ o → option_and_then (λ k. object_if k.result) o ≡ Some t → method_object P d ≡ Some t
      go None h e = absurd (cc)
      go (Some k) h e = ap (λ o. object_if (option_and_then (λ k. k.result) o)) h ∙ e

  same_field : (f g c : ℕ) → column_number P (column.Fld f) ≡ Some c → column_number P (column.Fld g) ≡ Some c → f ≡ g
  same_field f g c a b =
      let x = (numbered_columns P).at (column.Fld f) c a in
      let y = (numbered_columns P).at (column.Fld g) c b in
      let s : column.Fld f ≡ column.Fld g = sym x.2 ∙ ap (λ z. z.item) (same_Some _ _ (sym x.1 ∙ y.1)) ∙ y.2 in cc

  module _ (m : ℕ) (k : PlainMethod) (stands : slice_get P.methods m ≡ Some k) where
    abbrev IsGood : Operand → Type 0
    IsGood o = IsSound P formed typed F facts m k stands o

    abbrev Value : Operand → Option ObjectType → Type 0
    Value o t = IsValue P formed typed F facts m k stands o t

    abbrev Fitted : Part → Type 0
    Fitted p = IsFitted P formed typed F facts m k stands p

    operand_types : (o : Operand) (q : ℕ) → IsGood o → point_at (numbers P) o ≡ Some q → types_at q ≡ o.ty
    operand_types o q g e = operand_type P formed typed F facts m k stands o q g e

    -- an operand that is a point has a type
    typed_operand : (o : Operand) (q : ℕ) → IsGood o → point_at (numbers P) o ≡ Some q → (t : ObjectType) × (types_at q ≡ Some t) × (o.ty ≡ Some t)
    typed_operand o q g e =
        let j = point_item_of P formed typed F facts o.point q e in
        let z = typed_item j.0 q j.2 in
        (z.0, z.1, sym (operand_types o q g e) ∙ z.1)

    -- what a value holds goes where the value goes
    value_goes : (o : Operand) (t : Option ObjectType) (q s : ℕ) → Value o t → point_at (numbers P) o ≡ Some q → IsHeld (in_point q s)
        → (u : ObjectType) → t ≡ Some u → Under s u
    value_goes o t q s v e h u d = let z = typed_operand o q v.good e in under_then (h z.0 z.1) (v.under z.0 u z.2 d)

    -- what a point takes is what a type takes
    Takes : Option ℕ → Option ObjectType → Type 0
    Takes q t = (p : ℕ) → q ≡ Some p → (u : ObjectType) → types_at p ≡ Some u → t ≡ Some u

    takes_operand : (o : Operand) → IsGood o → Takes (point_at (numbers P) o) o.ty
    unfolding Takes
    takes_operand o g p e u d = sym (operand_types o p g e) ∙ d

    takes_item : (i : PointItem) → Takes (point_number P i) (item_type P i)
    unfolding Takes
    takes_item i p e u d = sym (number_types i p e) ∙ d

    takes_as : (q : Option ℕ) (s t : Option ObjectType) → s ≡ t → Takes q s → Takes q t
    takes_as q s t e h = subst (λ z. Takes q z) e h

    takes_result : Takes (point_number P (point.Result m)) (object_if k.result)
    takes_result = takes_as (point_number P (point.Result m)) (item_type P (point.Result m)) (object_if k.result)
        (ap (option_and_then (λ k. object_if k.result)) stands) (takes_item (point.Result m))

    new_goes : (o : Operand) (t : Option ObjectType) (q : Option ℕ) (x : NewInfo) → Value o t → Takes q t → Contains (created (numbers P) o q) x
        → IsHeld (in_point x.point x.site.0)
    unfolding Takes
    new_goes o t q x v f c u d = let z = created_from o q x c in v.under (site_type F x.site.0) u
        (made_type P formed typed F facts m k stands o z.0 x.site.0 v.good z.2 z.3) (f x.point z.1 u d)

    self_value : (o : Operand) → IsGood o → Value o o.ty
    self_value o g = record {
      good = g;
      under = λ b u x y. under_as (under_same b)
          (same_Some b u (sym x ∙ y));
    }

    args_new : (d : ℕ) (es : List Operand) (x : NewInfo) → ((i : ℕ) (a : Operand) → slice_get es i ≡ Some a
        → Value a (item_type P (point.Local d i))) → Contains (each (λ i o. created (numbers P) o (point_number P (point.Local d i))) 0 es) x
        → IsHeld (in_point x.point x.site.0)
    args_new d es x v c =
        let z = each_from_zero (λ i o. created (numbers P) o (point_number P (point.Local d i))) es x c in
        new_goes z.1 (item_type P (point.Local d z.0)) (point_number P (point.Local d z.0)) x (v z.0 z.1 z.2) (takes_item (point.Local d z.0)) z.3

    part_new : (p : Part) (x : NewInfo) → Fitted p → Contains (news_of (numbers P) m p) x → IsHeld (in_point x.point x.site.0)
    unfolding numbers
    part_new (a_creation w u o s d es) x h c = new_goes o o.ty (point_at (numbers P) o) x (self_value o h.0) (takes_operand o h.0) c
    part_new (a_set v o) x h c = new_goes o v.ty (point_at (numbers P) v) x h.2 (takes_operand v h.0) c
    part_new (a_return o) x h c = new_goes o (object_if k.result) (point_number P (point.Result m)) x h takes_result c
    part_new (a_static_call w d es o) x h c = args_new d es x h.1.args c
    part_new (a_super_call w (Some d) es o) x h c = args_new d es x (h.1 d refl).1.args c
    part_new _ x h c = absurd (omega (arith, c.1))

    flow_goes : (o : Operand) (t : Option ObjectType) (q : Option ℕ) (x : FlowInfo) (s : ℕ) → Value o t → Takes q t
        → Contains (moved (point_at (numbers P) o) q) x → IsHeld (in_point x.from s) → IsHeld (in_point x.to s)
    unfolding Takes
    flow_goes o t q x s v f c h u d = let z = moved_from (point_at (numbers P) o) q x c in value_goes o t x.from s v z.0 h u (f x.to z.1 u d)

    args_flow : (d : ℕ) (es : List Operand) (x : FlowInfo) (s : ℕ) → ((i : ℕ) (a : Operand) → slice_get es i ≡ Some a
        → Value a (item_type P (point.Local d i)))
        → Contains (each (λ i o. moved (point_at (numbers P) o) (point_number P (point.Local d i))) 0 es) x → IsHeld (in_point x.from s)
        → IsHeld (in_point x.to s)
    args_flow d es x s v c =
        let z = each_from_zero (λ i o. moved (point_at (numbers P) o) (point_number P (point.Local d i))) es x c in
        flow_goes z.1 (item_type P (point.Local d z.0)) (point_number P (point.Local d z.0)) x s (v z.0 z.1 z.2) (takes_item (point.Local d z.0)) z.3

    result_flow : (d : ℕ) (o : Operand) (x : FlowInfo) (s : ℕ) → IsGood o → o.ty ≡ method_object P d
        → Contains (moved (point_number P (point.Result d)) (point_at (numbers P) o)) x → IsHeld (in_point x.from s) → IsHeld (in_point x.to s)
    result_flow d o x s g e c h u y =
        let z = moved_from (point_number P (point.Result d)) (point_at (numbers P) o) x c in
        let t = typed_item (point.Result d) x.from z.0 in
        under_as (h t.0 t.1) (same_Some _ _ (sym (result_same d t.0 t.2) ∙ sym e ∙ sym (operand_types o x.to g z.1) ∙ y))

    this_flow : (d : ℕ) (x : FlowInfo) (s : ℕ) → IsSubclass P k.owner (owner_of P (column.Def d))
        → Contains (moved (point_number P (point.This m)) (point_number P (point.This d))) x → IsHeld (in_point x.from s)
        → IsHeld (in_point x.to s)
    this_flow d x s b c h u y =
        let z = moved_from (point_number P (point.This m)) (point_number P (point.This d)) x c in
        let w = this_parts (slice_get P.methods d) refl (sym (number_types (point.This d) x.to z.1) ∙ y) in
        under_then (h (record { class = record { 0 = k.owner }; dim = 0 }) (number_types (point.This m) x.from z.0
        ∙ ap (option_and_then (λ k. class_object k.owner)) stands)) (subst (λ v. IsUnder P (record { class = record { 0 = k.owner }; dim = 0 }) v)
        w (record { class = b; dim = refl }))
      where
        this_parts : (o : Option PlainMethod) → slice_get P.methods d ≡ o → option_and_then (λ k. class_object k.owner) (slice_get P.methods d)
            ≡ Some u → record { class = record { 0 = owner_of P (column.Def d) }; dim = 0 } ≡ u
        this_parts None e i = absurd (let z = ap (option_and_then (λ k. class_object k.owner)) (sym e) ∙ i in cc)
        this_parts (Some l) e i = ap (λ o. record { class = record { 0 = option_map_or (λ k. k.owner) o 0 }; dim = 0 }) e
            ∙ same_Some _ u (ap (option_and_then (λ k. class_object k.owner)) (sym e) ∙ i)

    part_flow : (p : Part) (x : FlowInfo) (s : ℕ) → Fitted p → Contains (flows_of (numbers P) m p) x → IsHeld (in_point x.from s) → IsHeld (in_point x.to s)
    unfolding numbers
    part_flow (a_set v o) x s h c = flow_goes o v.ty (point_at (numbers P) v) x s h.2 (takes_operand v h.0) c
    part_flow (a_return o) x s h c = flow_goes o (object_if k.result) (point_number P (point.Result m)) x s h takes_result c
    part_flow (a_static_call w d es o) x s h c =
        let one = each (λ i o. moved (point_at (numbers P) o) (point_number P (point.Local d i))) 0 es in
        ⊎_elim (λ y. args_flow d es x s h.1.args y) (λ y. result_flow d o x s h.0 h.1.result y)
        (Contains-append_cases one (moved (point_number P (point.Result d)) (point_at (numbers P) o)) x c)
    part_flow (a_super_call w (Some d) es o) x s h c =
        let one = each (λ i o. moved (point_at (numbers P) o) (point_number P (point.Local d i))) 0 es in
        let two = moved (point_number P (point.Result d)) (point_at (numbers P) o) in
        let z = h.1 d refl in
        ⊎_elim (λ y. ⊎_elim (λ y. args_flow d es x s z.1.args y) (λ y. result_flow d o x s h.0 z.1.result y) (Contains-append_cases one two x y))
        (λ y. this_flow d x s (super_above P formed typed k.owner d z.0.name z.0.found) y)
        (Contains-append_cases (one ++ two) (moved (point_number P (point.This m)) (point_number P (point.This d))) x c)
    part_flow _ x s h c = absurd (omega (arith, c.1))

    -- an element of what a base holds
    element_held : (b : Operand) (a c o s : ℕ) → IsGood b → point_at (numbers P) b ≡ Some a → IsCell F c o None → IsHeld (in_point a o) → InCell c s
        → (u : ObjectType) → element_object b.ty ≡ Some u → Under s u
    element_held b a c o s g e i h w u d =
        let z = typed_operand b a g e in
        let y = element_parts z.0 u (ap element_object (sym z.2) ∙ d) in
        let v = h z.0 z.1 in
        record {
          class = subst (λ n. IsSubclass P (site_class F s) n) (ap (λ n. n.0) y.0)
              (subclass-then P (subst (λ n. IsSubclass P (site_class F s) (site_class F n)) i.site_is (w.class i.column_is)) v.class);
          dim = omega (arith, w.dim i.column_is, ap (λ n. (site_info_at F n).dim) i.site_is, v.dim, y.1);
        }

    part_load : (p : Part) (x : LoadInfo) (c o s : ℕ) → Fitted p → Contains (loads_of (numbers P) p) x → IsCell F c o x.column
        → IsHeld (in_point x.base o) → InCell c s → IsHeld (in_point x.into s)
    unfolding numbers
    part_load (a_load w b (Some f) q) x c o s g e i h v u d =
        let z = these_from (point_at (numbers P) b) (column_number P (column.Fld f)) (point_at (numbers P) q)
        (λ a c q. record { base = a; column = Some (record { 0 = c }); into = q }) x e in
        let ty = sym (g.1 f refl).1 ∙ sym (operand_types q x.into g.0 (z.5 ∙ ap (λ y. Some y.into) z.6)) ∙ d in
        v.field f (record { 0 = z.1 }) u (i.column_is ∙ sym (ap (λ y. y.column) z.6)) z.4 ty
    part_load (an_element w b q) x c o s g e i h v u d =
        let z = both_from (point_at (numbers P) b) (point_at (numbers P) q) (λ a q. record { base = a; column = None; into = q }) x e in
        element_held b x.base c o s g.0 (z.2 ∙ ap (λ y. Some y.base) z.4) (subst (λ y. IsCell F c o y) (sym (ap (λ y. y.column) z.4)) i) h v u
        (sym g.2 ∙ sym (operand_types q x.into g.1 (z.3 ∙ ap (λ y. Some y.into) z.4)) ∙ d)
    part_load _ x c o s g e i h v u d = absurd (omega (arith, e.1))

    -- what is put in an element
    element_put : (b q : Operand) (a n c o s : ℕ) → IsGood b → ((t : ObjectType) → b.ty ≡ Some t → 0 < t.dim) → Value q (element_object b.ty)
        → point_at (numbers P) b ≡ Some a → point_at (numbers P) q ≡ Some n → IsCell F c o None → FitsStore F None s o → IsHeld (in_point a o)
        → IsHeld (in_point n s) → InCell c s
    element_put b q a n c o s g deep v e d i f h w =
        let z = typed_operand b a g e in
        let r = h z.0 z.1 in
        let y = value_goes q (element_object b.ty) n s v d w (record { class = z.0.class; dim = z.0.dim - 1 }) (ap element_object z.2
        ∙ element_some z.0 (deep z.0 z.2)) in
        record {
          field = λ f p t x. absurd (let y = sym x ∙ i.column_is in cc);
          class = λ x. subst (λ n. IsSubclass P (site_class F s) (site_class F n)) (sym i.site_is) (below_subclass P F facts f);
          dim = λ x. omega (arith, y.dim, r.dim, deep z.0 z.2, ap (λ n. (site_info_at F n).dim) i.site_is);
        }

    field_put : (f : ℕ) (q : Operand) (j n c o s : ℕ) → Value q (field_object P f) → column_number P (column.Fld f) ≡ Some j
        → point_at (numbers P) q ≡ Some n → IsCell F c o (Some (record { 0 = j })) → IsHeld (in_point n s) → InCell c s
    field_put f q j n c o s v e d i w = record {
      field = λ g p t x y r. let same = same_field f g j e (y ∙ ap (λ z. Some z.0) (same_Some p (record { 0 = j }) (sym x ∙ i.column_is))) in
          value_goes q (field_object P f) n s v d w t (ap (field_object P) same ∙ r);
      class = λ x. absurd (let y = sym x ∙ i.column_is in cc);
      dim = λ x. absurd (let y = sym x ∙ i.column_is in cc);
    }

    part_store : (p : Part) (x : StoreInfo) (c o s : ℕ) → Fitted p → Contains (stores_of (numbers P) p) x → IsCell F c o x.column
        → FitsStore F x.column s o → IsHeld (in_point x.base o) → IsHeld (in_point x.value s) → InCell c s
    unfolding numbers
    part_store (a_store w b (Some f) q) x c o s g e i r h v =
        let z = these_from (point_at (numbers P) b) (column_number P (column.Fld f)) (point_at (numbers P) q)
        (λ a c q. record { base = a; column = Some (record { 0 = c }); value = q; place = w }) x e in
        field_put f q z.1 x.value c o s (g f refl).1 z.4 (z.5 ∙ ap (λ y. Some y.value) z.6) (subst (λ y. IsCell F c o y) (sym (ap (λ y. y.column) z.6)) i) v
    part_store (an_element_store w b q) x c o s g e i r h v =
        let z = both_from (point_at (numbers P) b) (point_at (numbers P) q) (λ a q. record { base = a; column = None; value = q; place = w }) x e in
        element_put b q x.base x.value c o s g.0 g.1 g.2 (z.2 ∙ ap (λ y. Some y.base) z.4) (z.3 ∙ ap (λ y. Some y.value) z.4)
        (subst (λ y. IsCell F c o y) (sym (ap (λ y. y.column) z.4)) i) (subst (λ y. FitsStore F y s o) (sym (ap (λ y. y.column) z.4)) r) h v
    part_store _ x c o s g e i r h v = absurd (omega (arith, e.1))

    part_cast : (p : Part) (x : CastInfo) (s : ℕ) → Fitted p → Contains (casts_of (numbers P) p) x → IsBelow F (site_class F s) x.class.0
        → IsHeld (in_point x.from s) → IsHeld (in_point x.into s)
    part_cast (a_test w e q) x s g c b h u d =
        let z = these_from (point_at (numbers P) e) (point_at (numbers P) q) q.ty (λ a q t. record { from = a; into = q; class = t.class }) x c in
        let y = typed_operand e x.from g.0 (z.3 ∙ ap (λ y. Some y.from) z.6) in
        let t : z.2 ≡ u = same_Some _ _ (sym z.5 ∙ sym (operand_types q x.into g.1 (z.4 ∙ ap (λ y. Some y.into) z.6)) ∙ d) in
        record {
          class = subst (λ n. IsSubclass P (site_class F s) n) (sym (ap (λ y. y.class.0) z.6) ∙ ap (λ y. y.class.0) t) (below_subclass P F facts b);
          dim = (h y.0 y.1).dim ∙ paired_dim P y.0 z.2 (g.3 y.0 z.2 y.2 z.5) ∙ ap (λ y. y.dim) t;
        }
    part_cast _ x s g c r h u d = absurd (omega (arith, c.1))

  fitted_at : (m : ℕ) (k : PlainMethod) (e : slice_get P.methods m ≡ Some k) (p : Part) → Contains (parts_of P m k) p
      → IsFitted P formed typed F facts m k e p
  fitted_at m k e p c = part_fitted P formed typed F facts m k e p c

  this_held : (call : CallInfo) (o : ℕ) (body : BodyInfo) → CallRuns F call o body → IsHeld (in_point call.receiver o) → IsHeld (in_point body.this o)
  this_held call o body r h u d =
      let w = runs_body P formed typed F facts call o body r in
      let e = w.entry in
      let c = w.call_is in
      let t = typed_operand c.number c.method c.stands c.base call.receiver c.base_good c.receiver in
      let s : record { class = record { 0 = e.method.owner }; dim = 0 } ≡ u = same_Some _ u (sym (number_types (point.This e.number) body.this e.this
      ∙ ap (option_and_then (λ k. class_object k.owner)) e.stands) ∙ d) in
      under_as (record { class = w.above; dim = (h t.0 t.1).dim ∙ c.object t.0 t.2 }) s

  argument_held : (call : CallInfo) (o : ℕ) (body : BodyInfo) (i from to s : ℕ) → CallRuns F call o body → listed_at call.args.items i ≡ Some from
      → listed_at body.params.items i ≡ Some to → IsHeld (in_point from s) → IsHeld (in_point to s)
  argument_held call o body i from to s r a p h u d =
      let w = runs_body P formed typed F facts call o body r in
      let e = w.entry in
      let c = w.call_is in
      let x = arg_at P formed typed F facts c.args call.args.items i from c.args_are a in
      let y = param_at P formed typed F facts e.number e.method body.params.items i to e.params p in
      value_goes c.number c.method c.stands x.0 (param_object P call.slot i) from s (c.values i x.0 x.1) x.2 h u
      (sym (slot_param P formed typed e.number i call.slot e.method e.stands w.slot y.0) ∙ sym (number_types (point.Local e.number i) to y.1
      ∙ ap (option_and_then (λ k. variable_object k i)) e.stands) ∙ d)

  result_held : (call : CallInfo) (o : ℕ) (body : BodyInfo) (from to s : ℕ) → CallRuns F call o body → body.result ≡ Some from → call.result ≡ Some to
      → IsHeld (in_point from s) → IsHeld (in_point to s)
  result_held call o body from to s r a p h u d =
      let w = runs_body P formed typed F facts call o body r in
      let e = w.entry in
      let c = w.call_is in
      let y = ((formed.methods e.number e.method e.stands).slots call.slot).0 w.slot in
      let t = typed_item (point.Result e.number) from (sym e.result ∙ a) in
      let same : object_if e.method.result ≡ slot_object P call.slot = ap object_if y.result
      ∙ sym (ap (λ o. object_if (option_and_then (λ k. k.result) o)) y.stands) in
      under_as (h t.0 t.1) (same_Some _ _ (sym t.2 ∙ ap (option_and_then (λ k. object_if k.result)) e.stands ∙ same ∙ sym c.gives
      ∙ sym (operand_types c.number c.method c.stands c.own to c.own_good (sym c.result ∙ p)) ∙ d))

  closed : (ps : List Fact) (f : Fact) → Inclusion F ps f → AllByRecursion IsHeld ps → IsHeld f
  closed ps f (by_new x c) h = let z = gathered_from P (λ b. news_of (numbers P) b.number) x ((facts.news x).0 c) in part_new z.0 z.1 z.3 z.2 x
      (fitted_at z.0 z.1 z.3 z.2 z.4) z.5
  closed ps f (by_flow x s c) h = let z = gathered_from P (λ b. flows_of (numbers P) b.number) x ((facts.flows x).0 c) in part_flow z.0 z.1 z.3
      z.2 x s (fitted_at z.0 z.1 z.3 z.2 z.4) z.5 h.0
  closed ps f (by_load x c o s n i) h = let z = gathered_from P (λ b. loads_of (numbers P)) x ((facts.loads x).0 n) in part_load z.0 z.1 z.3 z.2 x
      c o s (fitted_at z.0 z.1 z.3 z.2 z.4) z.5 i h.0 h.1.0
  closed ps f (by_store x c o s n i r) h = let z = gathered_from P (λ b. stores_of (numbers P)) x ((facts.stores x).0 n) in part_store z.0 z.1 z.3
      z.2 x c o s (fitted_at z.0 z.1 z.3 z.2 z.4) z.5 i r h.0 h.1.0
  closed ps f (by_this call o body r) h = this_held call o body r h.0
  closed ps f (by_argument call o body i from to s r a p) h = argument_held call o body i from to s r a p h.1.0
  closed ps f (by_result call o body from to s r a p) h = result_held call o body from to s r a p h.1.0
  closed ps f (by_cast x s c b) h = let z = gathered_from P (λ b. casts_of (numbers P)) x ((facts.casts x).0 c) in part_cast z.0 z.1 z.3 z.2 x s
      (fitted_at z.0 z.1 z.3 z.2 z.4) z.5 b h.0

  -- each fact that holds
  pub held : (f : Fact) → Holds F f → IsHeld f
  held f h = derivable_least (Inclusion F) IsHeld closed f h
