-- The flow points of a program's facts: what each follows, and its row.
use Rattle.std.proofs.Common.{◌≡◌, ℕ, List, ◌++◌, Option, Some, None, length, refl, sym, ap, subst, arith, ⊎_elim}
use Rattle.std.specs.Prelude.{◌<◌, true, not, Contains, slice_get}
use Rattle.std.specs.Option.{is_some}
use Rattle.std.specs.List.{flat_map}
use Rattle.std.proofs.lemmas.List.Elements.{Contains-append_right, Contains-append_cases}
use Rattle.std.proofs.lemmas.Option.{slice_get_within}
use Rattle.kaba_base.specs.declared.Place.{Place}
use Rattle.java_core.specs.Programs.{Plain, PlainField, PlainMethod, PlainLocal}
use Rattle.fact_model.specs.Items.{point_row}
use Rattle.fact_model.specs.declared.facts.Facts.{Facts}
use Rattle.flow_rules.specs.declared.items.ObjectType.{ObjectType}
use Rattle.flow_rules.specs.declared.items.Operand.{Operand}
use Rattle.flow_rules.specs.declared.items.RowItem.{RowItem}
use Rattle.flow_rules.specs.declared.items.RowItem.TheVariants as row
use Rattle.flow_rules.specs.declared.items.PointItem.{PointItem}
use Rattle.flow_rules.specs.declared.items.PointItem.TheVariants as point
use Rattle.flow_rules.specs.declared.items.PointAt.{PointAt}
use Rattle.flow_rules.specs.declared.items.Point.{Point}
use Rattle.flow_rules.specs.Ordered.{each, by_place}
use Rattle.flow_rules.specs.Operands.{variable_row, result_in}
use Rattle.flow_rules.specs.Parts.{Part, a_load, an_element, a_creation, a_call, a_static_call, a_super_call, a_test, parts_of}
use Rattle.flow_rules.specs.Numbered.{Outline, own_point, point_of_form, form_points, static_points, variable_points, method_points, outline_if, point_with, listed, row_number, points_of, point_number}
use Rattle.flow_rules.specs.Facts.{IsFactsOf}
use Rattle.flow_rules.proofs.Listed.{at_map, index_at, each_from, each_from_zero, flat_has, flat_from, place_has, place_from, when_from, one_from}
use Rattle.flow_rules.proofs.NumberedItems.{numbered_points, this_points, param_points, local_points, result_points, part_points}
use Rattle.flow_laws.proofs.cover.HasNumbers.{in_body}

-- what a part gives, where that can be a flow point
abbrev pub given_by : Part → Option Operand
given_by (a_load p b f o) = Some o
given_by (an_element p b o) = Some o
given_by (a_creation p u o s d es) = Some o
given_by (a_call p b s d es o) = Some o
given_by (a_static_call p m es o) = Some o
given_by (a_super_call p m es o) = Some o
given_by (a_test p e o) = Some o
given_by _ = None

-- a flow point that a part gives
pub record IsGiven (a : PointAt) (p : Part) : Type 0 where
  pub operand : Operand
  pub given : given_by p ≡ Some operand
  pub point_is : operand.point ≡ Some a.item
  pub row_is : operand.row ≡ Some a.row
  pub type : (t : ObjectType) × (operand.ty ≡ Some t)

own_from : (p : Place) (i : Option PointItem) (r : Option RowItem) (t : Option ObjectType) (a : PointAt) → Contains (own_point p i r t) a
    → (i ≡ Some a.item) × (r ≡ Some a.row) × ((y : ObjectType) × (t ≡ Some y))
own_from p (Some i) (Some r) (Some t) a c = let e = one_from _ a c in (ap (λ z. Some z.item) e, ap (λ z. Some z.row) e, (t, refl))
own_from p (Some i) (Some r) None a c = absurd (omega (arith, c.1))
own_from p (Some i) None t a c = absurd (omega (arith, c.1))
own_from p None r t a c = absurd (omega (arith, c.1))

given_from : (q : Part) (w : Place) (o : Operand) (a : PointAt) → given_by q ≡ Some o → Contains (point_of_form w o) a → IsGiven a q
given_from q w o a e c = let z = own_from w o.point o.row o.ty a c in record { operand = o; given = e; point_is = z.0; row_is = z.1; type = z.2 }

form_from : (p : Part) (a : PointAt) → Contains (form_points p) a → IsGiven a p
form_from (a_load p b f o) a c = given_from (a_load p b f o) p o a refl c
form_from (an_element p b o) a c = given_from (an_element p b o) p o a refl c
form_from (a_creation p u o s d es) a c = given_from (a_creation p u o s d es) p o a refl (when_from u _ a c).1
form_from (a_call p b s d es o) a c = given_from (a_call p b s d es o) p o a refl c
form_from (a_static_call p m es o) a c = given_from (a_static_call p m es o) p o a refl c
form_from (a_super_call p m es o) a c = given_from (a_super_call p m es o) p o a refl c
form_from (a_test p e o) a c = given_from (a_test p e o) p o a refl c
form_from _ a c = absurd (omega (arith, c.1))

module _ (P : Plain) where
  -- what a flow point follows
  pub data Follows (a : PointAt) : Type 0 where
    a_static : (f : ℕ) (k : PlainField) → slice_get P.fields f ≡ Some k → a.item ≡ point.Static f → a.row ≡ row.Field f → Follows a
    a_this : (m : ℕ) (k : PlainMethod) → slice_get P.methods m ≡ Some k → a.item ≡ point.This m → a.row ≡ row.This m → Follows a
    a_variable : (m : ℕ) (k : PlainMethod) (i : ℕ) → slice_get P.methods m ≡ Some k → a.item ≡ point.Local m i → a.row ≡ variable_row m k i → Follows a
    a_result : (m : ℕ) (k : PlainMethod) → slice_get P.methods m ≡ Some k → a.item ≡ point.Result m → a.row ≡ result_in k.slot m → Follows a
    a_form : (m : ℕ) (k : PlainMethod) (p : Part) → slice_get P.methods m ≡ Some k → Contains (parts_of P m k) p → IsGiven a p → Follows a

  static_follows : (f : ℕ) (k : PlainField) (a : PointAt) → slice_get P.fields f ≡ Some k → Contains (static_points f k) a → Follows a
  static_follows f k a e c = let d = one_from _ a (when_from k.is_static _ a c).1 in a_static f k e (sym (ap (λ z. z.item) d)) (sym (ap (λ z. z.row) d))

  module _ (m : ℕ) (k : PlainMethod) (e : slice_get P.methods m ≡ Some k) where
    -- `this`, parameters and locals, the result, and then the parts
    variable_follows : (i : ℕ) (v : PlainLocal) (a : PointAt) → Contains (variable_points m k i v) a → Follows a
    variable_follows i v a c = let d = one_from _ a c in a_variable m k i e (sym (ap (λ z. z.item) d)) (sym (ap (λ z. z.row) d))

    method_follows : (a : PointAt) → Contains (method_points P m k) a → Follows a
    method_follows a c =
        ⊎_elim
        (λ c. ⊎_elim
        (λ c. ⊎_elim
        (λ c. ⊎_elim (λ c. let d = one_from _ a (when_from (not k.is_static) _ a c).1 in a_this m k e (sym (ap (λ z. z.item) d))
        (sym (ap (λ z. z.row) d))) (λ c. let z = each_from_zero (variable_points m k) k.params a c in variable_follows z.0 z.1 a z.3)
        (Contains-append_cases (this_points P m k) (param_points P m k) a c))
        (λ c. let z = each_from (variable_points m k) (length k.params) k.locals a c in variable_follows z.1 z.2 a z.5)
        (Contains-append_cases ((this_points P m k) ++ (param_points P m k)) (local_points P m k) a c))
        (λ c. let d = one_from _ a c in a_result m k e (sym (ap (λ z. z.item) d)) (sym (ap (λ z. z.row) d)))
        (Contains-append_cases (((this_points P m k) ++ (param_points P m k)) ++ (local_points P m k)) (result_points P m k) a c))
        (λ c. let z = flat_from form_points (parts_of P m k) a (place_from (λ p. p.place.at) (flat_map form_points (parts_of P m k)) a c) in a_form m
        k z.0 e z.1 (form_from z.0 a z.2))
        (Contains-append_cases ((((this_points P m k) ++ (param_points P m k)) ++ (local_points P m k)) ++ (result_points P m k))
        (part_points P m k) a c)

    part_at : (p : Part) (a : PointAt) → Contains (parts_of P m k) p → Contains (form_points p) a → Contains (method_points P m k) a
    part_at p a c d = Contains-append_right ((((this_points P m k) ++ (param_points P m k)) ++ (local_points P m k)) ++ (result_points P m k))
        (part_points P m k) a
        (place_has (λ p. p.place.at) (flat_map form_points (parts_of P m k)) a (flat_has form_points (parts_of P m k) p a c d))

  point_in : (a : PointAt) (r : Option ℕ) (x : Point) → Contains (point_with a r) x → (a.item ≡ x.item) × (r ≡ Some x.row)
  point_in a (Some r) x c = let e = one_from _ x c in (ap (λ z. z.item) e, ap (λ z. Some z.row) e)
  point_in a None x c = absurd (omega (arith, c.1))

  abbrev statics : List PointAt
  statics = by_place (λ p. p.place.at) (each static_points 0 P.fields)

  abbrev outlines : List Outline
  outlines = by_place (λ o. o.place.at) (each (outline_if P) 0 P.methods)

  abbrev in_outline : Outline → List Point
  in_outline o = flat_map (listed (row_number P)) o.points

  -- what a point follows, and its row
  pub record HasPoint (q : ℕ) (x : Point) : Type 0 where
    pub at : PointAt
    pub item : at.item ≡ x.item
    pub number : row_number P at.row ≡ Some x.row
    pub follows : Follows at

  pub point_of : (q : ℕ) (x : Point) → slice_get (points_of P) q ≡ Some x → HasPoint q x
  point_of q x e =
      ⊎_elim
      (λ c. let z = flat_from (listed (row_number P)) statics x c in
      let w = point_in z.0 (row_number P z.0.row) x z.2 in
      let y = each_from_zero static_points P.fields z.0 (place_from (λ p. p.place.at) (each static_points 0 P.fields) z.0 z.1) in
      record { at = z.0; item = w.0; number = w.1; follows = static_follows y.0 y.1 z.0 y.2 y.3 })
      (λ c. let o = flat_from in_outline outlines x c in
      let z = flat_from (listed (row_number P)) o.0.points x o.2 in
      let w = point_in z.0 (row_number P z.0.row) x z.2 in
      let y = each_from_zero (outline_if P) P.methods o.0 (place_from (λ o. o.place.at) (each (outline_if P) 0 P.methods) o.0 o.1) in
      let d = one_from _ o.0 (when_from (is_some y.1.body) _ o.0 y.3).1 in
      record { at = z.0; item = w.0; number = w.1; follows = method_follows y.0 y.1 y.2 z.0 (subst (λ v. Contains v.points z.0) (sym d) z.1) })
      (Contains-append_cases (flat_map (listed (row_number P)) statics) (flat_map in_outline outlines) x ((numbered_points P).from q x e))

  pub part_point : (m : ℕ) (k : PlainMethod) → slice_get P.methods m ≡ Some k → is_some k.body ≡ true → (p : Part) (a : PointAt)
      → Contains (parts_of P m k) p → Contains (form_points p) a → (r : ℕ) → row_number P a.row ≡ Some r
      → (q : ℕ) × (point_number P a.item ≡ Some q)
  part_point m k e b p a c d r n = in_body P m k e b a r n (part_at m k e p a c d)

  module _ (F : Facts) (facts : IsFactsOf P F) where
    pub item_point : (i : PointItem) (q : ℕ) → point_number P i ≡ Some q → (x : Point) × (slice_get (points_of P) q ≡ Some x) × (x.item ≡ i)
        × (point_row F q ≡ x.row) × (q < length F.points.items)
    item_point i q e =
        let z = (numbered_points P).at i q e in
        let a = subst (λ y. slice_get y q ≡ Some (record { 0 = z.0.row })) (sym facts.points) (at_map (λ p. record { 0 = p.row }) (points_of P) q z.0 z.1) in
        (z.0, z.1, z.2, ap (λ y. y.0) (index_at F.points.items q _ _ a), slice_get_within F.points.items q _ a)
