-- Fields, results and variables of an object's type have rows and points, in a formed program.
use Rattle.std.proofs.Common.{◌≡◌, ℕ, ◌++◌, Option, Some, None, length, refl, sym, ap, ◌∙◌, subst, arith}
use Rattle.std.specs.Prelude.{◌<◌, ◌||◌, nat_lt, not, Bool, true, false, slice_get}
use Rattle.std.specs.Option.{option_map, option_map_or, is_some}
use Rattle.std.proofs.lemmas.Bool.{eq-eqb, or_left, or_right}
use Rattle.std.proofs.lemmas.Option.{same_Some, slice_get_within}
use Rattle.java_meaning.proofs.Calls.{mapped_some}
use Rattle.java_core.specs.declared.Ty.{Ty}
use Rattle.java_core.specs.Programs.{Plain, PlainField, PlainMethod, PlainLocal, PlainSlot}
use Rattle.java_core.specs.Types.{types_of}
use Rattle.java_core.specs.Formed.{IsFormed, IsInSlot}
use Rattle.flow_rules.specs.declared.items.ObjectType.{ObjectType}
use Rattle.flow_rules.specs.declared.items.RowItem.TheVariants as row
use Rattle.flow_rules.specs.declared.items.PointItem.TheVariants as point
use Rattle.flow_rules.specs.Operands.{object_of, object_if, variable_in, variable_row, result_in}
use Rattle.flow_rules.specs.Types.{field_object, variable_object}
use Rattle.flow_rules.specs.Numbered.{is_first_in, is_first, row_number, point_number}
use Rattle.flow_rules.proofs.Listed.{at_left}
use Rattle.std.proofs.lemmas.Option.{slice_get-map}
use Rattle.kaba_base.proofs.ListLemmas.{get_same}
use Rattle.flow_laws.proofs.cover.HasNumbers.{field_row, this_row, result_row, own_variable_row, static_point, this_point, variable_point, result_point}

pub object_there : (o : Option Ty) (t : ObjectType) → object_if o ≡ Some t → (u : Ty) × (o ≡ Some u) × (object_of u ≡ Some t)
object_there None t e = absurd (cc)
object_there (Some u) t e = (u, refl, e)

lt_of : (a b : ℕ) → nat_lt a b ≡ true → a < b
lt_of a b e = grind (arith, e)

pub of_lt : (a b : ℕ) → a < b → nat_lt a b ≡ true
of_lt a b e = grind (arith, e)

module _ (P : Plain) (formed : IsFormed P) where
  pub field_row_of : (f : ℕ) (t : ObjectType) → field_object P f ≡ Some t → (r : ℕ) × (row_number P (row.Field f) ≡ Some r)
  field_row_of f t e =
      let u = object_there (option_map (λ k. k.ty) (slice_get P.fields f)) t e in
      let h = mapped_some (λ (k : PlainField). k.ty) (slice_get P.fields f) u.0 u.1 in
      field_row P f h.0 t h.1 (ap (λ z. object_of z) h.2 ∙ u.2)

  -- the first method of a slot
  record First (s : ℕ) (slot : PlainSlot) : Type 0 where
    method : PlainMethod
    there : slice_get P.methods slot.first ≡ Some method
    of : method.slot ≡ Some s
    first : is_first P slot.first method ≡ true
    params : types_of method.params ≡ slot.params
    result : method.result ≡ slot.result

  pub in_slot : (m : ℕ) (k : PlainMethod) → slice_get P.methods m ≡ Some k → (s : ℕ) → k.slot ≡ Some s → IsInSlot P s k
  in_slot m k e s h = ((formed.methods m k e).slots s).0 h

  first_of_slot : (s : ℕ) (slot : PlainSlot) → slice_get P.slots s ≡ Some slot → First s slot
  first_of_slot s slot e =
      let f = formed.slots s slot e in
      let i = in_slot slot.first f.method f.stands s f.of in
      let same : i.slot ≡ slot = same_Some i.slot slot (sym i.stands ∙ e) in
      record {
        method = f.method;
        there = f.stands;
        of = f.of;
        first = ap (λ z. option_map_or (λ s. is_first_in slot.first (slice_get P.slots s)) z true) f.of ∙ ap (λ z. is_first_in slot.first z) e
            ∙ eq-eqb slot.first slot.first refl;
        params = i.params ∙ ap (λ z. z.params) same;
        result = i.result ∙ ap (λ z. z.result) same;
      }

  pub return_row : (s : ℕ) (slot : PlainSlot) (t : ObjectType) → slice_get P.slots s ≡ Some slot → object_if slot.result ≡ Some t
      → (r : ℕ) × (row_number P (row.Return s) ≡ Some r)
  return_row s slot t e o =
      let f = first_of_slot s slot e in
      let r = result_row P slot.first f.method f.there f.first t (ap (λ z. object_if z) f.result ∙ o) in
      (r.0, subst (λ z. row_number P (result_in z slot.first) ≡ Some r.0) f.of r.1)

  pub result_row_of : (m : ℕ) (k : PlainMethod) (t : ObjectType) → slice_get P.methods m ≡ Some k → object_if k.result ≡ Some t
      → (r : ℕ) × (row_number P (result_in k.slot m) ≡ Some r)
  result_row_of m k t e o = go k.slot refl
    where
      go : (z : Option ℕ) → k.slot ≡ z → (r : ℕ) × (row_number P (result_in k.slot m) ≡ Some r)
      go None h = result_row P m k e (ap (λ z. option_map_or (λ s. is_first_in m (slice_get P.slots s)) z true) h) t o
      go (Some s) h =
          let i = in_slot m k e s h in
          let r = return_row s i.slot t i.stands (ap (λ z. object_if z) (sym i.result) ∙ o) in
          (r.0, subst (λ z. row_number P (result_in z m) ≡ Some r.0) (sym h) r.1)

  pub variable_row_of : (m : ℕ) (k : PlainMethod) (i : ℕ) (t : ObjectType) → slice_get P.methods m ≡ Some k → variable_object k i ≡ Some t
      → (r : ℕ) × (row_number P (variable_row m k i) ≡ Some r)
  variable_row_of m k i t e o =
      let u = object_there (option_map (λ v. v.ty) (slice_get (k.params ++ k.locals) i)) t o in
      let v = mapped_some (λ (v : PlainLocal). v.ty) (slice_get (k.params ++ k.locals) i) u.0 u.1 in
      go v.0 v.1 (ap (λ z. object_of z) v.2 ∙ u.2) k.slot (nat_lt i (length k.params)) refl refl
    where
      own : (v : PlainLocal) → slice_get (k.params ++ k.locals) i ≡ Some v → object_of v.ty ≡ Some t
          → (is_first P m k || not (nat_lt i (length k.params))) ≡ true → (r : ℕ) × (row_number P (variable_row m k i) ≡ Some r)
      own v ev ov f = own_variable_row P m k e i v t ev ov f

      go : (v : PlainLocal) → slice_get (k.params ++ k.locals) i ≡ Some v → object_of v.ty ≡ Some t → (z : Option ℕ) (b : Bool) → k.slot ≡ z
          → nat_lt i (length k.params) ≡ b → (r : ℕ) × (row_number P (variable_row m k i) ≡ Some r)
      go v ev ov None b h l = own v ev ov (or_left (is_first P m k) (not (nat_lt i (length k.params)))
          (ap (λ z. option_map_or (λ s. is_first_in m (slice_get P.slots s)) z true) h))
      go v ev ov (Some s) false h l = own v ev ov (or_right (is_first P m k) (not (nat_lt i (length k.params))) (ap (λ z. not z) l))
      go v ev ov (Some s) true h l =
          let j = in_slot m k e s h in
          let f = first_of_slot s j.slot j.stands in
          let here : slice_get (types_of k.params) i ≡ Some v.ty = slice_get-map (λ v. v.ty) k.params i
          ∙ ap (λ z. option_map (λ v. v.ty) z) (sym (get_same k.params k.locals i (lt_of i (length k.params) l)) ∙ ev) in
          let there : slice_get (types_of f.method.params) i ≡ Some v.ty = ap (λ z. slice_get z i) (f.params ∙ sym j.params) ∙ here in
          let w = mapped_some (λ (v : PlainLocal). v.ty) (slice_get f.method.params i) v.ty (sym (slice_get-map (λ v. v.ty) f.method.params i) ∙ there) in
          let r = own_variable_row P j.slot.first f.method f.there i w.0 t (at_left f.method.params f.method.locals i w.0 w.1)
          (ap (λ z. object_of z) w.2 ∙ ov)
          (or_left (is_first P j.slot.first f.method) (not (nat_lt i (length f.method.params))) f.first) in
          let within = of_lt i (length f.method.params) (slice_get_within f.method.params i w.0 w.1) in (
            r.0,
            subst (λ z. row_number P (variable_in z (nat_lt i (length k.params)) m i) ≡ Some r.0) (sym h)
                (subst (λ z. row_number P (variable_in (Some s) z m i) ≡ Some r.0) (sym l)
                (subst (λ z. row_number P (variable_in (Some s) z j.slot.first i) ≡ Some r.0) within
                (subst (λ z. row_number P (variable_in z (nat_lt i (length f.method.params)) j.slot.first i) ≡ Some r.0) f.of r.1))),
          )

  -- points of a body
  pub variable_point_of : (m : ℕ) (k : PlainMethod) → slice_get P.methods m ≡ Some k → is_some k.body ≡ true → (i : ℕ) (t : ObjectType)
      → variable_object k i ≡ Some t → (q : ℕ) × (point_number P (point.Local m i) ≡ Some q)
  variable_point_of m k e b i t o =
      let u = object_there (option_map (λ v. v.ty) (slice_get (k.params ++ k.locals) i)) t o in
      let v = mapped_some (λ (v : PlainLocal). v.ty) (slice_get (k.params ++ k.locals) i) u.0 u.1 in
      let r = variable_row_of m k i t e o in
      variable_point P m k e b i v.0 v.1 r.0 r.1

  pub result_point_of : (m : ℕ) (k : PlainMethod) → slice_get P.methods m ≡ Some k → is_some k.body ≡ true → (t : ObjectType)
      → object_if k.result ≡ Some t → (q : ℕ) × (point_number P (point.Result m) ≡ Some q)
  result_point_of m k e b t o = let r = result_row_of m k t e o in result_point P m k e b r.0 r.1

  pub this_point_of : (m : ℕ) (k : PlainMethod) → slice_get P.methods m ≡ Some k → is_some k.body ≡ true → k.is_static ≡ false
      → (q : ℕ) × (point_number P (point.This m) ≡ Some q)
  this_point_of m k e b s = let r = this_row P m k e b s in this_point P m k e b s r.0 r.1

  pub static_point_of : (f : ℕ) (h : PlainField) (t : ObjectType) → slice_get P.fields f ≡ Some h → h.is_static ≡ true → field_object P f ≡ Some t
      → (q : ℕ) × (point_number P (point.Static f) ≡ Some q)
  static_point_of f h t e s o = let r = field_row_of f t o in static_point P f h e s r.0 r.1
