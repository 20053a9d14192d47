-- The row that types an expression has the class of the expression's static type.
use Rattle.std.proofs.Common.{◌≡◌, ℕ, zero, suc, List, [], ◌∷◌, ◌++◌, Option, Some, None, length, refl, sym, ap, ◌∙◌, arith}
use Rattle.std.specs.Prelude.{◌<◌, nat_lt, Bool, true, false, Contains, slice_get, option_and_then}
use Rattle.std.specs.Option.{option_map}
use Rattle.std.proofs.lemmas.Option.{same_Some}
use Rattle.std.proofs.lemmas.Bool.{false≢true}
use Rattle.java_core.specs.Programs.{Plain, PlainMethod, PlainLocal}
use Rattle.java_core.specs.Classes.{slot_of_method}
use Rattle.java_core.specs.Typing.{IsTyped}
use Rattle.java_core.specs.Formed.{IsFormed}
use Rattle.java_core.specs.Types.{types_of}
use Rattle.flow_rules.specs.declared.items.ObjectType.{ObjectType}
use Rattle.flow_rules.specs.declared.items.RowItem.{RowItem}
use Rattle.flow_rules.specs.declared.items.RowItem.TheVariants as row
use Rattle.flow_rules.specs.declared.items.Row.{Row}
use Rattle.flow_rules.specs.Operands.{object_if, variable_in, variable_row, result_in}
use Rattle.flow_rules.specs.Types.{field_object, slot_object, method_object, variable_object}
use Rattle.flow_rules.specs.Parts.{Part, parts_of}
use Rattle.flow_rules.specs.Numbered.{rows_of}
use Rattle.flow_laws.proofs.cover.Numbers.{number_in}
use Rattle.flow_laws.proofs.order.Rows.{IsOwn, Types, for_field, for_this, for_result, for_variable, for_part, row_types, all_results, all_variables}
use Rattle.flow_laws.proofs.order.Sites.{numbered_own, part_numbered}

abbrev field_number : RowItem → Option ℕ
field_number (row.Field f) = Some f
field_number _ = None

-- the slot of a return, and the method of a static result
abbrev return_number : RowItem → Option ℕ
return_number (row.Return s) = Some s
return_number _ = None

abbrev result_number : RowItem → Option ℕ
result_number (row.Result m) = Some m
result_number _ = None

result_return : (o : Option ℕ) (m s : ℕ) → return_number (result_in o m) ≡ Some s → o ≡ Some s
result_return None m s e = absurd (cc)
result_return (Some r) m s e = e

result_result : (o : Option ℕ) (m s : ℕ) → result_number (result_in o m) ≡ Some s → m ≡ s
result_result None m s e = same_Some m s e
result_result (Some r) m s e = absurd (cc)

abbrev is_variable : RowItem → Bool
is_variable (row.Param s i) = true
is_variable (row.Local m i) = true
is_variable _ = false

-- the type of a parameter of a slot
abbrev pub param_object : Plain → ℕ → ℕ → Option ObjectType
param_object P s i = object_if (option_and_then (λ z. slice_get z.params i) (slice_get P.slots s))

pub front_type : (xs ys : List PlainLocal) (i : ℕ) → i < length xs → object_if (option_map (λ v. v.ty) (slice_get (xs ++ ys) i))
    ≡ object_if (slice_get (types_of xs) i)
front_type [] ys i h = absurd (omega (arith, h))
front_type (x ∷ xs) ys zero h = refl
front_type (x ∷ xs) ys (suc i) h = front_type xs ys i (omega (arith, h))

module _ (P : Plain) (formed : IsFormed P) (typed : IsTyped P) where
  numberless : {R : Type 0} (x : Row) (i : RowItem) (m : ℕ) (k : PlainMethod) (p : Part) (e : slice_get P.methods m ≡ Some k)
      (c : Contains (parts_of P m k) p) → IsOwn x p → x.item ≡ i → number_in (Some i) ≡ [] → R
  numberless x i m k p e c o h n =
      let z = numbered_own p o.operand (part_numbered P formed typed p (record { number = m; method = k; stands = e; part = c })) o.own in
      absurd (let g : [] ≡ z.0 ∷ [] = sym (ap number_in (o.row_is ∙ ap Some h) ∙ n) ∙ z.1 in cc)

  -- the row of a field has its type
  pub field_type : (f r : ℕ) (x : Row) → slice_get (rows_of P) r ≡ Some x → x.item ≡ row.Field f → field_object P f ≡ Some x.ty
  field_type f r x e h = go (row_types P r x e)
    where
      go : Types P x → field_object P f ≡ Some x.ty
      go (for_field g k d i u) =
          let s : g ≡ f = cc in
          ap (field_object P) (sym s) ∙ ap (λ o. object_if (option_map (λ k. k.ty) o)) (d) ∙ u
      go (for_this m k d b s i u) = absurd (cc)
      go (for_result m k d i u) = absurd (let g = sym (all_results field_number None (λ s. refl) (λ m. refl) k.slot m) ∙ sym (ap field_number i)
          ∙ ap field_number h in cc)
      go (for_variable m k j v d b i u) =
          absurd (let g = sym (all_variables field_number None (λ s i. refl) (λ m i. refl) k.slot (nat_lt j (length k.params)) m j)
          ∙ sym (ap field_number i)
          ∙ ap field_number h in cc)
      go (for_part m k p d c o) = numberless x (row.Field f) m k p d c o h refl

  -- a row with a number that only rows of results have is the row of a result
  from_result : {R : Type 0} (f : RowItem → Option ℕ) → ((g : ℕ) → f (row.Field g) ≡ None) → ((m : ℕ) → f (row.This m) ≡ None)
      → ((s i : ℕ) → f (row.Param s i) ≡ None) → ((m i : ℕ) → f (row.Local m i) ≡ None)
      → (x : Row) (i : RowItem) (n : ℕ) → x.item ≡ i → f i ≡ Some n → number_in (Some i) ≡ []
      → ((m : ℕ) (k : PlainMethod) → slice_get P.methods m ≡ Some k → f (result_in k.slot m) ≡ Some n → object_if k.result ≡ Some x.ty → R)
      → Types P x → R
  from_result f field self param local x i n h e none from (for_result m k d j u) = from m k d (sym (ap f j) ∙ ap f h ∙ e) u
  from_result f field self param local x i n h e none from (for_field g k d j u) = absurd (let z = sym (field g) ∙ sym (ap f j) ∙ ap f h ∙ e in cc)
  from_result f field self param local x i n h e none from (for_this m k d b s j u) = absurd (let z = sym (self m) ∙ sym (ap f j) ∙ ap f h ∙ e in cc)
  from_result f field self param local x i n h e none from (for_variable m k j v d b q u) =
      absurd (let z = sym (all_variables f None param local k.slot (nat_lt j (length k.params)) m j) ∙ sym (ap f q) ∙ ap f h ∙ e in cc)
  from_result f field self param local x i n h e none from (for_part m k p d c o) = numberless x i m k p d c o h none

  -- the row of a slot's return has the slot's result
  pub return_type : (s r : ℕ) (x : Row) → slice_get (rows_of P) r ≡ Some x → x.item ≡ row.Return s → slot_object P s ≡ Some x.ty
  return_type s r x e h =
      from_result return_number (λ g. refl) (λ m. refl) (λ s i. refl) (λ m i. refl) x (row.Return s) s h refl refl (λ m k d n u.
      let y = ((formed.methods m k d).slots s).0 (result_return k.slot m s n) in
      ap (λ o. object_if (option_and_then (λ k. k.result) o)) y.stands ∙ ap object_if (sym y.result) ∙ u) (row_types P r x e)

  -- the row of a static method's result has its type
  pub result_type : (m r : ℕ) (x : Row) → slice_get (rows_of P) r ≡ Some x → x.item ≡ row.Result m → method_object P m ≡ Some x.ty
  result_type m r x e h =
      from_result result_number (λ g. refl) (λ m. refl) (λ s i. refl) (λ m i. refl) x (row.Result m) m h refl refl (λ n k d i u.
      ap (method_object P) (sym (result_result k.slot n m i)) ∙ ap (λ o. object_if (option_and_then (λ k. k.result) o)) d ∙ u) (row_types P r x e)

  -- a super call's result is that of its slot
  pub super_type : (d s : ℕ) → slot_of_method P d ≡ Some s → method_object P d ≡ slot_object P s
  super_type d s e = go (slice_get P.methods d) refl
    where
      go : (o : Option PlainMethod) → slice_get P.methods d ≡ o → method_object P d ≡ slot_object P s
      go None h = absurd (let g = sym (ap (option_and_then (λ k. k.slot)) h) ∙ e in cc)
      go (Some k) h =
          let y = ((formed.methods d k h).slots s).0 (sym (ap (option_and_then (λ k. k.slot)) h) ∙ e) in
          ap (λ o. object_if (option_and_then (λ k. k.result) o)) h ∙ ap object_if y.result
          ∙ sym (ap (λ o. object_if (option_and_then (λ k. k.result) o)) y.stands)

  -- the row of a parameter or local has its type
  same_variable : (k l : PlainMethod) (i j : ℕ) → k ≡ l → i ≡ j → variable_object k i ≡ variable_object l j
  same_variable k l i j e d = ap (λ z. variable_object z i) e ∙ ap (variable_object l) d

  -- of a parameter of the slot
  pub slot_param : (m i s : ℕ) (k : PlainMethod) → slice_get P.methods m ≡ Some k → k.slot ≡ Some s → i < length k.params
      → variable_object k i ≡ param_object P s i
  slot_param m i s k e a h =
      let u = ((formed.methods m k e).slots s).0 a in
      front_type k.params k.locals i h ∙ ap (λ z. object_if (slice_get z i)) u.params
      ∙ sym (ap (λ o. object_if (option_and_then (λ z. slice_get z.params i) o)) u.stands)

  local_case : (m n i j : ℕ) (k l : PlainMethod) → slice_get P.methods m ≡ Some k → slice_get P.methods n ≡ Some l → row.Local m i ≡ row.Local n j
      → variable_object k i ≡ variable_object l j
  local_case m n i j k l e d h =
      let s : m ≡ n = cc in
      same_variable k l i j (same_Some k l (sym e ∙ ap (slice_get P.methods) s ∙ d)) (cc)

  variable_cases : (m n i j : ℕ) (k l : PlainMethod) (a b : Option ℕ) (u v : Bool) → slice_get P.methods m ≡ Some k → slice_get P.methods n ≡ Some l
      → k.slot ≡ a → l.slot ≡ b → nat_lt i (length k.params) ≡ u → nat_lt j (length l.params) ≡ v
      → variable_in a u m i ≡ variable_in b v n j → variable_object k i ≡ variable_object l j
  variable_cases m n i j k l (Some c) (Some f) true true e d a b p q h =
      let s : c ≡ f = cc in
      let y : i ≡ j = cc in
      slot_param m i c k e a (grind (arith, p)) ∙ ap (λ z. param_object P z i) s ∙ ap (param_object P f) y
      ∙ sym (slot_param n j f l d b (grind (arith, q)))
  variable_cases m n i j k l None None u v e d a b p q h = local_case m n i j k l e d h
  variable_cases m n i j k l (Some c) None false v e d a b p q h = local_case m n i j k l e d h
  variable_cases m n i j k l None (Some c) u false e d a b p q h = local_case m n i j k l e d h
  variable_cases m n i j k l (Some c) (Some f) false false e d a b p q h = local_case m n i j k l e d h
  variable_cases m n i j k l _ _ _ _ e d a b p q h = absurd (cc)

  pub variable_type : (m i : ℕ) (k : PlainMethod) (r : ℕ) (x : Row) → slice_get P.methods m ≡ Some k → slice_get (rows_of P) r ≡ Some x
      → x.item ≡ variable_row m k i → variable_object k i ≡ Some x.ty
  variable_type m i k r x b e h = go (row_types P r x e)
    where
      go : Types P x → variable_object k i ≡ Some x.ty
      go (for_variable n l j v d w y u) =
          sym (variable_cases n m j i l k l.slot k.slot _ _ d b refl refl refl refl (sym y ∙ h)) ∙ ap (λ o. object_if (option_map (λ v. v.ty) o)) w ∙ u
      go (for_result n l d y u) = absurd (let g = sym (all_results is_variable false (λ s. refl) (λ m. refl) l.slot n) ∙ ap is_variable (sym y ∙ h)
          ∙ all_variables is_variable true (λ s i. refl) (λ m i. refl) k.slot (nat_lt i (length k.params)) m i in false≢true g)
      go (for_field g l d y u) = absurd (let g = ap is_variable (sym y ∙ h) ∙ all_variables is_variable true (λ s i. refl) (λ m i. refl) k.slot
          (nat_lt i (length k.params)) m i in false≢true g)
      go (for_this n l d c s y u) =
          absurd (let g = ap is_variable (sym y ∙ h) ∙ all_variables is_variable true (λ s i. refl) (λ m i. refl) k.slot (nat_lt i (length k.params))
          m i in false≢true g)
      go (for_part n l p d c o) = numberless x (variable_row m k i) n l p d c o h (all_variables (λ i. number_in (Some i)) [] (λ s i. refl)
          (λ m i. refl) k.slot (nat_lt i (length k.params)) m i)

  -- the row of a parameter of a slot has its type
  variable_param : (o : Option ℕ) (b : Bool) (m i s j : ℕ) → variable_in o b m i ≡ row.Param s j → (o ≡ Some s) × (b ≡ true) × (i ≡ j)
  variable_param (Some r) true m i s j e = (cc, refl, cc)
  variable_param o b m i s j e = absurd (cc)

  pub param_type : (s i r : ℕ) (x : Row) → slice_get (rows_of P) r ≡ Some x → x.item ≡ row.Param s i → param_object P s i ≡ Some x.ty
  param_type s i r x e h = go (row_types P r x e)
    where
      go : Types P x → param_object P s i ≡ Some x.ty
      go (for_variable n l j v d w y u) =
          let z = variable_param l.slot (nat_lt j (length l.params)) n j s i (sym y ∙ h) in
          ap (param_object P s) (sym z.2) ∙ sym (slot_param n j s l d z.0 (grind (arith, z.1))) ∙ ap (λ o. object_if (option_map (λ v. v.ty) o)) w ∙ u
      go (for_result n l d y u) = absurd (false≢true (sym (all_results is_variable false (λ s. refl) (λ m. refl) l.slot n) ∙ ap is_variable (sym y ∙ h)))
      go (for_field g l d y u) = absurd (false≢true (ap is_variable (sym y ∙ h)))
      go (for_this n l d c s y u) = absurd (false≢true (ap is_variable (sym y ∙ h)))
      go (for_part n l p d c o) = numberless x (row.Param s i) n l p d c o h refl
