-- The rows of a program's facts: what each types, and the type that it has.
use Rattle.std.proofs.Common.{◌≡◌, ℕ, [], ◌++◌, Option, Some, None, length, refl, sym, ap, subst, arith, inl, inr, ⊎_elim}
use Rattle.std.specs.Prelude.{◌⊎◌, ◌<◌, ◌&&◌, ◌||◌, nat_lt, Bool, true, false, not, Contains, slice_get}
use Rattle.std.specs.Option.{is_some}
use Rattle.std.specs.List.{flat_map}
use Rattle.std.proofs.lemmas.Bool.{not-true, and_parts}
use Rattle.std.proofs.lemmas.List.Elements.{Contains-append_cases}
use Rattle.std.proofs.lemmas.Option.{slice_get_within}
use Rattle.kaba_base.specs.declared.Place.{Place}
use Rattle.java_core.specs.Programs.{Plain, PlainField, PlainMethod, PlainLocal}
use Rattle.fact_model.specs.Items.{row_at as info_at}
use Rattle.fact_model.specs.declared.facts.Facts.{Facts}
use Rattle.fact_model.specs.declared.facts.RowInfo.{RowInfo}
use Rattle.flow_rules.specs.declared.items.ObjectType.{ObjectType}
use Rattle.flow_rules.specs.declared.items.Operand.{Operand}
use Rattle.flow_rules.specs.declared.items.RowItem.{RowItem}
use Rattle.flow_rules.specs.declared.items.RowItem.TheVariants as row
use Rattle.flow_rules.specs.declared.items.Row.{Row}
use Rattle.flow_rules.specs.Ordered.{each}
use Rattle.flow_rules.specs.Operands.{object_of, object_if, class_object, variable_in, variable_row, result_in}
use Rattle.flow_rules.specs.Parts.{Part, a_creation, a_test, parts_of}
use Rattle.flow_rules.specs.Numbered.{row_if, own_row, form_rows, field_rows, this_rows, result_rows, variable_rows, method_rows, is_first, rows_of, row_number}
use Rattle.flow_rules.specs.Facts.{row_info, numbers, IsFactsOf}
use Rattle.flow_rules.proofs.Listed.{below_at, at_map, map_at, index_at, index_past, each_from, each_from_zero, flat_from, when_from, one_from, at_left}
use Rattle.flow_rules.proofs.NumberedItems.{numbered_rows}
use Rattle.flow_laws.proofs.cover.Numbers.{back}

-- what is alike of the rows of returns and of static results holds of the row of a result
pub all_results : {A : Type 0} (f : RowItem → A) (v : A) → ((s : ℕ) → f (row.Return s) ≡ v) → ((m : ℕ) → f (row.Result m) ≡ v)
    → (s : Option ℕ) (m : ℕ) → f (result_in s m) ≡ v
all_results f v h g None m = g m
all_results f v h g (Some s) m = h s

-- and what is alike of those of parameters and of locals, of the row of a variable
pub all_variables : {A : Type 0} (f : RowItem → A) (v : A) → ((s i : ℕ) → f (row.Param s i) ≡ v) → ((m i : ℕ) → f (row.Local m i) ≡ v)
    → (s : Option ℕ) (b : Bool) (m i : ℕ) → f (variable_in s b m i) ≡ v
all_variables f v h g None b m i = g m i
all_variables f v h g (Some s) true m i = h s i
all_variables f v h g (Some s) false m i = g m i

-- the item and the type of a row, where it has one
row_in : (i : RowItem) (p : Place) (t : Option ObjectType) (x : Row) → Contains (row_if i p t) x → (x.item ≡ i) × (t ≡ Some x.ty)
row_in i p None x c = absurd (omega (arith, c.1))
row_in i p (Some t) x c = let e = one_from _ x c in (sym (ap (λ z. z.item) e), ap (λ z. Some z.ty) e)

own_in : (p : Place) (i : Option RowItem) (t : Option ObjectType) (x : Row) → Contains (own_row p i t) x → (i ≡ Some x.item) × (t ≡ Some x.ty)
own_in p None t x c = absurd (omega (arith, c.1))
own_in p (Some i) t x c = let z = row_in i p t x c in (ap Some (sym z.0), z.1)

-- what a creation, a cast or an `instanceof` gives
abbrev pub own_of : Part → Option Operand
own_of (a_creation p u o s d es) = Some o
own_of (a_test p e o) = Some o
own_of _ = None

-- the row that a part is
pub record IsOwn (x : Row) (p : Part) : Type 0 where
  pub operand : Operand
  pub own : own_of p ≡ Some operand
  pub row_is : operand.row ≡ Some x.item
  pub type : operand.ty ≡ Some x.ty

form_own : (p : Part) (x : Row) → Contains (form_rows p) x → IsOwn x p
form_own (a_creation p u o s d es) x c = let z = own_in p o.row o.ty x c in record { operand = o; own = refl; row_is = z.0; type = z.1 }
form_own (a_test p e o) x c = let z = own_in p o.row o.ty x c in record { operand = o; own = refl; row_is = z.0; type = z.1 }
form_own _ x c = absurd (omega (arith, c.1))

module _ (P : Plain) where
  -- what a row types, and its type
  pub data Types (x : Row) : Type 0 where
    for_field : (f : ℕ) (k : PlainField) → slice_get P.fields f ≡ Some k → x.item ≡ row.Field f → object_of k.ty ≡ Some x.ty → Types x
    for_this : (m : ℕ) (k : PlainMethod) → slice_get P.methods m ≡ Some k → is_some k.body ≡ true → k.is_static ≡ false → x.item ≡ row.This m
        → class_object k.owner ≡ Some x.ty → Types x
    for_result : (m : ℕ) (k : PlainMethod) → slice_get P.methods m ≡ Some k → x.item ≡ result_in k.slot m → object_if k.result ≡ Some x.ty → Types x
    for_variable : (m : ℕ) (k : PlainMethod) (i : ℕ) (v : PlainLocal) → slice_get P.methods m ≡ Some k → slice_get (k.params ++ k.locals) i ≡ Some v
        → x.item ≡ variable_row m k i → object_of v.ty ≡ Some x.ty → Types x
    for_part : (m : ℕ) (k : PlainMethod) (p : Part) → slice_get P.methods m ≡ Some k → Contains (parts_of P m k) p → IsOwn x p → Types x

  field_types : (f : ℕ) (k : PlainField) (x : Row) → slice_get P.fields f ≡ Some k → Contains (field_rows f k) x → Types x
  field_types f k x e c = let z = row_in (row.Field f) k.tag.place (object_of k.ty) x c in for_field f k e z.0 z.1

  module _ (m : ℕ) (k : PlainMethod) (x : Row) (e : slice_get P.methods m ≡ Some k) where
    this_types : Contains (this_rows m k) x → Types x
    this_types c =
        let w = when_from (is_some k.body && not k.is_static) _ x c in
        let z = row_in (row.This m) k.tag.place (class_object k.owner) x w.1 in
        for_this m k e (and_parts (is_some k.body) (not k.is_static) w.0).0 (not-true k.is_static (and_parts (is_some k.body) (not k.is_static) w.0).1) z.0 z.1

    result_types : Contains (result_rows P m k) x → Types x
    result_types c =
        let w = when_from (is_first P m k) _ x c in
        let z = row_in (result_in k.slot m) k.tag.place (object_if k.result) x w.1 in
        for_result m k e z.0 z.1

    variable_types : (i : ℕ) (v : PlainLocal) → slice_get (k.params ++ k.locals) i ≡ Some v → Contains (variable_rows P m k i v) x → Types x
    variable_types i v d c =
        let w = when_from (is_first P m k || not (nat_lt i (length k.params))) _ x c in
        let z = row_in (variable_row m k i) v.tag.place (object_of v.ty) x w.1 in
        for_variable m k i v e d z.0 z.1

    param_types : Contains (each (variable_rows P m k) 0 k.params) x → Types x
    param_types c = let z = each_from_zero (variable_rows P m k) k.params x c in variable_types z.0 z.1 (at_left k.params k.locals z.0 z.1 z.2) z.3

    local_types : Contains (each (variable_rows P m k) (length k.params) k.locals) x → Types x
    local_types c =
        let z = each_from (variable_rows P m k) (length k.params) k.locals x c in
        variable_types z.1 z.2 (subst (λ j. slice_get (k.params ++ k.locals) j ≡ Some z.2) (sym z.4) (back k.params k.locals z.0 z.2 z.3)) z.5

    part_types : Contains (flat_map form_rows (parts_of P m k)) x → Types x
    part_types c = let z = flat_from form_rows (parts_of P m k) x c in for_part m k z.0 e z.1 (form_own z.0 x z.2)

    method_types : Contains (method_rows P m k) x → Types x
    method_types c =
        let one = this_rows m k in
        let two = result_rows P m k in
        let three = each (variable_rows P m k) 0 k.params in
        let four = each (variable_rows P m k) (length k.params) k.locals in
        ⊎_elim (λ d. ⊎_elim (λ d. ⊎_elim (λ d. ⊎_elim this_types result_types (Contains-append_cases one two x d)) param_types
        (Contains-append_cases (one ++ two) three x d)) local_types (Contains-append_cases ((one ++ two) ++ three) four x d)) part_types
        (Contains-append_cases (((one ++ two) ++ three) ++ four) (flat_map form_rows (parts_of P m k)) x c)

  pub row_types : (r : ℕ) (x : Row) → slice_get (rows_of P) r ≡ Some x → Types x
  row_types r x e =
      ⊎_elim (λ d. let z = each_from_zero field_rows P.fields x d in field_types z.0 z.1 x z.2 z.3)
      (λ d. let z = each_from_zero (method_rows P) P.methods x d in method_types z.0 z.1 x z.2 z.3)
      (Contains-append_cases (each field_rows 0 P.fields) (each (method_rows P) 0 P.methods) x ((numbered_rows P).from r x e))

  module _ (F : Facts) (facts : IsFactsOf P F) where
    pub record HasRow (r : ℕ) : Type 0 where
      pub row_is : Row
      pub stands : slice_get (rows_of P) r ≡ Some row_is
      pub info : info_at F r ≡ row_info (numbers P) P row_is

    info_is : (r : ℕ) (x : Row) → slice_get (rows_of P) r ≡ Some x → slice_get F.rows.items r ≡ Some (row_info (numbers P) P x)
    info_is r x e = subst (λ z. slice_get z r ≡ Some (row_info (numbers P) P x)) (sym facts.rows) (at_map (row_info (numbers P) P) (rows_of P) r x e)

    pub row_of : (r : ℕ) → r < length F.rows.items → HasRow r
    row_of r h =
        let z = below_at F.rows.items r h in
        let w = map_at (row_info (numbers P) P) (rows_of P) r z.0 (subst (λ y. slice_get y r ≡ Some z.0) facts.rows z.1) in
        record { row_is = w.0; stands = w.1; info = index_at F.rows.items r _ _ (info_is r w.0 w.1) }

    -- the row of an item
    pub item_row : (i : RowItem) (r : ℕ) → row_number P i ≡ Some r → (x : Row) × (slice_get (rows_of P) r ≡ Some x) × (x.item ≡ i)
        × (info_at F r ≡ row_info (numbers P) P x) × (r < length F.rows.items)
    item_row i r e =
        let z = (numbered_rows P).at i r e in
        (z.0, z.1, z.2, index_at F.rows.items r _ _ (info_is r z.0 z.1), slice_get_within F.rows.items r _ (info_is r z.0 z.1))

    -- a row with a site or a `this` stands in the list
    pub row_cases : (r : ℕ) → HasRow r ⊎ (info_at F r ≡ record { label = []; class = record { 0 = 0 }; dim = 0; site = None; this_of = None })
    row_cases r = go (slice_get F.rows.items r) refl
      where
        go : (o : Option RowInfo) → slice_get F.rows.items r ≡ o
            → HasRow r ⊎ (info_at F r ≡ record { label = []; class = record { 0 = 0 }; dim = 0; site = None; this_of = None })
        go None h = inr (index_past F.rows.items r _ h)
        go (Some k) h = inl (row_of r (slice_get_within F.rows.items r k h))
