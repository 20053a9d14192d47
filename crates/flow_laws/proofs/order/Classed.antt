-- The row that types an expression of a body has the class of its static type; only an index has a row of more brackets.
use Rattle.std.proofs.Common.{◌≡◌, ℕ, ◌-◌, Option, Some, None, refl, sym, ap, ◌∙◌, subst, arith, []}
use Rattle.std.specs.Prelude.{◌<◌, ◌≤◌, Bool, true, Contains, slice_get, option_and_then, ◌||◌}
use Rattle.std.specs.Option.{option_map, is_some}
use Rattle.std.proofs.lemmas.Option.{same_Some}
use Rattle.java_core.specs.Trees.{Ex, this, local, static_field, own_field, field, index, call, static_call, super_call, create, create_array, cast}
use Rattle.java_core.specs.Programs.{Plain, PlainMethod}
use Rattle.java_core.specs.Classes.{super_method, slot_of_method}
use Rattle.java_core.specs.Types.{element_of, static}
use Rattle.java_core.specs.Typing.{IsTyped, t_index}
use Rattle.java_core.specs.Formed.{IsFormed}
use Rattle.fact_model.specs.declared.facts.Facts.{Facts}
use Rattle.flow_rules.specs.declared.items.ObjectType.{ObjectType}
use Rattle.flow_rules.specs.declared.items.Operand.{Operand}
use Rattle.flow_rules.specs.declared.items.RowItem.{RowItem}
use Rattle.flow_rules.specs.declared.items.RowItem.TheVariants as row
use Rattle.flow_rules.specs.declared.items.Row.{Row}
use Rattle.flow_rules.specs.Operands.{object_static, object_field, call_slot, variable_row, row_of, type_in}
use Rattle.flow_rules.specs.Types.{field_object, slot_object, method_object, variable_object, element_object, object_type}
use Rattle.flow_rules.specs.Parts.{Part, a_creation, a_test, parts_of}
use Rattle.flow_rules.specs.Numbered.{rows_of}
use Rattle.flow_rules.specs.Facts.{IsFactsOf}
use Rattle.flow_rules.proofs.TypeLemmas.{types_are}
use Rattle.flow_laws.proofs.cover.Each.{left, here}
use Rattle.flow_laws.proofs.cover.Walked.{walked}
use Rattle.flow_laws.proofs.order.Rows.{own_of, row_types}
use Rattle.flow_laws.proofs.order.Sites.{own_typed}
use Rattle.flow_laws.proofs.order.Fits.{with_elements, element_some}
use Rattle.flow_laws.proofs.order.Bodies.{this_type}
use Rattle.flow_laws.proofs.order.Operands.{field_type, return_type, result_type, super_type, variable_type}
use Rattle.java_core.specs.Makers.{maker_of, maker_slot}

module _ (P : Plain) (formed : IsFormed P) (typed : IsTyped P) (F : Facts) (facts : IsFactsOf P F) (m : ℕ)
    (k : PlainMethod) (stands : slice_get P.methods m ≡ Some k) where
  open walked P m k use {env as g, type, operand as at, operands, tree, Stands, IsTyped as Typed}

  -- a type, whose class is that of the row's type, which has as many brackets or more
  pub record Classed (x : Row) (t : Option ObjectType) : Type 0 where
    pub type : ObjectType
    pub stated : t ≡ Some type
    pub class : x.ty.class ≡ type.class
    pub dim : type.dim ≤ x.ty.dim

  of_type : (x : Row) (t : Option ObjectType) → t ≡ Some x.ty → Classed x t
  of_type x t e = record { type = x.ty; stated = e; class = refl; dim = omega arith }

  -- the row of an item has the class of a type
  unfoldable pub Typing : Option RowItem → Option ObjectType → Type 0
  Typing i t = (j : RowItem) (r : ℕ) (x : Row) → i ≡ Some j → slice_get (rows_of P) r ≡ Some x → x.item ≡ j → Classed x t

  pub none_item : (t : Option ObjectType) → Typing None t
  unfolding Typing
  none_item t j r x a c d = absurd (cc)

  field_typing : (o : Option ℕ) → Typing (option_map row.Field o) (option_and_then (field_object P) o)
  unfolding Typing
  field_typing None j r x a c d = absurd (cc)
  field_typing (Some f) j r x a c d = of_type x (field_object P f) (field_type P formed typed f r x c (d ∙ sym (same_Some _ j a)))

  call_typing : (o : Option ℕ) → Typing (option_map row.Return o) (option_and_then (slot_object P) o)
  unfolding Typing
  call_typing None j r x a c d = absurd (cc)
  call_typing (Some s) j r x a c d = of_type x (slot_object P s) (return_type P formed typed s r x c (d ∙ sym (same_Some _ j a)))

  super_typing : (o : Option ℕ) → Typing (option_map row.Return (option_and_then (slot_of_method P) o)) (option_and_then (method_object P) o)
  unfolding Typing
  super_typing None j r x a c d = absurd (cc)
  super_typing (Some n) j r x a c d = go (slot_of_method P n) refl a
    where
      go : (o : Option ℕ) → slot_of_method P n ≡ o → option_map row.Return o ≡ Some j → Classed x (method_object P n)
      go None e g = absurd (cc)
      go (Some s) e g = of_type x (method_object P n) (super_type P formed typed n s e ∙ return_type P formed typed s r x c (d
          ∙ sym (same_Some _ j g)))

  element_typing : (i : Option RowItem) (t : Option ObjectType) → ((u : ObjectType) → t ≡ Some u → 0 < u.dim) → Typing i t → Typing i (element_object t)
  unfolding Typing
  element_typing i t many h j r x a c d =
      let w = h j r x a c d in
      let n = many w.type w.stated in
      record {
        type = record { class = w.type.class; dim = w.type.dim - 1 };
        stated = ap element_object w.stated ∙ element_some w.type n;
        class = w.class;
        dim = omega (arith, w.dim);
      }

  pub own_typing : (p : Part) (o : Operand) → Contains (parts_of P m k) p → own_of p ≡ Some o → Typing o.row o.ty
  unfolding Typing
  own_typing p o c e j r x a g d =
      of_type x o.ty (own_typed P formed typed p o j r x (record { number = m; method = k; stands = stands; part = c }) e a g d)

  as_type : (i : Option RowItem) (e : Ex) → Typing i (type e) → Typing i (object_type P k e)
  as_type i e h = subst (λ f. Typing i (f e)) (sym (types_are P m k)) h

  pub as_object : (e : Ex) → object_type P k e ≡ type e
  as_object e = ap (λ f. f e) (types_are P m k)

  this_typing : Typing (Some (row.This m)) (Some (record { class = record { 0 = k.owner }; dim = 0 }))
  unfolding Typing
  this_typing j r x a c d = of_type x (Some (record { class = record { 0 = k.owner }; dim = 0 }))
      (ap Some (sym (this_type P formed typed F facts m k x stands (row_types P r x c) (d ∙ sym (same_Some _ j a)))))

  local_typing : (i : ℕ) → Typing (Some (variable_row m k i)) (variable_object k i)
  unfolding Typing
  local_typing i j r x a c d = of_type x (variable_object k i) (variable_type P formed typed m i k r x stands c (d ∙ sym (same_Some _ j a)))

  static_typing : (d : ℕ) → Typing (Some (row.Result d)) (method_object P d)
  unfolding Typing
  static_typing d j r x a c g = of_type x (method_object P d) (result_type P formed typed d r x c (g ∙ sym (same_Some _ j a)))

  -- the static type of an expression, as facts see it
  pub static_as : (e : Ex) → object_static (static P g e) ≡ type e
  unfolding type_in
  static_as e = refl

  -- an array has brackets
  pub many_dims : (e : Ex) → is_some (element_of (static P g e)) ≡ true → (u : ObjectType) → type e ≡ Some u → 0 < u.dim
  many_dims e h u d = with_elements (static P g e) u h (static_as e ∙ d)

  -- the row of an expression whose parts stand in the body
  typing : (u : Bool) (e : Ex) → Typed e → Stands (tree u e)
      → Typing (row_of P type m k e) (object_type P k e)
  typing u (this t) a w = this_typing
  typing u (local t i) a w = local_typing i
  typing u (static_field t f) a w = field_typing (Some f)
  typing u (own_field t f) a w = field_typing (Some f)
  typing u (field t e x) a w = subst (λ o. Typing (option_map row.Field (object_field P o x)) (object_type P k (field t e x)))
      (as_object e) (field_typing (object_field P (object_type P k e) x))
  typing u (index t e i) (t_index a b c d) w =
      element_typing _ _ (λ u h. many_dims e b u (sym (as_object e) ∙ h))
      (typing true e a (left (tree true e) _ w))
  typing u (call t e x es) a w = subst (λ o. Typing (option_map row.Return (call_slot P o x)) (object_type P k (call t e x es)))
      (as_object e) (call_typing (call_slot P (object_type P k e) x))
  typing u (static_call t d es) a w = static_typing d
  typing u (super_call t x es) a w = super_typing (super_method P k.owner x)
  typing u (create t i c es) a w =
      as_type _ (create t i c es) (own_typing (a_creation t.place (u || is_some (maker_of P c)) (at (create t i c es)) (maker_slot P c) (maker_of P c)
      (operands es)) _
      (here _ _ w) refl)
  typing u (create_array t i v e) a w =
      as_type _ (create_array t i v e) (own_typing (a_creation t.place u (at (create_array t i v e)) None None []) _
      (here _ _ w) refl)
  typing u (cast t i v e) a w =
      as_type _ (cast t i v e)
      (own_typing (a_test t.place (at e) (at (cast t i v e))) _
      (here _ _ w) refl)
  typing u e a w = none_item _

  -- the row of an operand has the class of its type
  pub operand_typing : (u : Bool) (e : Ex) → Typed e → Stands (tree u e) → Typing (row_of P type m k e) (type e)
  operand_typing u e a w = subst (λ t. Typing (row_of P type m k e) t) (as_object e) (typing u e a w)
