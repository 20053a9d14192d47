-- The types that are written mean the types of the rows' nodes, since each item of a class type has a row, and each row stands at a live node.
use Rattle.std.proofs.Common.{◌≡◌, ℕ, true, List, Option, Some, None, refl, sym, ap, ◌∙◌, subst}
use Rattle.std.specs.Prelude.{slice_get, if◌then◌else◌}
use Rattle.std.specs.Option.{option_map}
use Rattle.std.proofs.lemmas.Option.{slice_get_within}
use Rattle.kaba_base.specs.declared.ClassId.{ClassId}
use Rattle.kaba_order.specs.Orders.{is_live}
use Rattle.java_core.specs.declared.Ty.{Ty}
use Rattle.java_core.specs.declared.TyBase.{TyBase}
use Rattle.java_core.specs.declared.TyBase.TheVariants.{Int, Boolean, Char, Str, Class}
use Rattle.java_core.specs.Programs.{Plain, PlainField, PlainLocal, PlainMethod}
use Rattle.java_core.specs.Formed.{IsFormed, variables_of}
use Rattle.name_rules.specs.Outline.{types_in, type_named, class_at, base_meant, type_meant}
use Rattle.name_rules.specs.Resolves.{Resolves}
use Rattle.flow_laws.proofs.cover.HasRows.{field_row_of, result_row_of, variable_row_of}
use Rattle.fact_model.specs.declared.facts.Facts.{Facts}
use Rattle.fact_model.specs.declared.sets.PointsTo.{PointsTo}
use Rattle.hier_model.specs.Hierarchies.{Hierarchy, IsHierarchyOf, place_of_row, type_name}
use Rattle.hier_rules.specs.First.{first_broken}
use Rattle.flow_rules.specs.declared.items.ObjectType.{ObjectType}
use Rattle.flow_rules.specs.declared.items.RowItem.{RowItem}
use Rattle.flow_rules.specs.declared.items.RowItem.TheVariants as row
use Rattle.flow_rules.specs.Operands.{object_in, object_of, object_if, variable_row, result_in}
use Rattle.flow_rules.specs.Numbered.{row_number, rows_of}
use Rattle.flow_rules.specs.Types.{variable_object}
use Rattle.flow_rules.specs.Facts.{numbers, row_info, IsFactsOf}
use Rattle.flow_rules.proofs.NumberedItems.{numbered_rows}
use Rattle.flow_rules.proofs.Listed.{at_map}
use Rattle.rebuild_model.specs.Renaming.{Places, Renaming, renaming_of, reclassed, retyped}
use Rattle.write_model.specs.Names.{written_base, written_type}
use Rattle.write_model.specs.Written.{java_tree}
use Rattle.write_laws.proofs.rebuilds.Apart.{no_text}
use Rattle.write_laws.proofs.rebuilds.Nodes.{places, node_named, by_node}

-- ---- what has a class type has a row

-- an item has a row
abbrev pub HasRow : Plain → RowItem → Type 0
HasRow P i = (r : ℕ) × (row_number P i ≡ Some r)

module _ (P : Plain) (formed : IsFormed P) where
  pub field_row : (f : ℕ) (k : PlainField) → slice_get P.fields f ≡ Some k → (t : ObjectType) → object_of k.ty ≡ Some t → HasRow P (row.Field f)
  field_row f k e t o = field_row_of P formed f t (ap (λ z. object_if (option_map (λ (k : PlainField). k.ty) z)) e ∙ o)

  pub variable_has_row : (m : ℕ) (k : PlainMethod) (i : ℕ) (v : PlainLocal) → slice_get P.methods m ≡ Some k → slice_get (variables_of k) i ≡ Some v
      → (t : ObjectType) → object_of v.ty ≡ Some t
      → HasRow P (variable_row m k i)
  variable_has_row m k i v e d t o =
      let object : variable_object k i ≡ Some t = ap (λ z. object_if (option_map (λ (v : PlainLocal). v.ty) z)) d ∙ o in
      variable_row_of P formed m k i t e object

  pub result_has_row : (m : ℕ) (k : PlainMethod) → slice_get P.methods m ≡ Some k → (t : ObjectType) → object_if k.result ≡ Some t
      → HasRow P (result_in k.slot m)
  result_has_row m k e t o = result_row_of P formed m k t e o

-- ---- what is written means the type of the row

module _ (P : Plain) (F : Facts) (facts : IsFactsOf P F) (H : Hierarchy) (hierarchy : IsHierarchyOf F H) where
  -- a row stands at a live node
  pub row_live : (i : RowItem) (r : ℕ) → row_number P i ≡ Some r → is_live H.order (place_of_row H r) ≡ true
  row_live i r e =
      let x = (numbered_rows P).at i r e in
      let at = subst (λ z. slice_get z r ≡ Some (row_info (numbers P) P x.0)) (sym facts.rows) (at_map (row_info (numbers P) P) (rows_of P) r x.0 x.1) in
      hierarchy.placed.rows r (slice_get_within F.rows.items r (row_info (numbers P) P x.0) at)

  module _ (V : Plain) (resolves : Resolves (java_tree P F H) V) (new : IsFormed V) (pt : PointsTo) (none : first_broken F pt H ≡ None) where
    abbrev types : List (List ℕ)
    types = types_in (java_tree P F H)

    abbrev pub T : Places
    T = places P F H V resolves new

    abbrev pub R : Renaming
    R = renaming_of P H T

    named_base : (n : ℕ) (c : ClassId) → is_live H.order n ≡ true → base_meant types (written_base P H (Some n) (Class c)) ≡ Class (record { 0 = T.type_of n })
    named_base n c h =
        ap (λ b. if b then Str else Class (class_at (type_named types (type_name H n)))) (no_text F pt H none n h)
        ∙ ap (λ o. Class (class_at o)) (node_named P F H V resolves new n h)

    row_type : (i : RowItem) (r : Option ℕ) → row_number P i ≡ r → R.row_type i ≡ option_map (λ r. T.type_of (place_of_row H r)) r
    unfolding renaming_of numbers
    row_type i r e = ap (λ o. option_map (λ r. T.type_of (place_of_row H r)) o) e

    row_node : (i : RowItem) (r : Option ℕ) → row_number P i ≡ r → (by_node P F H).row_type i ≡ option_map (place_of_row H) r
    unfolding renaming_of numbers
    row_node i r e = ap (λ o. option_map (place_of_row H) o) e

    base_is : (i : RowItem) (b : TyBase) (d : ℕ) (r : Option ℕ) → row_number P i ≡ r → ((t : ObjectType) → object_in b d ≡ Some t → HasRow P i)
        → base_meant types (written_base P H (option_map (place_of_row H) r) b) ≡ reclassed (option_map (λ r. T.type_of (place_of_row H r)) r) b
    base_is i Int d None e f = refl
    base_is i Int d (Some r) e f = refl
    base_is i Boolean d None e f = refl
    base_is i Boolean d (Some r) e f = refl
    base_is i Char d None e f = refl
    base_is i Char d (Some r) e f = refl
    base_is i Str d None e f = refl
    base_is i Str d (Some r) e f = refl
    base_is i (Class c) d None e f = absurd (let z = f (record { class = c; dim = d }) refl in cc (e, z.1))
    base_is i (Class c) d (Some r) e f = named_base (place_of_row H r) c (row_live i r e)

    -- the type of an item that has a row where it has a class type
    pub type_is : (i : RowItem) (t : Ty) → ((o : ObjectType) → object_of t ≡ Some o → HasRow P i)
        → type_meant types (written_type P H ((by_node P F H).row_type i) t) ≡ retyped (R.row_type i) t
    type_is i t f =
        ap (λ (o : Option ℕ). type_meant types (written_type P H o t)) (row_node i (row_number P i) refl)
        ∙ ap (λ (b : TyBase). record { base = b; dim = t.dim }) (base_is i t.base t.dim (row_number P i) refl f)
        ∙ ap (λ (o : Option ℕ). retyped o t) (sym (row_type i (row_number P i) refl))
