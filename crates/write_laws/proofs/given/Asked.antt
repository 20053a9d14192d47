-- The members that a body asks for stand somewhere, so that their names can be written.
use Rattle.std.proofs.Common.{◌≡◌, ℕ, List, [], Option, Some, Contains, refl, sym, ap, ◌∙◌, subst}
use Rattle.std.specs.Prelude.{◌==◌, true, false, slice_get}
use Rattle.std.specs.Option.{is_some}
use Rattle.std.proofs.lemmas.Bool.{and_from, eq-eqb}
use Rattle.std.proofs.lemmas.List.Folds.{list_any-from_Any}
use Rattle.kaba_base.specs.declared.Place.{Place}
use Rattle.java_lex.specs.Writable.{IsName}
use Rattle.java_core.specs.Programs.{PlainField, PlainMethod}
use Rattle.java_core.specs.Classes.{slot_of_method}
use Rattle.fact_model.specs.Items.{column_kind}
use Rattle.fact_model.specs.declared.facts.AccessInfo.{AccessInfo}
use Rattle.fact_model.specs.declared.facts.SuperInfo.{SuperInfo}
use Rattle.fact_model.proofs.EntryLemmas.{access_entry}
use Rattle.hier_model.specs.Hierarchies.{place_of_row, is_method}
use Rattle.hier_laws.specs.Shapes.{OffersColumn}
use Rattle.hier_laws.specs.Obligations.{Half}
use Rattle.hier_rules.specs.Asked.{is_pair, is_super}
use Rattle.hier_rules.specs.Names.{is_member}
use Rattle.hier_laws.proofs.ShapeLemmas.{shape}
use Rattle.hier_laws.proofs.GivenLemmas.{given}
use Rattle.flow_rules.specs.declared.items.Operand.{Operand}
use Rattle.flow_rules.specs.declared.items.ColumnItem.{ColumnItem}
use Rattle.flow_rules.specs.declared.items.ColumnItem.TheVariants as column
use Rattle.flow_rules.specs.declared.items.RowItem.TheVariants as row
use Rattle.flow_rules.specs.Parts.{Part, a_super_call, parts_of}
use Rattle.flow_rules.specs.Lists.{both, accessed, row_at, accesses_of, supers_of}
use Rattle.flow_rules.specs.Facts.{numbers}
use Rattle.flow_rules.proofs.Listed.{first}
use Rattle.flow_laws.proofs.cover.HasNumbers.{field_column}
use Rattle.flow_laws.proofs.order.Columns.{body_column}
use Rattle.flow_laws.proofs.order.Tests.{gathered_has}
use Rattle.rebuild_laws.proofs.given.Rest.{half}
use Rattle.rebuild_laws.proofs.types.Tables.{same_table}
use Rattle.write_laws.proofs.given.Given.{Given, words}
use Rattle.write_laws.proofs.given.Written.{method_member}
use Rattle.write_laws.proofs.given.Names.{columns, offered_named, field_name_is, method_name_is}

module _ (C : Given) where
  open C use {program as P, facts as F, hierarchy as H}
  open words C use {renaming as R, numbers as N}

  kept : Half (given F C.sets C.table) (shape H)
  kept =
      let g = C.ready in
      half F C.sets C.table g.in_range g.in_order g.sets g.table H (same_table F H C.table g.hierarchy.table g.table) g.unbroken

  -- the member that a row asks for is offered at the row's node
  asked : (o : Option ℕ) (q : ColumnItem) (r l : ℕ) → o ≡ Some r → N.column q ≡ Some l
      → ((x : AccessInfo) → Contains (accessed o (N.column q)) x → Contains F.accesses.items x) → OffersColumn (shape H) (place_of_row H r) l
  asked o q r l a e into =
      let x : AccessInfo = record { row = record { 0 = r }; column = record { 0 = l } } in
      let is = subst (λ z. Contains (accessed z (N.column q)) x) (sym a) (subst (λ z. Contains (accessed (Some r) z) x) (sym e) (first x [])) in
      kept.offered r l (access_entry F C.table C.ready.table x (into x is))

  -- a field that is read or written
  pub field_asked : (b : Operand) (f r : ℕ) (w : PlainField) → slice_get P.fields f ≡ Some w → w.is_static ≡ false → row_at N b ≡ Some r
      → ((x : AccessInfo) → Contains (accessed (row_at N b) (N.column (column.Fld f))) x → Contains F.accesses.items x) → IsName (R.field_name f)
  unfolding numbers
  field_asked b f r w stands instance a into =
      let l = field_column P f w stands instance in
      subst IsName (sym (field_name_is C f l.0 l.1))
      (offered_named C (place_of_row H r) l.0 (asked (row_at N b) (column.Fld f) r l.0 a l.1 into)
      (ap is_member ((columns C).kind (column.Fld f) l.0 l.1)))

  -- a method that is called
  pub call_asked : (b : Operand) (d s r : ℕ) → slot_of_method P d ≡ Some s → row_at N b ≡ Some r
      → ((x : AccessInfo) → Contains (accessed (row_at N b) (N.column (column.Dcl d))) x → Contains F.accesses.items x) → IsName (R.method_name d)
  call_asked b d s r e a into =
      let l = (columns C).declared d s e in
      let kind = ap is_method ((columns C).kind (column.Dcl d) l.0 l.1) in
      subst IsName (sym (method_name_is C d s l.0 e kind ((columns C).slot (column.Dcl d) l.0 l.1 ∙ e)))
      (offered_named C (place_of_row H r) l.0 (asked (row_at N b) (column.Dcl d) r l.0 a l.1 into)
      (method_member (column_kind F l.0) kind))

  module _ (m : ℕ) (k : PlainMethod) (stands : slice_get P.methods m ≡ Some k) where
    pub access_of : (p : Part) → Contains (parts_of P m k) p → (x : AccessInfo) → Contains (accesses_of N p) x → Contains F.accesses.items x
    access_of p c x d = (C.ready.facts.accesses x).1 (gathered_has P (λ b. accesses_of N) x m k p stands c d)

    super_of : (p : Part) → Contains (parts_of P m k) p → (x : SuperInfo) → Contains (supers_of N m p) x → Contains F.supers.items x
    super_of p c x d = (C.ready.facts.supers x).1 (gathered_has P (λ b. supers_of N b.number) x m k p stands c d)

    -- the body that a super call runs
    pub super_asked : (w : Place) (d : ℕ) (es : List Operand) (o : Operand) → Contains (parts_of P m k) (a_super_call w (Some d) es o)
        → (r : ℕ) → N.row (row.This m) ≡ Some r → (f : PlainMethod) → slice_get P.methods d ≡ Some f → f.is_static ≡ false
        → is_some f.body ≡ true → IsName (R.method_name d)
    unfolding numbers
    super_asked w d es o i r a f e instance body =
        let l = body_column P d f e instance body in
        let x : SuperInfo = record { row = record { 0 = r }; column = record { 0 = l.0 } } in
        let made : ℕ → ℕ → SuperInfo = λ a b. record { row = record { 0 = a }; column = record { 0 = b } } in
        let is = subst (λ z. Contains (both z (N.column (column.Def d)) made) x) (sym a)
        (subst (λ z. Contains (both (Some r) z made) x) (sym l.1) (first x [])) in
        let listed = super_of (a_super_call w (Some d) es o) i x is in
        let run : is_super F r l.0 ≡ true = list_any-from_Any (λ (y : SuperInfo). is_pair y.row.0 y.column.0 r l.0) F.supers.items
        (listed.0, x, listed.1, listed.2, and_from (r == r) (l.0 == l.0) (eq-eqb r r refl) (eq-eqb l.0 l.0 refl)) in
        let s = (columns C).slotted (column.Def d) l.0 l.1 refl in
        let kind = ap is_method ((columns C).kind (column.Def d) l.0 l.1) in
        subst IsName (sym (method_name_is C d s.0 l.0 s.1 kind
        ((columns C).slot (column.Def d) l.0 l.1 ∙ s.1)))
        (offered_named C (place_of_row H r) l.0 (kept.ran r l.0 run) (method_member (column_kind F l.0) kind))
