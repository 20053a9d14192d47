-- The accesses of a program's facts: each names a field or a declaration, of a class at or above the row's.
use Rattle.std.proofs.Common.{◌≡◌, ℕ, List, Option, Some, None, refl, sym, ap, subst, arith, inl, inr, Bool}
use Rattle.std.specs.Prelude.{◌⊎◌, Contains, All, slice_get}
use Rattle.kaba_base.specs.declared.Place.{Place}
use Rattle.java_core.specs.Programs.{Plain, PlainMethod}
use Rattle.java_core.specs.Typing.{IsTyped}
use Rattle.java_core.specs.Formed.{IsFormed}
use Rattle.fact_model.specs.Items.{row_class, column_class, column_kind}
use Rattle.fact_model.specs.Classes.{IsBelow}
use Rattle.fact_model.specs.declared.facts.Facts.{Facts}
use Rattle.fact_model.specs.declared.facts.AccessInfo.{AccessInfo}
use Rattle.fact_model.specs.declared.facts.ColKind.TheVariants.{Fld, Dcl}
use Rattle.flow_rules.specs.declared.items.Operand.{Operand}
use Rattle.flow_rules.specs.declared.items.ColumnItem.{ColumnItem}
use Rattle.flow_rules.specs.declared.items.ColumnItem.TheVariants as column
use Rattle.flow_rules.specs.Parts.{Part, a_load, a_call, a_store, parts_of, a_creation}
use Rattle.flow_rules.specs.Numbered.{column_number}
use Rattle.flow_rules.specs.Lists.{row_at, accessed, accesses_of}
use Rattle.flow_rules.specs.Facts.{numbers, column_info, IsFactsOf}
use Rattle.flow_rules.proofs.Listed.{one_from, all_of}
use Rattle.flow_laws.proofs.order.Columns.{numbered_column}
use Rattle.flow_laws.proofs.order.Classes.{subclass_below}
use Rattle.flow_laws.proofs.order.Fitted.{IsBase, IsFitted, part_fitted}
use Rattle.flow_laws.proofs.order.Owners.{row_of_operand}
use Rattle.flow_laws.proofs.order.Tests.{gathered_from}

accessed_from : (r c : Option ℕ) (x : AccessInfo) → Contains (accessed r c) x → (r ≡ Some x.row.0) × (c ≡ Some x.column.0)
accessed_from (Some a) (Some b) x d = let e = one_from _ x d in (ap (λ z. Some z.row.0) e, ap (λ z. Some z.column.0) e)
accessed_from (Some a) None x d = absurd (omega (arith, d.1))
accessed_from None c x d = absurd (omega (arith, d.1))

-- the base of an access, and the member
pub data IsAccess : Operand → ColumnItem → Part → Type 0 where
  a_read : {p : Place} {b o : Operand} {f : ℕ} → IsAccess b (column.Fld f) (a_load p b (Some f) o)
  a_write : {p : Place} {b o : Operand} {f : ℕ} → IsAccess b (column.Fld f) (a_store p b (Some f) o)
  a_use : {p : Place} {b o : Operand} {s : Option ℕ} {d : ℕ} {es : List Operand} → IsAccess b (column.Dcl d) (a_call p b s (Some d) es o)
  a_make : {p : Place} {u : Bool} {o : Operand} {s : Option ℕ} {d : ℕ} {es : List Operand} → IsAccess o (column.Dcl d) (a_creation p u o s (Some d) es)

module _ (P : Plain) where
  pub record HasAccess (x : AccessInfo) (p : Part) : Type 0 where
    pub base : Operand
    pub member : ColumnItem
    pub access : IsAccess base member p
    pub row_is : row_at (numbers P) base ≡ Some x.row.0
    pub column_is : column_number P member ≡ Some x.column.0

  access_of : (p : Part) (x : AccessInfo) → Contains (accesses_of (numbers P) p) x → HasAccess x p
  unfolding numbers
  access_of (a_load p b (Some f) o) x c = let z = accessed_from (row_at (numbers P) b) (column_number P (column.Fld f)) x c in record
      { base = b; member = column.Fld f; access = a_read; row_is = z.0; column_is = z.1 }
  access_of (a_store p b (Some f) o) x c = let z = accessed_from (row_at (numbers P) b) (column_number P (column.Fld f)) x c in record
      { base = b; member = column.Fld f; access = a_write; row_is = z.0; column_is = z.1 }
  access_of (a_call p b s (Some d) es o) x c = let z = accessed_from (row_at (numbers P) b) (column_number P (column.Dcl d)) x c in record
      { base = b; member = column.Dcl d; access = a_use; row_is = z.0; column_is = z.1 }
  access_of (a_creation p u o s (Some d) es) x c = let z = accessed_from (row_at (numbers P) o) (column_number P (column.Dcl d)) x c in record
      { base = o; member = column.Dcl d; access = a_make; row_is = z.0; column_is = z.1 }
  access_of _ x c = absurd (omega (arith, c.1))

  module _ (F : Facts) (facts : IsFactsOf P F) where
    pub record AccessPart (x : AccessInfo) : Type 0 where
      pub number : ℕ
      pub method : PlainMethod
      pub stands : slice_get P.methods number ≡ Some method
      pub part : Part
      pub in_body : Contains (parts_of P number method) part
      pub has : HasAccess x part

    pub access_part : (x : AccessInfo) → Contains F.accesses.items x → AccessPart x
    access_part x c =
        let z = gathered_from P (λ b. accesses_of (numbers P)) x ((facts.accesses x).0 c) in
        record { number = z.0; method = z.1; stands = z.3; part = z.2; in_body = z.4; has = access_of z.2 x z.5 }

    member_kind : (b : Operand) (i : ColumnItem) (p : Part) → IsAccess b i p → ((column_info P i).kind ≡ Fld) ⊎ ((column_info P i).kind ≡ Dcl)
    member_kind b _ _ a_read = inl refl
    member_kind b _ _ a_write = inl refl
    member_kind b _ _ a_use = inr refl
    member_kind b _ _ a_make = inr refl

    pub access_kinds : All (λ x. (column_kind F x.column.0 ≡ Fld) ⊎ (column_kind F x.column.0 ≡ Dcl)) F.accesses.items
    access_kinds = all_of (λ x. (column_kind F x.column.0 ≡ Fld) ⊎ (column_kind F x.column.0 ≡ Dcl)) F.accesses.items
        (λ x c. let z = access_part x c in
        let n = numbered_column P F facts z.has.member x.column.0 z.has.column_is in
        subst (λ i. (i.kind ≡ Fld) ⊎ (i.kind ≡ Dcl)) (sym n.1) (member_kind z.has.base z.has.member z.part z.has.access))

    -- the row of an access is at or below the member's class
    module _ (formed : IsFormed P) (typed : IsTyped P) where
      base_above : (m : ℕ) (k : PlainMethod) (e : slice_get P.methods m ≡ Some k) (b : Operand) (i : ColumnItem) (p : Part) → IsAccess b i p
          → IsFitted P formed typed F facts m k e p → IsBase P formed typed F facts m k e b i
      base_above m k e b _ _ (a_read {f = f}) h = (h.1 f refl).0
      base_above m k e b _ _ (a_write {f = f}) h = (h f refl).0
      base_above m k e b _ _ (a_use {d = d}) h = h.2 d refl
      base_above m k e b _ _ (a_make {d = d}) h = h.3 d refl

      pub accesses_below : All (λ x. IsBelow F (row_class F x.row.0) (column_class F x.column.0)) F.accesses.items
      accesses_below = all_of (λ x. IsBelow F (row_class F x.row.0) (column_class F x.column.0)) F.accesses.items
          (λ x c. let z = access_part x c in
          let b = base_above z.number z.method z.stands z.has.base z.has.member z.part z.has.access
          (part_fitted P formed typed F facts z.number z.method z.stands z.part z.in_body) in
          let r = row_of_operand P formed typed F facts z.number z.method z.stands z.has.base x.row.0 b.good z.has.row_is in
          subst (λ y. IsBelow F y (column_class F x.column.0)) (sym r.class) (subst (λ y. IsBelow F r.type.class.0 y)
          (sym (ap (λ i. i.class.0) (numbered_column P F facts z.has.member x.column.0 z.has.column_is).1))
          (subclass_below P F facts (b.above r.type r.stated))))
