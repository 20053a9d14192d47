-- Believed. The table of rows against columns, closed under the rules T1 to T11 (after Snelting and Tip, 2000).
use Rattle.std.specs.Prelude.{◌≡◌, ℕ, ◌<◌, ◌↔◌, ◌⊎◌, true, List, [], ◌∷◌, length, Contains, Some}
use Rattle.kaba_bits.specs.Sets.{bit, row, HasWidth}
use Rattle.kaba_derivations.specs.Derivation.{IsDerivable}
use Rattle.kaba_base.specs.declared.ColId.{ColId}
use Rattle.fact_model.specs.Items.{site_at, site_class, site_row, row_this, column_class, column_kind, column_slot, IsColumn}
use Rattle.fact_model.specs.Classes.{IsStrictSubclass, finds}
use Rattle.fact_model.specs.Flowing.{Holds, in_point, IsInRow}
use Rattle.fact_model.specs.declared.facts.Facts.{Facts}
use Rattle.fact_model.specs.declared.facts.ColKind.TheVariants.{Dcl, Def, Is}
use Rattle.fact_model.specs.declared.facts.AccessInfo.{AccessInfo}
use Rattle.fact_model.specs.declared.facts.CallInfo.{CallInfo}
use Rattle.fact_model.specs.declared.facts.SuperInfo.{SuperInfo}
use Rattle.fact_model.specs.declared.facts.TieInfo.{TieInfo}
use Rattle.fact_model.specs.declared.facts.TestInfo.{TestInfo}
use Rattle.fact_model.specs.declared.sets.Table.{Table}

-- a row has a column
abbrev pub Entry : Type 0
Entry = ℕ × ℕ

-- c declares the method whose body d is, in the same class
pub record IsDeclaredBy (F : Facts) (d c : ℕ) : Type 0 where
  pub body : column_kind F d ≡ Def
  pub declaration : column_kind F c ≡ Dcl
  pub class : column_class F d ≡ column_class F c
  pub slot : column_slot F d ≡ column_slot F c

-- d hides c: both are bodies or both declarations, of one slot, and the class of d is strictly below that of c
pub record Hides (F : Facts) (d c : ℕ) : Type 0 where
  pub method : (column_kind F d ≡ Def) ⊎ (column_kind F d ≡ Dcl)
  pub kind : column_kind F d ≡ column_kind F c
  pub slot : column_slot F d ≡ column_slot F c
  pub class : IsStrictSubclass F (column_class F d) (column_class F c)

-- an entry that follows from others by one rule
pub data Entails (F : Facts) : List Entry → Entry → Type 0 where
  -- T1 and T2: the access of a field gives the row that types its base the field; a call, the declaration found statically
  by_access : (x : AccessInfo) → Contains F.accesses.items x
      → Entails F [] (x.row.0, x.column.0)
  -- T3: a call, and a site o in the set of its receiver, give o the body found for its class
  by_need : (call : CallInfo) (o d : ℕ) → Contains F.calls.items call → Holds F (in_point call.receiver o) → finds F (site_class F o) call.slot ≡ Some d
      → Entails F [] (site_row F o, d)
  -- T4: the `this` of a method has its body
  by_this : (v : ℕ) (d : ColId) → row_this F v ≡ Some d
      → Entails F [] (v, d.0)
  -- T5: a row with a body has its declaration
  by_declared : (r d c : ℕ) → c < length F.columns.items → IsDeclaredBy F d c
      → Entails F ((r, d) ∷ []) (r, c)
  -- T6: a row with a body has all columns of its `this`
  by_body : (r v c : ℕ) (d : ColId) → row_this F v ≡ Some d
      → Entails F ((r, d.0) ∷ (v, c) ∷ []) (r, c)
  -- T7: a super call gives the caller's `this` the body that runs
  by_super : (x : SuperInfo) → Contains F.supers.items x
      → Entails F [] (x.row.0, x.column.0)
  -- T8: the lower row of a tie has all columns of the upper
  by_tie : (x : TieInfo) (c : ℕ) → Contains F.ties.items x
      → Entails F ((x.upper.0, c) ∷ []) (x.lower.0, c)
  -- T9: a site in the set of a row has all columns of the row
  by_site : (v o c : ℕ) → IsInRow F v o
      → Entails F ((v, c) ∷ []) (site_row F o, c)
  -- T10: where some row has both a member and one that it hides, each row with the first has the second
  by_hiding : (q r d c : ℕ) → Hides F d c
      → Entails F ((q, d) ∷ (q, c) ∷ (r, d) ∷ []) (r, c)
  -- T11: a cast or instanceof has the mark of its type, and an array site that of its base
  by_test : (x : TestInfo) (c : ℕ) → Contains F.tests.items x → IsColumn F Is x.class.0 c
      → Entails F [] (x.target.0, c)
  by_array : (s c : ℕ) → s < length F.sites.items → 0 < (site_at F s).dim → IsColumn F Is (site_class F s) c
      → Entails F [] (site_row F s, c)

-- an entry of T1, T2, T3, T4, T7 or T11: one that follows from no other
abbrev pub IsRawEntry : Facts → ℕ → ℕ → Type 0
IsRawEntry F r c = Entails F [] (r, c)

-- an entry holds exactly where some derivation ends in it: these are the least relation that is closed under the rules
abbrev pub IsEntry : Facts → ℕ → ℕ → Type 0
IsEntry F r c = IsDerivable (Entails F) (r, c)

-- a table of the rows and columns of the facts
pub record IsTableSized (F : Facts) (t : Table) : Type 0 where
  pub columns : t.width ≡ length F.columns.items
  pub rows : length t.rows.items ≡ length F.rows.items
  pub widths : HasWidth t.width t.rows.items

-- the table whose entries are exactly those of the rules without premises
pub record IsRawTable (F : Facts) (t : Table) : Type 0 where
  pub sized : IsTableSized F t
  pub entries : (r c : ℕ) → (bit (row t.rows.items r) c ≡ true) ↔ IsRawEntry F r c

-- the table whose entries are exactly those in which a derivation ends
pub record IsTable (F : Facts) (t : Table) : Type 0 where
  pub sized : IsTableSized F t
  pub entries : (r c : ℕ) → (bit (row t.rows.items r) c ≡ true) ↔ IsEntry F r c
