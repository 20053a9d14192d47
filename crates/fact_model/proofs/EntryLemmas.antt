-- A table with exactly the derivable entries is closed under each rule.
use Rattle.std.proofs.Common.{◌≡◌, ℕ, ◌<◌, true, [], ◌∷◌, length, Some, Contains}
use Rattle.kaba_derivations.proofs.Derivations.{derivable_by, each_weaker}
use Rattle.kaba_bits.specs.Sets.{bit, row, IsSubset}
use Rattle.kaba_base.specs.declared.ColId.{ColId}
use Rattle.fact_model.specs.Items.{site_at, site_class, site_row, row_this, IsColumn}
use Rattle.fact_model.specs.Classes.{finds}
use Rattle.fact_model.specs.Flowing.{AreSets}
use Rattle.fact_model.specs.Entries.{IsDeclaredBy, Hides, Entails, by_access, by_need, by_this, by_declared, by_body, by_super, by_tie, by_site, by_hiding, by_test, by_array, IsEntry, IsTable}
use Rattle.fact_model.specs.Closures.{has, IsClosedTable}
use Rattle.fact_model.specs.declared.facts.Facts.{Facts}
use Rattle.fact_model.specs.declared.facts.ColKind.TheVariants.{Is}
use Rattle.fact_model.specs.declared.facts.AccessInfo.{AccessInfo}
use Rattle.fact_model.specs.declared.facts.CallInfo.{CallInfo}
use Rattle.fact_model.specs.declared.facts.SuperInfo.{SuperInfo}
use Rattle.fact_model.specs.declared.facts.TieInfo.{TieInfo}
use Rattle.fact_model.specs.declared.facts.TestInfo.{TestInfo}
use Rattle.fact_model.specs.declared.sets.PointsTo.{PointsTo}
use Rattle.fact_model.specs.declared.sets.Table.{Table}

module _ (F : Facts) (t : Table) (T : IsTable F t) where
  -- what a rule gives of entries that the table has it has
  pub closed_table : IsClosedTable F t
  closed_table ps e r h =
      (T.entries e.0 e.1).1 (derivable_by (Entails F) ps e r (each_weaker (λ p. has t p ≡ true) (λ p. IsEntry F p.0 p.1) (λ p k. (T.entries p.0 p.1).0 k) ps h))

  -- the rules one by one, in terms of the table
  abbrev Has : ℕ → ℕ → Type 0
  Has r c = bit (row t.rows.items r) c ≡ true

  -- T1 and T2
  pub access_entry : (x : AccessInfo) → Contains F.accesses.items x → Has x.row.0 x.column.0
  access_entry x is = closed_table [] (x.row.0, x.column.0) (by_access x is) tt

  -- T4
  pub this_entry : (v : ℕ) (d : ColId) → row_this F v ≡ Some d → Has v d.0
  this_entry v d e = closed_table [] (v, d.0) (by_this v d e) tt

  -- T5
  pub declared_entry : (r d c : ℕ) → c < length F.columns.items → IsDeclaredBy F d c → Has r d → Has r c
  declared_entry r d c lt by h = closed_table ((r, d) ∷ []) (r, c) (by_declared r d c lt by) (h, tt)

  -- T6
  pub body_entry : (r v : ℕ) (d : ColId) → row_this F v ≡ Some d → Has r d.0 → IsSubset (row t.rows.items v) (row t.rows.items r)
  body_entry r v d e h c k = closed_table ((r, d.0) ∷ (v, c) ∷ []) (r, c) (by_body r v c d e) (h, (k, tt))

  -- T7
  pub super_entry : (x : SuperInfo) → Contains F.supers.items x → Has x.row.0 x.column.0
  super_entry x is = closed_table [] (x.row.0, x.column.0) (by_super x is) tt

  -- T8
  pub tie_entry : (x : TieInfo) → Contains F.ties.items x → IsSubset (row t.rows.items x.upper.0) (row t.rows.items x.lower.0)
  tie_entry x is c h = closed_table ((x.upper.0, c) ∷ []) (x.lower.0, c) (by_tie x c is) (h, tt)

  -- T10
  pub hiding_entry : (q r d c : ℕ) → Hides F d c → Has q d → Has q c → Has r d → Has r c
  hiding_entry q r d c by a b h = closed_table ((q, d) ∷ (q, c) ∷ (r, d) ∷ []) (r, c) (by_hiding q r d c by) (a, (b, (h, tt)))

  -- T11
  pub test_entry : (x : TestInfo) (c : ℕ) → Contains F.tests.items x → IsColumn F Is x.class.0 c → Has x.target.0 c
  test_entry x c is mark = closed_table [] (x.target.0, c) (by_test x c is mark) tt

  pub array_entry : (s c : ℕ) → s < length F.sites.items → 0 < (site_at F s).dim → IsColumn F Is (site_class F s) c → Has (site_row F s) c
  array_entry s c lt dim mark = closed_table [] (site_row F s, c) (by_array s c lt dim mark) tt

  module _ (pt : PointsTo) (S : AreSets F pt) where
    -- T3
    pub need_entry : (call : CallInfo) (o d : ℕ) → Contains F.calls.items call → bit (row pt.points.items call.receiver) o ≡ true
        → finds F (site_class F o) call.slot ≡ Some d → Has (site_row F o) d
    need_entry call o d is h f = closed_table [] (site_row F o, d) (by_need call o d is ((S.points call.receiver o).0 h) f) tt

    -- T9
    pub site_entry : (v o : ℕ) → bit (row pt.rows.items v) o ≡ true → IsSubset (row t.rows.items v) (row t.rows.items (site_row F o))
    site_entry v o m c h = closed_table ((v, c) ∷ []) (site_row F o, c) (by_site v o c ((S.rows v o).0 m)) (h, tt)
