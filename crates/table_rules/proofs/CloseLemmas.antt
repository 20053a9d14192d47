-- What each rule with premises gives, and that a sound and closed table is the least one.
use Rattle.std.proofs.Common.{◌≡◌, ℕ, ◌<◌, ⊎_elim, Bool, true, false, ◌||◌, List, [], ◌∷◌, length, Some, Contains, sym, ◌∙◌, subst, arith}
use Rattle.std.specs.Bool.{OnFalse}
use Rattle.std.specs.List.{All, AllByRecursion}
use Rattle.std.proofs.lemmas.Bool.{cases_lt, false≢true}
use Rattle.std.proofs.lemmas.List.{get_or_past}
use Rattle.std.proofs.lemmas.List.Elements.{All-contains}
use Rattle.kaba_derivations.proofs.Derivations.{derivable_by, derivable_least}
use Rattle.kaba_bits.specs.Sets.{bit, row, HasWidth, IsStep, IsNoneFrom}
use Rattle.kaba_bits.proofs.SetLemmas.{bit-below}
use Rattle.kaba_base.specs.declared.ColId.{ColId}
use Rattle.fact_model.specs.Items.{site_row, row_this}
use Rattle.fact_model.specs.InRange.{InRange}
use Rattle.fact_model.specs.InOrder.{InOrder, ColumnsStandAbove, BodiesAreOwn}
use Rattle.fact_model.specs.Flowing.{AreSets, IsInRow}
use Rattle.fact_model.specs.Entries.{Entry, IsDeclaredBy, Hides, Entails, by_access, by_need, by_this, by_declared, by_body, by_super, by_tie, by_site, by_hiding, by_test, by_array, IsEntry, IsTable}
use Rattle.fact_model.specs.declared.facts.Facts.{Facts}
use Rattle.fact_model.specs.declared.facts.TieInfo.{TieInfo}
use Rattle.fact_model.specs.declared.sets.PointsTo.{PointsTo}
use Rattle.fact_model.specs.declared.sets.Table.{Table}
use Rattle.fact_model.proofs.RangeLemmas.{member-below}
use Rattle.fact_model.proofs.OrderLemmas.{column-above, body-own}
use Rattle.table_rules.specs.Marks.{RowMarked, AreEntries}
use Rattle.points_to.proofs.LoopLemmas.{skip_all}
use Rattle.table_rules.specs.Closed.{Gains, RowFlows, ColumnFlows, IsTieClosed, IsSiteClosed, IsTableClosed}
use Rattle.table_rules.specs.Asked.{AreAsked, IsRowAsked, IsClosedAt, IsRowClosed}
use Rattle.table_rules.proofs.RawLemmas.{sized}

-- an entry is in a row and in a column of the table
pub marked-row : (rows : List (List Bool)) (r c : ℕ) → RowMarked rows r c → r < length rows
marked-row rows r c h =
    ⊎_elim (λ lt. lt) (λ past. let none : row rows r ≡ [] = get_or_past rows r [] past in absurd (false≢true (rw none at h))) (cases_lt r (length rows))

pub marked-column : (w : ℕ) (rows : List (List Bool)) (r c : ℕ) → HasWidth w rows → RowMarked rows r c → c < w
marked-column w rows r c widths h = omega (arith, bit-below (row rows r) c h, widths r (marked-row rows r c h))

module _ (F : Facts) where
  pub tie_flows : (x : TieInfo) → Contains F.ties.items x → RowFlows F x.upper.0 x.lower.0
  tie_flows x is c h = derivable_by (Entails F) ((x.upper.0, c) ∷ []) (x.lower.0, c) (by_tie x c is) (h, tt)

  pub site_flows : (v o : ℕ) → IsInRow F v o → RowFlows F v (site_row F o)
  site_flows v o m c h = derivable_by (Entails F) ((v, c) ∷ []) (site_row F o, c) (by_site v o c m) (h, tt)

  pub body_flows : (r v : ℕ) (d : ColId) → row_this F v ≡ Some d → IsEntry F r d.0 → RowFlows F v r
  body_flows r v d t has c h = derivable_by (Entails F) ((r, d.0) ∷ (v, c) ∷ []) (r, c) (by_body r v c d t) (has, (h, tt))

  pub body_asks : (v : ℕ) (d : ColId) → row_this F v ≡ Some d → (c : ℕ) → IsEntry F v c → ColumnFlows F d.0 c
  body_asks v d t c h r has = body_flows r v d t has c h

  pub declared_flows : (d c : ℕ) → c < length F.columns.items → IsDeclaredBy F d c → ColumnFlows F d c
  declared_flows d c lt by r h = derivable_by (Entails F) ((r, d) ∷ []) (r, c) (by_declared r d c lt by) (h, tt)

  pub hidden_flows : (q d c : ℕ) → Hides F d c → IsEntry F q d → IsEntry F q c → ColumnFlows F d c
  hidden_flows q d c by one two r h = derivable_by (Entails F) ((q, d) ∷ (q, c) ∷ (r, d) ∷ []) (r, c) (by_hiding q r d c by) (one, (two, (h, tt)))

-- what holds where a step changed nothing holds under a premise
pub under : (M X : Type 0) (g : Bool) → OnFalse g X → OnFalse g (M → X)
under M X true h = tt
under M X false h = λ m. h

-- a row has what its columns ask for, where it has what those before a number do, and none from there on
pub row_closed : (F : Facts) (asked old rows : List (List Bool)) (r at : ℕ) (g : Bool) → r < length F.rows.items → AreEntries F rows → IsStep old rows g
    → IsNoneFrom (bit (row rows r)) at (length F.columns.items) → OnFalse g ((d : ℕ) → d < at → IsClosedAt asked r rows d)
    → Gains F old rows g (IsRowClosed asked rows r)
row_closed F asked old rows r at g lt are step none before = record {
  rows = are;
  step = step;
  closed = skip_all (IsClosedAt asked r rows) (row rows r) at (λ k out b. absurd (false≢true (sym out ∙ b))) (length F.columns.items) g
      (are.widths r (omega (arith, lt, are.len))) none before;
}

module _ (F : Facts) (sets asked rows : List (List Bool)) (are : AreEntries F rows) (flows : AreAsked F asked) where
  -- a table whose rows have what their columns ask for is closed, where all was asked for
  pub all_closed : ((q : ℕ) → q < length F.rows.items → IsRowAsked F rows asked q)
      → ((r : ℕ) → r < length F.rows.items → IsRowClosed asked rows r) → All (IsTieClosed rows) F.ties.items
      → ((v : ℕ) → v < length F.rows.items → IsSiteClosed F sets rows v) → IsTableClosed F sets rows
  all_closed met closed ties sites =
      let held : (r c : ℕ) → RowMarked rows r c → r < length F.rows.items = λ r c h. subst (λ n. r < n) are.len (marked-row rows r c h) in
      record {
        declared = λ r d c lt by m. closed r (held r d m) d m c
            (flows.declared d c (marked-column (length F.columns.items) rows r d are.widths m) lt by);
        bodies = λ r v c d t m mv. closed r (held r d.0 m) d.0 m c ((met v (held v c mv)).this d t c mv);
        ties = ties;
        sites = sites;
        hidden = λ q r d c by one two m. closed r (held r d m) d m c ((met q (held q d one)).met d one c by two);
      }

-- the same after three steps that changed nothing
pub round_closed : (F : Facts) (sets asked rows after ties_done new : List (List Bool)) (g t s : Bool) → AreAsked F asked
    → ((q : ℕ) → q < length F.rows.items → IsRowAsked F rows asked q)
    → IsStep rows after g → OnFalse g ((r : ℕ) → r < length F.rows.items → IsRowClosed asked after r)
    → IsStep after ties_done t → OnFalse t (All (IsTieClosed ties_done) F.ties.items)
    → IsStep ties_done new s → OnFalse s ((v : ℕ) → v < length F.rows.items → IsSiteClosed F sets new v)
    → AreEntries F new → OnFalse ((g || t) || s) (IsTableClosed F sets new)
round_closed F sets asked rows after ties_done new true t s flows met e1 p1 e2 p2 e3 p3 are = tt
round_closed F sets asked rows after ties_done new false true s flows met e1 p1 e2 p2 e3 p3 are = tt
round_closed F sets asked rows after ties_done new false false true flows met e1 p1 e2 p2 e3 p3 are = tt
round_closed F sets asked rows after ties_done new false false false flows met e1 p1 e2 p2 e3 p3 are =
    all_closed F sets asked new are flows
    (subst (λ x. (q : ℕ) → q < length F.rows.items → IsRowAsked F x asked q) (sym (e3 ∙ e2 ∙ e1)) met)
    (subst (λ x. (r : ℕ) → r < length F.rows.items → IsRowClosed asked x r) (sym (e3 ∙ e2)) p1)
    (subst (λ x. All (IsTieClosed x) F.ties.items) (sym e3) p2)
    p3

module _ (F : Facts) (R : InRange F) (pt : PointsTo) (sets : AreSets F pt) (rows : List (List Bool)) (are : AreEntries F rows)
    (closed : IsTableClosed F pt.rows.items rows) where
  held : (r c : ℕ) → RowMarked rows r c → r < length F.rows.items
  held r c h = subst (λ n. r < n) are.len (marked-row rows r c h)

  closed_under : (ps : List Entry) (e : Entry) → Entails F ps e → AllByRecursion (λ p. RowMarked rows p.0 p.1) ps → RowMarked rows e.0 e.1
  closed_under ps e (by_access x is) h = are.raw x.row.0 x.column.0 (by_access x is)
  closed_under ps e (by_need call o d is holds found) h = are.raw (site_row F o) d (by_need call o d is holds found)
  closed_under ps e (by_this v d t) h = are.raw v d.0 (by_this v d t)
  closed_under ps e (by_declared r d c lt by) h = closed.declared r d c lt by h.0
  closed_under ps e (by_body r v c d t) h = closed.bodies r v c d t h.0 h.1.0
  closed_under ps e (by_super x is) h = are.raw x.row.0 x.column.0 (by_super x is)
  closed_under ps e (by_tie x c is) h = All-contains (IsTieClosed rows) F.ties.items x closed.ties is c h.0
  closed_under ps e (by_site v o c m) h = closed.sites v (held v c h.0) o (member-below F R v o m) ((sets.rows v o).1 m) c h.0
  closed_under ps e (by_hiding q r d c by) h =
      closed.hidden q r d c by h.0 h.1.0 h.1.1.0
  closed_under ps e (by_test x c is m) h = are.raw x.target.0 c (by_test x c is m)
  closed_under ps e (by_array s c lt dim m) h = are.raw (site_row F s) c (by_array s c lt dim m)

  complete : (r c : ℕ) → IsEntry F r c → RowMarked rows r c
  complete r c = derivable_least (Entails F) (λ e. RowMarked rows e.0 e.1) closed_under (r, c)

pub closed_table : (F : Facts) (R : InRange F) (pt : PointsTo) (sets : AreSets F pt) (t : Table) → t.width ≡ length F.columns.items
    → AreEntries F t.rows.items → IsTableClosed F pt.rows.items t.rows.items → IsTable F t
closed_table F R pt sets t e are closed = record {
  sized = sized F (IsEntry F) t e (record { len = are.len; widths = are.widths; sound = are.sound });
  entries = λ r c. (are.sound r c, complete F R pt sets t.rows.items are closed r c);
}

pub table-above : (F : Facts) (R : InRange F) (t : Table) → IsTable F t → InOrder F → ColumnsStandAbove F t
table-above F R t is O r c h = column-above F R O r c ((is.entries r c).0 h)

pub table-own : (F : Facts) (R : InRange F) (t : Table) → IsTable F t → InOrder F → BodiesAreOwn F t
table-own F R t is O r d h = body-own F R O r d ((is.entries r d).0 h)
