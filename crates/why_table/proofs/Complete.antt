-- What holds is in each set of claims that is closed under the rules.
use Rattle.std.proofs.Common.{◌≡◌, ℕ, ◌⊎◌, ⊎_elim, List, [], ◌∷◌, None, Contains}
use Rattle.std.specs.List.{All, AllByRecursion}
use Rattle.std.proofs.lemmas.List.Elements.{All-contains, Contains-get_or}
use Rattle.std.proofs.lemmas.Option.{slice_get-get_or}
use Rattle.kaba_derivations.proofs.Derivations.{derivable_least}
use Rattle.kaba_base.specs.declared.RowId.{RowId}
use Rattle.kaba_base.specs.declared.ColId.{ColId}
use Rattle.kaba_base.specs.declared.SiteId.{SiteId}
use Rattle.fact_model.specs.Items.{site_at, cell_at, point_row, column_kind}
use Rattle.fact_model.specs.Flowing.{Fact, in_point, in_cell, Inclusion, by_new, by_flow, by_load, by_store, by_this, by_argument, by_result, by_cast, Holds, IsInRow, by_point, by_cell}
use Rattle.fact_model.specs.Entries.{Entry as Pair, Entails, by_access, by_need, by_this as by_own, by_declared, by_body, by_super, by_tie, by_site, by_hiding, by_test, by_array, IsEntry}
use Rattle.fact_model.specs.declared.facts.Facts.{Facts}
use Rattle.fact_model.specs.declared.facts.AccessInfo.{AccessInfo}
use Rattle.fact_model.specs.declared.facts.ColKind.TheVariants.{Fld, Dcl}
use Rattle.why_table.specs.Found.{AreMemberAccesses}
use Rattle.why_table.specs.Rules.{GivesClaim, p1, p2, p3, p4, p5, p6, p7, p8, t1, t2, t3, t4, t5, t6, t7, t8, t9_point, t9_cell, t10, t11_test, t11_array}
use Rattle.why_table.specs.declared.trail.Claim.{Claim}
use Rattle.why_table.specs.declared.trail.Claim.TheVariants.{InPoint, InCell, Entry}
use Rattle.why_table.specs.declared.trail.WhyRule.{WhyRule}
use Rattle.why_table.specs.declared.trail.WhyRule.TheVariants.{P1, P2, P3, P4, P5, P6, P7, P8, T1, T2, T3, T4, T5, T6, T7, T8, T9, T10, T11}

-- ids by their numbers
abbrev pub site_id : ℕ → SiteId
site_id s = record { 0 = s }

abbrev pub row_id : ℕ → RowId
row_id r = record { 0 = r }

abbrev pub column_id : ℕ → ColId
column_id c = record { 0 = c }

-- the claim of a fact, and that of an entry
abbrev pub fact_claim : Fact → Claim
fact_claim (in_point p s) = InPoint p (site_id s)
fact_claim (in_cell c s) = InCell c (site_id s)

abbrev pub entry_claim : Pair → Claim
entry_claim e = Entry (row_id e.0) (column_id e.1)

-- a set of claims that has what each rule gives of claims that it has
abbrev pub IsClosedSet : Facts → (Claim → Type 0) → Type 0
IsClosedSet F X = (rule : WhyRule) (ps : List Claim) (c : Claim) → GivesClaim F rule ps c → AllByRecursion X ps → X c

module _ (F : Facts) (X : Claim → Type 0) (closed : IsClosedSet F X) where
  fact_closed : (ps : List Fact) (f : Fact) → Inclusion F ps f → AllByRecursion (λ p. X (fact_claim p)) ps → X (fact_claim f)
  fact_closed ps f (by_new x is) h = closed P1 [] (InPoint x.point x.site) (p1 x is) tt
  fact_closed ps f (by_flow x s is) h = closed P2 (InPoint x.from (site_id s) ∷ []) (InPoint x.to (site_id s)) (p2 x (site_id s) is) h
  fact_closed ps f (by_load x c o s is at) h =
      closed P3 (InPoint x.base (site_id o) ∷ InCell c (site_id s) ∷ []) (InPoint x.into (site_id s)) (p3 x c (site_id o) (site_id s) is at) h
  fact_closed ps f (by_store x c o s is at fit) h =
      closed P4 (InPoint x.base (site_id o) ∷ InPoint x.value (site_id s) ∷ []) (InCell c (site_id s)) (p4 x c (site_id o) (site_id s) is at fit) h
  fact_closed ps f (by_this call o body runs) h =
      closed P5 (InPoint call.receiver (site_id o) ∷ []) (InPoint body.this (site_id o)) (p5 call (site_id o) body runs) h
  fact_closed ps f (by_argument call o body k from to s runs a b) h =
      closed P6 (InPoint call.receiver (site_id o) ∷ InPoint from (site_id s) ∷ []) (InPoint to (site_id s))
      (p6 call (site_id o) (site_id s) body k from to runs a b) h
  fact_closed ps f (by_result call o body from to s runs a b) h =
      closed P7 (InPoint call.receiver (site_id o) ∷ InPoint from (site_id s) ∷ []) (InPoint to (site_id s))
      (p7 call (site_id o) (site_id s) body from to runs a b) h
  fact_closed ps f (by_cast x s is under) h =
      closed P8 (InPoint x.from (site_id s) ∷ []) (InPoint x.into (site_id s)) (p8 x (site_id s) is under) h

  -- each fact that holds is in the set
  pub fact_least : (f : Fact) → Holds F f → X (fact_claim f)
  fact_least = derivable_least (Inclusion F) (λ f. X (fact_claim f)) fact_closed

  module _ (accesses : AreMemberAccesses F) where
    access_claim : (x : AccessInfo) → Contains F.accesses.items x → X (Entry x.row x.column)
    access_claim x is =
        ⊎_elim (λ e. closed T1 [] (Entry x.row x.column) (t1 x is e) tt) (λ e. closed T2 [] (Entry x.row x.column) (t2 x is e) tt)
        (All-contains (λ (y : AccessInfo). (column_kind F y.column.0 ≡ Fld) ⊎ (column_kind F y.column.0 ≡ Dcl)) F.accesses.items x accesses is)

    site_claim : (v o c : ℕ) → IsInRow F v o → X (entry_claim (v, c)) → X (Entry (site_at F o).row (column_id c))
    site_claim v o c (by_point p i lt h) k =
        closed T9 (InPoint p (site_id o) ∷ Entry (row_id (point_row F p)) (column_id c) ∷ []) (Entry (site_at F o).row (column_id c))
        (t9_point p (row_id (point_row F p)) (site_id o) (column_id c) (slice_get-get_or F.points.items p (row_id 0) lt)) (fact_least (in_point p o) h, (k, tt))
    site_claim v o c (by_cell n i lt h) k =
        closed T9 (InCell n (site_id o) ∷ Entry (cell_at F n).row (column_id c) ∷ []) (Entry (site_at F o).row (column_id c))
        (t9_cell n (cell_at F n) (site_id o) (column_id c)
        (slice_get-get_or F.cells.items n (record { site = site_id 0; column = None; row = row_id 0 }) lt)) (fact_least (in_cell n o) h, (k, tt))

    entry_closed : (ps : List Pair) (e : Pair) → Entails F ps e → AllByRecursion (λ p. X (entry_claim p)) ps → X (entry_claim e)
    entry_closed ps e (by_access x is) h = access_claim x is
    entry_closed ps e (by_need call o d is holds found) h =
        closed T3 (InPoint call.receiver (site_id o) ∷ []) (Entry (site_at F o).row (column_id d)) (t3 call (site_id o) (column_id d) is found)
        (fact_least (in_point call.receiver o) holds, tt)
    entry_closed ps e (by_own v d own) h = closed T4 [] (Entry (row_id v) d) (t4 (row_id v) d own) tt
    entry_closed ps e (by_declared r d c lt by) h =
        closed T5 (Entry (row_id r) (column_id d) ∷ []) (Entry (row_id r) (column_id c)) (t5 (row_id r) (column_id d) (column_id c) by) h
    entry_closed ps e (by_body r v c d own) h =
        closed T6 (Entry (row_id r) d ∷ Entry (row_id v) (column_id c) ∷ []) (Entry (row_id r) (column_id c)) (t6 (row_id r) (row_id v) d (column_id c) own) h
    entry_closed ps e (by_super x is) h = closed T7 [] (Entry x.row x.column) (t7 x is) tt
    entry_closed ps e (by_tie x c is) h = closed T8 (Entry x.upper (column_id c) ∷ []) (Entry x.lower (column_id c)) (t8 x (column_id c) is) h
    entry_closed ps e (by_site v o c member) h = site_claim v o c member h.0
    entry_closed ps e (by_hiding q r d c by) h =
        closed T10 (Entry (row_id q) (column_id d) ∷ Entry (row_id q) (column_id c) ∷ Entry (row_id r) (column_id d) ∷ [])
        (Entry (row_id r) (column_id c)) (t10 (row_id q) (row_id r) (column_id d) (column_id c) by) h
    entry_closed ps e (by_test x c is mark) h = closed T11 [] (Entry x.target (column_id c)) (t11_test x (column_id c) is mark) tt
    entry_closed ps e (by_array s c lt dim mark) h =
        closed T11 [] (Entry (site_at F s).row (column_id c))
        (t11_array (site_at F s) (column_id c) (Contains-get_or F.sites.items s _ lt) dim mark) tt

    -- each entry that holds is in the set
    pub entry_least : (r c : ℕ) → IsEntry F r c → X (Entry (row_id r) (column_id c))
    entry_least r c is = derivable_least (Entails F) (λ e. X (entry_claim e)) entry_closed (r, c) is
