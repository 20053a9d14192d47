-- What a rule gives of claims that hold holds, and so each claim of a trail that passes.
use Rattle.std.proofs.Common.{◌≡◌, ◌≢◌, ℕ, zero, suc, ◌<◌, ◌≤◌, ⊎_elim, List, [], ◌∷◌, length, map, get_or, Some, None, Contains, sym, ap, ◌∙◌, subst, arith}
use Rattle.std.specs.List.{All, AllByRecursion}
use Rattle.std.proofs.lemmas.Bool.{cases_lt}
use Rattle.std.proofs.lemmas.List.{get_or-map}
use Rattle.std.proofs.lemmas.List.Elements.{recursion_from_All}
use Rattle.std.proofs.lemmas.Option.{slice_get_within, slice_get-get_or, get_or_from_slice_get}
use Rattle.kaba_derivations.proofs.Derivations.{derivable_by}
use Rattle.kaba_base.specs.declared.RowId.{RowId}
use Rattle.fact_model.specs.Items.{site_at, cell_at, point_row, site_row, IsColumn}
use Rattle.fact_model.specs.Flowing.{in_point, in_cell, Inclusion, by_new, by_flow, by_load, by_store, by_this, by_argument, by_result, by_cast, IsInRow, by_point, by_cell}
use Rattle.fact_model.specs.Entries.{Entails, by_access, by_need, by_this as by_own, by_declared, by_body, by_super, by_tie, by_site, by_hiding, by_test, by_array, IsEntry}
use Rattle.fact_model.specs.declared.facts.Facts.{Facts}
use Rattle.fact_model.specs.declared.facts.SiteInfo.{SiteInfo}
use Rattle.fact_model.specs.declared.facts.CellInfo.{CellInfo}
use Rattle.fact_model.specs.declared.facts.ColKind.TheVariants.{Dcl, Is}
use Rattle.fact_model.proofs.RangeLemmas.{column-below}
use Rattle.why_table.specs.Rules.{GivesClaim, p1, p2, p3, p4, p5, p6, p7, p8, t1, t2, t3, t4, t5, t6, t7, t8, t9_point, t9_cell, t10, t11_test, t11_array}
use Rattle.why_table.specs.Trails.{ClaimHolds, claim_at, Passes}
use Rattle.why_table.specs.declared.trail.Claim.{Claim}
use Rattle.why_table.specs.declared.trail.Claim.TheVariants.{InPoint}
use Rattle.why_table.specs.declared.trail.WhyRule.{WhyRule}
use Rattle.why_table.specs.declared.trail.WhyRule.TheVariants.{P1, P2, P3, P4, P5, P6, P7, P8, T1, T2, T3, T4, T5, T6, T7, T8, T9, T10, T11}
use Rattle.why_table.specs.declared.trail.WhyStep.{WhyStep}

module _ (F : Facts) where
  -- an entry that a row has through a point or a cell of it
  site_entry : (v : ℕ) (o : ℕ) (c : ℕ) → IsInRow F v o → IsEntry F v c → IsEntry F (site_row F o) c
  site_entry v o c member has = derivable_by (Entails F) ((v, c) ∷ []) (site_row F o, c) (by_site v o c member) (has, tt)

  array_entry : (s : SiteInfo) (c : ℕ) → Contains F.sites.items s → 0 < s.dim → IsColumn F Is s.class.0 c → IsEntry F s.row.0 c
  array_entry s c is dim mark =
      let k = is.0 in
      let e : site_at F k ≡ s =
      get_or_from_slice_get F.sites.items k s (record { row = record { 0 = 0 }; class = record { 0 = 0 }; dim = 0 })
      (slice_get-get_or F.sites.items k s is.1 ∙ ap Some is.2) in
      subst (λ (y : SiteInfo). IsEntry F y.row.0 c) e
      (derivable_by (Entails F) [] (site_row F k, c)
      (by_array k c is.1 (subst (λ (y : SiteInfo). 0 < y.dim) (sym e) dim) (subst (λ (y : SiteInfo). IsColumn F Is y.class.0 c) (sym e) mark)) tt)

  is-dcl : Dcl ≢ Is
  is-dcl e = cc e

  -- what a rule gives of claims that hold holds
  pub gives_holds : (rule : WhyRule) (ps : List Claim) (c : Claim) → GivesClaim F rule ps c → AllByRecursion (ClaimHolds F) ps → ClaimHolds F c
  gives_holds P1 ps c (p1 x is) h = derivable_by (Inclusion F) [] (in_point x.point x.site.0) (by_new x is) tt
  gives_holds P2 ps c (p2 x s is) h = derivable_by (Inclusion F) (in_point x.from s.0 ∷ []) (in_point x.to s.0) (by_flow x s.0 is) h
  gives_holds P3 ps c (p3 x k o s is at) h =
      derivable_by (Inclusion F) (in_point x.base o.0 ∷ in_cell k s.0 ∷ []) (in_point x.into s.0) (by_load x k o.0 s.0 is at) h
  gives_holds P4 ps c (p4 x k o s is at fit) h =
      derivable_by (Inclusion F) (in_point x.base o.0 ∷ in_point x.value s.0 ∷ []) (in_cell k s.0) (by_store x k o.0 s.0 is at fit) h
  gives_holds P5 ps c (p5 call o body runs) h =
      derivable_by (Inclusion F) (in_point call.receiver o.0 ∷ []) (in_point body.this o.0) (by_this call o.0 body runs) h
  gives_holds P6 ps c (p6 call o s body k from to runs a b) h =
      derivable_by (Inclusion F) (in_point call.receiver o.0 ∷ in_point from s.0 ∷ []) (in_point to s.0) (by_argument call o.0 body k from to s.0 runs a b) h
  gives_holds P7 ps c (p7 call o s body from to runs a b) h =
      derivable_by (Inclusion F) (in_point call.receiver o.0 ∷ in_point from s.0 ∷ []) (in_point to s.0) (by_result call o.0 body from to s.0 runs a b) h
  gives_holds P8 ps c (p8 x s is under) h = derivable_by (Inclusion F) (in_point x.from s.0 ∷ []) (in_point x.into s.0) (by_cast x s.0 is under) h
  gives_holds T1 ps c (t1 x is kind) h = derivable_by (Entails F) [] (x.row.0, x.column.0) (by_access x is) tt
  gives_holds T2 ps c (t2 x is kind) h = derivable_by (Entails F) [] (x.row.0, x.column.0) (by_access x is) tt
  gives_holds T3 ps c (t3 call o d is found) h = derivable_by (Entails F) [] (site_row F o.0, d.0) (by_need call o.0 d.0 is h.0 found) tt
  gives_holds T4 ps c (t4 v d e) h = derivable_by (Entails F) [] (v.0, d.0) (by_own v.0 d e) tt
  gives_holds T5 ps c (t5 r d k by) h =
      derivable_by (Entails F) ((r.0, d.0) ∷ []) (r.0, k.0) (by_declared r.0 d.0 k.0 (column-below F k.0 Dcl by.declaration is-dcl) by) h
  gives_holds T6 ps c (t6 r v d k e) h = derivable_by (Entails F) ((r.0, d.0) ∷ (v.0, k.0) ∷ []) (r.0, k.0) (by_body r.0 v.0 k.0 d e) h
  gives_holds T7 ps c (t7 x is) h = derivable_by (Entails F) [] (x.row.0, x.column.0) (by_super x is) tt
  gives_holds T8 ps c (t8 x k is) h = derivable_by (Entails F) ((x.upper.0, k.0) ∷ []) (x.lower.0, k.0) (by_tie x k.0 is) h
  gives_holds T9 ps c (t9_point p v o k e) h =
      let member = by_point p o.0 (slice_get_within F.points.items p v e) h.0 in
      let row : point_row F p ≡ v.0 = ap (λ (r : RowId). r.0) (get_or_from_slice_get F.points.items p v (record { 0 = 0 }) e) in
      site_entry v.0 o.0 k.0 (subst (λ r. IsInRow F r o.0) row member) h.1.0
  gives_holds T9 ps c (t9_cell n x o k e) h =
      let member = by_cell n o.0 (slice_get_within F.cells.items n x e) h.0 in
      let row : (cell_at F n).row.0 ≡ x.row.0 =
      ap (λ (y : CellInfo). y.row.0)
      (get_or_from_slice_get F.cells.items n x (record { site = record { 0 = 0 }; column = None; row = record { 0 = 0 } }) e) in
      site_entry x.row.0 o.0 k.0 (subst (λ r. IsInRow F r o.0) row member) h.1.0
  gives_holds T10 ps c (t10 q r d k by) h =
      derivable_by (Entails F) ((q.0, d.0) ∷ (q.0, k.0) ∷ (r.0, d.0) ∷ []) (r.0, k.0) (by_hiding q.0 r.0 d.0 k.0 by) h
  gives_holds T11 ps c (t11_test x k is mark) h = derivable_by (Entails F) [] (x.target.0, k.0) (by_test x k.0 is mark) tt
  gives_holds T11 ps c (t11_array s k is dim mark) h = array_entry s k.0 is dim mark

  -- what holds of each number below n, of numbers that are
  each_named : (P : Claim → Type 0) (f : ℕ → Claim) (n : ℕ) (js : List ℕ) → ((j : ℕ) → j < n → P (f j)) → AllByRecursion (λ j. j < n) js
      → AllByRecursion P (map f js)
  each_named P f n [] h k = tt
  each_named P f n (j ∷ js) h k = (h j k.0, each_named P f n js h k.1)

  pub step_claim : (steps : List WhyStep) (k : ℕ) (d : WhyStep) → k < length steps → claim_at steps k ≡ (get_or steps k d).claim
  step_claim steps k d lt = get_or-map (λ (s : WhyStep). s.claim) steps k d (InPoint 0 (record { 0 = 0 })) lt

  -- the claims of the first n steps of a trail that passes hold
  holds_below : (steps : List WhyStep) (d : WhyStep) → Passes F steps → (n : ℕ) → n ≤ length steps → (j : ℕ) → j < n → ClaimHolds F (claim_at steps j)
  holds_below steps d passes zero le j lt = absurd (omega (arith, lt))
  holds_below steps d passes (suc n) le j lt =
      let in_it : n < length steps = omega (arith, le) in
      let before : (i : ℕ) → i < n → ClaimHolds F (claim_at steps i) = holds_below steps d passes n (omega (arith, le)) in
      let step = passes n d in_it in
      let own = gives_holds (get_or steps n d).rule (map (claim_at steps) (get_or steps n d).from.items) (get_or steps n d).claim step.given
      (each_named (ClaimHolds F) (claim_at steps) n (get_or steps n d).from.items before
      (recursion_from_All (λ i. i < n) (get_or steps n d).from.items step.earlier)) in
      ⊎_elim (before j)
      (λ past. let e : n ≡ j = omega (arith, past, lt) in
      subst (λ i. ClaimHolds F (claim_at steps i)) e (subst (ClaimHolds F) (sym (step_claim steps n d in_it)) own))
      (cases_lt j n)

  -- each claim of a trail that passes holds
  pub all_hold : (steps : List WhyStep) → Passes F steps → All (λ s. ClaimHolds F s.claim) steps
  all_hold steps passes k d lt =
      subst (ClaimHolds F) (step_claim steps k d lt) (holds_below steps d passes (length steps) (omega arith) k lt)
