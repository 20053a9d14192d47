-- The tests of the rules T1 to T11 are exact.
use Rattle.std.proofs.Common.{◌≡◌, ◌&&◌, nat_lt, ⊎_elim, true, [], ◌∷◌, refl, sym, subst}
use Rattle.std.specs.List.{list_any}
use Rattle.std.proofs.lemmas.Bool.{and_parts, or_cases, or_left, or_right, ltb-true, lt-ltb, false≢true}
use Rattle.kaba_base.specs.declared.RowId.{RowId}
use Rattle.kaba_base.specs.declared.ColId.{ColId}
use Rattle.fact_model.specs.Items.{site_at, column_kind}
use Rattle.fact_model.specs.InRange.{InRange}
use Rattle.fact_model.specs.declared.facts.Facts.{Facts}
use Rattle.fact_model.specs.declared.facts.ColKind.TheVariants.{Fld, Dcl}
use Rattle.fact_model.specs.declared.facts.SuperInfo.{SuperInfo}
use Rattle.why_table.specs.Rules.{GivesT1, t1, GivesT2, t2, GivesT3, t3, GivesT4, t4, GivesT5, t5, GivesT6, t6, GivesT7, t7, GivesT8, t8, GivesT9, t9_point, t9_cell, GivesT10, t10, GivesT11, t11_test, t11_array}
use Rattle.why_table.specs.Tests.{is_same, site_of, row_of, column_of, is_fld, is_dcl, is_found, is_mark, is_declared_by, hides, is_point_row, is_cell_row, is_place, is_access, is_accessed, test_t1, test_t2, is_need, test_t3, is_this, test_t4, test_t5, test_t6, test_t7, is_tie, test_t8, test_t9, test_t10, is_test, is_array, test_t11}
use Rattle.why_table.proofs.ClaimLemmas.{same_says, same_self, both, some_of, any_of, change_none, change_one, change_two, change_three}
use Rattle.why_table.proofs.FactLemmas.{fld_says, dcl_says, found_says, found_same, mark_says, mark_same, declared_says, declared_same, hides_says, hides_same, point_row_says, point_row_same, cell_row_says, cell_row_same, this_says, this_same}
use Rattle.why_table.specs.declared.trail.Claim.{Claim}
use Rattle.why_table.specs.declared.trail.Claim.TheVariants.{InPoint, InCell, Entry}

module _ (F : Facts) where
  -- T1 and T2
  pub says_t1 : (c : Claim) → test_t1 F c ≡ true → GivesT1 F [] c
  says_t1 c h =
      let i = and_parts (is_fld (column_kind F (column_of c).0)) (is_accessed F c) h in
      let a = some_of (λ x. is_access c x) F.accesses.items i.1 in
      let e = same_says c (Entry a.x.row a.x.column) a.holds in
      change_none (GivesT1 F) c (Entry a.x.row a.x.column) a.holds
      (t1 a.x a.listed (subst (λ y. column_kind F (column_of y).0 ≡ Fld) e (fld_says (column_kind F (column_of c).0) i.0)))

  pub same_t1 : (c : Claim) → GivesT1 F [] c → test_t1 F c ≡ true
  same_t1 c (t1 x is kind) =
      both (is_fld (column_kind F x.column.0)) (is_accessed F (Entry x.row x.column)) (subst (λ k. is_fld k ≡ true) (sym kind) refl)
      (any_of (λ y. is_access (Entry x.row x.column) y) F.accesses.items x is (same_self (Entry x.row x.column)))

  pub says_t2 : (c : Claim) → test_t2 F c ≡ true → GivesT2 F [] c
  says_t2 c h =
      let i = and_parts (is_dcl (column_kind F (column_of c).0)) (is_accessed F c) h in
      let a = some_of (λ x. is_access c x) F.accesses.items i.1 in
      let e = same_says c (Entry a.x.row a.x.column) a.holds in
      change_none (GivesT2 F) c (Entry a.x.row a.x.column) a.holds
      (t2 a.x a.listed (subst (λ y. column_kind F (column_of y).0 ≡ Dcl) e (dcl_says (column_kind F (column_of c).0) i.0)))

  pub same_t2 : (c : Claim) → GivesT2 F [] c → test_t2 F c ≡ true
  same_t2 c (t2 x is kind) =
      both (is_dcl (column_kind F x.column.0)) (is_accessed F (Entry x.row x.column)) (subst (λ k. is_dcl k ≡ true) (sym kind) refl)
      (any_of (λ y. is_access (Entry x.row x.column) y) F.accesses.items x is (same_self (Entry x.row x.column)))

  -- T3
  pub says_t3 : (p c : Claim) → test_t3 F p c ≡ true → GivesT3 F (p ∷ []) c
  says_t3 p c h =
      let o = site_of p in
      let d = column_of c in
      let C = Entry (site_at F o.0).row d in
      let i = and_parts (is_same c C) (list_any (λ call. is_need F p c call) F.calls.items) h in
      let a = some_of (λ call. is_need F p c call) F.calls.items i.1 in
      let j = and_parts (is_same p (InPoint a.x.receiver o)) (is_found F o a.x.slot d) a.holds in
      change_one (GivesT3 F) p (InPoint a.x.receiver o) c C j.0 i.0 (t3 a.x o d a.listed (found_says F o a.x.slot d j.1))

  pub same_t3 : (p c : Claim) → GivesT3 F (p ∷ []) c → test_t3 F p c ≡ true
  same_t3 p c (t3 call o d is found) =
      let P = InPoint call.receiver o in
      let C = Entry (site_at F o.0).row d in
      both (is_same C C) (list_any (λ y. is_need F P C y) F.calls.items) (same_self C)
      (any_of (λ y. is_need F (InPoint call.receiver o) (Entry (site_at F o.0).row d) y) F.calls.items call is
      (both (is_same P P) (is_found F o call.slot d) (same_self P) (found_same F o call.slot d found)))

  -- T4
  pub says_t4 : (c : Claim) → test_t4 F c ≡ true → GivesT4 F [] c
  says_t4 c h =
      let C = Entry (row_of c) (column_of c) in
      let i = and_parts (is_same c C) (is_this F (row_of c) (column_of c)) h in
      change_none (GivesT4 F) c C i.0 (t4 (row_of c) (column_of c) (this_says F (row_of c) (column_of c) i.1))

  pub same_t4 : (c : Claim) → GivesT4 F [] c → test_t4 F c ≡ true
  same_t4 c (t4 v d e) = both (is_same (Entry v d) (Entry v d)) (is_this F v d) (same_self (Entry v d)) (this_same F v d e)

  -- T5
  pub says_t5 : (p c : Claim) → test_t5 F p c ≡ true → GivesT5 F (p ∷ []) c
  says_t5 p c h =
      let r = row_of c in
      let d = column_of p in
      let k = column_of c in
      let i = and_parts (is_same p (Entry r d)) (is_same c (Entry r k) && is_declared_by F d k) h in
      let j = and_parts (is_same c (Entry r k)) (is_declared_by F d k) i.1 in
      change_one (GivesT5 F) p (Entry r d) c (Entry r k) i.0 j.0 (t5 r d k (declared_says F d k j.1))

  pub same_t5 : (p c : Claim) → GivesT5 F (p ∷ []) c → test_t5 F p c ≡ true
  same_t5 p c (t5 r d k by) =
      let P = Entry r d in
      let C = Entry r k in
      both (is_same P P) (is_same C C && is_declared_by F d k) (same_self P) (both (is_same C C) (is_declared_by F d k) (same_self C) (declared_same F d k by))

  -- T6
  pub says_t6 : (p q c : Claim) → test_t6 F p q c ≡ true → GivesT6 F (p ∷ q ∷ []) c
  says_t6 p q c h =
      let r = row_of c in
      let v = row_of q in
      let d = column_of p in
      let k = column_of c in
      let i = and_parts (is_same p (Entry r d)) (is_same q (Entry v k) && (is_same c (Entry r k) && is_this F v d)) h in
      let j = and_parts (is_same q (Entry v k)) (is_same c (Entry r k) && is_this F v d) i.1 in
      let l = and_parts (is_same c (Entry r k)) (is_this F v d) j.1 in
      change_two (GivesT6 F) p (Entry r d) q (Entry v k) c (Entry r k) i.0 j.0 l.0 (t6 r v d k (this_says F v d l.1))

  pub same_t6 : (p q c : Claim) → GivesT6 F (p ∷ q ∷ []) c → test_t6 F p q c ≡ true
  same_t6 p q c (t6 r v d k e) =
      let P = Entry r d in
      let Q = Entry v k in
      let C = Entry r k in
      both (is_same P P) (is_same Q Q && (is_same C C && is_this F v d)) (same_self P)
      (both (is_same Q Q) (is_same C C && is_this F v d) (same_self Q) (both (is_same C C) (is_this F v d) (same_self C) (this_same F v d e)))

  -- T7
  pub says_t7 : (c : Claim) → test_t7 F c ≡ true → GivesT7 F [] c
  says_t7 c h =
      let a = some_of (λ (x : SuperInfo). is_same c (Entry x.row x.column)) F.supers.items h in
      change_none (GivesT7 F) c (Entry a.x.row a.x.column) a.holds (t7 a.x a.listed)

  pub same_t7 : (c : Claim) → GivesT7 F [] c → test_t7 F c ≡ true
  same_t7 c (t7 x is) =
      any_of (λ (y : SuperInfo). is_same (Entry x.row x.column) (Entry y.row y.column)) F.supers.items x is (same_self (Entry x.row x.column))

  -- T8
  pub says_t8 : (p c : Claim) → test_t8 F p c ≡ true → GivesT8 F (p ∷ []) c
  says_t8 p c h =
      let k = column_of c in
      let a = some_of (λ x. is_tie p c x) F.ties.items h in
      let i = and_parts (is_same p (Entry a.x.upper k)) (is_same c (Entry a.x.lower k)) a.holds in
      change_one (GivesT8 F) p (Entry a.x.upper k) c (Entry a.x.lower k) i.0 i.1 (t8 a.x k a.listed)

  pub same_t8 : (p c : Claim) → GivesT8 F (p ∷ []) c → test_t8 F p c ≡ true
  same_t8 p c (t8 x k is) =
      let P = Entry x.upper k in
      let C = Entry x.lower k in
      any_of (λ y. is_tie (Entry x.upper k) (Entry x.lower k) y) F.ties.items x is (both (is_same P P) (is_same C C) (same_self P) (same_self C))

  -- T9
  placed_t9 : (p : Claim) (v : RowId) (k : ColId) → is_place F p v ≡ true → GivesT9 F (p ∷ Entry v k ∷ []) (Entry (site_at F (site_of p).0).row k)
  placed_t9 (InPoint p o) v k h = t9_point p v o k (point_row_says F p v h)
  placed_t9 (InCell n o) v k h =
      let at = cell_row_says F n v h in
      subst (λ (y : RowId). GivesT9 F (InCell n o ∷ Entry y k ∷ []) (Entry (site_at F o.0).row k)) at.row (t9_cell n at.x o k at.at)
  placed_t9 (Entry r c) v k h = absurd (false≢true h)

  pub says_t9 : (p q c : Claim) → test_t9 F p q c ≡ true → GivesT9 F (p ∷ q ∷ []) c
  says_t9 p q c h =
      let v = row_of q in
      let k = column_of c in
      let C = Entry (site_at F (site_of p).0).row k in
      let i = and_parts (is_same q (Entry v k)) (is_same c C && is_place F p v) h in
      let j = and_parts (is_same c C) (is_place F p v) i.1 in
      change_two (GivesT9 F) p p q (Entry v k) c C (same_self p) i.0 j.0 (placed_t9 p v k j.1)

  pub same_t9 : (p q c : Claim) → GivesT9 F (p ∷ q ∷ []) c → test_t9 F p q c ≡ true
  same_t9 p q c (t9_point n v o k e) =
      let Q = Entry v k in
      let C = Entry (site_at F o.0).row k in
      both (is_same Q Q) (is_same C C && is_point_row F n v) (same_self Q)
      (both (is_same C C) (is_point_row F n v) (same_self C) (point_row_same F n v e))
  same_t9 p q c (t9_cell n x o k e) =
      let Q = Entry x.row k in
      let C = Entry (site_at F o.0).row k in
      both (is_same Q Q) (is_same C C && is_cell_row F n x.row) (same_self Q)
      (both (is_same C C) (is_cell_row F n x.row) (same_self C) (cell_row_same F n x e))

  -- T10
  pub says_t10 : InRange F → (p q r c : Claim) → test_t10 F p q r c ≡ true → GivesT10 F (p ∷ q ∷ r ∷ []) c
  says_t10 R p q r c h =
      let v = row_of p in
      let w = row_of c in
      let d = column_of r in
      let k = column_of c in
      let P = is_same p (Entry v d) in
      let Q = is_same q (Entry v k) in
      let S = is_same r (Entry w d) in
      let C = is_same c (Entry w k) in
      let i = and_parts P (Q && (S && (C && hides F d k))) h in
      let j = and_parts Q (S && (C && hides F d k)) i.1 in
      let l = and_parts S (C && hides F d k) j.1 in
      let m = and_parts C (hides F d k) l.1 in
      change_three (GivesT10 F) p (Entry v d) q (Entry v k) r (Entry w d) c (Entry w k) i.0 j.0 l.0 m.0 (t10 v w d k (hides_says F R d k m.1))

  pub same_t10 : InRange F → (p q r c : Claim) → GivesT10 F (p ∷ q ∷ r ∷ []) c → test_t10 F p q r c ≡ true
  same_t10 R p q r c (t10 v w d k by) =
      let P = Entry v d in
      let Q = Entry v k in
      let S = Entry w d in
      let C = Entry w k in
      let H = hides F d k in
      both (is_same P P) (is_same Q Q && (is_same S S && (is_same C C && H))) (same_self P)
      (both (is_same Q Q) (is_same S S && (is_same C C && H)) (same_self Q)
      (both (is_same S S) (is_same C C && H) (same_self S)
      (both (is_same C C) H (same_self C) (hides_same F R d k by))))

  -- T11
  says_test : (c : Claim) → list_any (λ x. is_test F c x) F.tests.items ≡ true → GivesT11 F [] c
  says_test c h =
      let k = column_of c in
      let a = some_of (λ x. is_test F c x) F.tests.items h in
      let i = and_parts (is_same c (Entry a.x.target k)) (is_mark F a.x.class.0 k) a.holds in
      change_none (GivesT11 F) c (Entry a.x.target k) i.0 (t11_test a.x k a.listed (mark_says F a.x.class.0 k i.1))

  says_array : (c : Claim) → list_any (λ s. is_array F c s) F.sites.items ≡ true → GivesT11 F [] c
  says_array c h =
      let k = column_of c in
      let a = some_of (λ s. is_array F c s) F.sites.items h in
      let i = and_parts (is_same c (Entry a.x.row k)) (nat_lt 0 a.x.dim && is_mark F a.x.class.0 k) a.holds in
      let j = and_parts (nat_lt 0 a.x.dim) (is_mark F a.x.class.0 k) i.1 in
      change_none (GivesT11 F) c (Entry a.x.row k) i.0 (t11_array a.x k a.listed (ltb-true 0 a.x.dim j.0) (mark_says F a.x.class.0 k j.1))

  pub says_t11 : (c : Claim) → test_t11 F c ≡ true → GivesT11 F [] c
  says_t11 c h =
      ⊎_elim (says_test c) (says_array c) (or_cases (list_any (λ x. is_test F c x) F.tests.items) (list_any (λ s. is_array F c s) F.sites.items) h)

  pub same_t11 : (c : Claim) → GivesT11 F [] c → test_t11 F c ≡ true
  same_t11 c (t11_test x k is mark) =
      let C = Entry x.target k in
      or_left (list_any (λ y. is_test F C y) F.tests.items) (list_any (λ s. is_array F C s) F.sites.items)
      (any_of (λ y. is_test F (Entry x.target k) y) F.tests.items x is (both (is_same C C) (is_mark F x.class.0 k) (same_self C)
      (mark_same F x.class.0 k mark)))
  same_t11 c (t11_array s k is dim mark) =
      let C = Entry s.row k in
      or_right (list_any (λ y. is_test F C y) F.tests.items) (list_any (λ y. is_array F C y) F.sites.items)
      (any_of (λ y. is_array F (Entry s.row k) y) F.sites.items s is
      (both (is_same C C) (nat_lt 0 s.dim && is_mark F s.class.0 k) (same_self C)
      (both (nat_lt 0 s.dim) (is_mark F s.class.0 k) (lt-ltb 0 s.dim dim) (mark_same F s.class.0 k mark))))
