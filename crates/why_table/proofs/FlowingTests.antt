-- The tests of the rules P1 to P8 are exact.
use Rattle.std.proofs.Common.{◌≡◌, ◌&&◌, true, [], ◌∷◌}
use Rattle.std.specs.List.{list_any}
use Rattle.std.proofs.lemmas.Bool.{and_parts}
use Rattle.fact_model.specs.Items.{site_class}
use Rattle.fact_model.specs.Classes.{below, is_slot}
use Rattle.fact_model.specs.InRange.{InRange}
use Rattle.fact_model.specs.declared.facts.Facts.{Facts}
use Rattle.fact_model.specs.declared.facts.NewInfo.{NewInfo}
use Rattle.fact_model.specs.declared.facts.FlowInfo.{FlowInfo}
use Rattle.fact_model.proofs.ClassLemmas.{slot_says, below-exact}
use Rattle.why_table.specs.Rules.{GivesP1, p1, GivesP2, p2, GivesP3, p3, GivesP4, p4, GivesP5, p5, GivesP6, p6, GivesP7, p7, GivesP8, p8}
use Rattle.why_table.specs.Tests.{is_same, number_of, site_of, is_cell, fits, is_found, are_joined, test_p1, test_p2, is_load, test_p3, is_store, test_p4, is_this_flow, is_this_call, test_p5, is_argument_flow, is_argument_call, test_p6, is_result_flow, is_result_call, test_p7, is_cast, test_p8}
use Rattle.why_table.proofs.ClaimLemmas.{same_self, both, some_of, any_of, change_none, change_one, change_two}
use Rattle.why_table.proofs.FactLemmas.{slot_same, cell_says, cell_same, fits_says, fits_same, found_says, found_same, joined_says, joined_same}
use Rattle.why_table.specs.declared.trail.Claim.{Claim}
use Rattle.why_table.specs.declared.trail.Claim.TheVariants.{InPoint, InCell}

module _ (F : Facts) where
  -- P1
  pub says_p1 : (c : Claim) → test_p1 F c ≡ true → GivesP1 F [] c
  says_p1 c h =
      let a = some_of (λ (x : NewInfo). is_same c (InPoint x.point x.site)) F.news.items h in
      change_none (GivesP1 F) c (InPoint a.x.point a.x.site) a.holds (p1 a.x a.listed)

  pub same_p1 : (c : Claim) → GivesP1 F [] c → test_p1 F c ≡ true
  same_p1 c (p1 x is) = any_of (λ (y : NewInfo). is_same (InPoint x.point x.site) (InPoint y.point y.site)) F.news.items x is
      (same_self (InPoint x.point x.site))

  -- P2
  pub says_p2 : (p c : Claim) → test_p2 F p c ≡ true → GivesP2 F (p ∷ []) c
  says_p2 p c h =
      let s = site_of c in
      let a = some_of (λ (x : FlowInfo). is_same p (InPoint x.from (site_of c)) && is_same c (InPoint x.to (site_of c))) F.flows.items h in
      let k = and_parts (is_same p (InPoint a.x.from s)) (is_same c (InPoint a.x.to s)) a.holds in
      change_one (GivesP2 F) p (InPoint a.x.from s) c (InPoint a.x.to s) k.0 k.1 (p2 a.x s a.listed)

  pub same_p2 : (p c : Claim) → GivesP2 F (p ∷ []) c → test_p2 F p c ≡ true
  same_p2 p c (p2 x s is) =
      any_of (λ (y : FlowInfo). is_same (InPoint x.from s) (InPoint y.from s) && is_same (InPoint x.to s) (InPoint y.to s)) F.flows.items x is
      (both (is_same (InPoint x.from s) (InPoint x.from s)) (is_same (InPoint x.to s) (InPoint x.to s)) (same_self (InPoint x.from s))
      (same_self (InPoint x.to s)))

  -- P3
  pub says_p3 : (p q c : Claim) → test_p3 F p q c ≡ true → GivesP3 F (p ∷ q ∷ []) c
  says_p3 p q c h =
      let a = some_of (λ x. is_load F p q c x) F.loads.items h in
      let o = site_of p in
      let s = site_of c in
      let n = number_of q in
      let base = is_same p (InPoint a.x.base o) in
      let cell = is_same q (InCell n s) in
      let into = is_same c (InPoint a.x.into s) in
      let at = is_cell F n o a.x.column in
      let i = and_parts base (cell && (into && at)) a.holds in
      let j = and_parts cell (into && at) i.1 in
      let k = and_parts into at j.1 in
      change_two (GivesP3 F) p (InPoint a.x.base o) q (InCell n s) c (InPoint a.x.into s) i.0 j.0 k.0
      (p3 a.x n o s a.listed (cell_says F n o a.x.column k.1))

  pub same_p3 : (p q c : Claim) → GivesP3 F (p ∷ q ∷ []) c → test_p3 F p q c ≡ true
  same_p3 p q c (p3 x n o s is at) =
      let P = InPoint x.base o in
      let Q = InCell n s in
      let C = InPoint x.into s in
      any_of (λ y. is_load F (InPoint x.base o) (InCell n s) (InPoint x.into s) y) F.loads.items x is
      (both (is_same P P) (is_same Q Q && (is_same C C && is_cell F n o x.column)) (same_self P)
      (both (is_same Q Q) (is_same C C && is_cell F n o x.column) (same_self Q)
      (both (is_same C C) (is_cell F n o x.column) (same_self C) (cell_same F n o x.column at))))

  -- P4
  pub says_p4 : InRange F → (p q c : Claim) → test_p4 F p q c ≡ true → GivesP4 F (p ∷ q ∷ []) c
  says_p4 R p q c h =
      let a = some_of (λ x. is_store F p q c x) F.stores.items h in
      let o = site_of p in
      let s = site_of c in
      let n = number_of c in
      let base = is_same p (InPoint a.x.base o) in
      let value = is_same q (InPoint a.x.value s) in
      let cell = is_same c (InCell n s) in
      let at = is_cell F n o a.x.column in
      let fit = fits F a.x.column s o in
      let i = and_parts base (value && (cell && (at && fit))) a.holds in
      let j = and_parts value (cell && (at && fit)) i.1 in
      let k = and_parts cell (at && fit) j.1 in
      let l = and_parts at fit k.1 in
      change_two (GivesP4 F) p (InPoint a.x.base o) q (InPoint a.x.value s) c (InCell n s) i.0 j.0 k.0
      (p4 a.x n o s a.listed (cell_says F n o a.x.column l.0) (fits_says F R a.x.column s o l.1))

  pub same_p4 : InRange F → (p q c : Claim) → GivesP4 F (p ∷ q ∷ []) c → test_p4 F p q c ≡ true
  same_p4 R p q c (p4 x n o s is at fit) =
      let P = InPoint x.base o in
      let Q = InPoint x.value s in
      let C = InCell n s in
      let A = is_cell F n o x.column in
      let B = fits F x.column s o in
      any_of (λ y. is_store F (InPoint x.base o) (InPoint x.value s) (InCell n s) y) F.stores.items x is
      (both (is_same P P) (is_same Q Q && (is_same C C && (A && B))) (same_self P)
      (both (is_same Q Q) (is_same C C && (A && B)) (same_self Q)
      (both (is_same C C) (A && B) (same_self C)
      (both A B (cell_same F n o x.column at) (fits_same F R x.column s o fit)))))

  -- P5
  pub says_p5 : (p c : Claim) → test_p5 F p c ≡ true → GivesP5 F (p ∷ []) c
  says_p5 p c h =
      let o = site_of p in
      let a = some_of (λ call. is_this_call F p c call) F.calls.items h in
      let i = and_parts (is_same p (InPoint a.x.receiver o)) (list_any (λ body. is_this_flow F p a.x c body) F.bodies.items) a.holds in
      let b = some_of (λ body. is_this_flow F p a.x c body) F.bodies.items i.1 in
      let j = and_parts (is_same c (InPoint b.x.this o)) (is_found F o a.x.slot b.x.column) b.holds in
      change_one (GivesP5 F) p (InPoint a.x.receiver o) c (InPoint b.x.this o) i.0 j.0
      (p5 a.x o b.x (record { called = a.listed; listed = b.listed; found = found_says F o a.x.slot b.x.column j.1 }))

  pub same_p5 : (p c : Claim) → GivesP5 F (p ∷ []) c → test_p5 F p c ≡ true
  same_p5 p c (p5 call o body runs) =
      let P = InPoint call.receiver o in
      let C = InPoint body.this o in
      any_of (λ y. is_this_call F (InPoint call.receiver o) (InPoint body.this o) y) F.calls.items call runs.called
      (both (is_same P P) (list_any (λ b. is_this_flow F P call C b) F.bodies.items) (same_self P)
      (any_of (λ b. is_this_flow F (InPoint call.receiver o) call (InPoint body.this o) b) F.bodies.items body runs.listed
      (both (is_same C C) (is_found F o call.slot body.column) (same_self C) (found_same F o call.slot body.column runs.found))))

  -- P6
  pub says_p6 : (p q c : Claim) → test_p6 F p q c ≡ true → GivesP6 F (p ∷ q ∷ []) c
  says_p6 p q c h =
      let o = site_of p in
      let s = site_of c in
      let from = number_of q in
      let to = number_of c in
      let i = and_parts (is_same q (InPoint from s)) (is_same c (InPoint to s) && list_any (λ call. is_argument_call F p q c call) F.calls.items) h in
      let j = and_parts (is_same c (InPoint to s)) (list_any (λ call. is_argument_call F p q c call) F.calls.items) i.1 in
      let a = some_of (λ call. is_argument_call F p q c call) F.calls.items j.1 in
      let k = and_parts (is_same p (InPoint a.x.receiver o)) (list_any (λ body. is_argument_flow F p a.x q c body) F.bodies.items) a.holds in
      let b = some_of (λ body. is_argument_flow F p a.x q c body) F.bodies.items k.1 in
      let l = and_parts (are_joined a.x.args.items b.x.params.items from to) (is_found F o a.x.slot b.x.column) b.holds in
      let m = joined_says a.x.args.items b.x.params.items from to l.0 in
      change_two (GivesP6 F) p (InPoint a.x.receiver o) q (InPoint from s) c (InPoint to s) k.0 i.0 j.0
      (p6 a.x o s b.x m.k from to (record { called = a.listed; listed = b.listed; found = found_says F o a.x.slot b.x.column l.1 }) m.argument m.parameter)

  pub same_p6 : (p q c : Claim) → GivesP6 F (p ∷ q ∷ []) c → test_p6 F p q c ≡ true
  same_p6 p q c (p6 call o s body k from to runs one two) =
      let P = InPoint call.receiver o in
      let Q = InPoint from s in
      let C = InPoint to s in
      let B = list_any (λ b. is_argument_flow F (InPoint call.receiver o) call (InPoint from s) (InPoint to s) b) F.bodies.items in
      let A = list_any (λ y. is_argument_call F (InPoint call.receiver o) (InPoint from s) (InPoint to s) y) F.calls.items in
      both (is_same Q Q) (is_same C C && A) (same_self Q)
      (both (is_same C C) A (same_self C)
      (any_of (λ y. is_argument_call F (InPoint call.receiver o) (InPoint from s) (InPoint to s) y) F.calls.items call runs.called
      (both (is_same P P) B (same_self P)
      (any_of (λ b. is_argument_flow F (InPoint call.receiver o) call (InPoint from s) (InPoint to s) b) F.bodies.items body runs.listed
      (both (are_joined call.args.items body.params.items from to) (is_found F o call.slot body.column)
      (joined_same call.args.items body.params.items k from to one two) (found_same F o call.slot body.column runs.found))))))

  -- P7
  pub says_p7 : (p q c : Claim) → test_p7 F p q c ≡ true → GivesP7 F (p ∷ q ∷ []) c
  says_p7 p q c h =
      let o = site_of p in
      let s = site_of c in
      let from = number_of q in
      let to = number_of c in
      let i = and_parts (is_same q (InPoint from s)) (is_same c (InPoint to s) && list_any (λ call. is_result_call F p q c call) F.calls.items) h in
      let j = and_parts (is_same c (InPoint to s)) (list_any (λ call. is_result_call F p q c call) F.calls.items) i.1 in
      let a = some_of (λ call. is_result_call F p q c call) F.calls.items j.1 in
      let any = list_any (λ body. is_result_flow F p a.x q body) F.bodies.items in
      let k = and_parts (is_same p (InPoint a.x.receiver o)) (is_slot a.x.result to && any) a.holds in
      let l = and_parts (is_slot a.x.result to) any k.1 in
      let b = some_of (λ body. is_result_flow F p a.x q body) F.bodies.items l.1 in
      let m = and_parts (is_slot b.x.result from) (is_found F o a.x.slot b.x.column) b.holds in
      change_two (GivesP7 F) p (InPoint a.x.receiver o) q (InPoint from s) c (InPoint to s) k.0 i.0 j.0
      (p7 a.x o s b.x from to (record { called = a.listed; listed = b.listed; found = found_says F o a.x.slot b.x.column m.1 })
      (slot_says b.x.result from m.0) (slot_says a.x.result to l.0))

  pub same_p7 : (p q c : Claim) → GivesP7 F (p ∷ q ∷ []) c → test_p7 F p q c ≡ true
  same_p7 p q c (p7 call o s body from to runs one two) =
      let P = InPoint call.receiver o in
      let Q = InPoint from s in
      let C = InPoint to s in
      let B = list_any (λ b. is_result_flow F (InPoint call.receiver o) call (InPoint from s) b) F.bodies.items in
      let A = list_any (λ y. is_result_call F (InPoint call.receiver o) (InPoint from s) (InPoint to s) y) F.calls.items in
      both (is_same Q Q) (is_same C C && A) (same_self Q)
      (both (is_same C C) A (same_self C)
      (any_of (λ y. is_result_call F (InPoint call.receiver o) (InPoint from s) (InPoint to s) y) F.calls.items call runs.called
      (both (is_same P P) (is_slot call.result to && B) (same_self P)
      (both (is_slot call.result to) B (slot_same call.result to two)
      (any_of (λ b. is_result_flow F (InPoint call.receiver o) call (InPoint from s) b) F.bodies.items body runs.listed
      (both (is_slot body.result from) (is_found F o call.slot body.column) (slot_same body.result from one)
      (found_same F o call.slot body.column runs.found)))))))

  -- P8
  pub says_p8 : InRange F → (p c : Claim) → test_p8 F p c ≡ true → GivesP8 F (p ∷ []) c
  says_p8 R p c h =
      let s = site_of c in
      let a = some_of (λ x. is_cast F p c x) F.casts.items h in
      let under = below F (site_class F s.0) a.x.class.0 in
      let i = and_parts (is_same p (InPoint a.x.from s)) (is_same c (InPoint a.x.into s) && under) a.holds in
      let j = and_parts (is_same c (InPoint a.x.into s)) under i.1 in
      change_one (GivesP8 F) p (InPoint a.x.from s) c (InPoint a.x.into s) i.0 j.0
      (p8 a.x s a.listed ((below-exact F R.acyclic (site_class F s.0) a.x.class.0).0 j.1))

  pub same_p8 : InRange F → (p c : Claim) → GivesP8 F (p ∷ []) c → test_p8 F p c ≡ true
  same_p8 R p c (p8 x s is under) =
      let P = InPoint x.from s in
      let C = InPoint x.into s in
      let U = below F (site_class F s.0) x.class.0 in
      any_of (λ y. is_cast F (InPoint x.from s) (InPoint x.into s) y) F.casts.items x is
      (both (is_same P P) (is_same C C && U) (same_self P)
      (both (is_same C C) U (same_self C) ((below-exact F R.acyclic (site_class F s.0) x.class.0).1 under)))
