-- What is asked for holds.
use Rattle.std.proofs.Common.{◌≡◌, ℕ, ◌<◌, length, Option, Some, None, Contains, sym, subst, arith}
use Rattle.std.specs.List.{All}
use Rattle.std.specs.Option.{IfSome}
use Rattle.std.proofs.lemmas.List.Elements.{All-contains}
use Rattle.kaba_base.specs.declared.ClassId.{ClassId}
use Rattle.kaba_base.specs.declared.ColId.{ColId}
use Rattle.fact_model.specs.InRange.{InRange, IsPoint, IsSite, IsClass, IsCol}
use Rattle.fact_model.specs.Flowing.{in_point, FitsStore, CallRuns, point_at, Holds}
use Rattle.fact_model.specs.declared.facts.Facts.{Facts}
use Rattle.fact_model.specs.declared.facts.NewInfo.{NewInfo}
use Rattle.fact_model.specs.declared.facts.FlowInfo.{FlowInfo}
use Rattle.fact_model.specs.declared.facts.LoadInfo.{LoadInfo}
use Rattle.fact_model.specs.declared.facts.StoreInfo.{StoreInfo}
use Rattle.fact_model.specs.declared.facts.CastInfo.{CastInfo}
use Rattle.fact_model.specs.declared.facts.CallInfo.{CallInfo}
use Rattle.fact_model.specs.declared.facts.BodyInfo.{BodyInfo}
use Rattle.points_to.specs.Sound.{node_count, InNode}
use Rattle.points_to.specs.Work.{PassesClass, IsEdge, IsSiteTold, IsReadIn, IsWrite, IsRun, slot_of, body_node, IsBodyNode, IsMemberSet, wanted, between}
use Rattle.points_to.specs.declared.work.Member.{Member}
use Rattle.points_to.specs.declared.work.Member.TheVariants.{Field, This, Parameter, Returned}
use Rattle.points_to.proofs.NodeLemmas.{point_node, node_point, cell_node, node_cell}
use Rattle.points_to.proofs.RuleLemmas.{new_holds, flow_holds, load_holds, store_holds, cast_holds, this_holds, argument_holds, result_holds, points_of}

module _ (F : Facts) where
  -- from one point into another
  point_edge : (p q : ℕ) (class : Option ClassId) → p < length F.points.items → q < length F.points.items → IfSome class (IsClass F)
      → ((s : ℕ) → PassesClass F class s → Holds F (in_point p s) → Holds F (in_point q s)) → IsEdge F (record { from = p; to = q; class = class })
  point_edge p q class lp lq is f = record {
    from = omega (arith, lp);
    to = omega (arith, lq);
    class = is;
    flows = λ s b h. point_node F q s lq (f s b (node_point F p s lp h));
  }

  pub fits_of : (column : Option ColId) (s o : ℕ) → PassesClass F (wanted F (Field column) o) s → FitsStore F column s o
  fits_of None s o b = b
  fits_of (Some k) s o b = tt

  pub wanted_of : (column : Option ColId) (s o : ℕ) → FitsStore F column s o → PassesClass F (wanted F (Field column) o) s
  wanted_of None s o b = b
  wanted_of (Some k) s o b = tt

  -- a member of a body
  pub body_target : (m : Member) (slot o n : ℕ) → slot_of m ≡ Some slot → IsBodyNode F m slot o n → IsMemberSet F m o n
  body_target (Field column) slot o n e h = absurd (cc e)
  body_target (This x) slot o n e h = let same : slot ≡ x = cc e in subst (λ k. IsBodyNode F (This x) k o n) same h
  body_target (Parameter x k) slot o n e h = let same : slot ≡ x = cc e in subst (λ j. IsBodyNode F (Parameter x k) j o n) same h
  body_target (Returned x) slot o n e h = let same : slot ≡ x = cc e in subst (λ k. IsBodyNode F (Returned x) k o n) same h

  pub target_body : (m : Member) (slot o n : ℕ) → slot_of m ≡ Some slot → IsMemberSet F m o n → IsBodyNode F m slot o n
  target_body (Field column) slot o n e h = absurd (cc e)
  target_body (This x) slot o n e h = let same : x ≡ slot = cc e in subst (λ k. IsBodyNode F (This x) k o n) same h
  target_body (Parameter x k) slot o n e h = let same : x ≡ slot = cc e in subst (λ j. IsBodyNode F (Parameter x k) j o n) same h
  target_body (Returned x) slot o n e h = let same : x ≡ slot = cc e in subst (λ k. IsBodyNode F (Returned x) k o n) same h

  module _ (R : InRange F) where
    body_is : (body : BodyInfo) → Contains F.bodies.items body → IsCol F body.column × IsPoint F body.this
        × All (λ p. IfSome p (IsPoint F)) body.params.items × IfSome body.result (IsPoint F)
    body_is body is = All-contains (λ x. IsCol F x.column × IsPoint F x.this × All (λ p. IfSome p (IsPoint F)) x.params.items × IfSome x.result (IsPoint F))
        F.bodies.items body R.bodies is

    body_below : (m : Member) (body : BodyInfo) (n : ℕ) → Contains F.bodies.items body → body_node m body ≡ Some n → n < length F.points.items
    body_below (Field column) body n is e = absurd (cc e)
    body_below (This slot) body n is e = let same : body.this ≡ n = cc e in subst (λ k. k < length F.points.items) same (body_is body is).1
    body_below (Parameter slot k) body n is e = points_of F body.params.items (body_is body is).2 k n e
    body_below (Returned slot) body n is e = subst (λ r. IfSome r (IsPoint F)) e (body_is body is).3

    -- the sets of a member are there
    pub target_below : (m : Member) (o n : ℕ) → IsMemberSet F m o n → n < node_count F
    target_below (Field column) o n t = omega (arith, t.node, t.is.below)
    target_below (This slot) o n t = omega (arith, body_below (This slot) t.body n t.listed t.node)
    target_below (Parameter slot k) o n t = omega (arith, body_below (Parameter slot k) t.body n t.listed t.node)
    target_below (Returned slot) o n t = omega (arith, body_below (Returned slot) t.body n t.listed t.node)

    pub new_told : (x : NewInfo) → Contains F.news.items x → IsSiteTold F (record { node = x.point; site = x.site.0 })
    new_told x is =
        let p = All-contains (λ x. IsPoint F x.point × IsSite F x.site) F.news.items x R.news is in
        record { node = omega (arith, p.0); site = p.1; holds = point_node F x.point x.site.0 p.0 (new_holds F x is) }

    pub flow_edge : (x : FlowInfo) → Contains F.flows.items x → IsEdge F (between x.from x.to)
    flow_edge x is =
        let p = All-contains (λ x. IsPoint F x.from × IsPoint F x.to) F.flows.items x R.flows is in
        point_edge x.from x.to None p.0 p.1 tt (λ s b h. flow_holds F x s is h)

    pub cast_edge : (x : CastInfo) → Contains F.casts.items x → IsEdge F (record { from = x.from; to = x.into; class = Some x.class })
    cast_edge x is =
        let p = All-contains (λ x. IsPoint F x.from × IsPoint F x.into × IsClass F x.class) F.casts.items x R.casts is in
        point_edge x.from x.into (Some x.class) p.0 p.1 p.2 (λ s b h. cast_holds F x s is b h)

    pub load_read : (x : LoadInfo) → Contains F.loads.items x → IsReadIn F (record { base = x.base; member = Field x.column; into = x.into })
    load_read x is =
        let p = All-contains (λ x. IsPoint F x.base × IfSome x.column (IsCol F) × IsPoint F x.into) F.loads.items x R.loads is in
        let flows = λ (o n s : ℕ) (base : InNode F x.base o) (t : IsMemberSet F (Field x.column) o n) (h : InNode F n s). point_node F x.into s p.2
        (load_holds F x t.cell o s is t.is (node_point F x.base o p.0 base) (node_cell F t.cell s (subst (λ k. InNode F k s) t.node h))) in
        record { base = omega (arith, p.0); into = omega (arith, p.2); flows = flows }

    pub store_write : (x : StoreInfo) → Contains F.stores.items x → IsWrite F (record { base = x.base; member = Field x.column; value = x.value })
    store_write x is =
        let p = All-contains (λ x. IsPoint F x.base × IfSome x.column (IsCol F) × IsPoint F x.value) F.stores.items x R.stores is in
        record {
          base = omega (arith, p.0);
          value = omega (arith, p.2);
          flows = λ o n s base t b h. subst (λ k. InNode F k s) (sym t.node)
              (cell_node F t.cell s (store_holds F x t.cell o s is t.is (fits_of x.column s o b) (node_point F x.base o p.0 base)
              (node_point F x.value s p.2 h)));
        }

    module _ (call : CallInfo) (is : Contains F.calls.items call) where
      call_is : IsPoint F call.receiver × All (λ p. IfSome p (IsPoint F)) call.args.items × IfSome call.result (IsPoint F)
      call_is = All-contains (λ x. IsPoint F x.receiver × All (λ p. IfSome p (IsPoint F)) x.args.items × IfSome x.result (IsPoint F)) F.calls.items
          call R.calls is

      runs_of : (m : Member) (o n : ℕ) (t : IsBodyNode F m call.slot o n) → CallRuns F call o t.body
      runs_of m o n t = record { called = is; listed = t.listed; found = t.found }

      pub call_run : IsRun F (record { base = call.receiver; slot = call.slot })
      call_run = record {
        base = omega (arith, call_is.0);
        flows = λ o n base t.
            let m = This call.slot in
            let same : t.body.this ≡ n = cc t.node in
            point_node F n o (body_below m t.body n t.listed t.node)
            (subst (λ k. Holds F (in_point k o)) same (this_holds F call o t.body (runs_of m o n t) (node_point F call.receiver o call_is.0 base)));
      }

      pub argument_write : (k p : ℕ) → point_at call.args.items k ≡ Some p
          → IsWrite F (record { base = call.receiver; member = Parameter call.slot k; value = p })
      argument_write k p e =
          let below = points_of F call.args.items call_is.1 k p e in
          let m = Parameter call.slot k in
          record {
            base = omega (arith, call_is.0);
            value = omega (arith, below);
            flows = λ o n s base t b h. point_node F n s (body_below m t.body n t.listed t.node)
                (argument_holds F call o t.body (runs_of m o n t) (node_point F call.receiver o call_is.0 base) k p n s e t.node (node_point F p s below h));
          }

      pub result_read : (p : ℕ) → call.result ≡ Some p → IsReadIn F (record { base = call.receiver; member = Returned call.slot; into = p })
      result_read p e =
          let below : p < length F.points.items = subst (λ r. IfSome r (IsPoint F)) e call_is.2 in
          let m = Returned call.slot in
          record {
            base = omega (arith, call_is.0);
            into = omega (arith, below);
            flows = λ o n s base t h.
                point_node F p s below
                (result_holds F call o t.body (runs_of m o n t) (node_point F call.receiver o call_is.0 base) n p s t.node e
                (node_point F n s (body_below m t.body n t.listed t.node) h));
          }
