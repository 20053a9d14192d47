use Rattle.std.proofs.Common.{◌≡◌, ◌+◌, sym, subst, length, arith, rules, vec_len}
use Rattle.sure_report.specs.Found.{RunBelow}
use Rattle.sure_report.proofs.Judged.{run_more, all_run}
use Rattle.sure_report.proofs.calls.bodies_of.Goals as goal

pub loop-s-preserved : goal.loop-s-preserved
loop-s-preserved c =
    subst (λ z. RunBelow c.args.facts.now c.args.pt.now c.args.call.now.receiver c.args.call.now.slot (c.loop-s.s + 1) z) (sym c.joined-found.ensures)
    (run_more c.args.facts.now c.args.pt.now c.args.call.now.receiver c.args.call.now.slot c.loop-s.s c.loop-s.found c.body_at.result c.body_at.ensures
    c.loop-s.invariant)

pub returns : goal.returns
returns c =
    let e : c.loop-s.s ≡ length c.args.facts.now.sites.items = let n : vec_len c.args.facts.now.sites ≡ length c.args.facts.now.sites.items = search rules in
    omega (arith, n, c.loop-s-test.false, c.len-s-end.ensures, c.loop-s.auto.s-end) in
    all_run c.args.facts.now c.args.pt.now c.requires.sets c.args.call.now c.loop-s.found
    (subst (λ k. RunBelow c.args.facts.now c.args.pt.now c.args.call.now.receiver c.args.call.now.slot k c.loop-s.found) e c.loop-s.invariant)
