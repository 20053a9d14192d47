use Rattle.std.proofs.Common.{◌≡◌, ◌+◌, ◌-◌, subst, arith}
use Rattle.why_table.specs.Kept.{AreNeeded}
use Rattle.why_table.proofs.FindLemmas.{needed_start}
use Rattle.why_table.proofs.find.kept.needed.Goals as goal

pub loop-k-init : goal.loop-k-init
loop-k-init c = record {
  low = omega arith;
  marks = needed_start c.args.steps.now c.args.goal c.in_ok-marks.marks c.set.new.self c.in_ok-marks.ensures.width c.in_ok-marks.ensures.empty c.set.ensures.after;
}

pub need_at-requires-clause-marks : goal.need_at-requires-clause-marks
need_at-requires-clause-marks c =
    let e : c.loop-k.k ≡ (c.loop-k.k - 1) + 1 = omega (arith, c.loop-k-test.true) in
    subst (λ n. AreNeeded c.args.steps.now c.args.goal n c.loop-k.marks) e c.loop-k.invariant.marks

pub loop-k-preserved : goal.loop-k-preserved
loop-k-preserved c = record { low = omega (arith, c.loop-k.invariant.low); marks = c.need_at.ensures }

pub returns : goal.returns
returns c =
    let e : c.loop-k.k ≡ 0 = omega (arith, c.loop-k-test.false) in
    subst (λ n. AreNeeded c.args.steps.now c.args.goal n c.loop-k.marks) e c.loop-k.invariant.marks
