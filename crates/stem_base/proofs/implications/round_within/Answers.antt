use Rattle.std.proofs.Common.{◌-◌, arith}
use Rattle.stem_base.specs.Base.{all_sides}
use Rattle.stem_base.proofs.SaturateLemmas.{round_grew, round_stays, round_in_part}
use Rattle.stem_base.proofs.implications.round_within.Goals as goal

pub returns-then-is_past : goal.returns-then-is_past
returns-then-is_past c =
    round_in_part (all_sides c.args.base.now) (c.loop-k.k - 1) c.args.set.now c.apply.new.set
    (round_grew c.args.base.now c.loop-k.k c.implication_at.result.now c.args.set.now c.loop-k.set c.apply.new.set c.loop-k.grew c.apply.result
    (omega (arith, c.loop-k-test.true)) c.loop-k.invariant.within c.implication_at.ensures c.loop-k.invariant.round c.if-apply.true c.apply.ensures)

pub loop-k-preserved-else-is_past : goal.loop-k-preserved-else-is_past
loop-k-preserved-else-is_past c = record {
  within = omega (arith, c.loop-k.invariant.within);
  round = round_grew c.args.base.now c.loop-k.k c.implication_at.result.now c.args.set.now c.loop-k.set c.apply.new.set c.loop-k.grew c.apply.result
      (omega (arith, c.loop-k-test.true)) c.loop-k.invariant.within c.implication_at.ensures c.loop-k.invariant.round c.if-apply.true c.apply.ensures;
}

pub loop-k-preserved : goal.loop-k-preserved
loop-k-preserved c = record {
  within = omega (arith, c.loop-k.invariant.within);
  round = round_stays c.args.base.now c.loop-k.k c.implication_at.result.now c.args.set.now c.loop-k.set c.apply.new.set c.loop-k.grew c.apply.result
      (omega (arith, c.loop-k-test.true)) c.loop-k.invariant.within c.implication_at.ensures c.loop-k.invariant.round c.if-apply.false c.apply.ensures;
}
