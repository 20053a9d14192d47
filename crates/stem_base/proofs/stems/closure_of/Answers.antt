use Rattle.std.proofs.Common.{ap, sym, ◌∙◌, length, drop, arith, ◌-◌}
use Rattle.stem_base.proofs.TableLemmas.{common_wide}
use Rattle.stem_base.proofs.StemLemmas.{common_none}
use Rattle.stem_base.proofs.stems.closure_of.Goals as goal

pub loop-k-init : goal.loop-k-init
loop-k-init c = record {
  within = omega arith;
  is = common_none c.args.table.now c.args.width c.args.set.now c.in_ok-out.out c.in_ok-out.ensures.width c.in_ok-out.ensures.full;
}

pub narrow-requires-clause-out : goal.narrow-requires-clause-out
narrow-requires-clause-out c =
    ap length c.loop-k.invariant.is ∙ common_wide (drop c.loop-k.k c.args.table.now) c.args.width c.args.set.now
    ∙ sym (c.requires.rows (c.loop-k.k - 1) (let lt = c.loop-k-test.true in omega (arith, lt, c.loop-k.invariant.within))) ∙ sym (ap length c.row_at.ensures)
