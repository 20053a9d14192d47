use Rattle.std.proofs.Common.{◌∙◌, arith}
use Rattle.java_core.specs.Programs.{program_of}
use Rattle.java_check.specs.NearOutcome.{kept_at}
use Rattle.java_check.proofs.Near.{kept-step}
use Rattle.java_check.proofs.nearest.keep_all.Goals as goal

pub loop-at-preserved : goal.loop-at-preserved
loop-at-preserved c = record {
  len = c.keep.ensures.len ∙ c.loop-at.invariant.len;
  kept = λ s lt.
      kept-step (program_of c.args.p.now) c.args.class.0 s (kept_at c.loop-at.near s) (kept_at c.keep.new.near s) c.args.list.now c.loop-at.at-index
      c.loop-at-test.true (c.keep.ensures.kept s (omega (arith, lt, c.loop-at.invariant.len)))
      ∙ c.loop-at.invariant.kept s lt;
}
