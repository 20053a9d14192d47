use Rattle.std.proofs.Common.{false, ◌∙◌}
use Rattle.kaba_bits.specs.Sets.{bit}
use Rattle.hier_rules.specs.Asked.{is_test_at}
use Rattle.hier_rules.proofs.AnyLemmas.{gathered}
use Rattle.hier_rules.proofs.outcomes.test_targets.Goals as goal

pub loop-x-preserved : goal.loop-x-preserved
loop-x-preserved c = record {
  width = c.add_target.ensures.width ∙ c.loop-x.invariant.width;
  added = gathered (λ x t. is_test_at c.args.p t x) (λ s. false) (bit c.loop-x.targets) (bit c.add_target.new.targets)
      c.args.facts.now.tests.items c.deref-x-items.result.now c.loop-x.x-index _ c.deref-x-items.ensures.value c.loop-x-test.true
      c.add_target.ensures.added c.loop-x.invariant.added;
}
