use Rattle.std.proofs.Common.{◌∙◌}
use Rattle.kaba_bits.specs.Sets.{bit}
use Rattle.std.specs.List.{list_any}
use Rattle.hier_rules.specs.Asked.{is_store_at, is_test_at}
use Rattle.hier_rules.proofs.AnyLemmas.{gathered}
use Rattle.hier_rules.proofs.outcomes.targets_at.Goals as goal

pub loop-x-preserved : goal.loop-x-preserved
loop-x-preserved c = record {
  width = c.add_targets.ensures.width ∙ c.loop-x.invariant.width;
  added = gathered (λ x t. is_store_at c.args.asked.now.facts.now c.args.asked.now.pt.now c.args.p t x)
      (λ t. list_any (is_test_at c.args.p t) c.args.asked.now.facts.now.tests.items) (bit c.loop-x.targets) (bit c.add_targets.new.targets)
      c.args.asked.now.facts.now.stores.items c.deref-x-items.result.now c.loop-x.x-index _ c.deref-x-items.ensures.value c.loop-x-test.true
      c.add_targets.ensures.added c.loop-x.invariant.added;
}
