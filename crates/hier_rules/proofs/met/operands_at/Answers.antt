use Rattle.std.proofs.Common.{◌&&◌, eqb, false, ◌∙◌}
use Rattle.kaba_bits.specs.Sets.{bit, row}
use Rattle.fact_model.specs.declared.facts.TestInfo.{TestInfo}
use Rattle.hier_rules.proofs.AnyLemmas.{gathered}
use Rattle.hier_rules.proofs.met.operands_at.Goals as goal

pub loop-x-preserved : goal.loop-x-preserved
loop-x-preserved c = record {
  width = c.add_operand.ensures.width ∙ c.loop-x.invariant.width;
  added = gathered (λ (x : TestInfo) s. eqb x.place.at c.args.p && bit (row c.args.asked.now.pt.now.points.items x.from) s) (λ s. false)
      (bit c.loop-x.sites) (bit c.add_operand.new.sites)
      c.args.asked.now.facts.now.tests.items c.deref-x-items.result.now c.loop-x.x-index _ c.deref-x-items.ensures.value c.loop-x-test.true
      c.add_operand.ensures.added c.loop-x.invariant.added;
}
