use Rattle.std.proofs.Common.{◌&&◌, ◌∙◌}
use Rattle.kaba_bits.specs.Sets.{bit, row}
use Rattle.fact_model.specs.declared.facts.StoreInfo.{StoreInfo}
use Rattle.hier_rules.specs.Asked.{is_store_at, is_tested}
use Rattle.hier_rules.proofs.AnyLemmas.{gathered}
use Rattle.hier_rules.proofs.outcomes.sites_at.Goals as goal

pub loop-x-preserved : goal.loop-x-preserved
loop-x-preserved c = record {
  width = c.add_stored.ensures.width ∙ c.loop-x.invariant.width;
  added = gathered (λ (x : StoreInfo) s. is_store_at c.args.asked.now.facts.now c.args.asked.now.pt.now c.args.p c.args.t x && bit
      (row c.args.asked.now.pt.now.points.items x.value) s) (is_tested c.args.asked.now.facts.now c.args.asked.now.pt.now c.args.p c.args.t)
      (bit c.loop-x.sites) (bit c.add_stored.new.sites)
      c.args.asked.now.facts.now.stores.items c.deref-x-items.result.now c.loop-x.x-index _ c.deref-x-items.ensures.value c.loop-x-test.true
      c.add_stored.ensures.added c.loop-x.invariant.added;
}
