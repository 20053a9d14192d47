use Rattle.std.proofs.Common.{◌&&◌, eqb, ◌∙◌}
use Rattle.std.specs.List.{list_any}
use Rattle.kaba_bits.specs.Sets.{bit, row}
use Rattle.fact_model.specs.declared.facts.StoreInfo.{StoreInfo}
use Rattle.hier_rules.specs.Asked.{is_element}
use Rattle.hier_rules.proofs.AnyLemmas.{gathered}
use Rattle.hier_rules.proofs.met.sites_of_place.Goals as goal

pub loop-x-preserved : goal.loop-x-preserved
loop-x-preserved c = record {
  width = c.add_value.ensures.width ∙ c.loop-x.invariant.width;
  added = gathered (λ (x : StoreInfo) s. is_element x.column && eqb x.place.at c.args.p && bit (row c.args.asked.now.pt.now.points.items x.value) s)
      (λ s. list_any (λ x. eqb x.place.at c.args.p && bit (row c.args.asked.now.pt.now.points.items x.from) s) c.args.asked.now.facts.now.tests.items)
      (bit c.loop-x.sites) (bit c.add_value.new.sites)
      c.args.asked.now.facts.now.stores.items c.deref-x-items.result.now c.loop-x.x-index _ c.deref-x-items.ensures.value c.loop-x-test.true
      c.add_value.ensures.added c.loop-x.invariant.added;
}
