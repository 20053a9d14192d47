use Rattle.std.proofs.Common.{◌∙◌, ◌&&◌, ap, arith}
use Rattle.std.proofs.lemmas.Bool.{lt-ltb}
use Rattle.kaba_bits.specs.Sets.{bit}
use Rattle.hier_rules.specs.Obligations.{place_of_site}
use Rattle.hier_model.proofs.ClassLemmas.{marked_next}
use Rattle.hier_rules.proofs.met.low_sites.Goals as goal

pub loop-s-preserved : goal.loop-s-preserved
loop-s-preserved c = (
  c.add_low.ensures.width ∙ c.loop-s.invariant.0,
  marked_next _ c.loop-s.s _ _ c.add_low.ensures.added c.loop-s.invariant.1,
)

pub returns : goal.returns
returns c = record {
  width_is = c.loop-s.invariant.0;
  exact = λ x lt. c.loop-s.invariant.1 x
      ∙ ap (λ b. b && bit c.args.low.now (place_of_site c.args.asked.now.facts.now c.args.asked.now.hier.now x)) (lt-ltb x c.loop-s.s (omega (arith, lt)));
}
