use Rattle.std.proofs.Common.{◌∙◌, ◌&&◌, ap, arith}
use Rattle.std.proofs.lemmas.Bool.{lt-ltb}
use Rattle.hier_rules.specs.Asked.{is_other_body}
use Rattle.hier_model.proofs.ClassLemmas.{marked_next}
use Rattle.hier_rules.proofs.index.rivals_of.Goals as goal

pub loop-e-preserved : goal.loop-e-preserved
loop-e-preserved c = (
  c.add_rival.ensures.width ∙ c.loop-e.invariant.0,
  marked_next _ c.loop-e.e _ _ c.add_rival.ensures.added c.loop-e.invariant.1,
)

pub returns : goal.returns
returns c = record {
  width_is = c.loop-e.invariant.0;
  exact = λ x lt. c.loop-e.invariant.1 x ∙ ap (λ b. b && is_other_body c.args.facts.now c.args.d x) (lt-ltb x c.loop-e.e (omega (arith, lt)));
}
