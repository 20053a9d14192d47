use Rattle.std.proofs.Common.{sym, ap, ◌∙◌}
use Rattle.fact_model.specs.Concepts.{Pair}
use Rattle.concept_build.proofs.ExtentLemmas.{row-extents_of}
use Rattle.concept_build.proofs.item.item_at.Goals as goal

pub returns-clause-extent : goal.returns-clause-extent
returns-clause-extent c =
    ap (λ (x : Pair). x.0) c.index-items-k.is ∙ sym (row-extents_of c.args.items.now c.args.k c.index-items-k.result c.requires)
