use Rattle.concept_build.proofs.ExtentLemmas.{nothing}
use Rattle.concept_build.proofs.placed_item.Goals as goal

pub rows_at-requires-clause-concept : goal.rows_at-requires-clause-concept
rows_at-requires-clause-concept c =
    rw (c.item_at-item.ensures.item nothing) (c.requires.given.all.concepts.each c.args.k nothing c.requires.k)

pub columns_at-requires-clause-concept : goal.columns_at-requires-clause-concept
columns_at-requires-clause-concept c =
    rw (c.item_at-item.ensures.item nothing) (c.requires.given.all.concepts.each c.args.k nothing c.requires.k)
