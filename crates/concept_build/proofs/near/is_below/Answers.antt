use Rattle.std.proofs.Common.{get_or}
use Rattle.std.proofs.lemmas.List.Elements.{Contains-get_or}
use Rattle.concept_build.proofs.near.is_below.Goals as goal

pub has_listed-requires : goal.has_listed-requires
has_listed-requires c =
    let q = get_or c.args.rows.now c.loop-q.q-index 0 in
    rw c.row_at.ensures (c.requires.columns q (c.requires.rows c.loop-q.q-index 0 c.loop-q-test.true))

pub returns-then-has_listed : goal.returns-then-has_listed
returns-then-has_listed c =
    let q = get_or c.args.rows.now c.loop-q.q-index 0 in
    let has = rw (c.if-has_listed.true, c.row_at.ensures) at c.has_listed.ensures in
    (q, Contains-get_or c.args.rows.now c.loop-q.q-index 0 c.loop-q-test.true, has)
