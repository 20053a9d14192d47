use Rattle.std.proofs.Common.{get_or, sym, ◌∙◌, arith}
use Rattle.std.proofs.lemmas.List.{length-map}
use Rattle.kaba_bits.specs.Sets.{row, rising}
use Rattle.fact_model.specs.Concepts.{Pair}
use Rattle.concept_build.proofs.MadeLemmas.{meet, IsMeet-meet}
use Rattle.concept_build.proofs.ExtentLemmas.{nothing, columns-there, closure-found}
use Rattle.concept_build.proofs.covers.closure_at.Goals as goal

pub common_columns-requires : goal.common_columns-requires
common_columns-requires c =
    rw (c.item_at.ensures.item nothing, c.row_at.ensures) ((c.requires.given.all.concepts.each c.args.k nothing c.requires.k).intent.len
    ∙ sym (c.requires.given.widths c.args.q c.requires.q))

pub unreachable-requires : goal.unreachable-requires
unreachable-requires c =
    let xs = c.args.given.now.items.now in
    let B = (get_or xs c.args.k nothing).1 in
    let R = row c.args.given.now.table.now c.args.q in
    let is = rw (c.item_at.ensures.item nothing, c.row_at.ensures) at c.in_ok-columns.ensures in
    let none = rw (c.deref.ensures.value, is (meet B R) (IsMeet-meet B R), c.requires.given.places) at c.in-None.ensures in
    none (columns-there c.args.given.now.table.now c.args.given.now.width xs c.requires.given.all c.args.k c.args.q c.requires.k c.requires.q)

pub returns : goal.returns
returns c =
    let xs = c.args.given.now.items.now in
    let B = (get_or xs c.args.k nothing).1 in
    let R = row c.args.given.now.table.now c.args.q in
    let is = rw (c.item_at.ensures.item nothing, c.row_at.ensures) at c.in_ok-columns.ensures in
    let found = rw (c.deref.ensures.value, is (meet B R) (IsMeet-meet B R), c.requires.given.places) at c.in-Some.ensures in
    closure-found c.args.given.now.table.now c.args.given.now.width xs c.requires.given.all c.args.k c.args.q c.requires.k c.requires.q c.in-Some.at
    (omega (arith, found.0, length-map xs (λ (y : Pair). rising y.1))) found.1
