use Rattle.std.proofs.Common.{◌≡◌, true, length, arith}
use Rattle.kaba_bits.specs.Sets.{bit}
use Rattle.concept_build.proofs.ColumnLemmas.{ListsBelow-below, HaveAll-listed}
use Rattle.concept_build.proofs.item.Item.new.Goals as goal

pub extent_of-requires-clause-columns : goal.extent_of-requires-clause-columns
extent_of-requires-clause-columns c =
    rw c.deref.ensures.value (ListsBelow-below (λ i. bit c.args.intent i ≡ true) (length c.args.intent) (length c.args.extents.now.sets.items)
    c.in_ok-columns.columns.items (omega (arith, c.requires.len)) c.in_ok-columns.ensures.exact)

pub returns-clause-extent : goal.returns-clause-extent
returns-clause-extent c =
    let bits = rw c.deref.ensures.value at c.in_ok-extent.ensures.bits in
    HaveAll-listed c.args.extents.now c.in_ok-extent.extent c.args.intent c.in_ok-columns.columns.items c.in_ok-extent.ensures.len bits
    c.in_ok-columns.ensures.exact
