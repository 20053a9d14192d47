use Rattle.std.proofs.Common.{length, sym, ◌∙◌, arith}
use Rattle.std.specs.Prelude.{Contains}
use Rattle.std.proofs.lemmas.List.{length-map}
use Rattle.kaba_bits.proofs.ListLemmas.{ListsBelow-same}
use Rattle.fact_model.specs.Concepts.{Pair, IsUpperCover}
use Rattle.concept_build.specs.Lists.{extents_of, IsLeast}
use Rattle.concept_build.proofs.ExtentLemmas.{extent_len, same_number}
use Rattle.concept_build.proofs.CoverLemmas.{cover_is_least}
use Rattle.concept_build.proofs.covers.above.Goals as goal

pub least-requires-clause-widths : goal.least-requires-clause-widths
least-requires-clause-widths c =
    let len = extent_len c.args.given.now.table.now c.args.given.now.width c.args.given.now.items.now c.requires.given.all.concepts in
    λ i j ilt jlt. len i ilt ∙ sym (len j jlt)

pub least-requires-clause-numbers : goal.least-requires-clause-numbers
least-requires-clause-numbers c =
    rw c.deref.ensures.value (λ k d lt. omega (arith, c.in_ok-numbers.ensures.below k d lt, length-map c.args.given.now.items.now (λ (x : Pair). x.0)))

pub returns : goal.returns
returns c =
    let T = c.args.given.now.table.now in
    let w = c.args.given.now.width in
    let xs = c.args.given.now.items.now in
    let E = extents_of xs in
    let k = c.args.k in
    let numbers = c.in_ok-numbers.numbers.items in
    let long = length-map xs (λ (x : Pair). x.0) in
    let len = extent_len T w xs c.requires.given.all.concepts in
    let same = same_number T w xs c.requires.given.all.concepts in
    let least = rw c.deref.ensures.value at c.in_ok-above.ensures in
    ListsBelow-same (λ j. Contains numbers j × IsLeast E numbers j) (IsUpperCover E k) (length xs) c.in_ok-above.above.items
    (λ j lt. cover_is_least E k (length T) numbers (λ i ilt. len i (omega (arith, ilt, long))) (λ i m ilt mlt. same i m (omega (arith, ilt, long))
    (omega (arith, mlt, long))) c.in_ok-numbers.ensures j (omega (arith, lt, long)))
    least
