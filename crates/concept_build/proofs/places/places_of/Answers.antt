use Rattle.std.proofs.Common.{◌≡◌, ◌++◌, [], get_or, sym, ap, ◌∙◌, arith}
use Rattle.std.proofs.lemmas.List.{length-map, get_or_default, take_all}
use Rattle.kaba_bits.specs.Sets.{rising}
use Rattle.fact_model.specs.Concepts.{Pair}
use Rattle.concept_build.specs.Lists.{lists_of, columns_of}
use Rattle.concept_build.proofs.ExtentLemmas.{nothing, column-columns_of}
use Rattle.concept_build.proofs.KnownLemmas.{take-addition}
use Rattle.concept_build.proofs.places.places_of.Goals as goal

pub loop-item-preserved : goal.loop-item-preserved
loop-item-preserved c =
    let xs = c.args.items.now in
    let cols = columns_of xs in
    let n = c.loop-item.item-index in
    let x = c.extend_from_slice.new.self.items in
    let long = length-map xs (λ (y : Pair). rising y.1) in
    let is : x ≡ get_or cols n [] = c.in_ok-extend_from_slice.ensures.items ∙ (ap (λ l. l ++ c.columns.result.now) c.new-columns.ensures.items
    ∙ (c.columns.ensures ∙ (ap (λ (y : Pair). rising y.1) (c.item-item.is ∙ get_or_default xs n c.item-item.result nothing c.loop-item-test.true)
    ∙ sym (column-columns_of xs n [] c.loop-item-test.true)))) in
    take-addition cols (lists_of c.loop-item.places.keys) (lists_of c.is_new.new.known.keys) n x c.in_ok-is_new.field-0 c.requires
    (omega (arith, long, c.loop-item-test.true)) c.loop-item.invariant is c.in_ok-is_new.ensures

pub returns : goal.returns
returns c = c.loop-item.invariant ∙ take_all c.loop-item.item-index (columns_of c.args.items.now)
    (omega (arith, length-map c.args.items.now (λ (y : Pair). rising y.1), c.loop-item-test.false))
