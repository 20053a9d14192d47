use Rattle.std.proofs.Common.{[], ◌∷◌, take, filter, get_or, refl, sym, ap, ◌∙◌, zero-add, arith}
use Rattle.std.specs.Prelude.{◌&&◌}
use Rattle.std.proofs.lemmas.List.{take_more, take_all, append-nil}
use Rattle.std.proofs.lemmas.List.Elements.{filter-append}
use Rattle.kaba_bits.specs.Sets.{bit}
use Rattle.concept_build.proofs.KnownLemmas.{listed-below, filter-rising_from}
use Rattle.concept_build.proofs.item.listed_columns.Goals as goal
use Rattle.concept_build.proofs.item.listed_columns.Goals.{then-has+in_ok-push, else-has}

pub has-requires : goal.has-requires
has-requires c = listed-below c.args.item.now.1 _ _ c.loop-c.c-index c.columns-c-items.ensures c.loop-c-test.true c.requires

pub loop-c-preserved : goal.loop-c-preserved
loop-c-preserved c =
    let test = bit c.args.with.now in
    let xs = c.columns-c-items.result.now in
    let i = c.loop-c.c-index in
    let front = ap (filter test) (take_more xs i 0 c.loop-c-test.true) ∙ filter-append test (take i xs) (get_or xs i 0 ∷ []) in
    elim c.if-has.branch [
      | then-has+in_ok-push w ↦ rw (w.common-is, w.in_ok-push.ensures.items, front, sym c.has.ensures, w.if-has.true, c.loop-c.invariant) refl
      | else-has w ↦ rw (w.common-is, front, sym c.has.ensures, w.if-has.false, c.loop-c.invariant) (sym (append-nil (filter test (take i xs))))
    ]

pub returns : goal.returns
returns c M m =
    let B = c.args.item.now.1 in
    let xs = c.columns-c-items.result.now in
    let test = bit c.args.with.now in
    c.loop-c.invariant ∙ (ap (filter test) (take_all c.loop-c.c-index xs (omega arith)) ∙ (ap (filter test) c.columns-c-items.ensures
    ∙ filter-rising_from 0 test B M m.len (λ i. m.bits i ∙ ap (λ n. bit B i && test n) (sym (zero-add i)))))
