use Rattle.std.proofs.Common.{◌≡◌, ⊎_elim, ◌<◌, [], ◌∷◌, length, get_or, refl, sym, ap, ◌∙◌, subst, arith, All}
use Rattle.std.proofs.lemmas.Bool.{cases_lt}
use Rattle.std.proofs.lemmas.List.{get_or_default, length_push, get_or_append_left, get_or_push}
use Rattle.concept_build.specs.Lists.{extents_of, IsClosure}
use Rattle.concept_build.proofs.ExtentLemmas.{nothing}
use Rattle.concept_build.proofs.CoverLemmas.{AreCandidates-all}
use Rattle.concept_build.proofs.covers.candidates.Goals as goal

pub near_rows-requires-clause-widths : goal.near_rows-requires-clause-widths
near_rows-requires-clause-widths c =
    rw (c.item_at.ensures.item nothing, (c.requires.given.all.concepts.each c.args.k nothing c.requires.k).intent.len) c.requires.given.widths

pub near_rows-requires-clause-extent : goal.near_rows-requires-clause-extent
near_rows-requires-clause-extent c =
    rw (c.item_at.ensures.item nothing) (c.requires.given.all.concepts.each c.args.k nothing c.requires.k).extent

pub near_rows-requires-clause-counts : goal.near_rows-requires-clause-counts
near_rows-requires-clause-counts c =
    rw (c.item_at.ensures.item nothing, (c.requires.given.all.concepts.each c.args.k nothing c.requires.k).intent.len) c.requires.given.counts

pub closure_at-requires-clause-q : goal.closure_at-requires-clause-q
closure_at-requires-clause-q c =
    subst (All (λ q. q < length c.args.given.now.table.now)) (sym c.deref-q-items.ensures.value) c.in_ok-near.ensures.below c.loop-q.q-index 0
    c.loop-q-test.true

pub loop-q-preserved : goal.loop-q-preserved
loop-q-preserved c =
    let E = extents_of c.args.given.now.items.now in
    let near = c.deref-q-items.result.now in
    let xs = c.loop-q.numbers.items in
    let n = c.loop-q.q-index in
    let x = c.in_ok-at.at in
    rw c.in_ok-push.ensures.items (record {
      len = omega (arith, length_push xs x, c.loop-q.invariant.len);
      closures = λ i d lt.
          ⊎_elim
          (λ less. subst (IsClosure E c.args.k (get_or near i d))
          (sym (get_or_append_left xs (x ∷ []) d i (omega (arith, less, c.loop-q.invariant.len)))) (c.loop-q.invariant.closures i d less))
          (λ high.
          let e : n ≡ i = omega (arith, high, lt) in
          let at : get_or near n 0 ≡ get_or near i d = get_or_default near n 0 d c.loop-q-test.true ∙ ap (λ k. get_or near k d) e in
          subst (IsClosure E c.args.k (get_or near i d)) (sym (get_or_push xs x d i (c.loop-q.invariant.len ∙ e)))
          (subst (λ q. IsClosure E c.args.k q x) at c.in_ok-at.ensures))
          (cases_lt i n);
    })

pub returns : goal.returns
returns c =
    let T = c.args.given.now.table.now in
    let xs = c.args.given.now.items.now in
    let near = c.deref-q-items.result.now in
    let o = rw (c.item_at.ensures.item nothing, ← c.deref-q-items.ensures.value) at c.in_ok-near.ensures in
    AreCandidates-all (extents_of xs) c.args.k T c.args.given.now.width xs c.loop-q.q-index near c.loop-q.numbers.items refl c.requires.given.all.concepts
    c.requires.k o (omega arith) c.loop-q.invariant.len c.loop-q.invariant.closures
