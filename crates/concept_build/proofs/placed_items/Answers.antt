use Rattle.std.proofs.Common.{◌≡◌, ⊎_elim, ◌<◌, List, [], ◌∷◌, ◌++◌, length, take, get_or, sym, ap, ◌∙◌, subst, arith}
use Rattle.std.proofs.lemmas.Bool.{cases_lt}
use Rattle.std.proofs.lemmas.List.{map-append, length-map, length-take-le, take_more, get_or_append_left, get_or_push}
use Rattle.fact_model.specs.Concepts.{Pair, pair_of, IsConceptPlaced}
use Rattle.concept_build.specs.Lists.{extents_of}
use Rattle.concept_build.proofs.ExtentLemmas.{nothing}
use Rattle.concept_build.proofs.placed_items.Goals as goal

pub loop-k-preserved : goal.loop-k-preserved
loop-k-preserved c =
    let items = c.args.given.now.items.now in
    let done = c.loop-k.concepts.items in
    let k = c.loop-k.k in
    let x = c.in_ok-placed_item.field-0 in
    let lt : k < length items = omega arith in
    let len : length done ≡ k = sym (length-map done pair_of) ∙ (ap length c.loop-k.invariant.pairs ∙ length-take-le k items (omega arith)) in
    let placed = IsConceptPlaced c.args.given.now.table.now c.args.given.now.width (extents_of items) in
    rw c.in_ok-push.ensures.items (record {
      pairs =
          map-append pair_of done (x ∷ [])
          ∙ (ap (λ (l : List Pair). l ++ pair_of x ∷ []) c.loop-k.invariant.pairs
          ∙ (ap (λ (p : Pair). take k items ++ p ∷ []) (c.in_ok-placed_item.ensures.pair nothing) ∙ sym (take_more items k nothing lt)));
      placed = λ j d jlt.
          ⊎_elim
          (λ before. subst (placed j) (sym (get_or_append_left done (x ∷ []) d j (omega (arith, before, len)))) (c.loop-k.invariant.placed j d before))
          (λ last.
          let e : k ≡ j = omega (arith, last, jlt) in
          subst (λ n. placed n (get_or (done ++ x ∷ []) n d)) e (subst (placed k) (sym (get_or_push done x d k len)) c.in_ok-placed_item.ensures.placed))
          (cases_lt j k);
    })
