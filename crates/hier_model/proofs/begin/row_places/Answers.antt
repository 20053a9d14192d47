use Rattle.std.proofs.Common.{◌≡◌, length, map, get_or, None, ap, ◌∙◌, arith}
use Rattle.std.specs.Prelude.{unwrap_or}
use Rattle.std.specs.List.{range_with_len}
use Rattle.std.proofs.lemmas.List.FromFn.{get_or-map-range_with_len, length-map-range_with_len}
use Rattle.hier_model.specs.Hierarchies.{node}
use Rattle.hier_model.specs.Listed.{listed_row, row_node}
use Rattle.hier_model.proofs.Pushed.{pushed}
use Rattle.hier_model.proofs.begin.row_places.Goals as goal

pub loop-place-preserved : goal.loop-place-preserved
loop-place-preserved c =
    let f = listed_row c.args.concepts.now in
    let n = c.args.count in
    let r = c.loop-place.place-index in
    let listed : c.deref-place-items.result.now ≡ map f (range_with_len 0 n) = c.deref-place-items.ensures.value ∙ c.in_ok-listed.ensures in
    let is = get_or-map-range_with_len f 0 n r r None (omega (arith, c.loop-place-test.true, ap length listed ∙ length-map-range_with_len f 0 n)) (omega arith) in
    pushed (row_node c.args.concepts.now) r c.unwrap_or.result c.loop-place.places.items c.push.new.self.items c.in_ok-push.ensures.items
    (c.unwrap_or.ensures ∙ ap (λ o. unwrap_or o (node 0)) (ap (λ l. get_or l r None) listed ∙ is)) c.loop-place.invariant

pub returns : goal.returns
returns c =
    let f = listed_row c.args.concepts.now in
    let count = ap length (c.deref-place-items.ensures.value ∙ c.in_ok-listed.ensures) ∙ length-map-range_with_len f 0 c.args.count in
    c.loop-place.invariant
    ∙ ap (λ n. map (row_node c.args.concepts.now) (range_with_len 0 n)) (omega (arith, c.loop-place-test.false, c.loop-place.auto.place-index-end, count))
