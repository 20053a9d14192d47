use Rattle.std.proofs.Common.{ℕ, ◌<◌, ◌∷◌, ◌++◌, [], length, get_or, map, take, sym, ap, ◌∙◌, arith}
use Rattle.std.proofs.lemmas.List.{map-append, take_more}
use Rattle.std.proofs.lemmas.Grind.{common_steps}
use Rattle.serde_json.specs.Data.{number, unsigned}
use Rattle.serde_json.specs.View.{view}
use Rattle.lattice_view.proofs.json.numbers_value.Goals as goal

pub loop-number-preserved : goal.loop-number-preserved
loop-number-preserved c =
    let f = λ (n : ℕ). number (unsigned n) in
    let xs = c.args.numbers.now in
    let k = c.loop-number.number-index in
    let lt : k < length xs = grind (arith, common_steps) in
    ap (map view) c.in_ok-push.ensures.items ∙ map-append view c.loop-number.values.items (c.from.result ∷ [])
    ∙ ap (λ l. l ++ view c.from.result ∷ []) c.loop-number.invariant ∙ ap (λ x. map f (take k xs) ++ x ∷ []) c.from.ensures
    ∙ sym (ap (map f) (take_more xs k 0 lt) ∙ map-append f (take k xs) (get_or xs k 0 ∷ []))
