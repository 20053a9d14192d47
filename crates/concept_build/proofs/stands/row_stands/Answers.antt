use Rattle.std.proofs.Common.{◌≡◌, true, [], length, get_or, sym, ap, ◌∙◌}
use Rattle.std.proofs.lemmas.Bool.{eqb-true, eq-eqb}
use Rattle.std.proofs.lemmas.List.{get_or-map}
use Rattle.kaba_bits.specs.Sets.{bit, row, size}
use Rattle.concept_build.proofs.StandLemmas.{length-rising, row_stands-is}
use Rattle.concept_build.proofs.stands.row_stands.Goals as goal

pub returns-then-has : goal.returns-then-has
returns-then-has c =
    let r = c.args.r in
    let T = c.args.table.now in
    let B = c.args.item.now.1 in
    let n = get_or c.args.sizes.now r 0 in
    let m = length c.columns.result.now in
    let o = row_stands-is T c.args.width c.args.item.now.0 B c.requires.concept r c.requires.r (c.requires.widths r c.requires.r) in
    let e : bit c.args.item.now.0 r ≡ true = sym (c.has.ensures ∙ ap (λ s. bit s r) c.extent.ensures) ∙ c.if-has.true in
    let is : n ≡ size (row T r) = ap (λ l. get_or l r 0) c.requires.sizes ∙ get_or-map size T r [] 0 c.requires.r in
    let wide : m ≡ size B = ap length c.columns.ensures ∙ length-rising B in
    (λ h. o.0 (e, sym is ∙ (eqb-true n m h ∙ wide)), λ s. eq-eqb n m (is ∙ ((o.1 s).1 ∙ sym wide)))
