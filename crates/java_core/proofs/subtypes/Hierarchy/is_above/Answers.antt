use Rattle.std.proofs.Common.{length, sym, ap, ◌∙◌}
use Rattle.std.proofs.lemmas.Bool.{OnTrue_at, OnFalse_at}
use Rattle.kaba_bits.specs.Sets.{row}
use Rattle.java_core.specs.Squares.{in_row}
use Rattle.java_core.proofs.SquareLemmas.{above-in, above-past}
use Rattle.java_core.proofs.subtypes.Hierarchy.is_above.Goals as goal

pub returns-then-is_outside : goal.returns-then-is_outside
returns-then-is_outside c = sym (above-past _ _ _ c.self.view_is _ _ (OnTrue_at c.if-is_outside.true c.is_outside.ensures.outside))

pub returns : goal.returns
returns c =
    let rows = c.self.inside.below.items in
    let k = OnFalse_at c.if-is_outside.false c.is_outside.ensures.inside in
    c.is_in.ensures ∙ ap (λ r. in_row r c.args.a c.args.b) (c.row_at.ensures ∙ ap (λ l. row l c.args.b) c.as_slice.ensures.value)
    ∙ sym (above-in (length rows) rows c.args.self.now c.self.view_is c.args.a c.args.b k.0 k.1)
