use Rattle.std.proofs.Common.{◌≡◌, ◌⊎◌, ◌||◌, length, inl, inr, ⊎_elim, sym, ap, ◌∙◌, subst, arith}
use Rattle.std.proofs.Math.Bool.{or-false}
use Rattle.kaba_bits.specs.Sets.{bit, row}
use Rattle.java_core.specs.Squares.{in_row}
use Rattle.java_core.proofs.SquareLemmas.{view-length, above-in, above-past}
use Rattle.java_core.proofs.subtypes.Hierarchy.add_below.Goals as goal

pub add_row-requires-clause-x : goal.add_row-requires-clause-x
add_row-requires-clause-x c =
    let rows = c.self.inside.below.items in
    let l = view-length (length rows) rows c.args.self.now c.self.view_is in
    omega (arith, l, c.requires, c.if-b-len.true)

pub add_row-requires-clause-width : goal.add_row-requires-clause-width
add_row-requires-clause-width c =
    let rows = c.self.inside.below.items in
    let l = view-length (length rows) rows c.args.self.now c.self.view_is in
    subst (λ r. (length r ≡ 0) ⊎ (length r ≡ length c.args.row.now)) (sym (c.row_at.ensures ∙ ap (λ x. row x c.args.b) c.as_slice.ensures.value))
    (⊎_elim (λ e. inl e) (λ e. inr (e ∙ sym l ∙ sym c.requires)) (c.self.invariant.wide c.args.b))

pub returns-then-b-len-clause-bits : goal.returns-then-b-len-clause-bits
returns-then-b-len-clause-bits c = λ t lt.
    let rows = c.self.inside.below.items in
    let l = view-length (length rows) rows c.args.self.now c.self.view_is in
    c.add_row.ensures.join t lt
    ∙ ap (λ r. bit c.args.row.now t || in_row r t c.args.b) (c.row_at.ensures ∙ ap (λ x. row x c.args.b) c.as_slice.ensures.value)
    ∙ ap (λ z. bit c.args.row.now t || z)
    (sym (above-in (length rows) rows c.args.self.now c.self.view_is t c.args.b (omega (arith, lt, l, c.requires)) (omega (arith, c.if-b-len.true))))

pub returns-else-b-len-clause-bits : goal.returns-else-b-len-clause-bits
returns-else-b-len-clause-bits c = λ t lt.
    let rows = c.self.inside.below.items in
    sym (ap (λ z. bit c.args.row.now t || z)
    (above-past (length rows) rows c.args.self.now c.self.view_is t c.args.b (inr (omega (arith, c.if-b-len.false)))) ∙ or-false (bit c.args.row.now t))
