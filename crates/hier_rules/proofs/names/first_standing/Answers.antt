use Rattle.std.proofs.Common.{ℕ, length, Some, refl, sym, ap, ◌∙◌, arith}
use Rattle.hier_rules.proofs.StandingLemmas.{none_stands, one_stands}
use Rattle.hier_rules.proofs.names.first_standing.Goals as goal

pub returns-then-stands_at : goal.returns-then-stands_at
returns-then-stands_at c = λ p l.
    let xs = c.args.list.now in
    let i : ℕ = c.loop-c.c-index in
    sym (one_stands c.args.asked.now.facts.now c.args.asked.now.hier.now c.args.n p xs l i (λ j lt. c.loop-c.invariant j lt) (omega arith)
    (sym c.stands_at.ensures
    ∙ c.if-stands_at.true)
    ∙ ap Some (sym c.of_column.ensures))

pub returns : goal.returns
returns c = λ p l.
    let xs = c.args.list.now in
    sym (none_stands c.args.asked.now.facts.now c.args.asked.now.hier.now c.args.n p xs l (length xs) (λ j lt. c.loop-c.invariant j (omega (arith, lt))) refl)
