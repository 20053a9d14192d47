use Rattle.std.proofs.Common.{◌≡◌, ◌*◌, length, arith, ap, ◌∙◌, sym}
use Rattle.kaba_bits.proofs.RowLemmas.{total-le}
use Rattle.table_rules.proofs.closing.run_rounds.Goals as goal

pub loop-smaller : goal.loop-smaller
loop-smaller c =
    let width = length c.args.given.now.facts.now.columns.items in
    let new = c.round.ensures.state.entries in
    let bound = total-le width c.round.new.rows new.widths in
    let len : length c.round.new.rows * width ≡ length c.loop.rows * width = ap (λ n. n * width) (new.len ∙ sym c.loop.invariant.entries.len) in
    omega (arith, c.if-not-round.ensures.step, bound, len)
