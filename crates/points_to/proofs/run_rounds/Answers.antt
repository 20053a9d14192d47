use Rattle.std.proofs.Common.{◌≡◌, ◌*◌, length, arith, ap, ◌∙◌, sym}
use Rattle.kaba_bits.proofs.RowLemmas.{total-le}
use Rattle.points_to.proofs.run_rounds.Goals as goal

pub loop-more-smaller : goal.loop-more-smaller
loop-more-smaller c =
    let sites = length c.args.given.now.facts.now.sites.items in
    let step = c.in_ok-more.ensures in
    let grew = rw c.if-not-more.false at step.step in
    let new = c.close_all.new.sets in
    let bound = total-le sites new step.sets.widths in
    let len : length new * sites ≡ length c.loop-more.sets * sites = ap (λ n. n * sites) (step.sets.len ∙ sym c.loop-more.invariant.len) in
    omega (arith, grew, bound, len)
