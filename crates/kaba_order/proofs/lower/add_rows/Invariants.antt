use Rattle.std.proofs.Common.{◌≡◌, ◌<◌, true}
use Rattle.kaba_bits.specs.Sets.{bit, row}
use Rattle.kaba_order.specs.Lower.{HaveGained}
use Rattle.kaba_order.proofs.lower.add_rows.Given as goal

abbrev pub invariant-loop-a : goal.invariant-loop-a
invariant-loop-a l = HaveGained (λ a b. (a < l.a) × (bit (row l.le a) b ≡ true)) l.fn.lower l.lower
