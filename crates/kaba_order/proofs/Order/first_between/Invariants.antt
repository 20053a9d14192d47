use Rattle.std.proofs.Common.{ℕ, ◌<◌}
use Rattle.kaba_order.specs.Orders.{IsBetween}
use Rattle.kaba_order.proofs.Order.first_between.Given as goal

abbrev pub invariant-loop-x : goal.invariant-loop-x
invariant-loop-x l = (k : ℕ) → k < l.x → IsBetween l.self l.set k → ⊥
