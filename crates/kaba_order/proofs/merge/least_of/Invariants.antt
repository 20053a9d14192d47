use Rattle.std.proofs.Common.{◌≡◌, ℕ, ◌≤◌, true, take}
use Rattle.kaba_order.specs.Orders.{is_among}
use Rattle.kaba_order.proofs.merge.least_of.Given as goal

abbrev pub invariant-loop-s : goal.invariant-loop-s
invariant-loop-s l = record {
  among : is_among l.set l.least.0 ≡ true;
  least : (x : ℕ) → is_among (take l.s-index l.set) x ≡ true → l.least.0 ≤ x;
}
