use Rattle.std.proofs.Common.{◌≡◌, ℕ, true, ◌⊎◌, length, Contains, All}
use Rattle.kaba_order.specs.Orders.{is_le, IsStrictlyBelow}
use Rattle.kaba_order.specs.Beyond.{AreSomeBeyond, IsPassed}
use Rattle.kaba_order.proofs.Order.beyond.Given as goal

abbrev pub invariant-back : goal.invariant-back
invariant-back l = record {
  width : length l.beyond ≡ length l.self.live;
  found : AreSomeBeyond l.self l.n.0 l.beyond;
  above : All (λ k. is_le l.self l.n.0 k ≡ true) l.left.items;
  each : (k : ℕ) → IsStrictlyBelow l.self l.n.0 k → Contains l.left.items k ⊎ IsPassed l.self k l.beyond;
}

abbrev pub decreases-back : goal.decreases-back
decreases-back l = length l.left.items
