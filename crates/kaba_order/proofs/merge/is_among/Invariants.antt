use Rattle.std.proofs.Common.{◌≡◌, false, take}
use Rattle.kaba_order.specs.Orders.{is_among}
use Rattle.kaba_order.proofs.merge.is_among.Given as goal

abbrev pub invariant-loop-s : goal.invariant-loop-s
invariant-loop-s l = is_among (take l.s-index l.set) l.x ≡ false
