use Rattle.std.proofs.Common.{◌≡◌, false, take}
use Rattle.kaba_order.specs.Orders.{any_has}
use Rattle.kaba_order.proofs.merge.some_has.Given as goal

abbrev pub invariant-loop-s : goal.invariant-loop-s
invariant-loop-s l = any_has l.le (take l.s-index l.set) l.x ≡ false
