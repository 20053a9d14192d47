use Rattle.std.proofs.Common.{◌≡◌, ℕ, ◌<◌, false, length, get_or}
use Rattle.hier_rules.specs.declared.clashes.ClashPair.{ClashPair}
use Rattle.hier_rules.specs.Namesakes.{offers_both}
use Rattle.hier_rules.proofs.clashes.first_confused_at.Given as goal

abbrev pub invariant-loop-x : goal.invariant-loop-x
invariant-loop-x l = (j : ℕ) (x : ClashPair) → j < l.x-index → j < length l.clashes → offers_both l.asked.hier.now l.n (get_or l.clashes j x) ≡ false
