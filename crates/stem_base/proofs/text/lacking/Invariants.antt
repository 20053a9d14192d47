use Rattle.std.proofs.Common.{◌≡◌, not, take}
use Rattle.std.specs.List.{filter}
use Rattle.kaba_bits.specs.Sets.{bit}
use Rattle.stem_base.proofs.text.lacking.Given as goal

abbrev pub invariant-loop-c : goal.invariant-loop-c
invariant-loop-c l = l.more.items ≡ filter (λ n. not (bit l.set n)) (take l.c-index l.numbers)
