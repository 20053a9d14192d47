use Rattle.std.proofs.Common.{◌≡◌, take, filter}
use Rattle.kaba_bits.specs.Sets.{bit}
use Rattle.concept_build.proofs.item.listed_columns.Given as goal

abbrev pub invariant-loop-c : goal.invariant-loop-c
invariant-loop-c l = l.common.items ≡ filter (bit l.with) (take l.c-index l.c-items)
