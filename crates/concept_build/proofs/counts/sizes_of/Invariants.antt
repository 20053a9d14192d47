use Rattle.std.proofs.Common.{◌≡◌, map, take}
use Rattle.kaba_bits.specs.Sets.{size}
use Rattle.concept_build.proofs.counts.sizes_of.Given as goal

abbrev pub invariant-loop-r : goal.invariant-loop-r
invariant-loop-r l = l.sizes.items ≡ map size (take l.r l.sets)
