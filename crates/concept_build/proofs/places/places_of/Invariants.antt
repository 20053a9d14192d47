use Rattle.std.proofs.Common.{◌≡◌, take}
use Rattle.concept_build.specs.Lists.{lists_of, columns_of}
use Rattle.concept_build.proofs.places.places_of.Given as goal

abbrev pub invariant-loop-item : goal.invariant-loop-item
invariant-loop-item l = lists_of l.places.keys ≡ take l.item-index (columns_of l.items)
