use Rattle.std.proofs.Common.{◌≡◌, ℕ, ◌<◌, Some}
use Rattle.std.specs.List.{slice_get}
use Rattle.name_types.specs.Marks.{mark_in}
use Rattle.name_types.proofs.marks.have_mark.Given as goal

abbrev pub invariant-loop-at : goal.invariant-loop-at
invariant-loop-at l = (p i : ℕ) → p < l.at-index → slice_get l.list p ≡ Some i → mark_in l.all.items i ≡ l.mark
