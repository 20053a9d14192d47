use Rattle.std.proofs.Common.{◌≡◌, take}
use Rattle.std.specs.List.{filter}
use Rattle.sure_report.specs.Report.{is_cast}
use Rattle.sure_report.proofs.spots.cast_spots.Given as goal

abbrev pub invariant-loop-x : goal.invariant-loop-x
invariant-loop-x l = l.spots.items ≡ filter (λ x. is_cast x.kind) (take l.x-index l.facts.spots.items)
