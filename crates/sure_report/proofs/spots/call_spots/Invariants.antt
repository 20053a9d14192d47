use Rattle.std.proofs.Common.{◌≡◌, take}
use Rattle.std.specs.List.{filter}
use Rattle.sure_report.specs.Report.{is_call}
use Rattle.sure_report.proofs.spots.call_spots.Given as goal

abbrev pub invariant-loop-x : goal.invariant-loop-x
invariant-loop-x l = l.spots.items ≡ filter (λ x. is_call x.kind) (take l.x-index l.facts.spots.items)
