use Rattle.std.proofs.Common.{◌≡◌, ◌++◌, take, string_bytes}
use Rattle.std.specs.List.{flat_map}
use Rattle.sure_report.specs.Text.{dead_line}
use Rattle.sure_report.proofs.text.add_dead.Given as goal

abbrev pub invariant-loop-c : goal.invariant-loop-c
invariant-loop-c l = string_bytes l.text ≡ string_bytes l.fn.text ++ flat_map (dead_line l.facts) (take l.c-index l.dead)
