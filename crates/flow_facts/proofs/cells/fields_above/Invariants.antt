-- What is left is still to be found.
use Rattle.std.proofs.Common.{◌≡◌, ◌+◌, ◌++◌, ℕ, suc, length, map}
use Rattle.std.specs.Prelude.{Some}
use Rattle.java_core.specs.Programs.{program_of}
use Rattle.flow_facts.specs.Owned.{own_at, upwards}
use Rattle.flow_facts.specs.Seen.{field_cell_seen}
use Rattle.flow_facts.proofs.cells.fields_above.Given as goal

abbrev pub invariant-loop-step : goal.invariant-loop-step
invariant-loop-step l =
    let P = program_of l.program in
    let own = own_at l.own.items in
    (r : ℕ) → r + l.step ≡ length l.program.classes.items → map field_cell_seen l.found.items ++ upwards P own r l.above
    ≡ upwards P own (suc (length P.classes)) (Some l.fn.class)
