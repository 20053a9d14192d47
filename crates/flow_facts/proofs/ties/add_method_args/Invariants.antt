use Rattle.std.proofs.Common.{◌≡◌, ◌++◌, drop}
use Rattle.flow_rules.specs.Ordered.{each}
use Rattle.flow_facts.specs.Seen.{numbers_seen}
use Rattle.flow_rules.specs.Lists.{tied, row_at, row_in, param_row}
use Rattle.java_core.specs.Programs.{program_of}
use Rattle.flow_facts.proofs.ties.add_method_args.Given as goal

abbrev pub invariant-loop-i : goal.invariant-loop-i
invariant-loop-i l = l.ties.items
    ++ each (λ i o. tied (row_at (numbers_seen l.n) o) (row_in (numbers_seen l.n) (param_row (program_of l.program) l.callee i))) l.i
    (drop l.i l.args.items) ≡ l.fn.ties.items
    ++ each (λ i o. tied (row_at (numbers_seen l.n) o) (row_in (numbers_seen l.n) (param_row (program_of l.program) l.callee i))) 0
    l.args.items
