use Rattle.std.proofs.Common.{◌≡◌, ◌+◌, ◌++◌, drop, map}
use Rattle.java_core.specs.Programs.{program_of, code_seen, local_seen}
use Rattle.flow_rules.specs.Ordered.{each}
use Rattle.flow_facts.proofs.from_variable.add_from_those.Given as goal

abbrev pub invariant-loop-local : goal.invariant-loop-local
invariant-loop-local g l =
    let f = g.T.FromVariable.given (program_of l.of.program.now) l.of.number
    (code_seen l.of.code) in
    record {
      number : l.number ≡ l.first + l.local-index;
      list : l.list.items ++ each f l.number (map local_seen (drop l.local-index l.locals.items)) ≡ l.fn.list.items ++ each f l.first
          (map local_seen l.locals.items);
    }
