-- What the arguments left will add.
use Rattle.std.proofs.Common.{◌≡◌, ◌+◌, ◌++◌, drop, length}
use Rattle.java_core.specs.Trees.{exprs}
use Rattle.java_core.specs.Programs.{program_of, code_seen}
use Rattle.flow_rules.specs.Labels.{sizes, label_all}
use Rattle.flow_rules.specs.Operands.{operands_of}
use Rattle.flow_rules.specs.Parts.{parts_all}
use Rattle.flow_rules.specs.Types.{object_type}
use Rattle.flow_facts.specs.Views.{parts_seen}
use Rattle.flow_facts.proofs.walk.+walk.Given as goal

abbrev pub invariant-walk_all-loop-e : goal.invariant-walk_all-loop-e
invariant-walk_all-loop-e l =
    let P = program_of l.within.program.now in
    let K = code_seen l.within.code in
    let rest = exprs (drop l.e-index l.args.items) in
    record {
      grown : length l.parts.items + sizes rest ≡ length l.fn.parts.items + sizes (exprs l.args.items);
      value : l.list.items ++ operands_of P (object_type P K) l.within.number K (label_all (length l.parts.items) rest)
          ≡ operands_of P (object_type P K) l.within.number K (label_all (length l.fn.parts.items) (exprs l.args.items));
      parts : parts_seen l.parts.items ++ parts_all P (object_type P K) l.within.number K l.used (label_all (length l.parts.items) rest)
          ≡ parts_seen l.fn.parts.items ++ parts_all P (object_type P K) l.within.number K l.used
          (label_all (length l.fn.parts.items) (exprs l.args.items));
    }
