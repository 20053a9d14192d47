-- What the statements, and the arms, left will add.
use Rattle.std.proofs.Common.{◌≡◌, ◌+◌, ◌++◌, drop, length}
use Rattle.java_core.specs.Trees.{stmts, arms_seen, else_seen}
use Rattle.flow_rules.specs.Labels.{size_sts, label_sts, size_arms, label_arms}
use Rattle.flow_rules.specs.Parts.{parts_sts, parts_arms}
use Rattle.flow_facts.specs.Views.{parts_seen}
use Rattle.flow_facts.specs.Walked.{in_body}
use Rattle.flow_facts.proofs.bodies.+statements.Given as goal

abbrev pub invariant-walk_stmts-loop-s : goal.invariant-walk_stmts-loop-s
invariant-walk_stmts-loop-s l =
    let rest = stmts (drop l.s-index l.body.items) in
    record {
      grown : length l.parts.items + size_sts rest ≡ length l.fn.parts.items + size_sts (stmts l.body.items);
      parts : parts_seen l.parts.items ++ in_body l.within parts_sts (label_sts (length l.parts.items) rest)
          ≡ parts_seen l.fn.parts.items ++ in_body l.within parts_sts (label_sts (length l.fn.parts.items) (stmts l.body.items));
    }

abbrev pub invariant-walk_arms-loop-arm : goal.invariant-walk_arms-loop-arm
invariant-walk_arms-loop-arm l =
    let rest = arms_seen (drop l.arm-index l.arms.items) (else_seen l.other) in
    let all = arms_seen l.arms.items (else_seen l.other) in
    record {
      grown : length l.parts.items + size_arms rest ≡ length l.fn.parts.items + size_arms all;
      parts : parts_seen l.parts.items ++ in_body l.within parts_arms (label_arms (length l.parts.items) rest)
          ≡ parts_seen l.fn.parts.items ++ in_body l.within parts_arms (label_arms (length l.fn.parts.items) all);
    }
