use Rattle.std.proofs.Common.{◌≡◌, drop}
use Rattle.java_tree.specs.Syntax.{members}
use Rattle.name_laws.specs.Answers.{run}
use Rattle.name_bodies.specs.Views.{table_of}
use Rattle.name_laws.specs.Resolved.{body_step}
use Rattle.name_bodies.specs.Views.{methods_seen}
use Rattle.name_bodies.proofs.bodies.class_bodies.Given as goal

-- the methods so far, and then the rest
abbrev pub invariant-loop-member : goal.invariant-loop-member
invariant-loop-member l = run (body_step (table_of l.owner.tables.now) l.owner.number) (methods_seen l.written) (members (drop l.member-index l.member-items))
    ≡ run (body_step (table_of l.owner.tables.now) l.owner.number) (methods_seen l.fn.written) (members l.list.items)
