use Rattle.std.proofs.Common.{◌≡◌, drop}
use Rattle.java_tree.specs.Syntax.{heads}
use Rattle.name_laws.specs.Answers.{run}
use Rattle.name_bodies.specs.Views.{table_of}
use Rattle.name_laws.specs.Resolved.{head_body_step}
use Rattle.name_bodies.specs.Views.{methods_seen}
use Rattle.name_bodies.proofs.bodies.interface_bodies.Given as goal

-- the methods so far, and then the rest
abbrev pub invariant-loop-head : goal.invariant-loop-head
invariant-loop-head l = run (head_body_step (table_of l.owner.tables.now) l.owner.number) (methods_seen l.written) (heads (drop l.head-index l.head-items))
    ≡ run (head_body_step (table_of l.owner.tables.now) l.owner.number) (methods_seen l.fn.written) (heads l.list.items)
