use Rattle.std.proofs.Common.{◌≡◌, drop}
use Rattle.java_tree.specs.Syntax.{exprs}
use Rattle.java_core.specs.Trees as core
use Rattle.java_core.specs.Trees.{no_ex}
use Rattle.name_bodies.specs.Views.{table_at}
use Rattle.name_laws.specs.Expressions.{walk_all}
use Rattle.name_bodies.proofs.exprs.+exprs.Given as goal

-- what the arguments so far and the rest resolve to is what all resolve to
abbrev pub invariant-all-loop-one : goal.invariant-all-loop-one
invariant-all-loop-one l =
    walk_all (table_at l.within) l.within.here l.scope (core.exprs l.done.items) l.number (exprs (drop l.one-index l.one-items))
    ≡ walk_all (table_at l.within) l.within.here l.scope no_ex l.fn.number (exprs l.list.items)
