use Rattle.std.proofs.Common.{◌≡◌, ◌-◌, length, map}
use Rattle.java_core.specs.Programs.{method_seen}
use Rattle.name_laws.specs.Resolved.{with_implied}
use Rattle.name_bodies.specs.Views.{table_of}
use Rattle.name_bodies.proofs.bodies.with_implied.Given as goal

-- those that are still to be added complete the methods to what they were to be
abbrev pub invariant-loop-heading : goal.invariant-loop-heading
invariant-loop-heading l = with_implied (table_of l.tables) (map method_seen l.all.items) ≡ with_implied (table_of l.tables) (map method_seen l.fn.methods.items)

abbrev pub decreases-loop-heading : goal.decreases-loop-heading
decreases-loop-heading l = length l.tables.declared.headings.items - length l.all.items
