use Rattle.std.proofs.Common.{◌≡◌, drop}
use Rattle.name_laws.specs.Tables.{nearest_in}
use Rattle.name_bodies.specs.Views.{table_of}
use Rattle.name_bodies.proofs.tables.walked_field.Given as goal

-- what is nearest from here, in the steps that are left
abbrev pub invariant-loop-step : goal.invariant-loop-step
invariant-loop-step l = nearest_in (table_of l.tables) l.name (drop l._step-index l._step-items) l.at ≡ nearest_in (table_of l.tables) l.name
    l.tables.parents.items l.class
