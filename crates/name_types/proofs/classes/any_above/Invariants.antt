use Rattle.std.proofs.Common.{◌≡◌, drop}
use Rattle.name_laws.specs.Classes.{any_above}
use Rattle.name_types.proofs.classes.any_above.Given as goal

-- one is among those that are left, if at all
abbrev pub invariant-loop-class : goal.invariant-loop-class
invariant-loop-class l = any_above l.rows (drop l.class-index l.list) l.b ≡ any_above l.rows l.list l.b
