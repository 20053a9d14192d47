use Rattle.std.proofs.Common.{◌≡◌, drop}
use Rattle.name_laws.specs.Classes.{has_id}
use Rattle.name_types.proofs.classes.has_id.Given as goal

-- it is among those that are left, if at all
abbrev pub invariant-loop-one : goal.invariant-loop-one
invariant-loop-one l = has_id (drop l.one-index l.list) l.class ≡ has_id l.list l.class
