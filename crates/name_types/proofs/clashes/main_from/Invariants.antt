use Rattle.std.proofs.Common.{◌≡◌, drop}
use Rattle.std.specs.Prelude.{position}
use Rattle.std.specs.List.{position_from}
use Rattle.name_types.proofs.clashes.main_from.Given as goal

-- the first main is among those that are left
abbrev pub invariant-loop-i : goal.invariant-loop-i
invariant-loop-i l = position_from (λ h. h.is_main) l.i (drop l.i l.all.items) ≡ position (λ h. h.is_main) l.all.items
