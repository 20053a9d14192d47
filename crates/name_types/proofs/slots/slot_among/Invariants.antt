use Rattle.std.proofs.Common.{◌≡◌, drop}
use Rattle.java_core.specs.Owned.{first_among}
use Rattle.name_types.specs.Found.{fits}
use Rattle.name_types.proofs.slots.slot_among.Given as goal

-- none so far
abbrev pub invariant-loop-at : goal.invariant-loop-at
invariant-loop-at l = first_among (fits l.name l.locals l.outcome) l.slots.items (drop l.at-index l.list)
    ≡ first_among (fits l.name l.locals l.outcome) l.slots.items l.list
