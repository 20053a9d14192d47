use Rattle.std.proofs.Common.{◌≡◌, ◌-◌, drop, length}
use Rattle.name_laws.specs.Tables.{is_above}
use Rattle.java_core.specs.Owned.{first_among}
use Rattle.name_bodies.proofs.met.met_among.Given as goal

-- none so far
abbrev pub invariant-places : goal.invariant-places
invariant-places l = first_among (λ h. is_above l.rows l.class h.owner) l.headings.items (drop l.place l.list)
    ≡ first_among (λ h. is_above l.rows l.class h.owner) l.headings.items l.list

abbrev pub decreases-places : goal.decreases-places
decreases-places l = length l.list - l.place
