-- Mirror. What the definitions see of the members so far, and what is found of them by name.
use Rattle.std.specs.Prelude.{ℕ, Bool, List, [], ◌∷◌, ◌++◌, length, Option, Some, None, map, if◌then◌else◌}
use Rattle.java_core.specs.declared.Ty.{Ty}
use Rattle.java_core.specs.declared.Field.{Field}
use Rattle.java_core.specs.declared.Local.{Local}
use Rattle.java_core.specs.declared.Slot.{Slot}
use Rattle.java_core.specs.Programs.{slot_seen}
use Rattle.name_types.specs.declared.members.Draft.{Draft}
use Rattle.name_types.specs.Keys.{AreKeyed}
use Rattle.name_laws.specs.declared.parts.Heading.{Heading}
use Rattle.name_laws.specs.Members.{Members, is_signature, slotted}
use Rattle.name_tables.specs.Declarations.{AreDeclarationsListed}

-- the members of a draft
abbrev pub members_seen : Draft → Members
members_seen d = record { fields = d.declared.fields.items; headings = d.declared.headings.items; slots = map slot_seen d.slots.items }

-- whether a slot has this name, these parameters and this result
abbrev pub fits : List ℕ → List Local → Option Ty → Slot → Bool
fits n ls r s = is_signature n ls r (slot_seen s)

-- the members with one method more, and with one field more
abbrev pub with_method : Members → Heading → Members
with_method m h = record { fields = m.fields; headings = m.headings ++ h ∷ []; slots = m.slots }

-- the members with one field more
abbrev pub with_field : Members → Field → Members
with_field m f = record { fields = m.fields ++ f ∷ []; headings = m.headings; slots = m.slots }

-- the slot of the next method, and the members with it
abbrev pub slot_of : Bool → List ℕ → List Local → Option Ty → Members → Option ℕ × Members
slot_of static n ls r m =
    if static then (None, m)
    else let s = slotted n ls r (length m.headings) m.slots in (Some s.0, record { fields = m.fields; headings = m.headings; slots = s.1 })

-- what is declared is found by its tables, and the slots of each key stand where the draft says
pub record AreDeclarationsFound (d : Draft) : Type 0 where
  pub listed : AreDeclarationsListed d.declared
  pub slots : AreKeyed d.slots.items d.keyed_slots.items
