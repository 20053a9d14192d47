use Rattle.std.proofs.Common.{arith, ap₂, sym, ◌∙◌}
use Rattle.java_core.specs.declared.Slot.{Slot}
use Rattle.name_types.specs.Keys.{key_of, slot_key}
use Rattle.name_types.proofs.SlotPlaces.{owned_noted}
use Rattle.name_types.proofs.slots.slotted.Goals as goal

pub returns-clause-found : goal.returns-clause-found
returns-clause-found c =
    owned_noted {A = Slot} key_of c.args.slots.now.items c.push.new.self.items _ c.slot_key.result c.len-2.result c.args.keyed.now.items
    c.note_under.new.lists.items c.in_ok-push.ensures.items c.requires.found
    (ap₂ (λ n ts. slot_key n ts c.args.outcome) c.in_ok-copy.ensures.value c.in_ok-types_of.ensures ∙ sym c.slot_key.ensures)
    (omega (arith, c.len-2.ensures, c.args.slots.now.ok.0)) c.in_ok-note_under.ensures
