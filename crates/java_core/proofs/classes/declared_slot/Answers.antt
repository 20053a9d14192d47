use Rattle.std.proofs.Common.{sym, ◌∙◌}
use Rattle.java_core.specs.Programs.{program_of}
use Rattle.java_core.proofs.Offered.{offered-slot, no_offer-slot}
use Rattle.java_core.proofs.classes.declared_slot.Goals as goal

pub returns-in-Some : goal.returns-in-Some
returns-in-Some c = c.slot_of_method.ensures ∙ c.in-Some.ensures

pub returns-in-Some-offered_at : goal.returns-in-Some-offered_at
returns-in-Some-offered_at c = c.slot_of_method-in-Some-offered_at.ensures
    ∙ offered-slot (program_of c.args.p.now) c.requires c.args.name.now c.args.class.0 c.in-Some-offered_at.at (sym c.in-Some-offered_at.ensures)

pub returns-in-None : goal.returns-in-None
returns-in-None c = no_offer-slot (program_of c.args.p.now) c.requires c.args.name.now c.args.class.0 (sym c.in-None.ensures)
