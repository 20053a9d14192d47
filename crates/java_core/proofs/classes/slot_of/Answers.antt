use Rattle.java_core.specs.Programs.{program_of}
use Rattle.java_core.proofs.Offered.{slot_found, no_slot}
use Rattle.java_core.proofs.classes.slot_of.Goals as goal

pub returns-clause-found : goal.returns-clause-found
returns-clause-found c = slot_found (program_of c.args.p.now) c.requires c.args.class.0 c.args.name.now c.declared_slot.result c.declared_slot.ensures

pub returns-clause-none : goal.returns-clause-none
returns-clause-none c = no_slot (program_of c.args.p.now) c.requires c.args.class.0 c.args.name.now c.declared_slot.result c.declared_slot.ensures
