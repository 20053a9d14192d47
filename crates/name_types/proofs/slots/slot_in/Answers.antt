use Rattle.std.proofs.Common.{ap, ◌∙◌}
use Rattle.java_core.specs.Owned.{first_among, listed}
use Rattle.name_types.specs.Found.{fits}
use Rattle.name_types.proofs.SlotPlaces.{keyed-slot}
use Rattle.name_types.proofs.slots.slot_in.Goals as goal

pub returns : goal.returns
returns c =
    c.slot_among.ensures
    ∙ ap (first_among (fits c.args.name.now c.args.locals.now c.args.outcome) c.args.slots.now.items)
    (c.listed_under-list.ensures ∙ ap (listed c.args.keyed.now.items) c.slot_key.ensures)
    ∙ keyed-slot c.args.name.now c.args.locals.now c.args.outcome c.args.slots.now.items c.args.keyed.now.items c.requires
