use Rattle.std.proofs.Common.{length}
use Rattle.name_types.proofs.slots.+have_types.Given as goal

abbrev pub decreases-have_types : goal.decreases-have_types
decreases-have_types l = length l.locals.now
