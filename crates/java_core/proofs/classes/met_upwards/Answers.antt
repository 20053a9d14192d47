use Rattle.java_core.specs.Programs.{program_of}
use Rattle.java_core.specs.Classes.{same_class}
use Rattle.java_core.proofs.Offered.{met-slot, one_up}
use Rattle.java_core.proofs.classes.met_upwards.Goals as goal

pub up-init : goal.up-init
up-init c = same_class

pub returns-then-is_some : goal.returns-then-is_some
returns-then-is_some c = met-slot (program_of c.args.p.now) c.requires c.args.name.now c.args.class.0 c.up.at.0 c.own_method-own.result
    c.up.invariant c.own_method-own.ensures

pub up-preserved : goal.up-preserved
up-preserved c = one_up (program_of c.args.p.now) c.args.class.0 c.up.at.0 c.in_ok-at.at c.up.invariant c.in_ok-at.ensures
