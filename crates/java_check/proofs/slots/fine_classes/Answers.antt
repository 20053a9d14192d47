use Rattle.java_check.proofs.Fine.{fine_class}
use Rattle.java_check.proofs.slots.fine_classes.Goals as goal

pub returns : goal.returns
returns c = fine_class c.args.p.now c.requires c.in_ok-fine.fine c.in_ok-fine.ensures
