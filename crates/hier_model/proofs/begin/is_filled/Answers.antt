use Rattle.hier_model.proofs.SetTests.{filled-not}
use Rattle.hier_model.proofs.begin.is_filled.Goals as goal

pub returns : goal.returns
returns c = filled-not c.args.set.now c.is_empty.result c.is_empty.ensures.empty.0 c.is_empty.ensures.empty.1
