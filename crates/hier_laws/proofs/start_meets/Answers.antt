use Rattle.hier_laws.proofs.StartMeets.{start_meets}
use Rattle.hier_laws.proofs.start_meets.Goals as goal

pub returns : goal.returns
returns c = start_meets
