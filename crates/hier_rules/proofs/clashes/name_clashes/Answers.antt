use Rattle.std.proofs.Common.{length}
use Rattle.hier_rules.proofs.ClashLemmas.{clashes_same}
use Rattle.hier_rules.proofs.clashes.name_clashes.Goals as goal

pub returns : goal.returns
returns c = λ H e.
    let F = c.args.asked.now.facts.now in
    let n = length F.columns.items in
    clashes_same F c.args.asked.now.hier.now H n n c.in_ok-clashes.clashes.items e c.in_ok-clashes.ensures
