use Rattle.std.proofs.Common.{All}
use Rattle.hier_model.specs.Hierarchies.{Hierarchy}
use Rattle.tree_merge.specs.Attempts.{AreApart, IsTryOf}
use Rattle.tree_merge.proofs.TryLemmas.{follows}
use Rattle.tree_merge.proofs.tries.tries_of.Goals as goal

pub returns-in_default-clause-edits : goal.returns-in_default-clause-edits
returns-in_default-clause-edits c =
    let H = c.args.hier.now in
    follows (λ v. (K : Hierarchy) → AreApart K.order c.args.conflict.first c.args.conflict.second → All (IsTryOf K) v.items)
    (λ v. All (IsTryOf H) v.items) (λ v f. f H c.requires.apart) c.tries_of_others.result c.tries_of_others.ensures.edits
