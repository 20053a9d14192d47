use Rattle.std.proofs.Common.{All}
use Rattle.hier_model.specs.Hierarchies.{Hierarchy}
use Rattle.tree_merge.specs.Attempts.{AreApart, IsTryOf}
use Rattle.tree_merge.proofs.TryLemmas.{follows}
use Rattle.tree_merge.proofs.tries.tries_by.Goals as goal

pub returns-then-below-clause-edits : goal.returns-then-below-clause-edits
returns-then-below-clause-edits c =
    let H = c.args.hier.now in
    follows (λ v. (K : Hierarchy) → AreApart K.order c.args.conflict.first c.args.conflict.second → All (IsTryOf K) v.items)
    (λ v. All (IsTryOf H) v.items) (λ v f. f H c.requires.apart) c.tries_of_lower.result c.tries_of_lower.ensures.edits

pub returns-then-below-2-clause-edits : goal.returns-then-below-2-clause-edits
returns-then-below-2-clause-edits c =
    let H = c.args.hier.now in
    follows (λ v. (K : Hierarchy) → AreApart K.order c.args.conflict.first c.args.conflict.second → All (IsTryOf K) v.items)
    (λ v. All (IsTryOf H) v.items) (λ v f. f H c.requires.apart) c.tries_of_higher.result c.tries_of_higher.ensures.edits

pub returns-clause-edits : goal.returns-clause-edits
returns-clause-edits c =
    let H = c.args.hier.now in
    follows (λ v. (K : Hierarchy) → AreApart K.order c.args.conflict.first c.args.conflict.second → All (IsTryOf K) v.items)
    (λ v. All (IsTryOf H) v.items) (λ v f. f H c.requires.apart) c.tries_of_others.result c.tries_of_others.ensures.edits
