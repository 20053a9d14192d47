use Rattle.std.proofs.Common.{subst, sym, All}
use Rattle.hier_model.specs.declared.edits.Edit.TheVariants as edit
use Rattle.tree_merge.specs.Attempts.{IsTryOf}
use Rattle.tree_merge.proofs.TryLemmas.{one_are}
use Rattle.tree_merge.proofs.tries.tries_of_one.Goals as goal

pub returns-clause-edits : goal.returns-clause-edits
returns-clause-edits c =
    let H = c.args.hier.now in
    subst (All (IsTryOf H)) (sym c.in_ok-tries.ensures.items)
    (one_are H c.args.x c.args.y c.requires.apart c.args.class c.requires.first c.requires.second (edit.Merge c.in_ok-pair.pair)
    (edit.Merge c.in_ok-all.all) c.in_ok-pair.ensures.items c.in_ok-all.ensures)
