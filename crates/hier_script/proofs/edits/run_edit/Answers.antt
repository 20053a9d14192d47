use Rattle.std.proofs.Common.{sym, subst}
use Rattle.hier_model.specs.declared.edits.Act.TheVariants as acts
use Rattle.hier_script.specs.Histories.{IsCarriedOn}
use Rattle.hier_script.proofs.HistoryLemmas.{edited}
use Rattle.hier_script.proofs.edits.run_edit.Goals as goal

pub returns-in_ok-push-in-Ok-clause-history : goal.returns-in_ok-push-in-Ok-clause-history
returns-in_ok-push-in-Ok-clause-history c =
    let F = c.args.facts.now in
    let pt = c.args.sets.now in
    let New = c.apply_kept.new.hier in
    let before = c.args.undos.now.items in
    subst (IsCarriedOn F pt (acts.Edit c.args.edit.now) c.args.hier.now before New) (sym c.in_ok-push-in-Ok.ensures.items)
    (edited F pt c.args.edit.now c.args.hier.now New before c.in-Ok.undo c.in-Ok.ensures.accepted
    (record { is = c.in-Ok.ensures.is; meets = c.in-Ok.ensures.meets }) c.in-Ok.ensures.undo)
