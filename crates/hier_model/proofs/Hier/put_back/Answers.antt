use Rattle.std.proofs.Common.{◌∙◌, sym, subst}
use Rattle.hier_model.specs.Differences.{IsUndoOf}
use Rattle.hier_model.proofs.UndoLemmas.{undo_nodes, undo_pairs, undo_order, undo_fits, undo_back}
use Rattle.hier_model.proofs.Hier.put_back.Goals as goal

pub flip-requires-clause-nodes : goal.flip-requires-clause-nodes
flip-requires-clause-nodes c =
    let old = c.requires.0 in
    undo_nodes old _ c.args.kept (subst (λ h. IsUndoOf old h c.args.kept) (sym c.self.view_is) c.requires.1)

pub flip-requires-clause-pairs : goal.flip-requires-clause-pairs
flip-requires-clause-pairs c =
    let old = c.requires.0 in
    undo_pairs old _ c.args.kept (subst (λ h. IsUndoOf old h c.args.kept) (sym c.self.view_is) c.requires.1)

pub flip-requires-clause-order : goal.flip-requires-clause-order
flip-requires-clause-order c =
    let old = c.requires.0 in
    undo_order old _ c.args.kept (subst (λ h. IsUndoOf old h c.args.kept) (sym c.self.view_is) c.requires.1)

pub restore_all-requires : goal.restore_all-requires
restore_all-requires c =
    let old = c.requires.0 in
    undo_fits old _ c.args.kept (subst (λ h. IsUndoOf old h c.args.kept) (sym c.self.view_is) c.requires.1) c.flip.new.self c.flip.ensures.flipped
    c.flip.ensures.order

pub returns : goal.returns
returns c = λ old u.
    c.restore_all.ensures
    ∙ undo_back old _ c.args.kept (subst (λ h. IsUndoOf old h c.args.kept) (sym c.self.view_is) u) c.flip.new.self c.flip.ensures.flipped c.flip.ensures.order
