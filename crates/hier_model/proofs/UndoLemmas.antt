-- What was kept of an edit, put back over the hierarchy that it made.
use Rattle.std.proofs.Common.{◌≡◌, ◌<◌, length, All, sym, ap, ◌∙◌, subst}
use Rattle.std.specs.List.{flat_map}
use Rattle.kaba_order.specs.Orders.{Ordered, IsPartialOrder}
use Rattle.kaba_order.specs.Flips.{IsFlipped, HasFlipped}
use Rattle.kaba_order.proofs.FlipLemmas.{one_flipped}
use Rattle.hier_model.specs.Hierarchies.{Hierarchy}
use Rattle.hier_model.specs.Alike.{AreAlike}
use Rattle.hier_model.specs.Differences.{changes, named_node, IsUndoOf}
use Rattle.hier_model.specs.Restored.{restored, FitsIn}
use Rattle.hier_model.specs.declared.differences.Undo.{Undo}
use Rattle.hier_model.proofs.EditedLemmas.{IsSameOutside, edited_outside, edited_alike}
use Rattle.hier_model.proofs.ChangeLemmas.{flipped_back, nodes_below, pairs_below}
use Rattle.hier_model.proofs.RestoreLemmas.{restored_back, changes_fit}

module _ (old new : Hierarchy) (kept : Undo) (u : IsUndoOf old new kept) where
  out : IsSameOutside old new
  out = edited_outside old new u.edited

  like : AreAlike old new
  like = edited_alike old new u.edited

  pub undo_nodes : All (λ n. n.0 < length new.order.live) kept.nodes.items
  undo_nodes = subst (All (λ n. n.0 < length new.order.live)) (sym u.holds.nodes) (nodes_below old new out like)

  pub undo_pairs : All (λ p. (p.0.0 < length new.order.live) × (p.1.0 < length new.order.live)) kept.pairs.items
  undo_pairs = subst (All (λ p. (p.0.0 < length new.order.live) × (p.1.0 < length new.order.live))) (sym u.holds.pairs) (pairs_below old new out like)

  undo_flipped : IsFlipped new.order kept.nodes.items kept.pairs.items old.order
  undo_flipped =
      subst (λ l. IsFlipped new.order l kept.pairs.items old.order) (sym u.holds.nodes)
      (subst (λ l. IsFlipped new.order (flat_map named_node (changes old new)) l old.order) (sym u.holds.pairs) (flipped_back old new out like))

  pub undo_order : HasFlipped new.order kept.nodes.items kept.pairs.items
  undo_order = (old.order, like.old_order, undo_flipped)

  module _ (o : Ordered) (f : IsFlipped new.order kept.nodes.items kept.pairs.items o) (p : IsPartialOrder o) where
    order_back : o ≡ old.order
    order_back = one_flipped new.order o old.order kept.nodes.items kept.pairs.items f undo_flipped like.old_order p.count p.widths

    abbrev put : Ordered → Hierarchy
    put x = record new { order = x }

    pub undo_fits : All (FitsIn (record new { order = o })) kept.changes.items
    undo_fits =
        subst (λ l. All (FitsIn (put o)) l) (sym u.holds.all)
        (subst (λ x. All (FitsIn (put x)) (changes old new)) (sym order_back) (changes_fit old new out like))

    pub undo_back : restored (record new { order = o }) kept.changes.items ≡ old
    undo_back = ap (restored (put o)) u.holds.all ∙ (ap (λ x. restored (put x) (changes old new)) order_back ∙ restored_back old new out like)
