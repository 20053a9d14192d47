use Rattle.std.proofs.Common.{ℕ, Bool, ◌∙◌, sym, ap, ◌&&◌, cond, List, [], ◌∷◌, ◌++◌}
use Rattle.kaba_base.specs.declared.NodeId.{NodeId}
use Rattle.kaba_order.specs.Orders.{is_live}
use Rattle.hier_model.specs.Hierarchies.{node, origin_of}
use Rattle.hier_tree.specs.Trees.{is_from}
use Rattle.tree_merge.proofs.TryLemmas.{from_next}
use Rattle.tree_merge.proofs.tries.nodes_from.Goals as goal

pub loop-n-preserved : goal.loop-n-preserved
loop-n-preserved c =
    let H = c.args.hier.now in
    let has : ℕ → Bool = λ n. is_live H.order n && is_from c.args.class (origin_of H n) in
    let n : ℕ = c.loop-n.n in
    c.in_ok-add_from.ensures ∙ ap (λ (l : List NodeId). l ++ cond (has n) (node n ∷ []) []) c.loop-n.invariant ∙ sym (from_next has n)
