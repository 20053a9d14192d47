use Rattle.std.proofs.Common.{◌∙◌}
use Rattle.java_heap.proofs.Stored.{count, added, heap_longer, heap_added}
use Rattle.java_heap.proofs.heap.Heap.add.Goals as goal

pub invariant_of-self-in_err-push_both : goal.invariant_of-self-in_err-push_both
invariant_of-self-in_err-push_both c =
    heap_longer _ _ _ _ _ _ _ c.self.invariant c.in_ok-extend.ensures c.in_err-push_both.ensures.first c.in_err-push_both.ensures.second

pub invariant_of-self-2 : goal.invariant_of-self-2
invariant_of-self-2 c =
    heap_added _ _ _ _ _ _ _ c.self.invariant c.in_ok-extend.ensures _ _ c.in_ok-push_both.ensures.first c.in_ok-push_both.ensures.second
    (c.in_ok-start.ensures ∙ c.len-2.ensures) c.in_ok-len.ensures

pub returns-clause-place : goal.returns-clause-place
returns-clause-place c = c.in_ok-at.ensures ∙ c.len.ensures ∙ c.self.inside.labels.ok.0 ∙ count _ _ _ _ _ c.self.view_is c.self.invariant

pub returns-clause-cells : goal.returns-clause-cells
returns-clause-cells c =
    let put = c.in_ok-push_both.ensures in
    added _ _ _ _ _ c.self.view_is c.self.invariant _ _ _ _ _ _ put.first put.second c.in_ok-extend.ensures (c.in_ok-start.ensures ∙ c.len-2.ensures)
    c.in_ok-len.ensures
