use Rattle.std.proofs.Common.{◌≡◌, ◌+◌, ◌-◌, ◌++◌, ◌∷◌, [], List, length, ap, ◌∙◌, arith}
use Rattle.std.proofs.lemmas.List.{length-replicate}
use Rattle.java_heap.specs.Cells.{site_of}
use Rattle.java_heap.proofs.Stored.{count, added, heap_longer, heap_added, copies_of}
use Rattle.java_meaning.specs.Moment.{Value, an_array}
use Rattle.java_heap.proofs.heap.Heap.array.Goals as goal

pub invariant_of-self-in_err-push_both : goal.invariant_of-self-in_err-push_both
invariant_of-self-in_err-push_both c =
    heap_longer _ _ _ _ _ _ _ c.self.invariant c.in_ok-resize.ensures c.in_err-push_both.ensures.first c.in_err-push_both.ensures.second

pub invariant_of-self-2 : goal.invariant_of-self-2
invariant_of-self-2 c =
    let put = c.in_ok-push_both.ensures in
    let many = c.in_ok-start.start + c.in_ok-len.len - length c.self.inside.values in
    let start = c.in_ok-start.ensures ∙ c.len-2.ensures in
    heap_added _ _ _ _ _ _ _ c.self.invariant c.in_ok-resize.ensures _ _ put.first put.second start
    (omega (arith, start, length-replicate many c.default_of.result))

pub returns-clause-place : goal.returns-clause-place
returns-clause-place c = c.in_ok-at.ensures ∙ c.len.ensures ∙ c.self.inside.labels.ok.0 ∙ count _ _ _ _ _ c.self.view_is c.self.invariant

pub returns-clause-cells : goal.returns-clause-cells
returns-clause-cells c =
    let h = c.args.self.now in
    let put = c.in_ok-push_both.ensures in
    let x = c.default_of.result in
    let many = c.in_ok-start.start + c.in_ok-len.len - length c.self.inside.values in
    let start : c.in_ok-start.start ≡ length c.self.inside.values = c.in_ok-start.ensures ∙ c.len-2.ensures in
    added _ _ _ _ _ c.self.view_is c.self.invariant _ _ _ _ _ _ put.first put.second c.in_ok-resize.ensures start
    (omega (arith, length-replicate many x))
    ∙ ap
    (λ (l : List Value). record { strings = h.strings; cells = h.cells ++ (record { site = site_of c.args.site; kind = an_array c.args.ty; values = l }) ∷ [] })
    (copies_of many c.args.count x _ (omega (arith, c.in_ok-len.ensures)) c.default_of.ensures.value)
