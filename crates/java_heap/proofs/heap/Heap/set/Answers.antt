use Rattle.std.proofs.Common.{◌≡◌, List, subst, sym, arith}
use Rattle.std.specs.Prelude.{map, slice_get}
use Rattle.std.specs.Option.{IfSome}
use Rattle.java_heap.specs.declared.values.Value.{Value}
use Rattle.java_heap.proofs.Stored.{span_within, place_within, heap_of, with_written, stored}
use Rattle.java_heap.proofs.heap.Heap.set.Goals as goal

pub index-requires : goal.index-requires
index-requires c = omega (arith, c.self.inside.spans.ok.0, span_within _ _ _ _ _ c.self.view_is c.self.invariant _ c.requires.cell)

pub set-requires : goal.set-requires
set-requires c =
    let within =
    place_within _ _ _ _ _ c.self.view_is c.self.invariant c.args.at c.args.place c.index.result.now c.requires.cell c.requires.place c.index.ensures in
    omega (arith, within)

pub returns : goal.returns
returns c =
    let x = c.self.inside in
    let h = c.args.self.now in
    let strings = map (λ u. u.items) x.texts.items in
    let put =
    stored strings h _ _ _ c.self.view_is c.self.invariant c.args.at c.args.place c.args.value c.index.result.now c.requires.cell c.requires.place
    c.index.ensures in
    record {
      value =
          subst (λ (l : List Value). IfSome (slice_get h.cells c.args.at)
          (λ d. heap_of strings x.labels.items x.spans.items l ≡ with_written h c.args.at d c.args.place c.args.value))
          (sym c.set.ensures)
          put;
    }
