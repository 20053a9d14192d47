use Rattle.std.proofs.Common.{List, ap, sym, ◌∙◌}
use Rattle.std.specs.Prelude.{slice_get}
use Rattle.java_heap.specs.declared.heap.Span.{Span}
use Rattle.java_heap.proofs.Stored.{room, read_there, read_gone}
use Rattle.java_heap.proofs.heap.Heap.value.Goals as goal

pub value_in-requires : goal.value_in-requires
value_in-requires c =
    let found = sym c.in-Some.is ∙ c.span_at.ensures ∙ ap (λ (l : List Span). slice_get l c.args.at) c.deref.ensures.value in
    room _ _ _ _ _ c.self.view_is c.self.invariant c.args.at c.in-Some.span found

pub returns-in-Some : goal.returns-in-Some
returns-in-Some c =
    let found = sym c.in-Some.is ∙ c.span_at.ensures ∙ ap (λ (l : List Span). slice_get l c.args.at) c.deref.ensures.value in
    record { value = read_there _ _ _ _ _ c.self.view_is c.self.invariant c.args.at c.args.place c.in-Some.span c.value_in.result found c.value_in.ensures }

pub returns-in-None : goal.returns-in-None
returns-in-None c =
    let gone = sym c.in-None.is ∙ c.span_at.ensures ∙ ap (λ (l : List Span). slice_get l c.args.at) c.deref.ensures.value in
    record { value = read_gone _ _ _ _ _ c.self.view_is c.self.invariant c.args.at c.args.place gone }
