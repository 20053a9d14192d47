use Rattle.std.proofs.Common.{List, ap, ◌∙◌}
use Rattle.std.specs.Prelude.{slice_get}
use Rattle.std.specs.Option.{option_map}
use Rattle.java_heap.specs.declared.heap.Label.{Label}
use Rattle.java_heap.proofs.Stored.{kind_found}
use Rattle.java_heap.proofs.heap.Heap.find.Goals as goal

pub returns : goal.returns
returns c =
    let there = c.kind_at.ensures ∙ ap (λ (l : List Label). option_map (λ (k : Label). k.kind) (slice_get l c.args.at)) c.deref.ensures.value in
    record { value = kind_found _ _ _ _ _ c.self.view_is c.self.invariant c.args.at c.kind_at.result there }
