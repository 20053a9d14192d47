use Rattle.std.proofs.Common.{◌∙◌}
use Rattle.java_heap.proofs.Stored.{count}
use Rattle.java_heap.proofs.heap.Heap.cells.Goals as goal

pub returns : goal.returns
returns c = record { value = c.len.ensures ∙ c.self.inside.labels.ok.0 ∙ count _ _ _ _ _ c.self.view_is c.self.invariant }
