use Rattle.std.proofs.Common.{arith}
use Rattle.java_heap.proofs.Stored.{span_within, count_there}
use Rattle.java_heap.proofs.heap.Heap.len.Goals as goal

pub index-requires : goal.index-requires
index-requires c = omega (arith, c.self.inside.spans.ok.0, span_within _ _ _ _ _ c.self.view_is c.self.invariant _ c.requires)

pub returns : goal.returns
returns c = record { value = count_there _ _ _ _ _ c.self.view_is c.self.invariant c.args.at c.index.result.now c.requires c.index.ensures }
