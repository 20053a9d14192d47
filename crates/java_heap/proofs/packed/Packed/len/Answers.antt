use Rattle.std.proofs.Common.{◌∙◌}
use Rattle.java_heap.proofs.Unpacked.{sized}
use Rattle.java_heap.proofs.packed.Packed.len.Goals as goal

pub returns : goal.returns
returns c = c.len.ensures ∙ c.self.inside.tags.ok.0 ∙ sized c.self.inside.tags.items c.self.inside.words.items c.args.self.now c.self.view_is c.self.invariant
