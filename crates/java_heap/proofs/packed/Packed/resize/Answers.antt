use Rattle.std.proofs.Common.{ap, ◌∙◌}
use Rattle.java_heap.specs.Packing.{value_at}
use Rattle.java_heap.proofs.Unpacked.{unpacked_fill}
use Rattle.java_heap.proofs.packed.Packed.resize.Goals as goal

pub returns-in-Ok : goal.returns-in-Ok
returns-in-Ok c =
    let w = c.word_of.result in
    unpacked_fill c.self.inside.tags.items c.resize-2.new.self.items c.self.inside.words.items c.resize.new.self.items c.args.len
    c.self.inside.tags.len c.self.inside.words.len c.tag_of.result w c.args.value c.args.self.now c.self.view_is c.self.invariant c.requires
    (ap (λ t. value_at t w) c.tag_of.ensures ∙ c.word_of.ensures) c.self.inside.tags.ok.0 c.self.inside.words.ok.0
    c.in-Ok.ensures.items c.in_ok-resize.ensures.items
