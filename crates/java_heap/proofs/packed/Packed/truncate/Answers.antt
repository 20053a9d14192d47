use Rattle.std.proofs.Common.{take, ap, ◌∙◌}
use Rattle.java_heap.specs.Packing.{unpacked}
use Rattle.java_heap.proofs.Unpacked.{unpacked_take}
use Rattle.java_heap.proofs.packed.Packed.truncate.Goals as goal

pub returns : goal.returns
returns c =
    let ts = c.self.inside.tags.items in
    let ws = c.self.inside.words.items in
    let n = c.args.count in
    ap (λ l. unpacked l c.truncate-2.new.self.items) c.truncate.ensures.items
    ∙ ap (unpacked (take n ts)) c.truncate-2.ensures.items
    ∙ unpacked_take n ts ws
    ∙ ap (take n) c.self.view_is
