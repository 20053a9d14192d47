use Rattle.std.proofs.Common.{ap, ◌∙◌}
use Rattle.std.specs.Prelude.{is_ok}
use Rattle.java_heap.specs.Packing.{value_at}
use Rattle.java_heap.proofs.Unpacked.{unpacked_push}
use Rattle.java_heap.proofs.packed.Packed.push.Goals as goal

pub returns : goal.returns
returns c =
    let w = c.word_of.result in
    unpacked_push (is_ok c.push_both.result) c.self.inside.tags.items c.push_both.new.first.items c.self.inside.words.items c.push_both.new.second.items
    c.tag_of.result w c.args.value c.args.self.now c.self.view_is c.self.invariant (ap (λ t. value_at t w) c.tag_of.ensures ∙ c.word_of.ensures)
    c.push_both.ensures.first c.push_both.ensures.second
