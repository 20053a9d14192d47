use Rattle.std.proofs.Common.{ap, sym, ◌∙◌, arith}
use Rattle.std.proofs.Math.ListN.{set}
use Rattle.java_heap.specs.declared.values.Value.TheVariants as kind
use Rattle.java_heap.specs.Packing.{value_at}
use Rattle.java_heap.proofs.Unpacked.{sized, truth_at, unpacked_set, unpacked_set_tag}
use Rattle.java_heap.proofs.packed.Packed.set.Goals as goal

pub index_mut-requires : goal.index_mut-requires
index_mut-requires c = omega (arith, c.self.inside.tags.ok.0, sized _ _ _ c.self.view_is c.self.invariant, c.requires)

pub index_mut-requires-in_default : goal.index_mut-requires-in_default
index_mut-requires-in_default c = omega (arith, c.self.inside.tags.ok.0, sized _ _ _ c.self.view_is c.self.invariant, c.requires)

pub index_mut-requires-in_default-2 : goal.index_mut-requires-in_default-2
index_mut-requires-in_default-2 c = omega (arith, c.self.inside.words.ok.0, c.self.invariant, sized _ _ _ c.self.view_is c.self.invariant, c.requires)

pub returns-in-Bool : goal.returns-in-Bool
returns-in-Bool c =
    let at = c.args.at in
    let b = c.in-Bool.truth in
    unpacked_set_tag c.self.inside.tags.items c.self.inside.words.items at c.truth_tag.result (kind.Bool b) c.self.invariant
    (λ w. ap (λ t. value_at t w) c.truth_tag.ensures ∙ truth_at b w)
    ∙ ap (λ l. set l at (kind.Bool b)) c.self.view_is
    ∙ ap (set c.args.self.now at) (sym c.in-Bool.is)

pub returns-in_default : goal.returns-in_default
returns-in_default c =
    let at = c.args.at in
    let t = c.tag_of.result in
    let w = c.word_of.result in
    unpacked_set c.self.inside.tags.items c.self.inside.words.items at t w c.self.invariant
    ∙ ap (λ l. set l at (value_at t w)) c.self.view_is
    ∙ ap (set c.args.self.now at) (ap (λ k. value_at k w) c.tag_of.ensures ∙ c.word_of.ensures)
