use Rattle.std.proofs.Common.{◌≡◌, ◌<◌, Some, refl, length, get_or, ap, subst, ◌∙◌, arith}
use Rattle.std.specs.Prelude.{slice_get, true, false}
use Rattle.java_heap.specs.declared.values.Value.TheVariants as kind
use Rattle.java_heap.specs.declared.packed.Tag.{Tag}
use Rattle.java_heap.specs.declared.packed.Tag.TheVariants as tag
use Rattle.java_heap.proofs.Unpacked.{sized, unpacked_get, got_tag}
use Rattle.java_heap.proofs.packed.Packed.get.Goals as goal

pub index-requires : goal.index-requires
index-requires c = omega (arith, c.self.inside.tags.ok.0, sized _ _ _ c.self.view_is c.self.invariant, c.requires)

pub index-requires-in_default : goal.index-requires-in_default
index-requires-in_default c = omega (arith, c.self.inside.words.ok.0, c.self.invariant, sized _ _ _ c.self.view_is c.self.invariant, c.requires)

pub returns-in-False : goal.returns-in-False
returns-in-False c = got_tag _ _ _ c.self.view_is c.self.invariant c.args.at _ tag.False (kind.Bool false) c.requires c.in-False.is c.index.ensures (λ w. refl)

pub returns-in-True : goal.returns-in-True
returns-in-True c = got_tag _ _ _ c.self.view_is c.self.invariant c.args.at _ tag.True (kind.Bool true) c.requires c.in-True.is c.index.ensures (λ w. refl)

pub returns-in_default : goal.returns-in_default
returns-in_default c =
    let ts = c.self.inside.tags.items in
    let ws = c.self.inside.words.items in
    let t = c.index.result.now in
    let w = c.index-in_default.result.now in
    let size = sized ts ws c.args.self.now c.self.view_is c.self.invariant in
    let within : c.args.at < length ts = omega (arith, size, c.requires) in
    ap Some c.unpack.ensures
    ∙ unpacked_get ts ws c.args.at t w c.self.invariant within c.index.ensures c.index-in_default.ensures
    ∙ ap (λ l. slice_get l c.args.at) c.self.view_is
