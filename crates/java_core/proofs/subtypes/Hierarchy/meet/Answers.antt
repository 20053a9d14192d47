use Rattle.std.proofs.Common.{◌≡◌, length, true, sym, ap, ◌∙◌, subst}
use Rattle.std.specs.Prelude.{◌↔◌}
use Rattle.std.proofs.lemmas.Bool.{OnTrue_at, OnFalse_at}
use Rattle.kaba_bits.specs.Sets.{row}
use Rattle.java_core.specs.Subtypes.{Share}
use Rattle.java_core.proofs.SquareLemmas.{meet-past, meet-shared}
use Rattle.java_core.proofs.subtypes.Hierarchy.meet.Goals as goal

pub returns-then-is_outside : goal.returns-then-is_outside
returns-then-is_outside c = sym (meet-past _ _ _ c.self.view_is _ _ (OnTrue_at c.if-is_outside.true c.is_outside.ensures.outside))

pub returns : goal.returns
returns c =
    let rows = c.self.inside.below.items in
    let a = c.args.a in
    let b = c.args.b in
    let k = OnFalse_at c.if-is_outside.false c.is_outside.ensures.inside in
    meet-shared (length rows) rows c.args.self.now c.self.view_is c.self.invariant a b k.0 k.1 c.share.result
    (subst (λ r. (c.share.result ≡ true) ↔ Share r (row rows b) a b) (c.row_at.ensures ∙ ap (λ l. row l a) c.as_slice-below.ensures.value)
    (subst (λ r. (c.share.result ≡ true) ↔ Share c.row_at.result.now r a b) (c.row_at-2.ensures ∙ ap (λ l. row l b) c.as_slice-below.ensures.value)
    c.share.ensures))
