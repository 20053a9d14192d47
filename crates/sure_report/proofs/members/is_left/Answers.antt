use Rattle.std.proofs.Common.{◌≡◌, [], true, sym, ◌∙◌, subst}
use Rattle.std.proofs.lemmas.List.{get_or_default}
use Rattle.kaba_bits.specs.Sets.{bit, row}
use Rattle.sure_report.proofs.members.is_left.Goals as goal

pub returns : goal.returns
returns c =
    let e : c.index.result.now ≡ row c.args.sets.now.items c.args.k =
    c.index.ensures ∙ get_or_default c.args.sets.now.items c.args.k c.index.result.now [] c.requires in (
      λ h s b. c.is_empty_set.ensures.0 h s (subst (λ z. bit z s ≡ true) (sym e) b),
      λ f. c.is_empty_set.ensures.1 (λ s b. f s (subst (λ z. bit z s ≡ true) e b)),
    )
