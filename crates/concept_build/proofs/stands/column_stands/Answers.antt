use Rattle.std.proofs.Common.{◌≡◌, ◌<◌, true, get_or, sym, ap, ◌∙◌, subst}
use Rattle.kaba_bits.specs.Sets.{bit, size}
use Rattle.concept_build.specs.Tables.{column}
use Rattle.concept_build.proofs.StandLemmas.{column_stands-is}
use Rattle.concept_build.proofs.stands.column_stands.Goals as goal

pub returns-then-has : goal.returns-then-has
returns-then-has c =
    let k = c.args.c in
    let T = c.args.table.now in
    let o = column_stands-is T c.args.width c.args.item.now.0 c.args.item.now.1 c.requires.concept k c.requires.c in
    let e : bit c.args.item.now.1 k ≡ true = sym (c.has.ensures ∙ ap (λ s. bit s k) c.intent.ensures) ∙ c.if-has.true in
    let n : get_or c.args.sizes.now k 0 ≡ size (column T k) = c.requires.sizes k 0 c.requires.c in (
      λ h. let a = c.is_all_of.ensures.0 h in o.0 (e, subst (λ m. 0 < m) n a.0, sym n ∙ (a.1 ∙ c.rows.ensures)),
      λ s. let a = o.1 s in c.is_all_of.ensures.1 (subst (λ m. 0 < m) (sym n) a.1, n ∙ (a.2 ∙ sym c.rows.ensures)),
    )
