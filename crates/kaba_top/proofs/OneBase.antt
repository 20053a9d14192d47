-- `base` has one answer for a program.
use Rattle.std.proofs.Common.{◌≡◌, inl, inr, ⊎_elim, ℕ, List, [], refl, sym, ap, subst}
use Rattle.fact_model.specs.declared.facts.Facts.{Facts}
use Rattle.fact_model.specs.declared.sets.Table.{Table}
use Rattle.fact_model.specs.Concepts.{AreMoreThan}
use Rattle.stem_base.specs.Base.{Sides, common, IsStemBase, AreMoreStems}
use Rattle.stem_base.specs.Text.{base_text}
use Rattle.stem_base.proofs.Uniqueness.{one_base, never_both}
use Rattle.flow_program.specs.Same.{AreSameFacts}
use Rattle.kaba_words.specs.Commands.{usual_concepts}
use Rattle.kaba_top.specs.FactsAnswers.{too_many_concepts}
use Rattle.kaba_top.specs.BaseAnswers.{most_implications, too_many_implications, StemsOf, BaseOf}
use Rattle.kaba_top.specs.OneAnswer.{AreOneKind}
use Rattle.kaba_top.proofs.SameSets.{one_table, one_width}
use Rattle.kaba_top.proofs.OneAnalysis.{said, given}

-- what holds of the rows and the width of a table holds of those of another that has the same
module _ (a b : Table) (rows : a.rows.items ≡ b.rows.items) (width : a.width ≡ b.width) where
  concepts_there : (n : ℕ) → AreMoreThan a.rows.items a.width n → AreMoreThan b.rows.items b.width n
  concepts_there n more = subst (λ T. AreMoreThan T b.width n) rows (subst (λ w. AreMoreThan a.rows.items w n) width more)

  stems_there : (n : ℕ) → AreMoreStems a.width (common a.rows.items a.width) n → AreMoreStems b.width (common b.rows.items b.width) n
  stems_there n more =
      subst (λ T. AreMoreStems b.width (common T b.width) n) rows (subst (λ w. AreMoreStems w (common a.rows.items w) n) width more)

  base_there : (xs : List Sides) → IsStemBase a.width (common a.rows.items a.width) xs → IsStemBase b.width (common b.rows.items b.width) xs
  base_there xs is = subst (λ T. IsStemBase b.width (common T b.width) xs) rows (subst (λ w. IsStemBase w (common a.rows.items w) xs) width is)

one_stems : (a b : Table) → a.rows.items ≡ b.rows.items → a.width ≡ b.width → AreOneKind (StemsOf a) (StemsOf b)
one_stems a b rows width s t o p e f (inl x) (inl y) = said 67 too_many_implications too_many_implications refl s t o p e f x.says y.says
one_stems a b rows width s t o p e f (inl x) (inr y) =
    absurd (never_both b.rows.items b.width most_implications y.base y.is y.within (stems_there a b rows width most_implications x.more))
one_stems a b rows width s t o p e f (inr x) (inl y) =
    absurd (never_both a.rows.items a.width most_implications x.base x.is x.within (stems_there b a (sym rows) (sym width) most_implications y.more))
one_stems a b rows width s t o p e f (inr x) (inr y) =
    given 0 0 (base_text x.base) (base_text y.base) [] [] refl
    (ap base_text (one_base b.rows.items b.width x.base y.base (base_there a b rows width x.base x.is) y.is)) refl s t o p e f x.gives y.gives

pub one_base_text : {F G : Facts} → AreSameFacts F G → AreOneKind (BaseOf F) (BaseOf G)
one_base_text same s t o p e f a b =
    let rows = one_table same a.table b.table a.is b.is in
    let width = one_width same a.table b.table a.is b.is in
    ⊎_elim
    (λ x. ⊎_elim
    (λ y. said 68 (too_many_concepts usual_concepts) (too_many_concepts usual_concepts) refl s t o p e f x.says y.says)
    (λ y. absurd (y.few (concepts_there a.table b.table rows width usual_concepts x.more))) b.answers)
    (λ x. ⊎_elim
    (λ y. absurd (x.few (concepts_there b.table a.table (sym rows) (sym width) usual_concepts y.more)))
    (λ y. one_stems a.table b.table rows width s t o p e f x.answers y.answers) b.answers)
    a.answers
