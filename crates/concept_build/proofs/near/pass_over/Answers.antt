use Rattle.std.proofs.Common.{◌<◌, inl, inr, ⊎_elim, length, get_or, refl, sym, ap, ◌∙◌, subst, arith, All}
use Rattle.std.proofs.lemmas.Bool.{false≢true}
use Rattle.std.proofs.lemmas.List.{length-map}
use Rattle.std.proofs.lemmas.List.Elements.{Contains-push_cases}
use Rattle.kaba_bits.specs.Sets.{row, size, HasWidth}
use Rattle.kaba_bits.proofs.SetLemmas.{bit-below}
use Rattle.concept_build.specs.Tables.{IsMissed}
use Rattle.concept_build.proofs.NearLemmas.{column-place, none_missed}
use Rattle.concept_build.proofs.near.pass_over.Goals as goal

pub index-requires : goal.index-requires
index-requires c = omega (arith, c.requires.q, ap length c.requires.counts.rows, length-map c.args.table.now size)

pub returns-then-columns-index : goal.returns-then-columns-index
returns-then-columns-index c = record {
  wide = λ m h. ⊎_elim (λ old. inl old) (λ e. inr (sym e)) (Contains-push_cases c.args.wide.now.items c.args.q m (rw c.in_ok-push.ensures.items at h));
  len = refl;
  passed = λ p was gone. absurd (false≢true (sym gone ∙ was));
}

pub missed_columns-requires : goal.missed_columns-requires
missed_columns-requires c = rw c.row_at.ensures (sym (c.requires.widths c.args.q c.requires.q))

pub keep_some-requires : goal.keep_some-requires
keep_some-requires c =
    let T = c.args.table.now in
    let shares = c.requires.counts.shares in
    let ex = c.args.counts.now.examples.items in
    record {
      listed = rw (c.deref.ensures.value, c.deref-2.ensures.value, shares.len) (subst (λ n. All (λ m. m < n) c.in_ok-missed.missed.items)
          (ap length c.row_at.ensures ∙ c.requires.widths c.args.q c.requires.q) c.in_ok-missed.ensures.below);
      widths = rw c.deref.ensures.value (subst (λ n. HasWidth n c.args.counts.now.shares.sets.items) (length-map ex (row T)
          ∙ sym c.requires.left) shares.widths);
    }

pub returns-clause-passed : goal.returns-clause-passed
returns-clause-passed c p was gone =
    let T = c.args.table.now in
    let B = c.args.item.now.1 in
    let ex = c.args.counts.now.examples.items in
    let sets = c.args.counts.now.shares.sets.items in
    let missed = c.in_ok-missed.missed.items in
    let lt : p < length ex = omega (arith, bit-below c.args.left.now p was, c.requires.left) in
    let none = rw (c.deref.ensures.value, c.deref-2.ensures.value) at c.in_ok-keep_some.ensures.passed p was gone in
    none_missed B (row T (get_or ex p 0)) (row T c.args.q) missed
    (subst (λ R. IsMissed B R missed) c.row_at.ensures c.in_ok-missed.ensures.missed)
    (λ k d klt. sym (c.requires.counts.shares.bits (get_or missed k d) p ∙ column-place T ex p (get_or missed k d) lt) ∙ none k d klt)
