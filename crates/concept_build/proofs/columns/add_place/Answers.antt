use Rattle.std.proofs.Common.{◌≡◌, ⊎_elim, ◌<◌, length, sym, ap, ◌∙◌, subst, arith}
use Rattle.std.proofs.lemmas.Bool.{cases_lt, cases_eq}
use Rattle.kaba_bits.specs.Sets.{bit, row}
use Rattle.kaba_bits.proofs.SetLemmas.{bit-below}
use Rattle.concept_build.proofs.columns.add_place.Goals as goal

pub loop-c-preserved : goal.loop-c-preserved
loop-c-preserved c =
    let old = c.loop-c.sets in
    let new = c.set_at.new.rows in
    let columns = c.args.columns.now in
    let p = c.args.p in
    let i = c.in-Some.c in
    let found = c.in-Some.ensures in
    let inv = c.loop-c.invariant in
    let o = c.set_at.ensures in
    let lt : i < length columns = bit-below columns i found.holds in
    record {
      at = omega (arith, lt);
      len = o.len ∙ inv.len;
      widths = λ k. o.widths k ∙ inv.widths k;
      others = λ k j ne.
          ⊎_elim
          (λ e. subst (λ m. bit (row new m) j ≡ bit (row old m) j) (sym e) (o.added.rest j ne) ∙ inv.others k j ne)
          (λ apart. ap (λ r. bit r j) (o.added.others k apart) ∙ inv.others k j ne)
          (cases_eq k i);
      done = λ k below.
          ⊎_elim
          (λ e. subst (λ m. bit (row new m) p ≡ bit columns m) (sym e) (o.added.added ∙ sym found.holds))
          (λ apart.
          ap (λ r. bit r p) (o.added.others k apart)
          ∙ ⊎_elim (λ low. inv.done k low) (λ high. inv.rest k high ∙ sym (found.least k high (omega (arith, below, apart)))) (cases_lt k c.loop-c.at))
          (cases_eq k i);
      rest = λ k le. ap (λ r. bit r p) (o.added.others k (λ e. absurd (omega (arith, e, le)))) ∙ inv.rest k (omega (arith, le, found.low));
    }

pub overflow_add-at : goal.overflow_add-at
overflow_add-at c = let lt = bit-below c.args.columns.now c.in-Some.c c.in-Some.ensures.holds in omega (arith, lt, c.requires.small)
