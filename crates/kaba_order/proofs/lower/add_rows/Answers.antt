use Rattle.std.proofs.Common.{◌≡◌, ◌<◌, ◌+◌, true, inl, inr, ⊎_elim, ◌∙◌, sym, subst, ap, arith}
use Rattle.std.proofs.lemmas.Bool.{cases_eq}
use Rattle.kaba_bits.specs.Sets.{bit, row, HasWidth}
use Rattle.kaba_bits.proofs.RowLemmas.{bit-row-below}
use Rattle.kaba_order.proofs.LowerLemmas.{gained_next}
use Rattle.kaba_order.proofs.lower.add_rows.Goals as goal

pub loop-a-preserved : goal.loop-a-preserved
loop-a-preserved c =
    let le = c.args.le.now in
    let i = c.loop-a.a in
    gained_next (λ a b. (a < i + 1) × (bit (row le a) b ≡ true)) (λ a b. (a < i) × (bit (row le a) b ≡ true))
    (λ a b. (a ≡ i) × (bit c.row_at.result.now b ≡ true)) c.args.lower.now c.loop-a.lower c.add_number.new.lower c.loop-a.invariant c.add_number.ensures
    (λ a b p. ⊎_elim
    (λ e. inr (e, ap (λ r. bit r b) c.row_at.ensures ∙ subst (λ k. bit (row le k) b ≡ true) e p.1))
    (λ ne. inl (omega (arith, p.0, ne), p.1)) (cases_eq a i))

pub returns : goal.returns
returns c =
    let le = c.args.le.now in
    let x = c.loop-a.invariant in
    let e = c.requires.len ∙ sym c.requires.count in
    record {
      len = x.size.len ∙ e;
      widths = subst (λ w. HasWidth w c.loop-a.lower) e x.size.widths;
      covers = λ a b lt h. x.added a b (omega (arith, lt, e))
          (omega (arith, bit-row-below le a b h, c.requires.count, c.loop-a-test.false, c.loop-a.auto.a-end), h);
    }
