-- Pseudo-closed sets of a closure operator, and the three laws over any such operator.
use Rattle.std.proofs.Common.{◌≡◌, ◌≢◌, ◌⊎◌, inl, inr, ⊎_elim, ℕ, suc, zero, ◌<◌, ◌≤◌, Bool, List, length, sym, ap, ◌∙◌, subst, arith}
use Rattle.std.proofs.lemmas.Bool.{cases_lt}
use Rattle.kaba_bits.specs.Sets.{size, IsSubset}
use Rattle.kaba_bits.proofs.SetLemmas.{size-le-length, size-subset, subset-same, subset-both}
use Rattle.stem_base.proofs.SetLemmas.{length-in_both, in_both-left, in_both-right, in_both-most}
use Rattle.stem_base.specs.Base.{in_both, Sides, IsPseudoIn, IsPseudo}

-- two sets of one width, the first within the second, are one or the first is smaller
pub same_or_less : (a b : List Bool) → length a ≡ length b → IsSubset a b → (a ≡ b) ⊎ (size a < size b)
same_or_less a b l s = ⊎_elim (λ lt. inr lt) (λ ge. inl (subset-same a b l s ge)) (cases_lt (size a) (size b))

module _ (w : ℕ) (cl : List Bool → List Bool)
    (wide : (X : List Bool) → length X ≡ w → length (cl X) ≡ w)
    (holds : (X : List Bool) → length X ≡ w → IsSubset X (cl X))
    (grows : (X Y : List Bool) → IsSubset X Y → IsSubset (cl X) (cl Y)) where
  -- more steps tell the same
  stable : (k m n : ℕ) (P : List Bool) → size P < k → size P < m → size P < n → IsPseudoIn m w cl P → IsPseudoIn n w cl P
  stable zero m n P a b c h = absurd (omega (arith, a))
  stable (suc k) zero n P a b c h = absurd (omega (arith, b))
  stable (suc k) (suc m) zero P a b c h = absurd (omega (arith, c))
  stable (suc k) (suc m) (suc n) P a b c h =
      (h.0, h.1, λ Q q sub lt. h.2 Q (stable k n m Q (omega (arith, a, lt)) (omega (arith, c, lt)) (omega (arith, b, lt)) q) sub lt)

  -- the definition without its count of steps
  -- the definition without its count of steps
  pub from_said : (P : List Bool) → length P ≡ w → P ≢ cl P
      → ((Q : List Bool) → IsPseudo w cl Q → IsSubset Q P → size Q < size P → IsSubset (cl Q) P) → IsPseudo w cl P
  from_said P len ne each =
      let le : size P ≤ w = omega (arith, len, size-le-length P) in
      (len, ne, λ Q q sub lt. each Q (stable (suc w) w (suc w) Q (omega (arith, lt, le)) (omega (arith, lt, le)) (omega (arith, lt, le)) q) sub lt)

  pub inner : (P Q : List Bool) → IsPseudo w cl P → IsPseudo w cl Q → IsSubset Q P → size Q < size P → IsSubset (cl Q) P
  inner P Q p q sub lt =
      let le : size P ≤ w = omega (arith, p.0, size-le-length P) in
      p.2 Q (stable (suc w) (suc w) w Q (omega (arith, lt, le)) (omega (arith, lt, le)) (omega (arith, lt, le)) q) sub lt

  -- a set that holds the closures of its pseudo-closed subsets is closed
  pub closed_if : (X : List Bool) → length X ≡ w → ((Q : List Bool) → IsPseudo w cl Q → IsSubset Q X → IsSubset (cl Q) X) → X ≡ cl X
  closed_if X len each = ⊎_elim (λ e. e)
      (λ lt. let ne : X ≢ cl X = λ e. let s = ap size e in omega (arith, lt, s) in
      subset-both X (cl X) (len ∙ sym (wide X len)) (holds X len) (each X (from_said X len ne (λ Q q sub less. each Q q sub)) (λ i h. h)))
      (same_or_less X (cl X) (len ∙ sym (wide X len)) (holds X len))

  -- two pseudo-closed sets break no implication that holds together
  pub apart : (P Q : List Bool) (r : Sides) → IsPseudo w cl P → IsPseudo w cl Q → P ≢ Q → IsSubset r.1 (cl r.0) → IsSubset r.0 P → IsSubset r.0 Q
      → (IsSubset r.1 P → ⊥) → (IsSubset r.1 Q → ⊥) → ⊥
  apart P Q r p q ne true_there inP inQ notP notQ =
      let M = in_both P Q in
      let lenM : length M ≡ w = length-in_both P Q ∙ p.0 in
      let same = p.0 ∙ sym q.0 in
      let within : (A B : List Bool) → IsPseudo w cl A → IsPseudo w cl B → IsSubset A B → A ≢ B → IsSubset r.0 A → IsSubset r.1 B =
      λ A B a b sub other inA. ⊎_elim (λ e. absurd (other e))
      (λ lt i h. inner B A b a sub lt i (grows r.0 A inA i (true_there i h)))
      (same_or_less A B (a.0 ∙ sym b.0) sub) in
      ⊎_elim
      (λ e. notQ (within P Q p q (subst (λ (X : List Bool). IsSubset X Q) e (in_both-right P Q)) ne inP))
      (λ ltP. ⊎_elim
      (λ e. notP (within Q P q p (subst (λ (X : List Bool). IsSubset X P) e (in_both-left P Q)) (λ f. ne (sym f)) inQ))
      (λ ltQ.
      let closed : M ≡ cl M = closed_if M lenM (λ R s sub. in_both-most P Q (cl R)
      (inner P R p s (λ i h. in_both-left P Q i (sub i h)) (omega (arith, ltP, size-subset R M sub)))
      (inner Q R q s (λ i h. in_both-right P Q i (sub i h)) (omega (arith, ltQ, size-subset R M sub)))) in
      notP (λ i h. in_both-left P Q i (subst (λ (X : List Bool). IsSubset (cl M) X) (sym closed) (λ i h. h) i
      (grows r.0 M (in_both-most P Q r.0 inP inQ) i (true_there i h)))))
      (same_or_less M Q (lenM ∙ sym q.0) (in_both-right P Q)))
      (same_or_less M P (lenM ∙ sym p.0) (in_both-left P Q))
