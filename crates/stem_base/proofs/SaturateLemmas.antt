-- Rounds over implications.
use Rattle.std.proofs.Common.{◌≡◌, ⊎_elim, ℕ, ◌+◌, ◌-◌, ◌<◌, ◌≤◌, Bool, true, false, ◌||◌, List, length, get_or, refl, sym, ap, ◌∙◌, subst, arith}
use Rattle.std.specs.Bool.{MatchBool}
use Rattle.std.proofs.lemmas.Bool.{cases_lt, false≢true}
use Rattle.std.proofs.lemmas.List.{length-map, get_or-map}
use Rattle.kaba_bits.specs.Sets.{size, IsSubset}
use Rattle.kaba_bits.proofs.SetLemmas.{size-subset}
use Rattle.stem_base.specs.declared.implications.Implication.{Implication}
use Rattle.stem_base.specs.Base.{Sides, Respects, IsClosedUnder, sides_of, all_sides}
use Rattle.stem_base.specs.Saturate.{ClosesInPart, IsRound, IsRoundDown}

step_then : (old mid new : List Bool) (grew g : Bool) → IsSubset mid new → MatchBool grew (size old < size mid) (mid ≡ old)
    → MatchBool g (size mid < size new) (new ≡ mid) → MatchBool (grew || g) (size old < size new) (new ≡ old)
step_then old mid new true g sub a b = omega (arith, a, size-subset mid new sub)
step_then old mid new false true sub a b = omega (arith, ap size a, b)
step_then old mid new false false sub a b = b ∙ a

more_then : (old mid new : List Bool) (grew : Bool) → MatchBool grew (size old < size mid) (mid ≡ old) → size mid < size new → size old < size new
more_then old mid new true a b = omega (arith, a, b)
more_then old mid new false a b = omega (arith, ap size a, b)

neither : (a b : Bool) → (a || b) ≡ false → (a ≡ false) × (b ≡ false)
neither false false h = (refl, refl)
neither false true h = (refl, h)
neither true b h = absurd (false≢true (sym h))

same_set : (a b : List Bool) (g : Bool) → g ≡ false → MatchBool g (size a < size b) (b ≡ a) → b ≡ a
same_set a b false e h = h
same_set a b true e h = absurd (false≢true (sym e))

sides_at : (xs : List Implication) (n : ℕ) (x : Implication) (d : Sides) → n < length xs → x ≡ get_or xs n x → get_or (all_sides xs) n d ≡ sides_of x
sides_at xs n x d lt is = get_or-map sides_of xs n x d lt ∙ ap sides_of (sym is)

-- the next implication down adds something, or nothing
pub round_grew : (xs : List Implication) (m : ℕ) (x : Implication) (old mid new : List Bool) (grew g : Bool) → 0 < m → m ≤ length xs
    → ((d : Implication) → x ≡ get_or xs (m - 1) d) → IsRoundDown (all_sides xs) m old mid grew → g ≡ true
    → ClosesInPart (λ Y. Respects Y (sides_of x)) mid new g → IsRoundDown (all_sides xs) (m - 1) old new true
round_grew xs m x old mid new grew g some lt is a yes_it b =
    let len = length-map xs sides_of in
    let b_step = subst (λ t. MatchBool t (size mid < size new) (new ≡ mid)) yes_it b.step in
    record {
      width = b.width ∙ a.width;
      holds = λ i h. b.holds i (a.holds i h);
      least = λ Y s closed. b.least Y (a.least Y s closed)
          (subst (λ (r : Sides). Respects Y r) (sides_at xs (m - 1) x (sides_of x) (omega (arith, some, lt)) (is x))
          (closed (m - 1) (sides_of x) (omega (arith, some, lt, len))));
      step = more_then old mid new grew a.step b_step;
      closed = λ no. absurd (false≢true (sym no));
    }

pub round_stays : (xs : List Implication) (m : ℕ) (x : Implication) (old mid new : List Bool) (grew g : Bool) → 0 < m → m ≤ length xs
    → ((d : Implication) → x ≡ get_or xs (m - 1) d) → IsRoundDown (all_sides xs) m old mid grew → g ≡ false
    → ClosesInPart (λ Y. Respects Y (sides_of x)) mid new g → IsRoundDown (all_sides xs) (m - 1) old new grew
round_stays xs m x old mid new grew g some lt is a no_it b =
    let same : new ≡ mid = same_set mid new g no_it b.step in
    record {
      width = b.width ∙ a.width;
      holds = λ i h. b.holds i (a.holds i h);
      least = λ Y s closed. subst (λ (S : List Bool). IsSubset S Y) (sym same) (a.least Y s closed);
      step = subst (λ (S : List Bool). MatchBool grew (size old < size S) (S ≡ old)) (sym same) a.step;
      closed = λ none k d low kl. ⊎_elim
          (λ below.
          let e : m - 1 ≡ k = omega (arith, below, low, some) in
          subst (λ k. Respects old (get_or (all_sides xs) k d)) e
          (subst (λ (r : Sides). Respects old r) (sym (sides_at xs (m - 1) x d (omega (arith, some, lt)) (is x)))
          (subst (λ (S : List Bool). Respects S (sides_of x)) (same_set old mid grew none a.step) (b.closed no_it))))
          (λ above. a.closed none k d above kl)
          (cases_lt k m);
    }

-- a round that has grown is one in part
pub round_in_part : (base : List Sides) (m : ℕ) (old new : List Bool) → IsRoundDown base m old new true → ClosesInPart (IsClosedUnder base) old new true
round_in_part base m old new r =
    record { width = r.width; holds = r.holds; least = r.least; step = r.step; closed = λ no. absurd (false≢true (sym no)) }

pub round_more : (xs : List Implication) (n : ℕ) (x : Implication) (old mid new : List Bool) (grew g : Bool) → n < length xs → x ≡ get_or xs n x
    → IsRound (all_sides xs) n old mid grew → ClosesInPart (λ Y. Respects Y (sides_of x)) mid new g → IsRound (all_sides xs) (n + 1) old new (grew || g)
round_more xs n x old mid new grew g lt is a b =
    let len = length-map xs sides_of in
    record {
      width = b.width ∙ a.width;
      holds = λ i h. b.holds i (a.holds i h);
      least = λ Y s closed. b.least Y (a.least Y s closed)
          (subst (λ (r : Sides). Respects Y r) (sides_at xs n x (sides_of x) lt is) (closed n (sides_of x) (omega (arith, lt, len))));
      step = step_then old mid new grew g b.holds a.step b.step;
      closed = λ no k d kn kl.
          let f = neither grew g no in
          ⊎_elim
          (λ less. a.closed f.0 k d less kl)
          (λ ge. let e : n ≡ k = omega (arith, ge, kn) in
          subst (λ k. Respects old (get_or (all_sides xs) k d)) e (subst (λ (r : Sides). Respects old r) (sym (sides_at xs n x d lt is))
          (subst (λ (S : List Bool). Respects S (sides_of x)) (same_set old mid grew f.0 a.step) (b.closed f.1))))
          (cases_lt k n);
    }
