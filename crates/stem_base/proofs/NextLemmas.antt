-- What one try shows.
use Rattle.std.proofs.Common.{◌≡◌, ⊎_elim, ℕ, ◌<◌, Bool, true, false, ◌&&◌, ◌||◌, not, nat_lt, List, length, refl, sym, ap, ◌∙◌, subst, arith, slice_set}
use Rattle.std.specs.Bool.{OnTrue, OnFalse}
use Rattle.std.proofs.lemmas.Bool.{cases_lt, cases_eq, false≢true, and_parts, ltb-true, lt-ltb, OnTrue_from, OnFalse_from}
use Rattle.std.proofs.lemmas.List.{get_or-set_same, get_or-set_other, length-set}
use Rattle.kaba_bits.specs.Sets.{bit, IsSubset, IsEmpty, IsNoneFrom, IsLeastFrom}
use Rattle.kaba_bits.proofs.SetLemmas.{bit-below}
use Rattle.stem_base.specs.Base.{Sides, IsClosedUnder}
use Rattle.stem_base.specs.Saturate.{IsWithinClosed}
use Rattle.stem_base.specs.Lectic.{IsStartBelow, HasStart, IsTry, AddsNoneBelow, AddsBelow, FailsAt}

second : (a b : Bool) → (a && not b) ≡ true → b ≡ false
second true false h = refl
second true true h = absurd (false≢true h)
second false b h = absurd (false≢true h)

has_both : (a b : Bool) → a ≡ true → (a && not b) ≡ false → b ≡ true
has_both true true g h = refl
has_both true false g h = absurd (false≢true (sym h))
has_both false b g h = absurd (false≢true g)

-- the least number of S that A lacks tells whether S has one below i
module _ (A : List Bool) (i : ℕ) (S : List Bool) where
  pub past_at : (k : ℕ) → IsLeastFrom (λ j. bit S j && not (bit A j)) 0 k → OnTrue (nat_lt k i) (AddsBelow A i S)
  past_at k f = OnTrue_from (nat_lt k i) (AddsBelow A i S)
      (λ e. (k, ltb-true k i e, (and_parts (bit S k) (not (bit A k)) f.holds).0, second (bit S k) (bit A k) f.holds))

  pub none_at : (k : ℕ) → IsLeastFrom (λ j. bit S j && not (bit A j)) 0 k → OnFalse (nat_lt k i) (AddsNoneBelow A i S)
  none_at k f = OnFalse_from (nat_lt k i) (AddsNoneBelow A i S) (λ e j lt h.
      has_both (bit S j) (bit A j) h (f.least j (omega arith) (⊎_elim (λ l. absurd (false≢true (sym e ∙ lt-ltb k i l))) (λ ge. omega (arith, ge, lt))
      (cases_lt k i))))

  pub none_there : IsNoneFrom (λ j. bit S j && not (bit A j)) 0 (length S) → AddsNoneBelow A i S
  none_there f j lt h = has_both (bit S j) (bit A j) h (f j (omega arith) (bit-below S j h))

-- the set that a try begins with: the numbers of A below i, and i
pub record IsBegun (A start : List Bool) (i : ℕ) (seed : List Bool) : Type 0 where
  pub empty : List Bool
  pub joined : List Bool
  pub none : IsEmpty empty
  pub width : length joined ≡ length A
  pub join : (k : ℕ) → bit joined k ≡ (bit empty k || bit start k)
  pub starts : IsStartBelow A i start
  pub below : i < length A
  pub set : seed ≡ slice_set joined i true

pub begun : (A start : List Bool) (i : ℕ) (empty joined seed : List Bool) → IsEmpty empty → length empty ≡ length A → length joined ≡ length empty
    → ((k : ℕ) → bit joined k ≡ (bit empty k || bit start k)) → IsStartBelow A i start → i < length A → seed ≡ slice_set joined i true
    → IsBegun A start i seed
begun A start i empty joined seed none wide width join starts below set = record {
  empty = empty;
  joined = joined;
  none = none;
  width = width ∙ wide;
  join = join;
  starts = starts;
  below = below;
  set = set;
}

pub on_true : {P Q : Type 0} (b : Bool) → (P → Q) → OnTrue b P → OnTrue b Q
on_true true f h = f h
on_true false f h = h

pub on_false : {P Q : Type 0} (b : Bool) → (P → Q) → OnFalse b P → OnFalse b Q
on_false true f h = h
on_false false f h = f h

module _ (A start : List Bool) (i : ℕ) (seed : List Bool) (t : IsBegun A start i seed) where
  joined_is : (k : ℕ) → bit t.joined k ≡ bit start k
  joined_is k = t.join k ∙ ap (λ b. b || bit start k) (t.none k)

  seed_other : (k : ℕ) → (k ≡ i → ⊥) → bit seed k ≡ bit start k
  seed_other k ne = ap (λ (X : List Bool). bit X k) t.set ∙ get_or-set_other t.joined i k true false ne ∙ joined_is k

  seed_has : bit seed i ≡ true
  seed_has = ap (λ (X : List Bool). bit X i) t.set ∙ get_or-set_same t.joined i true false (omega (arith, t.below, t.width))

  pub seed_wide : length seed ≡ length A
  seed_wide = ap length t.set ∙ length-set t.joined i true ∙ t.width

  pub seed_adds_none : AddsNoneBelow A i seed
  seed_adds_none k lt h = sym (t.starts.below k lt) ∙ sym (seed_other k (λ e. absurd (omega (arith, lt, e)))) ∙ h

  seed_within : (Y : List Bool) → HasStart A i Y → IsSubset seed Y
  seed_within Y y k h = ⊎_elim
      (λ e. subst (λ j. bit Y j ≡ true) (sym e) y.has)
      (λ ne. let g = sym (seed_other k ne) ∙ h in
      ⊎_elim
      (λ lt. y.below k lt (sym (t.starts.below k lt) ∙ g))
      (λ ge. absurd (false≢true (sym (t.starts.above k ge) ∙ g)))
      (cases_lt k i))
      (cases_eq k i)

  module _ (base : List Sides) (S : List Bool) (width : length S ≡ length seed) (holds : IsSubset seed S)
      (least : IsWithinClosed (IsClosedUnder base) seed S) where
    seed_below : (k : ℕ) → k < i → bit A k ≡ true → bit S k ≡ true
    seed_below k lt h = holds k (seed_other k (λ e. absurd (omega (arith, lt, e))) ∙ (t.starts.below k lt ∙ h))

    -- where it is closed, it is the least set with those
    pub is_made : IsClosedUnder base S → IsTry (length A) A base i S
    is_made closed = record {
      len = width ∙ seed_wide;
      starts = record { below = seed_below; has = holds i seed_has };
      closed = closed;
      least = λ Y l y c. least Y (seed_within Y y) c;
    }

    -- what it has, each closed set with those has
    pub does_fail : AddsBelow A i S → FailsAt (length A) A base i
    does_fail p Y l y closed = (p.0, p.1, least Y (seed_within Y y) closed p.0 p.2, p.3)
