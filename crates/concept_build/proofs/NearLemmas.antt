-- The rows by which an extent grows least.
use Rattle.std.proofs.Common.{◌≡◌, ◌⊎◌, inl, inr, ⊎_elim, ℕ, ◌+◌, ◌<◌, Bool, true, false, List, [], ◌∷◌, ◌++◌, length, get_or, sym, ap, ◌∙◌, subst, arith, All, zero-add, not}
use Rattle.std.specs.Prelude.{Contains}
use Rattle.std.specs.Bool.{OnTrue, MatchBool}
use Rattle.std.proofs.lemmas.Bool.{cases_Bool, cases_lt, false≢true, and_from}
use Rattle.std.proofs.lemmas.List.{get_or-map, get_or_default}
use Rattle.std.proofs.lemmas.List.Elements.{All-push, All-contains, Contains-push, Contains-append_left}
use Rattle.kaba_bits.specs.Sets.{bit, row, rising, IsNoneFrom}
use Rattle.fact_model.specs.Concepts.{IsExtent}
use Rattle.concept_build.proofs.MadeLemmas.{meet, IsMeet-meet}
use Rattle.concept_build.proofs.KnownLemmas.{rising_from-has}
use Rattle.concept_build.specs.Tables.{AreExamples, AreNear, HasNear, IsMissed, IsNoMore, IsFull, listed_rows}

-- an example has a column where the set of that column has its place
pub column-place : (T : List (List Bool)) (examples : List ℕ) (p c : ℕ) → p < length examples → bit (row (listed_rows T examples) p) c
    ≡ bit (row T (get_or examples p 0)) c
column-place T examples p c lt = ap (λ r. bit r c) (get_or-map (row T) examples p 0 [] lt)

-- a row that has no column that another misses has no more of B
pub none_missed : (B R S : List Bool) (missed : List ℕ) → IsMissed B S missed → All (λ c. bit R c ≡ false) missed → IsNoMore B R S
none_missed B R S missed m none c b r =
    ⊎_elim (λ has. has) (λ not. absurd (false≢true (sym (All-contains (λ i. bit R i ≡ false) missed c none (m c b not)) ∙ r))) (cases_Bool (bit S c))

module _ (T : List (List Bool)) (A B : List Bool) (examples : List ℕ) where
  -- what holds after the examples before n, of those that are not left
  pub record SoFar (n : ℕ) (near wide : List ℕ) (left : List Bool) : Type 0 where
    pub below : All (λ q. q < length T) near
    pub lacks : All (λ q. bit A q ≡ false) near
    pub known : (q : ℕ) → Contains wide q → Contains near q
    pub each : (p : ℕ) → p < length examples → bit A (get_or examples p 0) ≡ false → (p < n) ⊎ (bit left p ≡ false) → HasNear T B near (get_or examples p 0)

  pub SoFar-empty : (left : List Bool) → IsFull (length examples) left → SoFar 0 [] [] left
  SoFar-empty left full = record {
    below = λ k d lt. absurd (omega (arith, lt));
    lacks = λ k d lt. absurd (omega (arith, lt));
    known = λ q c. absurd (omega (arith, c.1));
    each = λ p lt lacks past. ⊎_elim (λ low. absurd (omega (arith, low))) (λ out. absurd (false≢true (sym out ∙ full.bits p lt))) past;
  }

  HasNear-more : (near : List ℕ) (q r : ℕ) → HasNear T B near r → HasNear T B (near ++ q ∷ []) r
  HasNear-more near q r h = (h.0, Contains-append_left near (q ∷ []) h.0 h.1, h.2)

  module _ (n p : ℕ) (near wide : List ℕ) (left : List Bool) (s : SoFar n near wide left) (none : IsNoneFrom (bit left) n p) where
    -- an example before the next one that is left
    past : (k : ℕ) → k < length examples → bit A (get_or examples k 0) ≡ false → (k < p) ⊎ (bit left k ≡ false) → HasNear T B near (get_or examples k 0)
    past k lt lacks h =
        s.each k lt lacks (⊎_elim (λ low. ⊎_elim (λ less. inl less) (λ high. inr (none k high low)) (cases_lt k n)) (λ out. inr out) h)

    pub SoFar-skip : (bit A (get_or examples p 0) ≡ false → HasNear T B wide (get_or examples p 0)) → SoFar (p + 1) near wide left
    SoFar-skip known = record {
      below = s.below;
      lacks = s.lacks;
      known = s.known;
      each = λ k lt lacks h.
          ⊎_elim
          (λ low. past k lt lacks (inl low))
          (λ high.
          ⊎_elim
          (λ up.
          let e : p ≡ k = omega (arith, up, high) in
          subst (λ i. HasNear T B near (get_or examples i 0)) e (let o = known (subst (λ i. bit A (get_or examples i 0) ≡ false) (sym e) lacks) in
          (o.0, s.known o.0 o.1, o.2)))
          (λ out. past k lt lacks (inr out))
          h)
          (cases_lt k p);
    }

    pub SoFar-push : (more : List ℕ) (new : List Bool) → get_or examples p 0 < length T → bit A (get_or examples p 0) ≡ false
        → ((m : ℕ) → Contains more m → Contains wide m ⊎ (m ≡ get_or examples p 0))
        → ((k : ℕ) → bit left k ≡ true → bit new k ≡ false → IsNoMore B (row T (get_or examples k 0)) (row T (get_or examples p 0)))
        → SoFar (p + 1) (near ++ get_or examples p 0 ∷ []) more new
    SoFar-push more new qlt lacks known passed =
        let q = get_or examples p 0 in
        record {
          below = All-push (λ m. m < length T) near q s.below qlt;
          lacks = All-push (λ m. bit A m ≡ false) near q s.lacks lacks;
          known = λ m c. ⊎_elim (λ old. Contains-append_left near (q ∷ []) m (s.known m old)) (λ e. subst (Contains (near ++ q ∷ [])) (sym e)
              (Contains-push near q)) (known m c);
          each = λ k lt out h.
              ⊎_elim
              (λ low. HasNear-more near q (get_or examples k 0) (past k lt out (inl low)))
              (λ high.
              ⊎_elim
              (λ up. let e : p ≡ k = omega (arith, up, high) in
              (q, Contains-push near q, subst (λ i. IsNoMore B (row T (get_or examples i 0)) (row T q)) e (λ c b r. r)))
              (λ gone.
              ⊎_elim
              (λ was. (q, Contains-push near q, passed k was gone))
              (λ before. HasNear-more near q (get_or examples k 0) (past k lt out (inr before)))
              (cases_Bool (bit left k)))
              h)
              (cases_lt k p);
        }

  pub AreNear-all : (n : ℕ) (near wide : List ℕ) (left : List Bool) → length left ≡ length examples → AreExamples T examples → IsExtent T A B
      → SoFar n near wide left → IsNoneFrom (bit left) n (length left) → AreNear T A B near
  AreNear-all n near wide left len are extent s none = record {
    below = s.below;
    lacks = s.lacks;
    each = λ r rlt lacks.
        let o = are.each r rlt in
        let q = o.0 in
        let at = o.1.0 in
        let same : get_or examples at 0 ≡ q = get_or_default examples at 0 q o.1.1 ∙ o.1.2 in
        let qlt : q < length T = All-contains (λ m. m < length T) examples q are.below o.1 in
        let out : bit A q ≡ false = ⊎_elim
        (λ has. absurd (false≢true (sym lacks
        ∙ (extent.rows r rlt).1 (subst (λ R. (c : ℕ) → bit B c ≡ true → bit R c ≡ true) o.2 ((extent.rows q qlt).0 has))))) (λ h. h)
        (cases_Bool (bit A q)) in
        let past : (at < n) ⊎ (bit left at ≡ false) = ⊎_elim (λ low. inl low) (λ high. inr (none at high (omega (arith, o.1.1, len)))) (cases_lt at n) in
        let h = subst (λ m. HasNear T B near m) same (s.each at o.1.1 (subst (λ m. bit A m ≡ false) (sym same) out) past) in
        (h.0, h.1, subst (λ R. (c : ℕ) → bit B c ≡ true → bit R c ≡ true → bit (row T h.0) c ≡ true) o.2 h.2);
  }

-- a row that has all that another has of B
pub within_listed : (B R S : List Bool) → All (λ c. bit S c ≡ true) (rising (meet B R)) → IsNoMore B R S
within_listed B R S all c b r =
    let M = meet B R in
    let has : bit M c ≡ true = (IsMeet-meet B R).bits c ∙ and_from (bit B c) (bit R c) b r in
    All-contains (λ i. bit S i ≡ true) (rising M) c all (subst (Contains (rising M)) (zero-add c) (rising_from-has 0 M c has))

pub told : (P Q : Type 0) (b : Bool) → P → OnTrue b Q → MatchBool (not b) P (P → Q)
told P Q true p q = λ _. q
told P Q false p q = p
