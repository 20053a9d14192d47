-- Mirror. Sets in lectic order, and how the next one is tried (Ganter, 1984).
use Rattle.std.specs.Prelude.{◌≡◌, ℕ, suc, ◌<◌, ◌≤◌, ◌⊎◌, Bool, true, false, List, length, All, Contains}
use Rattle.kaba_bits.specs.Sets.{bit, size, IsSubset}
use Rattle.stem_base.specs.Base.{Sides, IsClosedUnder, IsPseudo}

-- A comes before B: at the least number that is in one of them alone, it is B that has it
pub record Precedes (A B : List Bool) : Type 0 where
  pub at : ℕ
  pub below : (j : ℕ) → j < at → bit A j ≡ bit B j
  pub lacks : bit A at ≡ false
  pub has : bit B at ≡ true

abbrev pub IsUpTo : List Bool → List Bool → Type 0
IsUpTo A B = (A ≡ B) ⊎ Precedes A B

-- the set holds the closures of the pseudo-closed sets strictly within it: it is closed or pseudo-closed
pub record IsKeptSet (w : ℕ) (cl : List Bool → List Bool) (X : List Bool) : Type 0 where
  pub len : length X ≡ w
  pub stems : (Q : List Bool) → IsPseudo w cl Q → IsSubset Q X → size Q < size X → IsSubset (cl Q) X

-- P -> P'' for exactly the pseudo-closed sets P up to A
pub record AreUpTo (w : ℕ) (cl : List Bool → List Bool) (A : List Bool) (base : List Sides) : Type 0 where
  pub each : All (λ r. IsPseudo w cl r.0 × (r.1 ≡ cl r.0) × IsUpTo r.0 A) base
  pub complete : (P : List Bool) → IsPseudo w cl P → IsUpTo P A → Contains base (P, cl P)

-- the numbers of A below i are in Y, and i
pub record HasStart (A : List Bool) (i : ℕ) (Y : List Bool) : Type 0 where
  pub below : (k : ℕ) → k < i → bit A k ≡ true → bit Y k ≡ true
  pub has : bit Y i ≡ true

-- S is the least set closed under the base with those
pub record IsTry (w : ℕ) (A : List Bool) (base : List Sides) (i : ℕ) (S : List Bool) : Type 0 where
  pub len : length S ≡ w
  pub starts : HasStart A i S
  pub closed : IsClosedUnder base S
  pub least : (Y : List Bool) → length Y ≡ w → HasStart A i Y → IsClosedUnder base Y → IsSubset S Y

-- and it adds no number below i
abbrev pub AddsNoneBelow : List Bool → ℕ → List Bool → Type 0
AddsNoneBelow A i S = (k : ℕ) → k < i → bit S k ≡ true → bit A k ≡ true

-- it does
abbrev pub AddsBelow : List Bool → ℕ → List Bool → Type 0
AddsBelow A i S = (k : ℕ) × (k < i) × (bit S k ≡ true) × (bit A k ≡ false)

-- each set closed under the base with those has a number below i that A lacks
abbrev pub FailsAt : ℕ → List Bool → List Sides → ℕ → Type 0
FailsAt w A base i = (Y : List Bool) → length Y ≡ w → HasStart A i Y → IsClosedUnder base Y → (k : ℕ) × (k < i) × (bit Y k ≡ true) × (bit A k ≡ false)

-- so it is at each number from i on that is not in A
abbrev pub FailFrom : ℕ → List Bool → List Sides → ℕ → Type 0
FailFrom w A base i = (j : ℕ) → i ≤ j → j < w → bit A j ≡ false → FailsAt w A base j

-- the numbers of A below i
pub record IsStartBelow (A : List Bool) (i : ℕ) (X : List Bool) : Type 0 where
  pub len : length X ≡ length A
  pub below : (k : ℕ) → k < i → bit X k ≡ bit A k
  pub above : (k : ℕ) → i ≤ k → bit X k ≡ false

-- a step from A to a set that the tries find: they fail above a number at which one passes
pub record IsStepTo (w : ℕ) (A : List Bool) (base : List Sides) (S : List Bool) : Type 0 where
  pub at : ℕ
  pub lacks : bit A at ≡ false
  pub made : IsTry w A base at S
  pub pass : AddsNoneBelow A at S
  pub none : FailFrom w A base (suc at)
