-- Mirror. The order that named supertypes give.
use Rattle.std.specs.Prelude.{◌≡◌, ◌≢◌, ◌⊎◌, ℕ, ◌<◌, Bool, true, false}

-- a partial order on some of the numbers below n
pub record IsOrder (n : ℕ) (le : ℕ → ℕ → Bool) : Type 0 where
  pub lower : (a b : ℕ) → le a b ≡ true → a < n
  pub upper : (a b : ℕ) → le a b ≡ true → b < n
  pub same_lower : (a b : ℕ) → le a b ≡ true → le a a ≡ true
  pub same_upper : (a b : ℕ) → le a b ≡ true → le b b ≡ true
  pub through : (a b c : ℕ) → le a b ≡ true → le b c ≡ true → le a c ≡ true
  pub both : (a b : ℕ) → le a b ≡ true → le b a ≡ true → a ≡ b

-- b is strictly above a, and none is strictly between
pub record IsCoverBy (le : ℕ → ℕ → Bool) (a b : ℕ) : Type 0 where
  pub above : le a b ≡ true
  pub other : a ≢ b
  pub next : (x : ℕ) → le a x ≡ true → le x b ≡ true → (x ≡ a) ⊎ (x ≡ b)

-- the lowest class strictly above
pub record IsLowestClass (le : ℕ → ℕ → Bool) (is_class : ℕ → Bool) (a b : ℕ) : Type 0 where
  pub class : is_class b ≡ true
  pub above : le a b ≡ true
  pub other : a ≢ b
  pub lowest : (x : ℕ) → is_class x ≡ true → le a x ≡ true → a ≢ x → le b x ≡ true

-- what a type names as its supertypes
pub data NamesSupertypes (le : ℕ → ℕ → Bool) (is_class : ℕ → Bool) : ℕ → ℕ → Type 0 where
  extends : {a b : ℕ} → is_class a ≡ true → IsLowestClass le is_class a b → NamesSupertypes le is_class a b
  implements : {a b : ℕ} → is_class b ≡ false → IsCoverBy le a b → NamesSupertypes le is_class a b

-- b is a itself, or is reached from a by named supertypes
pub data Subtype (le : ℕ → ℕ → Bool) (is_class : ℕ → Bool) : ℕ → ℕ → Type 0 where
  itself : {a : ℕ} → Subtype le is_class a a
  by_name : {a b c : ℕ} → NamesSupertypes le is_class a b → Subtype le is_class b c → Subtype le is_class a c
