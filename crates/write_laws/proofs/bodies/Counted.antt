-- Numbers of locals that count up: a list of them in two parts, and what holds of all of them.
use Rattle.std.proofs.Common.{◌≡◌, ℕ, zero, suc, List, [], ◌∷◌, ◌++◌, refl, sym, ◌∙◌, subst, arith, ⊎_elim, inl, inr}
use Rattle.std.specs.Prelude.{◌⊎◌, ◌<◌, ◌≤◌}
use Rattle.name_rules.specs.Resolves.{Counts, no_number, next_number}

pub counts_split : (xs ys : List ℕ) (a b : ℕ) → Counts a (xs ++ ys) b → (c : ℕ) × Counts a xs c × Counts c ys b
counts_split [] ys a b h = (a, no_number, h)
counts_split (x ∷ xs) ys a b (next_number h) = let z = counts_split xs ys (suc a) b h in (z.0, next_number z.1, z.2)

pub counts_none : (a b : ℕ) → Counts a [] b → a ≡ b
counts_none a b no_number = refl

pub counts_one : (i a b : ℕ) → Counts a (i ∷ []) b → (i ≡ a) × (b ≡ suc a)
counts_one i a b (next_number no_number) = (refl, refl)

lt_or : (i b : ℕ) → (i < b) ⊎ (b ≤ i)
lt_or i zero = inr (omega arith)
lt_or zero (suc b) = inl (omega arith)
lt_or (suc i) (suc b) = ⊎_elim (λ h. inl (let z : i < b = h in omega (arith, z))) (λ h. inr (let z : b ≤ i = h in omega (arith, z))) (lt_or i b)

-- two counts from one number end alike, and something holds of each number between
pub record Ends (Holds : ℕ → Type 0) (a b c : ℕ) : Type 0 where
  pub same : b ≡ c
  pub all : (i : ℕ) → a ≤ i → i < b → Holds i

module _ (Holds : ℕ → Type 0) where
  pub ends_none : (a b c : ℕ) → Counts a [] b → Counts a [] c → Ends Holds a b c
  ends_none a b c h k = record {
    same = sym (counts_none a b h) ∙ counts_none a c k;
    all =
        λ i l m. absurd (let z = counts_none a b h in omega (arith, z, l, m));
  }

  pub ends_one : (i a b c : ℕ) → Counts a (i ∷ []) b → b ≡ c → Holds i → Ends Holds a b c
  ends_one i a b c h s holds =
      let z = counts_one i a b h in
      record { same = s; all = λ j l m. subst Holds (let first = z.0 in let last = z.1 in omega (arith, first, last, l, m)) holds }

  pub ends_join : (a b c d e : ℕ) → Ends Holds a b c → Ends Holds b d e → Ends Holds a d e
  ends_join a b c d e x y = record { same = y.same; all = λ i l m. ⊎_elim (λ h. x.all i l h) (λ h. y.all i h m) (lt_or i b) }

  -- the second count goes on where the first does
  pub goes_on : (b c e : ℕ) (ns : List ℕ) → b ≡ c → Counts c ns e → Counts b ns e
  goes_on b c e ns s h = subst (λ z. Counts z ns e) (sym s) h
