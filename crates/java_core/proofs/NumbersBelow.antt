-- The numbers below one are those that are less.
use Rattle.std.proofs.Common.{◌≡◌, ℕ, zero, suc, ◌<◌, ◌∷◌, Contains, arith, subst, ⊎_elim}
use Rattle.std.proofs.lemmas.Bool.{cases_lt}
use Rattle.kaba_base.proofs.ListLemmas.{first, later, contains_cases}
use Rattle.java_core.specs.Formed.{numbers_below}

pub below_has : (n j : ℕ) → j < n → Contains (numbers_below n) j
below_has zero j lt = absurd (omega (arith, lt))
below_has (suc n) j lt =
    ⊎_elim
    (λ l. later n (numbers_below n) j (below_has n j l))
    (λ g. let e : n ≡ j = omega (arith, g, lt) in subst (Contains (n ∷ numbers_below n)) e (first n (numbers_below n)))
    (cases_lt j n)

pub has_below : (n j : ℕ) → Contains (numbers_below n) j → j < n
has_below zero j c = absurd (let l = c.1 in omega (arith, l))
has_below (suc n) j c =
    ⊎_elim (λ e. omega (arith, e)) (λ d. let l = has_below n j d in omega (arith, l)) (contains_cases n (numbers_below n) j c)
