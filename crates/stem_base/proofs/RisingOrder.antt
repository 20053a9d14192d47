-- Of two sets with as many numbers, the one that lectic order puts later has the lesser rising list.
use Rattle.std.proofs.Common.{◌≡◌, ℕ, zero, suc, ◌+◌, ◌<◌, Bool, true, false, List, [], ◌∷◌, length, refl, sym, ◌∙◌, subst, arith}
use Rattle.std.proofs.lemmas.Bool.{false≢true}
use Rattle.std.specs.declared.cmp.Ordering.TheVariants.{Less, Equal}
use Rattle.std.specs.Ordering.{nat_cmp}
use Rattle.std.specs.Cmp.{nat_cmp_is}
use Rattle.std.specs.Cmp.Lexicographic.{slice_cmp}
use Rattle.kaba_bits.specs.Sets.{bit, size, rising_from, rising}
use Rattle.kaba_bits.proofs.SetLemmas.{size-true, size-false}
use Rattle.stem_base.specs.Lectic.{Precedes}
use Rattle.stem_base.proofs.FoundLemmas.{tail_before}

less_than : (a b : ℕ) → a < b → nat_cmp a b ≡ Less
less_than a b lt = sym (nat_cmp_is a b Less lt)

equal_to : (a : ℕ) → nat_cmp a a ≡ Equal
equal_to a = sym (nat_cmp_is a a Equal refl)

step_less : (x y : ℕ) (xs ys : List ℕ) → x < y → slice_cmp nat_cmp (x ∷ xs) (y ∷ ys) ≡ Less
step_less x y xs ys lt = rw (less_than x y lt) refl

step_same : (x : ℕ) (xs ys : List ℕ) → slice_cmp nat_cmp xs ys ≡ Less → slice_cmp nat_cmp (x ∷ xs) (x ∷ ys) ≡ Less
step_same x xs ys h = rw (equal_to x) h

inner : (x : Bool) (a b : List Bool) → Precedes (x ∷ b) (x ∷ a) → Precedes b a
inner x a b o = at_least o.at refl
  where
    at_least : (n : ℕ) → o.at ≡ n → Precedes b a
    at_least zero e = absurd (false≢true (sym (subst (λ k. bit (x ∷ b) k ≡ false) e o.lacks) ∙ subst (λ k. bit (x ∷ a) k ≡ true) e o.has))
    at_least (suc n) e = tail_before x x b a n o e

-- the list of a set with a number begins at j or later
first_less : (k : ℕ) (rest : List ℕ) (b : List Bool) (j : ℕ) → k < j → 0 < size b → slice_cmp nat_cmp (k ∷ rest) (rising_from j b) ≡ Less
first_less k rest [] j lt some = absurd (omega (arith, some))
first_less k rest (true ∷ b) j lt some = step_less k j rest (rising_from (j + 1) b) lt
first_less k rest (false ∷ b) j lt some = first_less k rest b (j + 1) (omega (arith, lt)) (omega (arith, some, size-false b))

pub rising_from_less : (k : ℕ) (a b : List Bool) → length a ≡ length b → size a ≡ size b → Precedes b a
    → slice_cmp nat_cmp (rising_from k a) (rising_from k b) ≡ Less
rising_from_less k [] b l s o = absurd (false≢true o.has)
rising_from_less k (x ∷ a) [] l s o = absurd (omega (arith, l))
rising_from_less k (true ∷ a) (false ∷ b) l s o = first_less k (rising_from (k + 1) a) b (k + 1) (omega arith) (omega (arith, s, size-true a, size-false b))
rising_from_less k (true ∷ a) (true ∷ b) l s o =
    step_same k (rising_from (k + 1) a) (rising_from (k + 1) b) (rising_from_less (k + 1) a b (omega (arith, l))
    (omega (arith, s, size-true a, size-true b)) (inner true a b o))
rising_from_less k (false ∷ a) (false ∷ b) l s o =
    rising_from_less (k + 1) a b (omega (arith, l)) (omega (arith, s, size-false a, size-false b)) (inner false a b o)
rising_from_less k (false ∷ a) (true ∷ b) l s o = absurd (wrong o.at refl)
  where
    wrong : (n : ℕ) → o.at ≡ n → ⊥
    wrong zero e = false≢true (sym (subst (λ k. bit (true ∷ b) k ≡ false) e o.lacks))
    wrong (suc n) e = false≢true (sym (o.below 0 (omega (arith, e))))

pub rising_less : (a b : List Bool) → length a ≡ length b → size a ≡ size b → Precedes b a → slice_cmp nat_cmp (rising a) (rising b) ≡ Less
rising_less a b l s o = rising_from_less 0 a b l s o
