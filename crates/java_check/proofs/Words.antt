-- Bits of words.
use Rattle.std.proofs.Common.{◌≡◌, ◌≢◌, ◌==◌, ◌&&◌, ◌||◌, ℕ, ◌+◌, ◌*◌, ◌/◌, ◌%◌, ◌^◌, ◌<◌, Bool, true, false, max, min, refl, sym, ap, ◌∙◌, arith, ⊎_elim, List, length, set}
use Rattle.std.specs.Prelude.{bit_or, bit_and}
use Rattle.std.specs.Int.{bit_at}
use Rattle.std.proofs.lemmas.Nat.{one_shl}
use Rattle.std.proofs.lemmas.Nat.Bits.{bit_at_or, bit_at_and, bit_at-lt, bit_at-zero, bit_at_ones, bit_at-pow_same, bit_at-pow_other}
use Rattle.std.proofs.lemmas.Bool.{cases_eq, eq-eqb, ne_eqb, eqb-true, false≢true}
use Rattle.std.proofs.lemmas.Bool.Decides.{nat_tests}
use Rattle.std.proofs.lemmas.List.{get_or-set_same, get_or-set_other}
use Rattle.java_check.specs.SlotOutcome.{bit, own_at, full, IsWordWithin, is_within, are_apart}

or_of_max : (a b : ℕ) → a < 2 → b < 2 → (max a b == 1) ≡ ((a == 1) || (b == 1))
or_of_max a b la lb = grind (arith, nat_tests)

and_of_min : (a b : ℕ) → a < 2 → b < 2 → (min a b == 1) ≡ ((a == 1) && (b == 1))
and_of_min a b la lb = grind (arith, nat_tests)

pub bit-or : (a b i : ℕ) → bit (bit_or a b) i ≡ (bit a i || bit b i)
bit-or a b i = ap (λ n. n == 1) (bit_at_or a b i) ∙ or_of_max (bit_at a i) (bit_at b i) (bit_at-lt a i) (bit_at-lt b i)

bit-and : (a b i : ℕ) → bit (bit_and a b) i ≡ (bit a i && bit b i)
bit-and a b i = ap (λ n. n == 1) (bit_at_and a b i) ∙ and_of_min (bit_at a i) (bit_at b i) (bit_at-lt a i) (bit_at-lt b i)

pub bit-zero : (i : ℕ) → bit 0 i ≡ false
bit-zero i = ap (λ n. n == 1) (bit_at-zero i)

pub bit-full : (i : ℕ) → i < 64 → bit full i ≡ true
bit-full i lt = ap (λ n. n == 1) (bit_at_ones 64 i lt)

pub within-bits : (a b : ℕ) → is_within a b ≡ true → IsWordWithin a b
within-bits a b e i lt h = ap (λ w. bit w i) (sym (eqb-true (bit_or a b) b e)) ∙ (bit-or a b i ∙ ap (λ x. x || bit b i) h)

pub within-full : (a : ℕ) → IsWordWithin a full
within-full a i lt h = bit-full i lt

pub apart-bit : (a b i : ℕ) → are_apart a b ≡ true → bit a i ≡ true → bit b i ≡ false
apart-bit a b i e h = go (bit b i) refl
  where
    go : (x : Bool) → bit b i ≡ x → bit b i ≡ false
    go false f = f
    go true f = absurd (false≢true (sym (bit-zero i) ∙ (ap (λ w. bit w i) (sym (eqb-true (bit_and a b) 0 e)) ∙ (bit-and a b i ∙ rw (h, f) refl))))

-- the bit k alone
pub bit-one : (k i : ℕ) → k < 64 → bit (1 * 2 ^ k % 18446744073709551616) i ≡ (k == i)
bit-one k i lt =
    ap (λ w. bit w i) (one_shl k 64 lt)
    ∙ ⊎_elim
    (λ (e : k ≡ i). ap (λ n. bit (2 ^ k) n) (sym e) ∙ (ap (λ n. n == 1) (bit_at-pow_same k) ∙ sym (eq-eqb k i e)))
    (λ (ne : k ≢ i). ap (λ n. n == 1) (bit_at-pow_other k i (λ e. ne (sym e))) ∙ sym (ne_eqb k i ne))
    (cases_eq k i)

-- a slot is one of the 64 by the bit of it
pub slot-here : (s b i : ℕ) → s / 64 ≡ b → i < 64 → (s % 64 == i) ≡ (s == 64 * b + i)
slot-here s b i e lt =
    ⊎_elim
    (λ (f : s % 64 ≡ i). eq-eqb (s % 64) i f ∙ sym (eq-eqb s (64 * b + i) (omega (arith, e, f))))
    (λ (ne : s % 64 ≢ i). ne_eqb (s % 64) i ne ∙ sym (ne_eqb s (64 * b + i) (λ f. ne (omega (arith, e, f, lt)))))
    (cases_eq (s % 64) i)

or_false : (b : Bool) → b ≡ (b || false)
or_false true = refl
or_false false = refl

-- bits set at one place of a table
pub bits_set : (table : List ℕ) (k w : ℕ) → k < length table → (c i : ℕ)
    → bit (own_at (set table k (bit_or (own_at table k) w)) c) i ≡ (bit (own_at table c) i || ((k == c) && bit w i))
bits_set table k w lt c i =
    ⊎_elim
    (λ (e : c ≡ k). ap (λ n. bit (own_at (set table k (bit_or (own_at table k) w)) n) i) e
    ∙ (ap (λ x. bit x i) (get_or-set_same table k (bit_or (own_at table k) w) 0 lt)
    ∙ (bit-or (own_at table k) w i ∙ (ap (λ n. bit (own_at table n) i || bit w i) (sym e) ∙ ap (λ x. bit (own_at table c) i || (x && bit w i))
    (sym (eq-eqb k c (sym e)))))))
    (λ (ne : c ≢ k). ap (λ x. bit x i) (get_or-set_other table k c (bit_or (own_at table k) w) 0 ne)
    ∙ (or_false (bit (own_at table c) i) ∙ ap (λ x. bit (own_at table c) i || (x && bit w i)) (sym (ne_eqb k c (λ e. ne (sym e))))))
    (cases_eq c k)
