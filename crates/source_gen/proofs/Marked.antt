-- The name of a constructor's slot begins with the byte of the mark.
use Rattle.std.proofs.Common.{◌≡◌, ℕ, ◌+◌, ◌<◌, ◌≤◌, ◌/◌, ◌%◌, Bool, true, false, List, [], ◌∷◌, ◌++◌, refl, sym, ap, ◌∙◌, subst, arith, cond, nat_eq, slice_index_or, ⊎_elim}
use Rattle.std.specs.Str.{encode_utf8_all}
use Rattle.std.proofs.Math.Dec.{ltb}
use Rattle.std.proofs.Math.Utf8.{encode}
use Rattle.std.proofs.lemmas.Bool.{cases_Bool, cases_lt, eqb-true, lt-ltb, le-ltb}
use Rattle.flow_rules.specs.Facts.{is_marked}

-- the first byte
abbrev first : List ℕ → ℕ
first bs = slice_index_or bs 0 0

-- the bytes of a character that takes more than one
abbrev longer : ℕ → List ℕ
longer c =
    cond (ltb c 2048) ((192 + c / 64) ∷ (128 + c % 64) ∷ [])
    (cond (ltb c 65536) ((224 + c / 4096) ∷ (128 + c / 64 % 64) ∷ (128 + c % 64) ∷ [])
    ((240 + c / 262144) ∷ (128 + c / 4096 % 64) ∷ (128 + c / 64 % 64) ∷ (128 + c % 64) ∷ []))

-- a character below 128 is its byte
low : (c : ℕ) (bs : List ℕ) → c < 128 → first (encode c ++ bs) ≡ c
unfolding encode
low c bs h = ap (λ b. first (cond b (c ∷ []) (longer c) ++ bs)) (lt-ltb c 128 h)

-- any other begins with a byte that is no character's
high : (c : ℕ) (bs : List ℕ) → 128 ≤ c → 192 ≤ first (encode c ++ bs)
unfolding encode
high c bs h = subst (λ b. 192 ≤ first (cond b (c ∷ []) (longer c) ++ bs)) (sym (le-ltb c 128 h)) (go (ltb c 2048) (ltb c 65536))
  where
    up : (n z : ℕ) → 192 ≤ 192 + n + z
    up n z = omega arith

    go : (x y : Bool) → 192 ≤ first (cond x ((192 + c / 64) ∷ (128 + c % 64) ∷ []) (cond y ((224 + c / 4096) ∷ (128 + c / 64 % 64) ∷ (128 + c % 64) ∷ [])
        ((240 + c / 262144) ∷ (128 + c / 4096 % 64) ∷ (128 + c / 64 % 64) ∷ (128 + c % 64) ∷ [])) ++ bs)
    go true y = up 0 (c / 64)
    go false true = up 32 (c / 4096)
    go false false = up 48 (c / 262144)

-- a number that is at least 128 is not that of the mark
other : (n : ℕ) → 128 ≤ n → nat_eq n 60 ≡ false
other n h = ⊎_elim (λ t. absurd (let e = eqb-true n 60 t in omega (arith, h, e))) (λ f. f) (cases_Bool (nat_eq n 60))

pub first_byte : (x : List ℕ) → nat_eq (first (encode_utf8_all x)) 60 ≡ is_marked x
first_byte [] = refl
first_byte (c ∷ cs) =
    ⊎_elim (λ lt. ap (λ b. nat_eq b 60) (low c (encode_utf8_all cs) lt))
    (λ ge. let k = high c (encode_utf8_all cs) ge in other (first (encode c ++ encode_utf8_all cs)) (omega (arith, k)) ∙ sym (other c ge)) (cases_lt c 128)
