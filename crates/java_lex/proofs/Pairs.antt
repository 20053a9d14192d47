-- Units of characters, and their characters again.
use Rattle.std.proofs.Common.{◌≡◌, ℕ, ◌+◌, ◌-◌, ◌/◌, ◌%◌, ◌<◌, ◌≤◌, ◌&&◌, true, List, [], ◌∷◌, ◌++◌, Some, None, refl, ap, ◌∙◌, arith, nat_lt, nat_le, inl, inr, map}
use Rattle.std.proofs.lemmas.Bool.{and_parts, cases_Bool, lt-ltb, le-ltb, ltb-true, ltb-false, lt-leb, and_right, cond-false}
use Rattle.std.specs.Char.{IsScalar}
use Rattle.std.specs.Char.Escape.{encode_utf16}
use Rattle.std.specs.Char.Utf16.{surrogate_pair_char, utf16_chars, utf16_lossy_chars, lone_unit_char}
use Rattle.std.specs.Option.{unwrap_or}
use Rattle.std.proofs.lemmas.Str.{utf16_chars-nil, utf16_chars_lone, utf16_chars_pair}
use Rattle.std.proofs.str.Utf16.{IsPair}
use Rattle.std.specs.Str.{all_scalars}
use lib.Utf8.{scalar_cases}
use Rattle.java_lex.proofs.Literals.{units_of}

small : (c : ℕ) → c < 65536 → encode_utf16 c ≡ c ∷ []
small c h = rw (lt-ltb c 65536 h) refl

-- the units of a character beyond U+FFFF
module _ (c : ℕ) (s : IsScalar c) (h : 65536 ≤ c) where
  top : c < 1114112
  top = elim (scalar_cases c s) as (λ _. c < 1114112) [ inl k ↦ omega arith | inr k ↦ k.1 ]

  first : ℕ
  first = 0xD800 + (c - 65536) / 0x400

  second : ℕ
  second = 0xDC00 + (c - 65536) % 0x400

  large : encode_utf16 c ≡ first ∷ second ∷ []
  unfolding first second
  large = rw (le-ltb c 65536 h) refl

  joined : surrogate_pair_char first second ≡ c
  unfolding first second
  joined = omega arith

no_pair : (c : ℕ) (v : ℕ) → IsScalar c → ¬ (IsPair c v)
no_pair c v s h = elim (scalar_cases c s) as (λ _. ⊥) [ inl k ↦ absurd (omega (arith, h.0)) | inr k ↦ absurd (omega (arith, h.1, k.0)) ]

alone : (c : ℕ) → IsScalar c → lone_unit_char c ≡ Some c
alone c s = elim (scalar_cases c s) as (λ _. lone_unit_char c ≡ Some c) [
  | inl k ↦ (rw (lt-leb 0xD800 c k) refl)
  | inr k ↦ cond-false (nat_le 0xD800 c && nat_lt c 0xE000) None (Some c) (and_right (nat_le 0xD800 c) (nat_lt c 0xE000) (le-ltb c 0xE000 k.0))
]

module _ (c : ℕ) (s : IsScalar c) (h : 65536 ≤ c) where
  is_pair : IsPair (first c s h) (second c s h)
  unfolding first second
  is_pair = (omega arith, omega (arith, top c s h), omega arith, omega arith)

back : (cs : List ℕ) → map (λ o. unwrap_or o 0xFFFD) (map Some cs) ≡ cs
back [] = refl
back (c ∷ cs) = ap (λ ys. c ∷ ys) (back cs)

-- the characters of the units of characters, one by one
units_chars : (cs : List ℕ) → all_scalars cs ≡ true → utf16_chars (units_of cs) ≡ map Some cs
units_chars [] h = utf16_chars-nil
units_chars (c ∷ cs) h =
    let p = and_parts _ _ h in
    let rest = units_chars cs p.1 in
    elim (cases_Bool (nat_lt c 65536)) as (λ _. utf16_chars (units_of (c ∷ cs)) ≡ map Some (c ∷ cs)) [
      | inl k ↦ ap (λ ys. utf16_chars (ys ++ units_of cs)) (small c (ltb-true c 65536 k)) ∙ utf16_chars_lone c (units_of cs) (no_pair c _ p.0)
          ∙ ap (λ o. o ∷ utf16_chars (units_of cs)) (alone c p.0) ∙ ap (λ ys. Some c ∷ ys) rest
      | inr k ↦ ap (λ ys. utf16_chars (ys ++ units_of cs)) (large c p.0 (ltb-false c 65536 k)) ∙ utf16_chars_pair (first c p.0 (ltb-false c 65536 k))
          (second c p.0 (ltb-false c 65536 k)) (units_of cs) (is_pair c p.0 (ltb-false c 65536 k))
          ∙ ap (λ d. Some d ∷ utf16_chars (units_of cs)) (joined c p.0 (ltb-false c 65536 k)) ∙ ap (λ ys. Some c ∷ ys) rest
    ]

-- and all of them
pub lossy_units : (cs : List ℕ) → all_scalars cs ≡ true → utf16_lossy_chars (units_of cs) ≡ cs
lossy_units cs h = ap (map (λ o. unwrap_or o 0xFFFD)) (units_chars cs h) ∙ back cs
