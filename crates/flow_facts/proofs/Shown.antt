-- The name of a constructor begins with its mark, as characters and as bytes.
use Rattle.std.proofs.Common.{◌≡◌, ℕ, ◌+◌, ◌<◌, ◌≤◌, ◌/◌, ◌%◌, Bool, true, false, List, [], ◌∷◌, ◌++◌, refl, sym, ap, ◌∙◌, subst, arith, cond, ⊎_elim}
use Rattle.std.specs.Prelude.{◌≢◌, ◌==◌}
use Rattle.std.specs.Str.{encode_utf8_all}
use Rattle.std.proofs.Math.Dec.{ltb}
use Rattle.std.proofs.Math.Utf8.{encode}
use Rattle.std.proofs.lemmas.Bool.{cases_Bool, cases_lt, eqb-true, eq-eqb, lt-ltb, le-ltb}
use Rattle.flow_rules.specs.Facts.{shown_name, is_marked}

-- the first byte, and what is behind it
abbrev first : List ℕ → ℕ
first [] = 0
first (b ∷ bs) = b

abbrev behind : List ℕ → List ℕ
behind [] = []
behind (b ∷ bs) = bs

-- the bytes of a character that takes more than one
abbrev longer : ℕ → List ℕ
longer c =
    cond (ltb c 2048) ((192 + c / 64) ∷ (128 + c % 64) ∷ [])
    (cond (ltb c 65536) ((224 + c / 4096) ∷ (128 + c / 64 % 64) ∷ (128 + c % 64) ∷ [])
    ((240 + c / 262144) ∷ (128 + c / 4096 % 64) ∷ (128 + c / 64 % 64) ∷ (128 + c % 64) ∷ []))

-- a character below 128 is its byte
low : (c : ℕ) (bs : List ℕ) → c < 128 → encode c ++ bs ≡ c ∷ bs
unfolding encode
low c bs h = ap (λ b. cond b (c ∷ []) (longer c) ++ bs) (lt-ltb c 128 h)

-- any other begins with a byte that is no character's
high : (c : ℕ) (bs : List ℕ) → 128 ≤ c → 192 ≤ first (encode c ++ bs)
unfolding encode
high c bs h = subst (λ b. 192 ≤ first (cond b (c ∷ []) (longer c) ++ bs)) (sym (le-ltb c 128 h)) (go (ltb c 2048) (ltb c 65536))
  where
    up : (n z : ℕ) → 192 ≤ 192 + n + z
    up n z = omega arith

    go : (x y : Bool) → 192 ≤ first (cond x ((192 + c / 64) ∷ (128 + c % 64) ∷ []) (cond y ((224 + c / 4096) ∷ (128 + c / 64 % 64) ∷ (128 + c % 64) ∷ [])
        ((240 + c / 262144) ∷ (128 + c / 4096 % 64) ∷ (128 + c / 64 % 64) ∷ (128 + c % 64) ∷ [])) ++ bs)
    go true y = up 0 (c / 64)
    go false true = up 32 (c / 4096)
    go false false = up 48 (c / 262144)

-- what begins with the byte of the mark begins with the mark
marked : (c : ℕ) (bs r : List ℕ) → encode c ++ bs ≡ 60 ∷ r → (c ≡ 60) × (bs ≡ r)
marked c bs r e =
    ⊎_elim (λ lt. let z = sym (low c bs lt) ∙ e in (ap first z, ap behind z))
    (λ ge. let k = high c bs ge in let z = ap first e in absurd (omega (arith, k, z)))
    (cases_lt c 128)

begins : (c : ℕ) (bs : List ℕ) → c ≡ 60 → encode c ++ bs ≡ 60 ∷ bs
unfolding encode
begins c bs e = ap (λ d. encode d ++ bs) e

pub shown_marked : (x r : List ℕ) → encode_utf8_all x ≡ 60 ∷ r → r ≡ encode_utf8_all (shown_name x)
shown_marked [] r e = absurd (cc e)
shown_marked (c ∷ cs) r e =
    let z = marked c (encode_utf8_all cs) r e in sym z.1 ∙ ap (λ b. encode_utf8_all (cond b cs (c ∷ cs))) (sym (eq-eqb c 60 z.0))

pub shown_plain : (x : List ℕ) → ((r : List ℕ) → encode_utf8_all x ≢ 60 ∷ r) → encode_utf8_all x ≡ encode_utf8_all (shown_name x)
shown_plain [] h = refl
shown_plain (c ∷ cs) h =
    ⊎_elim (λ t. absurd (h (encode_utf8_all cs) (begins c (encode_utf8_all cs) (eqb-true c 60 t))))
    (λ f. ap (λ b. encode_utf8_all (cond b cs (c ∷ cs))) (sym f)) (cases_Bool (c == 60))

pub marked_so : (x r : List ℕ) → encode_utf8_all x ≡ 60 ∷ r → true ≡ is_marked x
marked_so [] r e = absurd (cc e)
marked_so (c ∷ cs) r e = sym (eq-eqb c 60 (marked c (encode_utf8_all cs) r e).0)

pub marked_not : (x : List ℕ) → ((r : List ℕ) → encode_utf8_all x ≢ 60 ∷ r) → false ≡ is_marked x
marked_not [] h = refl
marked_not (c ∷ cs) h =
    ⊎_elim (λ t. absurd (h (encode_utf8_all cs) (begins c (encode_utf8_all cs) (eqb-true c 60 t)))) (λ f. sym f) (cases_Bool (c == 60))
