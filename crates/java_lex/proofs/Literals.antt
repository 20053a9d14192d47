-- Literals: what is written of them is read back.
use Rattle.std.proofs.Common.{◌≡◌, ℕ, ◌+◌, ◌<◌, ◌==◌, true, false, if◌then◌else◌, List, [], ◌∷◌, ◌++◌, length, Option, Some, None, refl, ap, sym, subst, ◌∙◌, arith, append_assoc, length-append, nat_lt, inl, inr}
use Rattle.std.proofs.lemmas.Bool.{eqb-true, cases_Bool, lt-ltb}
use Rattle.std.specs.List.{flat_map}
use Rattle.std.specs.Char.Escape.{encode_utf16}
use Rattle.unicode_ident.proofs.Computing.{unicode_ident}
use Rattle.java_lex.specs.declared.TokenKind.{TokenKind}
use Rattle.java_lex.specs.declared.TokenKind.TheVariants as kinds
use Rattle.java_lex.specs.declared.scan.Piece.TheVariants.{Part}
use Rattle.java_lex.specs.Chars.{is_line_end}
use Rattle.java_lex.specs.Piece.{string_piece, quoted, behind, escaped, char_piece}
use Rattle.java_lex.specs.declared.scan.Quoted.TheVariants.{Closed}
use Rattle.java_lex.specs.Printing.{letter_of, written_by, written}
use Rattle.java_lex.proofs.Rules.{string_rule, char_rule}
use Rattle.java_lex.specs.Spells.{Spells}
use Rattle.java_lex.proofs.Skips.{one_more}

-- what a letter says, and what it says that there is none
abbrev LetterFits : ℕ → Option ℕ → Type 0
LetterFits c (Some d) = (escaped d ≡ Some c) × (encode_utf16 c ≡ c ∷ [])
LetterFits c None = ((c == 34) ≡ false) × ((c == 92) ≡ false) × (is_line_end c ≡ false) × ((c == 39) ≡ false)

test : (P : Option ℕ → Type 0) (c d e : ℕ) (o : Option ℕ) → (c ≡ d → P (Some e)) → ((c == d) ≡ false → P o) → P (if c == d then Some e else o)
test P c d e o a b = elim (cases_Bool (c == d)) as (λ _. P (if c == d then Some e else o)) [
  | inl h ↦ subst (λ t. P (if t then Some e else o)) (sym h)
      (a (eqb-true c d h))
  | inr h ↦ subst (λ t. P (if t then Some e else o)) (sym h) (b h)
]

here : (d e : ℕ) → LetterFits d (Some e) → (c : ℕ) → c ≡ d → LetterFits c (Some e)
here d e h c k = subst (λ x. LetterFits x (Some e)) (sym k) h

letter_fits : (c : ℕ) → LetterFits c (letter_of c)
letter_fits c =
    test (LetterFits c) c 8 98 _ (here 8 98 (refl, refl) c) (λ a1.
    test (LetterFits c) c 9 116 _ (here 9 116 (refl, refl) c) (λ a2.
    test (LetterFits c) c 10 110 _ (here 10 110 (refl, refl) c) (λ a3.
    test (LetterFits c) c 12 102 _ (here 12 102 (refl, refl) c) (λ a4.
    test (LetterFits c) c 13 114 _ (here 13 114 (refl, refl) c) (λ a5.
    test (LetterFits c) c 34 34 _ (here 34 34 (refl, refl) c) (λ a6.
    test (LetterFits c) c 39 39 _ (here 39 39 (refl, refl) c) (λ a7.
    test (LetterFits c) c 92 92 None (here 92 92 (refl, refl) c) (λ a8. (a6, a8, rw (a5, a3) refl, a7)))))))))

quoted_raw : (c : ℕ) (xs : List ℕ) → (c == 34) ≡ false → (c == 92) ≡ false → is_line_end c ≡ false → quoted (c ∷ xs) ≡ behind (encode_utf16 c) 1 (quoted xs)
quoted_raw c [] h k l = rw (h, l, k) refl
quoted_raw c (d ∷ xs) h k l = rw (h, l, k) refl

quoted_by : (c : ℕ) (o : Option ℕ) (xs : List ℕ) → LetterFits c o → quoted (written_by c o ++ xs) ≡ behind (encode_utf16 c)
    (length (written_by c o)) (quoted xs)
quoted_by c (Some d) xs h = rw (h.0) (ap (λ us. behind us 2 (quoted xs)) (sym h.1))
quoted_by c None xs h = quoted_raw c xs h.0 h.1 h.2

quoted_written : (c : ℕ) (xs : List ℕ) → quoted (written c ++ xs) ≡ behind (encode_utf16 c) (length (written c)) (quoted xs)
quoted_written c xs = quoted_by c (letter_of c) xs (letter_fits c)

-- the characters of a literal, and its units
abbrev pub all_written : List ℕ → List ℕ
all_written cs = flat_map written cs

abbrev pub units_of : List ℕ → List ℕ
units_of cs = flat_map encode_utf16 cs

quoted_all : (cs rest : List ℕ) → quoted (all_written cs ++ 34 ∷ rest) ≡ Closed (units_of cs) (length (all_written cs) + 1)
quoted_all [] [] = refl
quoted_all [] (c ∷ rest) = refl
quoted_all (c ∷ cs) rest =
    ap quoted (append_assoc (written c) (all_written cs) (34 ∷ rest))
    ∙ quoted_written c (all_written cs ++ 34 ∷ rest)
    ∙ ap (behind (encode_utf16 c) (length (written c))) (quoted_all cs rest)
    ∙ ap (Closed (units_of (c ∷ cs))) (omega (arith, length-append (written c) (all_written cs)))

-- a string literal
pub string : (cs rest : List ℕ) (ks : List TokenKind) → Spells rest ks → Spells (34 ∷ ((all_written cs ++ 34 ∷ []) ++ rest)) (kinds.Str (units_of cs) ∷ ks)
unfolding unicode_ident
string cs rest ks s = one_more (kinds.Str (units_of cs)) 34 (all_written cs ++ 34 ∷ []) rest ks
    (string_rule 34 ((all_written cs ++ 34 ∷ []) ++ rest) refl refl refl refl
    ∙ ap (λ xs. string_piece (quoted xs)) (append_assoc (all_written cs) (34 ∷ []) rest)
    ∙ ap string_piece (quoted_all cs rest)
    ∙ ap (Part (kinds.Str (units_of cs))) (sym (length-append (all_written cs) (34 ∷ [])))) s

char_by : (c : ℕ) (o : Option ℕ) (rest : List ℕ) → c < 65536 → LetterFits c o → char_piece (written_by c o ++ 39 ∷ rest)
    ≡ Part (kinds.Char c) (length (written_by c o) + 1)
char_by c (Some d) rest l h = rw (h.0) refl
char_by c None rest l h = let f : nat_lt c 65536 ≡ true = lt-ltb c 65536 l in rw (h.1, h.2, h.3, f) refl

-- a character literal
pub char : (c : ℕ) (rest : List ℕ) (ks : List TokenKind) → c < 65536 → Spells rest ks → Spells (39 ∷ ((written c ++ 39 ∷ []) ++ rest)) (kinds.Char c ∷ ks)
unfolding unicode_ident
char c rest ks l s = one_more (kinds.Char c) 39 (written c ++ 39 ∷ []) rest ks
    (char_rule 39 ((written c ++ 39 ∷ []) ++ rest) refl refl refl refl refl
    ∙ ap char_piece (append_assoc (written c) (39 ∷ []) rest)
    ∙ char_by c (letter_of c) rest l (letter_fits c)
    ∙ ap (Part (kinds.Char c)) (sym (length-append (written c) (39 ∷ [])))) s
