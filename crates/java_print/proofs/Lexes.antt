-- Items whose text is read as their kinds.
use Rattle.std.proofs.Common.{◌≡◌, ℕ, zero, suc, ◌<◌, ◌≤◌, ◌==◌, ◌||◌, pos, Bool, true, false, List, [], ◌∷◌, ◌++◌, Option, length, replicate, refl, ap, sym, subst, ◌∙◌, codes, arith, nat_lt}
use Rattle.std.proofs.lemmas.Bool.{and_parts, and_from, true≢false, ne_eqb, cond_both, cond-true, cond-false, lt-ltb, or_parts}
use Rattle.std.proofs.lemmas.List.{append-nil}
use Rattle.std.proofs.lemmas.Fmt.{decimal_nonempty}
use Rattle.std.specs.Fmt.{decimal}
use Rattle.std.specs.List.{list_all}
use Rattle.std.specs.Char.{is_ascii_digit}
use Rattle.std.specs.Char.Escape.{encode_utf16}
use Rattle.std.specs.Str.{all_scalars}
use lib.Utf8.{low_scalar}
use Rattle.unicode_ident.proofs.Computing.{unicode_ident}
use Rattle.kaba_base.specs.declared.Keyword.{Keyword}
use Rattle.kaba_base.specs.declared.Keyword.TheVariants as keys
use Rattle.kaba_base.specs.Words.{is_start, is_part, next_is, is_name, is_word, key_of, is_none, key_text}
use Rattle.java_lex.specs.declared.Mark.{Mark}
use Rattle.java_lex.specs.declared.Mark.TheVariants as marks
use Rattle.java_lex.specs.declared.TokenKind.{TokenKind}
use Rattle.java_lex.specs.declared.TokenKind.TheVariants as kinds
use Rattle.java_lex.specs.Spelling.{mark_text}
use Rattle.java_lex.specs.Spells.{Spells}
use Rattle.java_lex.specs.Printing.{written_by, written}
use Rattle.java_lex.specs.Writable.{IsName, IsText, IsUnit}
use Rattle.java_lex.proofs.Skips.{blank, ends}
use Rattle.java_lex.proofs.Spelled as tokens
use Rattle.java_lex.proofs.Literals as literals
use Rattle.java_lex.proofs.Literals.{all_written, units_of}
use Rattle.java_lex.proofs.Pairs.{lossy_units}
use Rattle.java_lex.proofs.Numbers.{number, all_digits, range, Range}
use Rattle.java_print.specs.Items.{Item, Lexeme, Space, End, Margin, text, kinds_in, units_written, kind_text}
use Rattle.java_print.specs.Layout.{mark_then, key_then, word_then, print_name}

-- the text of the items is read as their kinds, and can be encoded
pub record Lexes (r : List Item) : Type 0 where
  pub reads : Spells (text r) (kinds_in r)
  pub scalars : all_scalars (text r) ≡ true

-- no identifier goes on with the text of the items
abbrev pub Loose : List Item → Type 0
Loose r = next_is is_part (text r) ≡ false

abbrev Plain : List ℕ → Type 0
Plain xs = all_scalars xs ≡ true

also : (xs ys : List ℕ) → Plain xs → Plain ys → Plain (xs ++ ys)
also [] ys h k = k
also (x ∷ xs) ys h k = let p = and_parts _ _ h in and_from _ _ p.0 (also xs ys p.1 k)

digits : (ds : List ℕ) → list_all is_ascii_digit ds ≡ true → Plain ds
digits [] h = refl
digits (d ∷ ds) h = let p = and_parts (is_ascii_digit d) (list_all is_ascii_digit ds) h in let r = range d p.0 in and_from _ _
    (low_scalar d (omega (arith, r.1))) (digits ds p.1)

plain_written : (c : ℕ) → Plain (c ∷ []) → Plain (written c)
plain_written c s =
    let P : Option ℕ → Type 0 = λ o. Plain (written_by c o) in
    cond_both (c == 8) _ _ P (λ h. refl) (λ h. cond_both (c == 9) _ _ P (λ h. refl) (λ h. cond_both (c == 10) _ _ P (λ h. refl)
    (λ h. cond_both (c == 12) _ _ P (λ h. refl) (λ h.
    cond_both (c == 13) _ _ P (λ h. refl) (λ h. cond_both (c == 34) _ _ P (λ h. refl) (λ h. cond_both (c == 39) _ _ P (λ h. refl)
    (λ h. cond_both (c == 92) _ _ P (λ h. refl) (λ h. s))))))))

plain_all : (cs : List ℕ) → Plain cs → Plain (all_written cs)
plain_all [] h = refl
plain_all (c ∷ cs) h = let p = and_parts _ _ h in also (written c) (all_written cs) (plain_written c (and_from _ _ p.0 refl)) (plain_all cs p.1)

plain_mark : (m : Mark) → Plain (mark_text m)
plain_mark marks.OpenRound = refl
plain_mark _ = refl

plain_key : (k : Keyword) → Plain (key_text k)
unfolding key_text
plain_key keys.Abstract = refl
plain_key _ = refl

pub nothing : Lexes []
nothing = record { reads = ends; scalars = refl }

pub word : {n : List ℕ} {r : List Item} → IsName n → Loose r → Lexes r → Lexes (word_then n r)
word {n} {r} w a s = record { reads = tokens.name n (text r) (kinds_in r) w.named a s.reads; scalars = also n (text r) w.scalars s.scalars }

pub key : {r : List Item} (k : Keyword) → Loose r → Lexes r → Lexes (key_then k r)
key {r} k a s = record { reads = tokens.key k (text r) (kinds_in r) a s.reads; scalars = also (key_text k) (text r) (plain_key k) s.scalars }

numeral : {r : List Item} (n : ℕ) (k : TokenKind) → n ≤ 2147483648 → Spells (decimal n ++ text r) (k ∷ kinds_in r) → kind_text k ≡ decimal n → Lexes r
    → Lexes (Lexeme k ∷ r)
numeral {r} n k h t e s = record {
  reads = subst (λ xs. Spells (xs ++ text r) (k ∷ kinds_in r)) (sym e) t;
  scalars = subst (λ xs. Plain (xs ++ text r)) (sym e) (also (decimal n) (text r) (digits (decimal n) (all_digits n (omega arith))) s.scalars);
}

pub small : {r : List Item} (n : ℕ) → n < 2147483648 → Loose r → Lexes r → Lexes (Lexeme (kinds.Int (pos n)) ∷ r)
small {r} n h a s = numeral n (kinds.Int (pos n)) (omega arith)
    (subst (λ k. Spells (decimal n ++ text r) (k ∷ kinds_in r)) (cond-false (n == 2147483648) _ _ (ne_eqb n 2147483648 (λ e. omega (arith, h, e))))
    (number n (text r) (kinds_in r) (omega (arith, h)) a s.reads)) refl s

pub least : {r : List Item} → Loose r → Lexes r → Lexes (Lexeme kinds.Least ∷ r)
least {r} a s = numeral 2147483648 kinds.Least (omega arith) (number 2147483648 (text r) (kinds_in r) (omega arith) a s.reads) refl s

-- one code unit that is a character
unit_written : (u : ℕ) → IsUnit u → units_written (u ∷ []) ≡ written u
unit_written u w =
    let e : encode_utf16 u ≡ u ∷ [] = cond-true (nat_lt u 65536) _ _ (lt-ltb u 65536 w.small) in
    ap units_written (sym (append-nil (u ∷ []))) ∙ ap (λ vs. units_written (vs ++ [])) (sym e) ∙ ap all_written (lossy_units (u ∷ []) w.scalar)
    ∙ append-nil (written u)

pub char : {u : ℕ} {r : List Item} → IsUnit u → Lexes r → Lexes (Lexeme (kinds.Char u) ∷ r)
char {u} {r} w s =
    let q = unit_written u w in
    record {
      reads = subst (λ xs. Spells (39 ∷ ((xs ++ 39 ∷ []) ++ text r)) (kinds.Char u ∷ kinds_in r)) (sym q)
          (literals.char u (text r) (kinds_in r) w.small s.reads);
      scalars = subst (λ xs. Plain (39 ∷ ((xs ++ 39 ∷ []) ++ text r))) (sym q) (also (39 ∷ (written u ++ 39 ∷ [])) (text r)
          (also (written u) (39 ∷ []) (plain_written u w.scalar) refl) s.scalars);
    }

string_of : {r : List Item} (cs us : List ℕ) → all_scalars cs ≡ true → us ≡ units_of cs → Lexes r → Lexes (Lexeme (kinds.Str us) ∷ r)
string_of {r} cs us p e s =
    let q : units_written (units_of cs) ≡ all_written cs = ap all_written (lossy_units cs p) in
    subst (λ vs. Lexes (Lexeme (kinds.Str vs) ∷ r)) (sym e) (record {
      reads = subst (λ xs. Spells (34 ∷ ((xs ++ 34 ∷ []) ++ text r)) (kinds.Str (units_of cs) ∷ kinds_in r)) (sym q)
          (literals.string cs (text r) (kinds_in r) s.reads);
      scalars = subst (λ xs. Plain (34 ∷ ((xs ++ 34 ∷ []) ++ text r))) (sym q) (also (34 ∷ (all_written cs ++ 34 ∷ [])) (text r)
          (also (all_written cs) (34 ∷ []) (plain_all cs p) refl) s.scalars);
    })

pub string : {us : List ℕ} {r : List Item} → IsText us → Lexes r → Lexes (Lexeme (kinds.Str us) ∷ r)
string {us} w s = string_of w.spelt us w.scalars w.units s

pub closed : {m : Mark} {r : List Item} → tokens.IsClosed m → Lexes r → Lexes (mark_then m r)
closed {m} {r} c s = record { reads = tokens.closed c (text r) (kinds_in r) s.reads; scalars = also (mark_text m) (text r) (plain_mark m) s.scalars }

pub space : {r : List Item} → Lexes r → Lexes (Space ∷ r)
space {r} s = record { reads = blank 32 (text r) (kinds_in r) refl s.reads; scalars = s.scalars }

pub line : {r : List Item} → Lexes r → Lexes (End ∷ r)
line {r} s = record { reads = blank 10 (text r) (kinds_in r) refl s.reads; scalars = s.scalars }

blanks : (n : ℕ) (xs : List ℕ) (ks : List TokenKind) → Spells xs ks → Spells (replicate n 32 ++ xs) ks
blanks zero xs ks s = s
blanks (suc n) xs ks s = blank 32 (replicate n 32 ++ xs) ks refl (blanks n xs ks s)

plain_blanks : (n : ℕ) → Plain (replicate n 32)
plain_blanks zero = refl
plain_blanks (suc n) = plain_blanks n

pub margin : {r : List Item} (n : ℕ) → Lexes r → Lexes (Margin n ∷ r)
margin {r} n s = record { reads = blanks n (text r) (kinds_in r) s.reads; scalars = also (replicate n 32) (text r) (plain_blanks n) s.scalars }

pub spaced : {r : List Item} (m : Mark) → Lexes r → Lexes (mark_then m (Space ∷ r))
spaced {r} m s = let t = space s in record {
  reads = tokens.before_blank m (text r) (kinds_in r) t.reads;
  scalars = also (mark_text m) (32 ∷ text r)
      (plain_mark m) s.scalars;
}

-- the prefix operators
pub data IsSign : Mark → Type 0 where
  plus : IsSign marks.Plus
  minus : IsSign marks.Minus
  bang : IsSign marks.Bang
  flip : IsSign marks.Flip

-- what would make a longer mark of a sign
abbrev pub extends : Mark → ℕ → Bool
extends marks.Plus c = (c == 43) || (c == 61)
extends marks.Minus c = (c == 45) || (c == 61)
extends marks.Bang c = c == 61
extends _ c = false

abbrev pub signy : ℕ → Bool
signy c = (c == 43) || (c == 45) || (c == 61)

or3 : (x y z : Bool) → (x || y || z) ≡ false → (x ≡ false) × (y ≡ false) × (z ≡ false)
or3 true y z h = cc
or3 false true z h = cc
or3 false false true h = cc
or3 false false false h = (refl, refl, refl)

sign_spells : {m : Mark} → IsSign m → (xs : List ℕ) (ks : List TokenKind) → next_is (extends m) xs ≡ false → Spells xs ks
    → Spells (mark_text m ++ xs) (kinds.Mark m ∷ ks)
sign_spells plus [] ks h s = tokens.mark marks.Plus [] ks refl refl refl s
sign_spells minus [] ks h s = tokens.mark marks.Minus [] ks refl refl refl s
sign_spells bang [] ks h s = tokens.mark marks.Bang [] ks refl refl refl s
sign_spells plus (c ∷ xs) ks h s = let t = or_parts (c == 43) (c == 61) h in tokens.mark marks.Plus (c ∷ xs) ks (rw (t.0, t.1) refl) refl refl s
sign_spells minus (c ∷ xs) ks h s = let t = or_parts (c == 45) (c == 61) h in tokens.mark marks.Minus (c ∷ xs) ks (rw (t.0, t.1) refl) refl refl s
sign_spells bang (c ∷ xs) ks h s = tokens.mark marks.Bang (c ∷ xs) ks (rw h refl) refl refl s
sign_spells flip xs ks h s = tokens.mark marks.Flip xs ks refl refl refl s

-- a sign that nothing makes longer
pub signed : {m : Mark} {r : List Item} → IsSign m → next_is (extends m) (text r) ≡ false → Lexes r → Lexes (mark_then m r)
signed {m} {r} g h s = record { reads = sign_spells g (text r) (kinds_in r) h s.reads; scalars = also (mark_text m) (text r) (plain_mark m) s.scalars }

clear_char : {m : Mark} → IsSign m → (c : ℕ) → signy c ≡ false → extends m c ≡ false
clear_char plus c h = let t = or3 (c == 43) (c == 45) (c == 61) h in rw (t.0, t.2) refl
clear_char minus c h = let t = or3 (c == 43) (c == 45) (c == 61) h in rw (t.1, t.2) refl
clear_char bang c h = let t = or3 (c == 43) (c == 45) (c == 61) h in t.2
clear_char flip c h = refl

pub clear : {m : Mark} → IsSign m → (xs : List ℕ) → next_is signy xs ≡ false → next_is (extends m) xs ≡ false
clear g [] h = refl
clear g (c ∷ xs) h = clear_char g c h

-- what names and numbers begin with
digit_head : (ds rest : List ℕ) → 0 < length ds → list_all is_ascii_digit ds ≡ true → next_is signy (ds ++ rest) ≡ false
digit_head [] rest h k = absurd (omega arith)
digit_head (c ∷ ds) rest h k =
    let r : Range c = range c (and_parts (is_ascii_digit c) (list_all is_ascii_digit ds) k).0 in
    rw (ne_eqb c 43 (λ e. omega (arith, r.0, e)), ne_eqb c 45 (λ e. omega (arith, r.0, e)), ne_eqb c 61 (λ e. omega (arith, r.1, e))) refl

pub number_head : (n : ℕ) (rest : List ℕ) → n ≤ 2147483648 → next_is signy (decimal n ++ rest) ≡ false
number_head n rest h = digit_head (decimal n) rest (decimal_nonempty n (omega arith)) (all_digits n (omega arith))

pub name_head : (n rest : List ℕ) → is_name n ≡ true → next_is signy (n ++ rest) ≡ false
unfolding unicode_ident
name_head [] rest h = absurd (true≢false (sym h))
name_head (c ∷ cs) rest h =
    let q = and_parts (is_start c) (list_all is_part cs) (and_parts (is_word (c ∷ cs)) (is_none (key_of (c ∷ cs))) h).0 in
    rw (tokens.starts_none c 43 refl q.0, tokens.starts_none c 45 refl q.0, tokens.starts_none c 61 refl q.0) refl

-- the names that a printing has
pub system_out : IsName (codes "System") × IsName (codes "out")
unfolding unicode_ident key_text
system_out = (record { named = refl; scalars = refl }, record { named = refl; scalars = refl })

pub print_names : (l : Bool) → IsName (print_name l)
unfolding unicode_ident key_text
print_names true = record { named = refl; scalars = refl }
print_names false = record { named = refl; scalars = refl }
