-- The names of a sample are identifiers.
use Rattle.std.proofs.Common.{◌≡◌, ℕ, ◌^◌, ◌<◌, Bool, true, false, List, [], ◌∷◌, length, refl, sym, ap, ◌∙◌, arith, ⊎_elim}
use Rattle.std.specs.Prelude.{not, codes}
use Rattle.std.specs.List.{list_any, list_all}
use Rattle.std.specs.Str.{bytes_eq, all_scalars, IsAscii}
use Rattle.std.specs.Char.{is_ascii_digit}
use Rattle.std.specs.Fmt.{decimal}
use Rattle.std.proofs.lemmas.Bool.{cases_Bool, and_parts, and_from, or_right, false≢true, not-true}
use Rattle.std.proofs.lemmas.Fmt.{decimal_nonempty, IsAscii-decimal}
use Rattle.std.proofs.lemmas.Slice.Eq.{bytes_eq-Decides}
use Rattle.std.proofs.lemmas.Str.{scalars-chars, chars-IsAscii, IsUtf8-from_ascii}
use Rattle.std.proofs.lemmas.Str.Ascii.{IsAscii-cons}
use Rattle.unicode_ident.proofs.Computing.{unicode_ident}
use Rattle.kaba_base.specs.Words.{is_start, is_part, is_word, key_text, key_of, first_that, is_none}
use Rattle.kaba_base.specs.declared.words.Keyword.{Keyword}
use Rattle.kaba_base.specs.declared.words.TheConstants.{KEYWORDS}
use Rattle.java_lex.specs.Writable.{IsName}
use Rattle.java_lex.proofs.Numbers.{digit_is_part, all_digits}
use Rattle.kaba_work.specs.Sample.{class_name, field_name, extra_name, variable_name}

abbrev has_digit : List ℕ → Bool
has_digit cs = list_any is_ascii_digit cs

-- no keyword has a digit
plain_keys : list_all (λ k. not (has_digit (key_text k))) KEYWORDS ≡ true
unfolding key_text
plain_keys = refl

no_key : (ks : List Keyword) (name : List ℕ) → list_all (λ k. not (has_digit (key_text k))) ks ≡ true → has_digit name ≡ true
    → is_none (first_that (λ k. bytes_eq (key_text k) name) ks) ≡ true
no_key [] name all digit = refl
no_key (k ∷ ks) name all digit =
    let p = and_parts (not (has_digit (key_text k))) (list_all (λ k. not (has_digit (key_text k))) ks) all in
    ⊎_elim
    (λ e. absurd (false≢true (sym (not-true (has_digit (key_text k)) p.0) ∙ ap has_digit ((bytes_eq-Decides (key_text k) name).0 e) ∙ digit)))
    (λ e. rw e (no_key ks name p.1 digit))
    (cases_Bool (bytes_eq (key_text k) name))

parts : (ds : List ℕ) → list_all is_ascii_digit ds ≡ true → list_all is_part ds ≡ true
parts [] h = refl
parts (d ∷ ds) h =
    let p = and_parts (is_ascii_digit d) (list_all is_ascii_digit ds) h in and_from (is_part d) (list_all is_part ds) (digit_is_part d p.0) (parts ds p.1)

some_digit : (ds : List ℕ) → 0 < length ds → list_all is_ascii_digit ds ≡ true → has_digit ds ≡ true
some_digit [] h k = absurd (omega (arith, h))
some_digit (d ∷ ds) h k = rw ((and_parts (is_ascii_digit d) (list_all is_ascii_digit ds) k).0) refl

-- a letter and a number
numbered : (c n : ℕ) → is_start c ≡ true → is_ascii_digit c ≡ false → c < 128 → n < 2 ^ 64 → IsName (c ∷ decimal n)
numbered c n start letter small h =
    let digits = all_digits n h in
    let digit : has_digit (c ∷ decimal n) ≡ true = or_right (is_ascii_digit c) (has_digit (decimal n)) (some_digit (decimal n) (decimal_nonempty n h) digits) in
    let ascii : IsAscii (c ∷ decimal n) = IsAscii-cons c (decimal n) small (IsAscii-decimal n h) in
    record {
      named =
          and_from (is_word (c ∷ decimal n)) (is_none (key_of (c ∷ decimal n)))
          (and_from (is_start c) (list_all is_part (decimal n)) start (parts (decimal n) digits))
          (no_key KEYWORDS (c ∷ decimal n) plain_keys digit);
      scalars = ap all_scalars (sym (chars-IsAscii (c ∷ decimal n) ascii)) ∙ scalars-chars (c ∷ decimal n) (IsUtf8-from_ascii (c ∷ decimal n) ascii);
    }

-- the names of a sample that have this number
pub record AreWords (i : ℕ) : Type 0 where
  pub class : IsName (class_name i)
  pub field : IsName (field_name i)
  pub extra : IsName (extra_name i)
  pub variable : IsName (variable_name i)

pub words : (i : ℕ) → i < 2 ^ 64 → AreWords i
unfolding unicode_ident
words i h = record {
  class = numbered 75 i refl refl (omega arith) h;
  field = numbered 102 i refl refl (omega arith) h;
  extra = numbered 101 i refl refl (omega arith) h;
  variable = numbered 118 i refl refl (omega arith) h;
}

pub method_word : IsName (codes "g")
unfolding unicode_ident key_text
method_word = record { named = refl; scalars = refl }

-- the names of the main class and of its method, of what that is given and of its type
pub main_words : IsName (codes "Main") × IsName (codes "main") × IsName (codes "args") × IsName (codes "String")
unfolding unicode_ident key_text
main_words = (
  record { named = refl; scalars = refl },
  record { named = refl; scalars = refl },
  record { named = refl; scalars = refl },
  record { named = refl; scalars = refl },
)
