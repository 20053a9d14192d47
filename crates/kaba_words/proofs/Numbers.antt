-- Numbers in words.
use Rattle.std.proofs.Common.{◌≡◌, ◌⊎◌, inl, inr, ℕ, ◌<◌, ◌^◌, ◌≤◌, List, Result, Ok, Err, ◌∙◌, ap, arith, is_ok, sym, subst, length, get_or, string_bytes, All}
use Rattle.std.specs.Fmt.{decimal}
use Rattle.std.proofs.lemmas.Bool.{false≢true}
use Rattle.std.proofs.Math.ListN.{get_or-map}
use Rattle.std.proofs.lemmas.List.{length-map}
use Rattle.std.proofs.lemmas.List.Elements.{All-map}
use Rattle.std.specs.declared.string.String.{String}
use Rattle.std.specs.declared.alloc.Global.{Global}
use Rattle.std.proofs.lemmas.Fmt.{parse-decimal}
use Rattle.std.specs.Str.Parse.{ParsesUnsigned}
use Rattle.kaba_words.specs.Commands.{IsNumberWord, texts, most_units}

-- the number that a word writes is the one that it is read as
pub number_parses : {E : Type 0} (word : List ℕ) (limit n : ℕ) (r : Result ℕ E) → limit < 2 ^ 32 → IsNumberWord word limit n
    → ParsesUnsigned 32 10 word r → r ≡ Ok n
number_parses word limit n r small number parsed = parse-decimal 32 n word r (omega (arith, number.small, small)) (omega (arith, number.small, small))
    number.digits parsed

-- that each word is short, read of the words and of their bytes
pub shorts : (words : List (String Global)) → ((k : ℕ) (d : String Global) → k < length words → length (string_bytes (get_or words k d)) ≤ most_units)
    → All (λ word. length word ≤ most_units) (texts words)
shorts words h = All-map (λ word. length word ≤ most_units) string_bytes words h

pub short_at : (words : List (String Global)) (k : ℕ) (d : String Global) → k < length words → All (λ word. length word ≤ most_units) (texts words)
    → length (string_bytes (get_or words k d)) ≤ most_units
short_at words k d below h = subst (λ word. length word ≤ most_units) (get_or-map string_bytes words k d)
    (h k (string_bytes d) (subst (λ n. k < n) (sym (length-map words string_bytes)) below))

abbrev number_in : {E : Type 0} → ℕ → Result ℕ E → ℕ
number_in d (Ok n) = n
number_in d (Err e) = d

-- no number is read as a fault
pub never_number : {E : Type 0} (word : List ℕ) (limit n : ℕ) (r : Result ℕ E) (e : E) → limit < 2 ^ 32 → ParsesUnsigned 32 10 word r → r ≡ Err e
    → IsNumberWord word limit n → ⊥
never_number word limit n r e small parsed was number = false≢true (sym (ap is_ok was) ∙ ap is_ok (number_parses word limit n r small number parsed))

-- a number that is not the one that was read
pub not_number : {E : Type 0} (word written : List ℕ) (limit m n : ℕ) (r : Result ℕ E) → limit < 2 ^ 32 → ParsesUnsigned 32 10 word r → r ≡ Ok m
    → written ≡ decimal m → (limit < m) ⊎ (written ≡ word → ⊥) → IsNumberWord word limit n → ⊥
not_number word written limit m n r small parsed was wrote why number =
    let same : m ≡ n = ap (number_in m) (sym was ∙ number_parses word limit n r small number parsed) in
    elim why as (λ _. ⊥) [
      | inl above ↦ omega (arith, above, number.small, same)
      | inr differs ↦ differs (wrote ∙ ap decimal same ∙ sym number.digits)
    ]
