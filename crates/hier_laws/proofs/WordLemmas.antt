-- Names that are made: they are identifiers, none of those taken, and none that the language has.
use Rattle.std.proofs.Common.{◌≡◌, ◌≢◌, ℕ, suc, zero, ◌+◌, ◌^◌, ◌<◌, ◌⊎◌, ◌||◌, eqb, Bool, true, false, List, [], ◌∷◌, ◌++◌, length, Option, Some, None, Contains, refl, sym, ap, ◌∙◌, subst, arith, ⊎_elim}
use Rattle.std.specs.Prelude.{not, unwrap_or, codes, replicate}
use Rattle.std.specs.List.{list_any, list_all}
use Rattle.std.specs.Str.{bytes_eq}
use Rattle.std.specs.Char.{is_ascii_digit}
use Rattle.std.specs.Fmt.{decimal}
use Rattle.std.proofs.lemmas.Bool.{cases_Bool, or_cases, or_left, or_right, and_parts, and_from, eqb-true, false≢true, not-true, or_parts}
use Rattle.std.proofs.lemmas.List.{length-replicate, length-append}
use Rattle.std.proofs.lemmas.List.Folds.{list_all-append, list_any-append, list_any_at}
use Rattle.std.proofs.lemmas.Slice.Eq.{bytes_eq-Decides}
use Rattle.kaba_bits.specs.Sets.{first_below, when}
use Rattle.kaba_bits.proofs.FirstLemmas.{first_below_Some, first_below_None, when-Some}
use Rattle.unicode_ident.specs.Ident.{is_xid_start}
use Rattle.kaba_base.specs.Words.{is_start, is_part, is_word, is_name, key_text, key_of, first_that, is_none}
use Rattle.kaba_base.specs.declared.words.Keyword.{Keyword}
use Rattle.kaba_base.specs.declared.words.TheConstants.{KEYWORDS}
use Rattle.kaba_base.proofs.Texts.{start_is_part}
use Rattle.java_lex.proofs.Numbers.{digit_is_part, all_digits}
use Rattle.fact_model.specs.FreeNames.{is_taken, longest, lengthened, underscores, free_name}
use Rattle.fact_model.proofs.MarkedNames.{has_mark, both_parts, marks_are_parts, joined_word, marked_name}
use Rattle.hier_model.specs.Names.{joined}
use Rattle.hier_rules.specs.Names.{known_names}

joined_mark : (a b : List ℕ) → has_mark (joined a b) ≡ true
joined_mark a b = list_any-append (eqb 95) a (95 ∷ b) ∙ or_right (has_mark a) (has_mark (95 ∷ b)) refl

pub made_mark : (taken : List (List ℕ)) (a b : List ℕ) → has_mark (free_name taken (joined a b)) ≡ true
made_mark taken a b =
    list_any-append (eqb 95) (joined a b) (replicate (underscores taken (joined a b)) 95)
    ∙ or_left (has_mark (joined a b)) (has_mark (replicate (underscores taken (joined a b)) 95)) (joined_mark a b)

-- no name that the language has has one
pub known_unmarked : (name : List ℕ) → has_mark name ≡ true → list_any (λ k. bytes_eq k name) known_names ≡ false
known_unmarked name h = none (bytes_eq (codes "Object") name) (bytes_eq (codes "String") name) (bytes_eq (codes "System") name)
    (λ e. other (codes "Object") refl e) (λ e. other (codes "String") refl e) (λ e. other (codes "System") refl e)
  where
    other : (k : List ℕ) → has_mark k ≡ false → bytes_eq k name ≡ true → ⊥
    other k plain e = false≢true (sym plain ∙ ap has_mark ((bytes_eq-Decides k name).0 e) ∙ h)

    none : (a b c : Bool) → (a ≡ true → ⊥) → (b ≡ true → ⊥) → (c ≡ true → ⊥) → (a || (b || (c || false))) ≡ false
    none true b c f g k = absurd (f refl)
    none false true c f g k = absurd (g refl)
    none false false true f g k = absurd (k refl)
    none false false false f g k = refl

append_twice : (a b c : List ℕ) → (a ++ 95 ∷ b) ++ c ≡ a ++ 95 ∷ (b ++ c)
append_twice [] b c = refl
append_twice (x ∷ a) b c = ap (λ r. x ∷ r) (append_twice a b c)

-- what is made of a word, or of nothing, and of what may stand in a name is a name
pub made_name : (taken : List (List ℕ)) (a b : List ℕ) → (a ≡ []) ⊎ (is_word a ≡ true) → list_all is_part b ≡ true → 0 < length a + length b
    → is_name (free_name taken (joined a b)) ≡ true
made_name taken a b w parts some =
    let k = underscores taken (joined a b) in
    let word : is_word (free_name taken (joined a b)) ≡ true =
    subst (λ y. is_word y ≡ true) (sym (append_twice a b (replicate k 95)))
    (joined_word a (b ++ replicate k 95) w (both_parts b (replicate k 95) parts (marks_are_parts k))) in
    let long : 1 < length (free_name taken (joined a b)) = omega (arith, length-append (joined a b) (replicate k 95), length-append a (95 ∷ b), some) in
    marked_name (free_name taken (joined a b)) word (made_mark taken a b) long
