-- Names with an underscore: what is made of a word, an underscore and what may stand in a name is a name.
use Rattle.std.proofs.Common.{◌≡◌, ◌≢◌, ℕ, suc, zero, ◌+◌, ◌^◌, ◌<◌, ◌⊎◌, ◌||◌, eqb, Bool, true, false, List, [], ◌∷◌, ◌++◌, length, Contains, refl, sym, ap, ◌∙◌, subst, arith, ⊎_elim}
use Rattle.std.specs.Prelude.{not, replicate}
use Rattle.std.specs.List.{list_any, list_all}
use Rattle.std.specs.Str.{bytes_eq}
use Rattle.std.specs.Char.{is_ascii_digit}
use Rattle.std.specs.Fmt.{decimal}
use Rattle.std.proofs.lemmas.Bool.{cases_Bool, or_cases, or_left, or_right, and_parts, and_from, eqb-true, false≢true, not-true, or_parts}
use Rattle.std.proofs.lemmas.List.{append-nil, length-append}
use Rattle.std.proofs.lemmas.List.Folds.{list_all-append, list_any-append, list_any_at}
use Rattle.std.proofs.lemmas.Slice.Eq.{bytes_eq-Decides}
use Rattle.unicode_ident.specs.Ident.{is_xid_start}
use Rattle.kaba_base.specs.Words.{is_start, is_part, is_word, is_name, key_text, key_of, first_that, is_none}
use Rattle.kaba_base.specs.declared.words.Keyword.{Keyword}
use Rattle.kaba_base.specs.declared.words.TheConstants.{KEYWORDS}
use Rattle.kaba_base.proofs.Texts.{start_is_part}
use Rattle.java_lex.proofs.Numbers.{digit_is_part, all_digits}
use Rattle.fact_model.specs.FreeNames.{is_taken, lengthened}

-- a name that is not taken is none of those that are
pub not_taken : (taken : List (List ℕ)) (name x : List ℕ) → is_taken taken name ≡ false → Contains taken x → name ≢ x
not_taken taken name x h c e =
    let has = (bytes_eq-Decides name x).1 e in
    false≢true (sym h ∙ list_any_at (bytes_eq name) taken c.0 x c.1 (subst (λ y. bytes_eq name y ≡ true) (sym c.2) has))

pub taken_left : (xs ys : List (List ℕ)) (name : List ℕ) → is_taken (xs ++ ys) name ≡ false → (is_taken xs name ≡ false) × (is_taken ys name ≡ false)
taken_left xs ys name h = or_parts (is_taken xs name) (is_taken ys name) (sym (list_any-append (bytes_eq name) xs ys) ∙ h)

-- whether a name has an underscore
abbrev pub has_mark : List ℕ → Bool
has_mark cs = list_any (eqb 95) cs

-- a keyword with an underscore is that alone
short_keys : list_all (λ k. not (has_mark (key_text k)) || eqb (length (key_text k)) 1) KEYWORDS ≡ true
unfolding key_text
short_keys = refl

no_key : (ks : List Keyword) (name : List ℕ) → list_all (λ k. not (has_mark (key_text k)) || eqb (length (key_text k)) 1) ks ≡ true
    → has_mark name ≡ true → 1 < length name
    → is_none (first_that (λ k. bytes_eq (key_text k) name) ks) ≡ true
no_key [] name all mark long = refl
no_key (k ∷ ks) name all mark long =
    let p = and_parts (not (has_mark (key_text k)) || eqb (length (key_text k)) 1)
    (list_all (λ k. not (has_mark (key_text k)) || eqb (length (key_text k)) 1) ks) all in
    ⊎_elim
    (λ e. absurd (let same = (bytes_eq-Decides (key_text k) name).0 e in
    ⊎_elim
    (λ no. false≢true (sym (not-true (has_mark (key_text k)) no) ∙ ap has_mark same ∙ mark))
    (λ one. let l = eqb-true (length (key_text k)) 1 one in let m = ap length same in omega (arith, l, m, long))
    (or_cases (not (has_mark (key_text k))) (eqb (length (key_text k)) 1) p.0)))
    (λ e. rw e (no_key ks name p.1 mark long))
    (cases_Bool (bytes_eq (key_text k) name))

mark_is_start : is_start 95 ≡ true
mark_is_start = or_left (is_xid_start 95 || eqb 95 95) (eqb 95 36) (or_right (is_xid_start 95) (eqb 95 95) refl)

pub mark_is_part : is_part 95 ≡ true
mark_is_part = start_is_part 95 mark_is_start

pub word_parts : (cs : List ℕ) → is_word cs ≡ true → list_all is_part cs ≡ true
word_parts [] h = refl
word_parts (c ∷ cs) h = let p = and_parts (is_start c) (list_all is_part cs) h in and_from (is_part c) (list_all is_part cs) (start_is_part c p.0) p.1

pub marks_are_parts : (n : ℕ) → list_all is_part (replicate n 95) ≡ true
marks_are_parts zero = refl
marks_are_parts (suc n) = and_from (is_part 95) (list_all is_part (replicate n 95)) mark_is_part (marks_are_parts n)

pub both_parts : (xs ys : List ℕ) → list_all is_part xs ≡ true → list_all is_part ys ≡ true → list_all is_part (xs ++ ys) ≡ true
both_parts xs ys h k = list_all-append is_part xs ys ∙ and_from (list_all is_part xs) (list_all is_part ys) h k

-- a word or nothing, an underscore, and what may stand in a name: a word
pub joined_word : (a rest : List ℕ) → (a ≡ []) ⊎ (is_word a ≡ true) → list_all is_part rest ≡ true → is_word (a ++ 95 ∷ rest) ≡ true
joined_word [] rest h k = and_from (is_start 95) (list_all is_part rest) mark_is_start k
joined_word (c ∷ cs) rest h k =
    ⊎_elim
    (λ e. absurd (cc e))
    (λ w. let p = and_parts (is_start c) (list_all is_part cs) w in
    and_from (is_start c) (list_all is_part (cs ++ 95 ∷ rest)) p.0
    (both_parts cs (95 ∷ rest) p.1 (and_from (is_part 95) (list_all is_part rest) mark_is_part k)))
    h

-- a word with an underscore, of more than one character, is a name
pub marked_name : (name : List ℕ) → is_word name ≡ true → has_mark name ≡ true → 1 < length name → is_name name ≡ true
marked_name name word mark long = and_from (is_word name) (is_none (key_of name)) word (no_key KEYWORDS name short_keys mark long)

-- a word with underscores behind it is a word
pub lengthened_word : (name : List ℕ) (k : ℕ) → is_word name ≡ true → is_word (lengthened name k) ≡ true
lengthened_word [] k w = absurd (false≢true w)
lengthened_word (c ∷ cs) k w =
    let p = and_parts (is_start c) (list_all is_part cs) w in
    and_from (is_start c) (list_all is_part (cs ++ replicate k 95)) p.0 (both_parts cs (replicate k 95) p.1 (marks_are_parts k))

-- a name with underscores behind it is a name
pub lengthened_name : (name : List ℕ) (k : ℕ) → is_name name ≡ true → is_name (lengthened name k) ≡ true
lengthened_name name zero n = subst (λ x. is_name x ≡ true) (sym (append-nil name)) n
lengthened_name name (suc k) n =
    let w = (and_parts (is_word name) (is_none (key_of name)) n).0 in
    marked_name (lengthened name (suc k)) (lengthened_word name (suc k) w)
    (list_any-append (eqb 95) name (replicate (suc k) 95) ∙ or_right (has_mark name) (has_mark (replicate (suc k) 95)) refl)
    (long name (replicate k 95) w)
  where
    long : (cs rest : List ℕ) → is_word cs ≡ true → 1 < length (cs ++ 95 ∷ rest)
    long [] rest w = absurd (false≢true w)
    long (c ∷ cs) rest w = omega (arith, length-append cs (95 ∷ rest))

-- the digits of a number may stand in a name
pub decimal_parts : (n : ℕ) → n < 2 ^ 64 → list_all is_part (decimal n) ≡ true
decimal_parts n lt = digits_parts (decimal n) (all_digits n lt)
  where
    digits_parts : (ds : List ℕ) → list_all is_ascii_digit ds ≡ true → list_all is_part ds ≡ true
    digits_parts [] h = refl
    digits_parts (d ∷ ds) h =
        let p = and_parts (is_ascii_digit d) (list_all is_ascii_digit ds) h in
        and_from (is_part d) (list_all is_part ds) (digit_is_part d p.0) (digits_parts ds p.1)
