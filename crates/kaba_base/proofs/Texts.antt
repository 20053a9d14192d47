-- Texts as bytes and as characters, and the keywords in both.
use Rattle.std.proofs.Common.{◌≡◌, ℕ, ◌-◌, ◌≤◌, ◌&&◌, ◌||◌, ◌==◌, Bool, true, false, not, List, [], ◌∷◌, Option, Some, length, get_or, take, drop, refl, ◌∙◌, sym, ap, arith, cond}
use Rattle.std.specs.List.{list_all, list_any}
use Rattle.std.specs.Str.{chars, encode_utf8_all, IsUtf8, bytes_eq}
use Rattle.std.proofs.Math.Utf8.{scalars}
use Rattle.std.proofs.lemmas.Str.{encodes-chars, chars-encodes, cons_from_encodes}
use Rattle.std.proofs.lemmas.Slice.Eq.{bytes_eq-Decides}
use Rattle.std.proofs.lemmas.Bool.Decides.{same_from_decides, Decides-eqb}
use Rattle.std.proofs.lemmas.List.{take_all}
use Rattle.std.proofs.lemmas.Bool.{cond-false, and_parts}
use Rattle.unicode_ident.specs.Ident.{is_xid_start, is_xid_continue}
use Rattle.unicode_ident.proofs.IdentLemmas.{is_xid_start-is_xid_continue}
use Rattle.unicode_ident.proofs.Computing.{unicode_ident}
use Rattle.kaba_base.specs.Words.{first_that, key_text, key_of, is_none, is_start, is_part, is_word, next_is}
use Rattle.kaba_base.specs.declared.words.Keyword.{Keyword}
use Rattle.kaba_base.specs.declared.words.TheConstants.{KEYWORDS}
use Rattle.kaba_base.proofs.TestLemmas.{same_truth}

-- bytes that are UTF-8 are told by their characters
pub same_chars : (xs ys : List ℕ) → IsUtf8 xs → IsUtf8 ys → chars xs ≡ chars ys → xs ≡ ys
same_chars xs ys u v h = sym (encodes-chars xs u) ∙ ap encode_utf8_all h ∙ encodes-chars ys v

-- two texts are the same where their bytes are
pub bytes_exact : (x y : List ℕ) → bytes_eq x y ≡ true → x ≡ y
bytes_exact x y h = (bytes_eq-Decides x y).0 h

pub bytes_of : (x y : List ℕ) → x ≡ y → bytes_eq x y ≡ true
bytes_of x y e = (bytes_eq-Decides x y).1 e

pub encodes-same : (xs ws : List ℕ) → encode_utf8_all xs ≡ encode_utf8_all ws → xs ≡ ws
encodes-same [] [] e = refl
encodes-same (x ∷ xs) [] e = let h = cons_from_encodes [] (encode_utf8_all xs) x (sym e) in cc h.1
encodes-same xs (w ∷ ws) e =
    let h = cons_from_encodes xs (encode_utf8_all ws) w e in
    h.1 ∙ ap (λ rest. w ∷ rest) (encodes-same h.0 ws h.2)

-- and exactly there their characters are
pub text_test : (a b : List ℕ) → bytes_eq (encode_utf8_all a) (encode_utf8_all b) ≡ bytes_eq a b
text_test a b =
    same_truth (bytes_eq (encode_utf8_all a) (encode_utf8_all b)) (bytes_eq a b)
    (λ h. bytes_of a b (encodes-same a b (bytes_exact (encode_utf8_all a) (encode_utf8_all b) h)))
    (λ h. bytes_of (encode_utf8_all a) (encode_utf8_all b) (ap encode_utf8_all (bytes_exact a b h)))

-- the first that passes, past one that does not
pub first_that_skips : {X : Type 0} (p : X → Bool) (xs : List X) (d : X) (r : Option X) → 1 ≤ length xs → p (get_or xs 0 d) ≡ false
    → r ≡ first_that p (take (length xs - 1) (drop 1 xs)) → r ≡ first_that p xs
first_that_skips p [] d r h f e = absurd (omega arith)
first_that_skips p (x ∷ xs) d r h f e = e ∙ ap (first_that p) (take_all (length (x ∷ xs) - 1) xs (omega arith)) ∙ sym (cond-false (p x) _ _ f)

-- whether a text is its own bytes and its own characters
is_plain : List ℕ → Bool
is_plain xs = bytes_eq (encode_utf8_all xs) xs && scalars xs

same_test : (bs xs : List ℕ) → IsUtf8 bs → is_plain xs ≡ true → bytes_eq xs (chars bs) ≡ bytes_eq xs bs
unfolding is_plain
same_test bs xs u h =
    let told = and_parts (bytes_eq (encode_utf8_all xs) xs) (scalars xs) h in
    let encoded : encode_utf8_all xs ≡ xs = (bytes_eq-Decides (encode_utf8_all xs) xs).0 told.0 in
    let by_chars = bytes_eq-Decides xs (chars bs) in
    let by_bytes = bytes_eq-Decides xs bs in
    same_from_decides {P = xs ≡ bs} (bytes_eq xs (chars bs)) (bytes_eq xs bs) (
      (λ t. sym encoded ∙ ap encode_utf8_all (by_chars.0 t) ∙ encodes-chars bs u),
      (λ e. by_chars.1 (sym (chars-encodes xs told.1) ∙ ap chars (encoded ∙ e))),
    )
    by_bytes

none_after : (a : Bool) (k : Keyword) (found : Option Keyword) (any : Bool) → is_none found ≡ not any → is_none (cond a (Some k) found) ≡ not (a || any)
none_after true k found any h = refl
none_after false k found any h = h

keyword_tests : (bs : List ℕ) → IsUtf8 bs → (ks : List Keyword) → list_all (λ k. is_plain (key_text k)) ks ≡ true
    → is_none (first_that (λ k. bytes_eq (key_text k) (chars bs)) ks) ≡ not (list_any (λ k. bytes_eq (key_text k) bs) ks)
keyword_tests bs u [] h = refl
keyword_tests bs u (k ∷ ks) h =
    let told = and_parts (is_plain (key_text k)) (list_all (λ x. is_plain (key_text x)) ks) h in
    rw (same_test bs (key_text k) u told.0) (none_after (bytes_eq (key_text k) bs) k _ _ (keyword_tests bs u ks told.1))

keywords_plain : list_all (λ k. is_plain (key_text k)) KEYWORDS ≡ true
unfolding is_plain key_text lib.Utf8.encode
keywords_plain = refl

-- a text is no keyword where none of the keywords has its bytes
pub no_keyword : (bs : List ℕ) → IsUtf8 bs → is_none (key_of (chars bs)) ≡ not (list_any (λ k. bytes_eq (key_text k) bs) KEYWORDS)
no_keyword bs u = keyword_tests bs u KEYWORDS keywords_plain

one_word : (a b r : Bool) → (a ≡ true → b ≡ true) → (a && (b && r)) ≡ (a && r)
one_word true b r f = rw (f refl) refl
one_word false b r f = refl

by_start : (x y u d : Bool) → (x ≡ true → y ≡ true) → (u ≡ true → y ≡ true) → (x || u || d) ≡ true → (y || d) ≡ true
by_start true y u d f g h = rw (f refl) refl
by_start false y true d f g h = rw (g refl) refl
by_start false true false d f g h = refl
by_start false false false d f g h = h

-- a character that may begin an identifier may stand in one
pub start_is_part : (c : ℕ) → is_start c ≡ true → is_part c ≡ true
unfolding unicode_ident
start_is_part c h =
    by_start (is_xid_start c) (is_xid_continue c) (c == 95) (c == 36) (is_xid_start-is_xid_continue c)
    (λ e. ap is_xid_continue ((Decides-eqb c 95).0 e)) h

-- the two tests of a word
pub word_tests : (cs : List ℕ) → (next_is is_start cs && list_all is_part cs) ≡ is_word cs
word_tests [] = refl
word_tests (c ∷ cs) = one_word (is_start c) (is_part c) (list_all is_part cs) (start_is_part c)
