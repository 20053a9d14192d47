-- Names that are free.
use Rattle.std.proofs.Common.{◌≡◌, ℕ, zero, suc, ◌+◌, ◌<◌, ◌≤◌, ◌||◌, not, Bool, true, false, List, [], ◌∷◌, ◌++◌, length, Option, Some, None, refl, sym, ap, ◌∙◌, subst, arith, ⊎_elim, append_assoc}
use Rattle.std.specs.Prelude.{replicate, unwrap_or, string_bytes, String, cond}
use Rattle.std.specs.List.{list_any}
use Rattle.std.specs.Str.{bytes_eq, chars, encode_utf8_all, IsUtf8}
use Rattle.std.specs.declared.alloc.Global.{Global}
use Rattle.std.proofs.lemmas.Bool.{cases_Bool, cases_lt, or_cases, false≢true}
use Rattle.std.proofs.lemmas.Bool.Decides.{same_from_decides}
use Rattle.std.proofs.lemmas.Slice.Eq.{bytes_eq-Decides}
use Rattle.std.proofs.lemmas.Str.{chars_from_encodes, encodes-chars, encodes-append, IsUtf8-had}
use Rattle.std.proofs.lemmas.List.{length-append, length-replicate, map-append}
use Rattle.std.proofs.lemmas.List.Folds.{list_any-append}
use Rattle.indexmap.specs.IndexSet.{insert_key}
use Rattle.kaba_base.proofs.Texts.{same_chars, bytes_exact}
use Rattle.kaba_bits.specs.Sets.{first_below, when}
use Rattle.kaba_bits.proofs.FirstLemmas.{first_below_None, first_below_Some, when-Some, cases_Option}
use Rattle.fact_model.specs.FreeNames.{is_taken, longest, lengthened, underscores, free_name}
use Rattle.fact_model.specs.Taken.{texts, AreSameNames}

-- a name that is taken is no longer than the longest
pub taken_short : (t : List (List ℕ)) (x : List ℕ) → is_taken t x ≡ true → length x ≤ longest t
taken_short [] x h = absurd (false≢true h)
taken_short (y ∷ ys) x h =
    ⊎_elim
    (λ e. let l = ap length (bytes_exact x y e) in omega (arith, l))
    (λ more. omega (arith, taken_short ys x more))
    (or_cases (bytes_eq x y) (is_taken ys x) h)

module _ (t : List (List ℕ)) (name : List ℕ) where
  abbrev free_at : ℕ → Option ℕ
  free_at k = when (not (is_taken t (lengthened name k))) k

  long : (k : ℕ) → length (lengthened name k) ≡ length name + k
  long k = omega (arith, length-append name (replicate k 95), length-replicate {A = ℕ} k 95)

  not_taken : (k : ℕ) → longest t < k → is_taken t (lengthened name k) ≡ false
  not_taken k lt = ⊎_elim (λ h. absurd (omega (arith, lt, long k, taken_short t (lengthened name k) h))) (λ f. f) (cases_Bool (is_taken t (lengthened name k)))

  -- some number of underscores makes the name free
  found : (k : ℕ) × (k < longest t + 2) × (is_taken t (lengthened name k) ≡ false) × (first_below k free_at ≡ None) × (underscores t name ≡ k)
  found =
      ⊎_elim
      (λ none.
      let e = first_below_None free_at (longest t + 2) (longest t + 1) none (omega arith) in
      let h = ap (λ b. when b (longest t + 1)) (ap not (not_taken (longest t + 1) (omega arith))) in
      let z : Some (longest t + 1) ≡ None = sym h ∙ e in absurd (cc z))
      (λ y.
      let s = first_below_Some free_at (longest t + 2) y.0 y.1 in
      let w = when-Some (not (is_taken t (lengthened name s.0))) s.0 y.0 s.2 in
      (s.0, s.1, is_false (is_taken t (lengthened name s.0)) w.0, s.3, ap (λ o. unwrap_or o 0) y.1 ∙ sym w.1))
      (cases_Option (first_below (longest t + 2) free_at))
    where
      is_false : (b : Bool) → not b ≡ true → b ≡ false
      is_false true h = absurd (false≢true h)
      is_false false h = refl

  -- a free name is none of those taken
  pub free_name-free : is_taken t (free_name t name) ≡ false
  free_name-free = subst (λ k. is_taken t (lengthened name k) ≡ false) (sym found.4) found.2

  taken_before : (k : ℕ) → first_below k free_at ≡ None → (j : ℕ) → j < k → is_taken t (lengthened name j) ≡ true
  taken_before k none j lt = ⊎_elim (λ h. h) (λ f. let z : Some j ≡ None = sym (ap (λ b. when b j) (ap not f))
      ∙ first_below_None free_at k j none lt in absurd (cc z)) (cases_Bool (is_taken t (lengthened name j)))

  -- where fewer do not do, a number that does is the one
  pub free_name-at : (k : ℕ) → ((j : ℕ) → j < k → is_taken t (lengthened name j) ≡ true) → is_taken t (lengthened name k) ≡ false
      → free_name t name ≡ lengthened name k
  free_name-at k before free =
      let j = found.0 in
      let same : j ≡ k =
      ⊎_elim
      (λ lt. absurd (false≢true (sym found.2 ∙ before j lt)))
      (λ ge. ⊎_elim (λ lt. absurd (false≢true (sym free ∙ taken_before j found.3 k lt))) (λ le. omega (arith, ge, le)) (cases_lt k j))
      (cases_lt j k) in
      ap (lengthened name) (found.4 ∙ same)

  pub free_name-before : (j : ℕ) → j < underscores t name → is_taken t (lengthened name j) ≡ true
  free_name-before j lt = taken_before found.0 found.3 j (omega (arith, lt, found.4))

-- two lists of the same names have the same free names
pub free_name-same : (t s : List (List ℕ)) (name : List ℕ) → AreSameNames t s → free_name t name ≡ free_name s name
free_name-same t s name same =
    sym (free_name-at s name (underscores t name) (λ j lt. sym (same (lengthened name j)) ∙ free_name-before t name j lt)
    (sym (same (free_name t name)) ∙ free_name-free t name))

-- one underscore more
pub lengthened-more : (name : List ℕ) (k : ℕ) → lengthened name k ++ 95 ∷ [] ≡ lengthened name (k + 1)
lengthened-more name k = append_assoc name (replicate k 95) (95 ∷ []) ∙ ap (λ l. name ++ l) (more k)
  where
    more : (n : ℕ) → ◌≡◌ {A = List ℕ} (replicate n 95 ++ 95 ∷ []) (replicate (n + 1) 95)
    more zero = refl
    more (suc n) = let e : suc (n + 1) ≡ suc n + 1 = omega arith in ap (λ (l : List ℕ). 95 ∷ l) (more n)
        ∙ ap (λ (i : ℕ). let l : List ℕ = replicate i 95 in l) e

-- names added to a list
pub AreSame-more : (t u w g : List (List ℕ)) (name : List ℕ) → AreSameNames t (w ++ g) → ((x : List ℕ) → is_taken u x ≡ (is_taken t x || bytes_eq x name))
    → AreSameNames u (w ++ (g ++ name ∷ []))
AreSame-more t u w g name same more x =
    more x ∙ ap (λ b. b || bytes_eq x name) (same x ∙ list_any-append (bytes_eq x) w g)
    ∙ sym (list_any-append (bytes_eq x) w (g ++ name ∷ []) ∙ ap (λ b. is_taken w x || b) (list_any-append (bytes_eq x) g (name ∷ []))
    ∙ either (is_taken w x) (is_taken g x) (bytes_eq x name))
  where
    either : (a b c : Bool) → (a || (b || (c || false))) ≡ (a || b || c)
    either true b c = refl
    either false true c = refl
    either false false true = refl
    either false false false = refl

-- the keys of the table of texts, as names
pub text_is : (n : List ℕ) (s : String Global) → encode_utf8_all n ≡ string_bytes s → chars (string_bytes s) ≡ n
text_is n s e = sym (chars_from_encodes n (string_bytes s) (IsUtf8-had (string_bytes s) s.ok) e)

same_key : (bs : List ℕ) (s : String Global) → IsUtf8 bs → bytes_eq bs (string_bytes s) ≡ bytes_eq (chars bs) (chars (string_bytes s))
same_key bs s u =
    let good = IsUtf8-had (string_bytes s) s.ok in
    let by_chars = bytes_eq-Decides (chars bs) (chars (string_bytes s)) in
    let by_bytes = bytes_eq-Decides bs (string_bytes s) in
    sym (same_from_decides {P = bs ≡ string_bytes s} (bytes_eq (chars bs) (chars (string_bytes s))) (bytes_eq bs (string_bytes s))
    ((λ t. same_chars bs (string_bytes s) u good (by_chars.0 t)), (λ e. by_chars.1 (ap chars e))) by_bytes)

-- a look-up by bytes is one by characters
pub taken_by : (bs : List ℕ) → IsUtf8 bs → (ks : List (String Global)) → list_any (λ k. bytes_eq bs (string_bytes k)) ks ≡ is_taken (texts ks) (chars bs)
taken_by bs u [] = refl
taken_by bs u (k ∷ ks) = ap (λ b. b || list_any (λ x. bytes_eq bs (string_bytes x)) ks) (same_key bs k u)
    ∙ ap (λ b. bytes_eq (chars bs) (chars (string_bytes k)) || b) (taken_by bs u ks)

-- a table that has one more text, or had it
pub key_added : (ks : List (String Global)) (s : String Global) (n x : List ℕ) → string_bytes s ≡ encode_utf8_all n
    → is_taken (texts (insert_key (λ a b. bytes_eq (string_bytes a) (string_bytes b)) ks s)) x ≡ (is_taken (texts ks) x || bytes_eq x n)
key_added ks s n x e =
    let told = taken_by (string_bytes s) (IsUtf8-had (string_bytes s) s.ok) ks in
    let is : chars (string_bytes s) ≡ n = text_is n s (sym e) in
    ⊎_elim
    (λ t.
    let kept = ap (λ b. is_taken (texts (cond b ks (ks ++ s ∷ []))) x) t in
    kept ∙ there (sym (ap (is_taken (texts ks)) is) ∙ sym told ∙ t))
    (λ f.
    let put = ap (λ b. is_taken (texts (cond b ks (ks ++ s ∷ []))) x) f in
    put ∙ ap (λ l. is_taken l x) (map-append (λ k. chars (string_bytes k)) ks (s ∷ [])) ∙ list_any-append (bytes_eq x) (texts ks) (chars (string_bytes s) ∷ [])
    ∙ ap (λ y. is_taken (texts ks) x || (bytes_eq x y || false)) is ∙ last (is_taken (texts ks) x) (bytes_eq x n))
    (cases_Bool (list_any (λ k. bytes_eq (string_bytes s) (string_bytes k)) ks))
  where
    last : (a b : Bool) → (a || (b || false)) ≡ (a || b)
    last true b = refl
    last false true = refl
    last false false = refl

    right : (a : Bool) → (a || false) ≡ a
    right true = refl
    right false = refl

    there : is_taken (texts ks) n ≡ true → is_taken (texts ks) x ≡ (is_taken (texts ks) x || bytes_eq x n)
    there h =
        ⊎_elim
        (λ same. let z = bytes_exact x n same in let t : is_taken (texts ks) x ≡ true = ap (is_taken (texts ks)) z ∙ h in rw (t) refl)
        (λ other. rw other (sym (right (is_taken (texts ks) x))))
        (cases_Bool (bytes_eq x n))

-- a name with some underscores behind it, of which fewer do not do
pub record IsTried (t : List (List ℕ)) (name text : List ℕ) : Type 0 where
  pub count : ℕ
  pub text_is : text ≡ lengthened name count
  pub before : (j : ℕ) → j < count → is_taken t (lengthened name j) ≡ true

pub tried_more : (t : List (List ℕ)) (name text more : List ℕ) → IsTried t name text → is_taken t text ≡ true → more ≡ text ++ 95 ∷ [] → IsTried t name more
tried_more t name text more i h e = record {
  count = i.count + 1;
  text_is = e ∙ ap (λ x. x ++ 95 ∷ []) i.text_is ∙ lengthened-more name i.count;
  before = λ j lt.
      ⊎_elim
      (λ less. i.before j less)
      (λ last. let same : j ≡ i.count = omega (arith, last, lt) in ap (λ k. is_taken t (lengthened name k)) same ∙ ap (is_taken t) (sym i.text_is) ∙ h)
      (cases_lt j i.count);
}

pub tried_free : (t : List (List ℕ)) (name text : List ℕ) → IsTried t name text → is_taken t text ≡ false → text ≡ free_name t name
tried_free t name text i h = i.text_is ∙ sym (free_name-at t name i.count i.before (sym (ap (is_taken t) i.text_is) ∙ h))

-- a text with one underscore more
pub underscored : (s t : String Global) → string_bytes t ≡ string_bytes s ++ 95 ∷ [] → chars (string_bytes t) ≡ chars (string_bytes s) ++ 95 ∷ []
unfolding lib.Utf8.encode
underscored s t e = text_is (chars (string_bytes s) ++ 95 ∷ []) t (encodes-append (chars (string_bytes s)) (95 ∷ [])
    ∙ ap (λ (b : List ℕ). b ++ 95 ∷ []) (encodes-chars (string_bytes s) (IsUtf8-had (string_bytes s) s.ok)) ∙ sym e)
