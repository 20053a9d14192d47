-- Lists of columns, each once.
use Rattle.std.proofs.Common.{◌≡◌, ⊎_elim, ℕ, suc, zero, ◌+◌, ◌<◌, Bool, true, false, cond, not, List, [], ◌∷◌, ◌++◌, length, map, take, filter, get_or, refl, sym, ap, ◌∙◌, subst, arith, Option, Some, None}
use Rattle.std.specs.Prelude.{Contains, ◌&&◌}
use Rattle.std.specs.Bool.{Decides}
use Rattle.std.specs.Option.{is_some}
use Rattle.std.specs.List.{list_any, position}
use Rattle.std.proofs.lemmas.Bool.{cases_Bool, true≢false, false≢true}
use Rattle.std.proofs.lemmas.List.{map-append, get_or-map, length-map, take_more, length-take-le, get_or-take, get_or_default}
use Rattle.std.proofs.lemmas.List.Elements.{Contains-append_right}
use Rattle.std.proofs.lemmas.List.Quantifiers.{position-Some}
use Rattle.indexmap.specs.IndexSet.{insert_key}
use Rattle.kaba_bits.specs.Sets.{bit, rising, rising_from}
use Rattle.concept_build.specs.Lists.{AreDifferent, IsAddition, IsListFound}

pub rising_from-below : (k : ℕ) (xs : List Bool) (i d : ℕ) → i < length (rising_from k xs) → get_or (rising_from k xs) i d < k + length xs
rising_from-below k [] i d lt = absurd (omega (arith, lt))
rising_from-below k (true ∷ xs) zero d lt = omega arith
rising_from-below k (true ∷ xs) (suc i) d lt = omega (arith, rising_from-below (k + 1) xs i d (omega (arith, lt)))
rising_from-below k (false ∷ xs) i d lt = omega (arith, rising_from-below (k + 1) xs i d lt)

pub listed-below : (B R : List Bool) (xs : List ℕ) (i : ℕ) → xs ≡ rising B → i < length xs → length B ≡ length R → get_or xs i 0 < length R
listed-below B R xs i e lt len =
    let below : get_or xs i 0 < 0 + length B = rw e (rising_from-below 0 B i 0 (rw e at lt)) in
    omega (arith, below, len)

-- each number of a set is listed
pub rising_from-has : (k : ℕ) (xs : List Bool) (i : ℕ) → bit xs i ≡ true → Contains (rising_from k xs) (k + i)
rising_from-has k [] i h = absurd (false≢true h)
rising_from-has k (true ∷ xs) zero h = (0, omega arith, omega arith)
rising_from-has k (true ∷ xs) (suc i) h =
    subst (Contains (k ∷ rising_from (k + 1) xs)) (omega arith) (Contains-append_right (k ∷ []) (rising_from (k + 1) xs) (k + 1 + i)
    (rising_from-has (k + 1) xs i h))
rising_from-has k (false ∷ xs) zero h = absurd (false≢true h)
rising_from-has k (false ∷ xs) (suc i) h = subst (Contains (rising_from (k + 1) xs)) (omega arith) (rising_from-has (k + 1) xs i h)

-- the numbers of a set that pass a test
pub filter-rising_from : (k : ℕ) (f : ℕ → Bool) (B M : List Bool) → length M ≡ length B → ((i : ℕ) → bit M i ≡ (bit B i && f (k + i)))
    → filter f (rising_from k B) ≡ rising_from k M
filter-rising_from k f [] [] len bits = refl
filter-rising_from k f [] (m ∷ M) len bits = absurd (omega (arith, len))
filter-rising_from k f (x ∷ B) [] len bits = absurd (omega (arith, len))
filter-rising_from k f (x ∷ B) (m ∷ M) len bits =
    one x m (bits 0 ∙ ap (λ n. x && f n) (omega arith)) (filter-rising_from (k + 1) f B M (omega (arith, len)) (λ i. bits (suc i)
    ∙ ap (λ n. bit B i && f n) (omega arith)))
  where
    one : (x m : Bool) → m ≡ (x && f k) → filter f (rising_from (k + 1) B) ≡ rising_from (k + 1) M → filter f (rising_from k (x ∷ B)) ≡ rising_from k (m ∷ M)
    one true true e rest = rw (sym e) (ap (λ l. k ∷ l) rest)
    one true false e rest = rw (sym e) rest
    one false true e rest = absurd (true≢false e)
    one false false e rest = rest

module _ {K : Type 0} (f : K → List ℕ) (t : K → Bool) (y : List ℕ) (is : (x : K) → Decides (t x) (y ≡ f x)) where
  Contains-any : (ks : List K) → list_any t ks ≡ true → Contains (map f ks) y
  Contains-any [] h = absurd (true≢false (sym h))
  Contains-any (x ∷ xs) h = ⊎_elim (λ e. (0, omega arith, sym ((is x).0 e))) (λ e. Contains-append_right (f x ∷ []) (map f xs) y
      (Contains-any xs (rw e at h))) (cases_Bool (t x))

  any-at : (ks : List K) (k : ℕ) → k < length (map f ks) → get_or (map f ks) k y ≡ y → list_any t ks ≡ true
  any-at [] k lt e = absurd (omega (arith, lt))
  any-at (x ∷ xs) zero lt e = rw ((is x).1 (sym e)) refl
  any-at (x ∷ xs) (suc k) lt e = ⊎_elim (λ h. rw h refl) (λ h. rw h (any-at xs k (omega (arith, lt)) e)) (cases_Bool (t x))

  -- what a look-up finds
  pub IsFound-position : (ks : List K) (r : Option ℕ) → r ≡ position t ks → is_some r ≡ list_any t ks → IsListFound (map f ks) y r
  IsFound-position ks None e h = λ c. absurd (false≢true (h ∙ any-at ks c.0 c.1 c.2))
  IsFound-position [] (Some i) e h = absurd (true≢false h)
  IsFound-position (x ∷ xs) (Some i) e h =
      let p = position-Some t (x ∷ xs) i x (sym e) in
      let len = length-map (x ∷ xs) f in
      (omega (arith, p.0, len), get_or-map f (x ∷ xs) i x [] p.0 ∙ sym ((is (get_or (x ∷ xs) i x)).0 p.1))

-- what an insertion does
module _ {K : Type 0} (f : K → List ℕ) (k : K) (ks new : List K) (b : Bool) where
  added : (there : Bool) → (there ≡ true → Contains (map f ks) (f k)) → (Contains (map f ks) (f k) → there ≡ true) → b ≡ not there
      → new ≡ cond there ks (ks ++ k ∷ []) → IsAddition (map f ks) (f k) (map f new) b
  added true c d p q = rw (p, q) (refl, c refl)
  added false c d p q = rw (p, q) (map-append f ks (k ∷ []), λ h. false≢true (d h))

  pub IsAddition-insert_key : (eq : K → K → Bool) → ((x : K) → Decides (eq k x) (f k ≡ f x)) → b ≡ not (list_any (eq k) ks) → new ≡ insert_key eq ks k
      → IsAddition (map f ks) (f k) (map f new) b
  IsAddition-insert_key eq is p q = added (list_any (eq k) ks) (Contains-any f (eq k) (f k) is ks) (λ h. any-at f (eq k) (f k) is ks h.0 h.1 h.2) p q

-- in a list whose members differ each is new
pub take-addition : (cols old new : List (List ℕ)) (n : ℕ) (x : List ℕ) (b : Bool) → AreDifferent cols → n < length cols → old ≡ take n cols
    → x ≡ get_or cols n [] → IsAddition old x new b → new ≡ take (n + 1) cols
take-addition cols old new n x true apart lt front is h = h.0 ∙ ((λ i. front i ++ is i ∷ []) ∙ sym (take_more cols n [] lt))
take-addition cols old new n x false apart lt front is h =
    let c = h.1 in
    let below : c.0 < n = omega (arith, c.1, ap length front, length-take-le n cols (omega (arith, lt))) in
    let there : get_or cols c.0 x ≡ x = sym (get_or-take n cols c.0 x below) ∙ (sym (ap (λ l. get_or l c.0 x) front) ∙ c.2) in
    absurd (apart c.0 n x below lt (there ∙ (is ∙ get_or_default cols n [] x lt)))
