-- The names in scope of a written body are those of the variables in scope of the old one.
use Rattle.std.proofs.Common.{◌≡◌, ◌≢◌, ℕ, Bool, true, false, List, [], ◌∷◌, ◌++◌, Some, Contains, refl, sym, ap, ◌∙◌, subst, ⊎_elim}
use Rattle.std.specs.Prelude.{◌||◌, map, slice_get}
use Rattle.std.specs.List.{list_any}
use Rattle.std.specs.Str.{bytes_eq}
use Rattle.std.specs.Option.{option_map_or}
use Rattle.std.proofs.lemmas.Bool.{false≢true, or_left, or_right, or_cases, cases_Bool}
use Rattle.std.proofs.lemmas.List.{map-append}
use Rattle.std.proofs.lemmas.List.Elements.{Contains-append_left, Contains-append_right, Contains-append_cases}
use Rattle.std.proofs.lemmas.Slice.Eq.{bytes_eq-Decides}
use Rattle.kaba_base.proofs.ListLemmas.{first, one, later, no-member, contains_cases}
use Rattle.java_core.specs.Programs.{PlainLocal, PlainMethod}
use Rattle.java_core.specs.Formed.{variables_of}
use Rattle.name_rules.specs.Meanings.{is_bound}
use Rattle.write_model.specs.Bodies.{variable_name}

-- ---- lists of numbers

-- a test of numbers that one in the list passes
any_number : (p : ℕ → Bool) (xs : List ℕ) (i : ℕ) → Contains xs i → p i ≡ true → list_any p xs ≡ true
any_number p [] i h e = no-member i h
any_number p (x ∷ xs) i h e =
    ⊎_elim (λ same. or_left (p x) (list_any p xs) (ap p same ∙ e)) (λ more. or_right (p x) (list_any p xs) (any_number p xs i more e))
    (contains_cases x xs i h)

some_number : (p : ℕ → Bool) (xs : List ℕ) → list_any p xs ≡ true → (i : ℕ) × Contains xs i × (p i ≡ true)
some_number p [] h = absurd (false≢true h)
some_number p (x ∷ xs) h =
    ⊎_elim (λ e. (x, first x xs, e)) (λ e. let z = some_number p xs e in (z.0, later x xs z.0 z.1, z.2)) (or_cases (p x) (list_any p xs) h)

any_mapped : (f : ℕ → List ℕ) (p : List ℕ → Bool) (xs : List ℕ) → list_any p (map f xs) ≡ list_any (λ i. p (f i)) xs
any_mapped f p [] = refl
any_mapped f p (x ∷ xs) = ap (λ z. p (f x) || z) (any_mapped f p xs)

module _ (k : PlainMethod) where
  -- the numbers in scope as a formed body has them, as the written one has them, and their names
  pub record IsScope (formed scope : List ℕ) (names : List (List ℕ)) : Type 0 where
    pub are : names ≡ map (variable_name k) scope
    pub there : (i : ℕ) → Contains scope i → (v : PlainLocal) × (slice_get (variables_of k) i ≡ Some v)
    pub into : (i : ℕ) → Contains formed i → Contains scope i
    pub back : (i : ℕ) → Contains scope i → Contains formed i

  pub name_is : (i : ℕ) (v : PlainLocal) → slice_get (variables_of k) i ≡ Some v → variable_name k i ≡ v.name
  name_is i v e = ap (λ o. option_map_or (λ v. v.name) o []) e

  module _ {formed scope : List ℕ} {names : List (List ℕ)} (s : IsScope formed scope names) where
    bound_is : (x : List ℕ) → is_bound names x ≡ list_any (λ i. bytes_eq (variable_name k i) x) scope
    bound_is x = ap (λ z. is_bound z x) s.are ∙ any_mapped (variable_name k) (λ m. bytes_eq m x) scope

    pub is_there : (i : ℕ) → Contains formed i → is_bound names (variable_name k i) ≡ true
    is_there i h =
        bound_is (variable_name k i)
        ∙ any_number (λ j. bytes_eq (variable_name k j) (variable_name k i)) scope i (s.into i h)
        ((bytes_eq-Decides (variable_name k i) (variable_name k i)).1 refl)

    -- a name in scope is that of a variable there
    pub whose : (x : List ℕ) → is_bound names x ≡ true → (i : ℕ) × (v : PlainLocal) × Contains scope i × (slice_get (variables_of k) i ≡ Some v) ×
        (v.name ≡ x)
    whose x h =
        let z = some_number (λ i. bytes_eq (variable_name k i) x) scope (sym (bound_is x) ∙ h) in
        let v = s.there z.0 z.1 in
        (z.0, v.0, z.1, v.1, sym (name_is z.0 v.0 v.1) ∙ (bytes_eq-Decides (variable_name k z.0) x).0 z.2)

    pub not_bound : (x : List ℕ) → ((i : ℕ) (v : PlainLocal) → Contains formed i → slice_get (variables_of k) i ≡ Some v → v.name ≢ x)
        → is_bound names x ≡ false
    not_bound x differs = ⊎_elim (λ h. let z = whose x h in absurd (differs z.0 z.1 (s.back z.0 z.2) z.3 z.4)) (λ h. h) (cases_Bool (is_bound names x))

    -- one more variable in scope
    pub more : (i : ℕ) (v : PlainLocal) → slice_get (variables_of k) i ≡ Some v → IsScope (i ∷ formed) (scope ++ i ∷ []) (names ++ v.name ∷ [])
    more i v e = record {
      are = ap (λ z. z ++ v.name ∷ []) s.are ∙ ap (λ z. map (variable_name k) scope ++ z ∷ []) (sym (name_is i v e))
          ∙ sym (map-append (variable_name k) scope (i ∷ []));
      there = λ j h. ⊎_elim
          (λ a. s.there j a)
          (λ b. ⊎_elim (λ same. (v, subst (λ z. slice_get (variables_of k) z ≡ Some v) same e)) (λ x. no-member j x) (contains_cases i [] j b))
          (Contains-append_cases scope (i ∷ []) j h);
      into = λ j h. ⊎_elim
          (λ same. Contains-append_right scope (i ∷ []) j (subst (λ z. Contains (i ∷ []) z) same (one i)))
          (λ a. Contains-append_left scope (i ∷ []) j (s.into j a))
          (contains_cases i formed j h);
      back = λ j h. ⊎_elim
          (λ a. later i formed j (s.back j a))
          (λ b. ⊎_elim (λ same. subst (λ z. Contains (i ∷ formed) z) same (first i formed)) (λ x. no-member j x)
          (contains_cases i [] j b))
          (Contains-append_cases scope (i ∷ []) j h);
    }
