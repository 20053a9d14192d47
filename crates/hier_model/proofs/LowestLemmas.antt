-- The lowest of some classes.
use Rattle.std.proofs.Common.{◌≡◌, ◌≢◌, ℕ, suc, zero, ◌+◌, ◌<◌, Bool, true, false, List, [], ◌∷◌, length, Option, Some, None, Contains, refl, sym, ap, ◌∙◌, subst, arith, get_or, ⊎_elim}
use Rattle.std.specs.List.{list_all}
use Rattle.std.proofs.lemmas.Bool.{false≢true, cases_Bool, cases_lt, and_parts}
use Rattle.std.proofs.lemmas.List.Elements.{Contains-get_or}
use Rattle.kaba_base.specs.declared.ClassId.{ClassId}
use Rattle.kaba_base.specs.Words.{first_that}
use Rattle.fact_model.specs.Classes.{below, IsAcyclic}
use Rattle.fact_model.specs.declared.facts.Facts.{Facts}
use Rattle.fact_model.proofs.ClassLemmas.{below-exact, below-both}
use Rattle.hier_model.specs.Start.{is_below_all, lowest}
use Rattle.hier_model.specs.Edits.{all_there}
use Rattle.std.specs.Option.{option_map}
use Rattle.std.specs.Prelude.{All, IfSome}
use Rattle.std.proofs.lemmas.Option.{same_Some}
use Rattle.std.proofs.lemmas.List.Elements.{All-cons}
use Rattle.kaba_bits.proofs.FirstLemmas.{cases_Option}

module _ {X : Type 0} (p : X → Bool) where
  head : (x y : X) (ys : List X) → Contains (y ∷ ys) x → (x ≢ y) → Contains ys x
  head x y ys (zero, lt, e) ne = absurd (ne (sym e))
  head x y ys (suc k, lt, e) ne = (k, omega (arith, lt), e)

  tail : (x y : X) (ys : List X) → Contains ys x → Contains (y ∷ ys) x
  tail x y ys (k, lt, e) = (suc k, omega (arith, lt), e)

  -- the one that passes is the first that does
  pub first_that_only : (xs : List X) (x : X) → Contains xs x → p x ≡ true → ((y : X) → Contains xs y → p y ≡ true → x ≡ y) → first_that p xs ≡ Some x
  first_that_only [] x h px only = absurd (omega (arith, h.1))
  first_that_only (y ∷ ys) x h px only =
      ⊎_elim
      (λ e. rw e (ap Some (sym (only y (0, omega arith, refl) e))))
      (λ e. rw e (first_that_only ys x (head x y ys h (λ xy. false≢true (sym e ∙ ap p (sym xy) ∙ px))) px (λ z c q. only z (tail z y ys c) q)))
      (cases_Bool (p y))

  pub first_that_none : (xs : List X) → ((y : X) → Contains xs y → p y ≡ false) → first_that p xs ≡ None
  first_that_none [] none = refl
  first_that_none (y ∷ ys) none = rw (none y (0, omega arith, refl)) (first_that_none ys (λ z c. none z (tail z y ys c)))

  pub list_all-at : (xs : List X) (x : X) → Contains xs x → list_all p xs ≡ true → p x ≡ true
  list_all-at [] x h all = absurd (omega (arith, h.1))
  list_all-at (y ∷ ys) x (zero, lt, e) all = ap p (sym e) ∙ (and_parts (p y) (list_all p ys) all).0
  list_all-at (y ∷ ys) x (suc k, lt, e) all = list_all-at ys x (k, omega (arith, lt), e) (and_parts (p y) (list_all p ys) all).1

module _ (F : Facts) (acyclic : IsAcyclic F) (cs : List ClassId) where
  same_class : (a b : ClassId) → below F a.0 b.0 ≡ true → below F b.0 a.0 ≡ true → a ≡ b
  same_class a b h k = ap (λ n. let c : ClassId = record { 0 = n } in c) (below-both F acyclic ((below-exact F acyclic a.0 b.0).0 h)
      ((below-exact F acyclic b.0 a.0).0 k))

  -- of the first i classes, only this one can be at or below all
  abbrev pub Only : ℕ → ClassId → Type 0
  Only i low = (j : ℕ) (d : ClassId) → j < i → is_below_all F cs (get_or cs j d) ≡ true → low ≡ get_or cs j d

  under : (m x : ClassId) → Contains cs x → is_below_all F cs m ≡ true → below F m.0 x.0 ≡ true
  under m x c h = list_all-at (λ l. below F m.0 l.0) cs x c h

  pub only_taken : (i : ℕ) (low x : ClassId) → i < length cs → ((d : ClassId) → x ≡ get_or cs i d) → below F x.0 low.0 ≡ true → Only i low → Only (i + 1) x
  only_taken i low x lt is b inv j d jl passes =
      let has : Contains cs x = subst (Contains cs) (sym (is d)) (Contains-get_or cs i d lt) in
      ⊎_elim
      (λ before. same_class x (get_or cs j d) (subst (λ (k : ClassId). below F x.0 k.0 ≡ true) (inv j d before passes) b) (under (get_or cs j d) x has passes))
      (λ last. let e : i ≡ j = omega (arith, last, jl) in is d ∙ ap (λ k. get_or cs k d) e)
      (cases_lt j i)

  pub only_left : (i : ℕ) (low x : ClassId) → Contains cs low → ((d : ClassId) → x ≡ get_or cs i d) → below F x.0 low.0 ≡ false → Only i low → Only (i + 1) low
  only_left i low x has is b inv j d jl passes =
      ⊎_elim
      (λ before. inv j d before passes)
      (λ last.
      let e : i ≡ j = omega (arith, last, jl) in
      let x_is : x ≡ get_or cs j d = is d ∙ ap (λ k. get_or cs k d) e in
      absurd (false≢true (sym b ∙ under x low has (subst (λ m. is_below_all F cs m ≡ true) (sym x_is) passes))))
      (cases_lt j i)

  -- the one that is left where it is at or below all, and where it is not
  pub lowest_is : (low : ClassId) → Contains cs low → ((k : ClassId) → Contains cs k → is_below_all F cs k ≡ true → low ≡ k)
      → is_below_all F cs low ≡ true → lowest F cs ≡ Some low
  lowest_is low has only h = first_that_only (is_below_all F cs) cs low has h only

  pub lowest_none : (low : ClassId) → ((k : ClassId) → Contains cs k → is_below_all F cs k ≡ true → low ≡ k) → is_below_all F cs low ≡ false
      → lowest F cs ≡ None
  lowest_none low only h =
      first_that_none (is_below_all F cs) cs
      (λ k c. ⊎_elim (λ t. absurd (false≢true (sym h ∙ ap (is_below_all F cs) (only k c t) ∙ t))) (λ f. f) (cases_Bool (is_below_all F cs k)))

-- the classes that are there are all within a property that each is within
pub all_there_all : (P : ClassId → Type 0) (os : List (Option ClassId)) (ks : List ClassId) → all_there os ≡ Some ks
    → ((i : ℕ) (d : Option ClassId) → i < length os → IfSome (get_or os i d) P) → All P ks
all_there_all P [] ks e all = subst (All P) (same_Some [] ks e) (λ i d lt. absurd (omega (arith, lt)))
all_there_all P (None ∷ os) ks e all = absurd (cc e)
all_there_all P (Some k ∷ os) ks e all =
    ⊎_elim
    (λ none. absurd (cc (sym (ap (λ o. option_map (λ xs. k ∷ xs) o) none) ∙ e)))
    (λ some.
    let rest : All P some.0 = all_there_all P os some.0 some.1 (λ i d lt. all (suc i) d (omega (arith, lt))) in
    let here : P k = all 0 None (omega arith) in
    let whole : Some (k ∷ some.0) ≡ Some ks = sym (ap (λ o. option_map (λ xs. k ∷ xs) o) some.1) ∙ e in
    subst (All P) (same_Some (k ∷ some.0) ks whole) (All-cons P k some.0 here rest))
    (cases_Option (all_there os))
