-- The first column of a rising list that stands at a node.
use Rattle.std.proofs.Common.{◌≡◌, ℕ, ◌+◌, ◌<◌, ◌⊎◌, ◌&&◌, Bool, true, false, cond, List, [], ◌∷◌, ◌++◌, length, get_or, Some, None, All, refl, sym, ap, ◌∙◌, subst, arith, ⊎_elim, inl, inr}
use Rattle.std.proofs.lemmas.Bool.{cases_Bool, cases_order, and_parts, and_from, false≢true}
use Rattle.std.proofs.lemmas.List.{get_or_default}
use Rattle.std.proofs.lemmas.List.Elements.{Contains-get_or, All-from_get_or}
use Rattle.std.proofs.lemmas.List.Kept.{AllPairs-from_increasing}
use Rattle.kaba_bits.specs.Sets.{first_below, when, ListsBelow}
use Rattle.kaba_bits.proofs.ListLemmas.{ListsBelow-empty, ListsBelow-step}
use Rattle.kaba_bits.proofs.FirstLemmas.{first_below_clear, first_below_found, first_below_same}
use Rattle.fact_model.specs.declared.facts.Facts.{Facts}
use Rattle.hier_model.specs.Hierarchies.{Hierarchy, stands_at}
use Rattle.hier_rules.specs.declared.broken.Rule.TheVariants.{B8}
use Rattle.hier_rules.specs.Instances.{of_column}
use Rattle.hier_rules.specs.Names.{unwritable, taken_field}
use Rattle.hier_rules.specs.Namesakes.{is_unwritable_member, is_taken_field, first_standing}

-- all numbers of such a list are below the bound
pub listed_below : (P : ℕ → Type 0) (n : ℕ) (xs : List ℕ) → ListsBelow P n xs → All (λ c. c < n) xs
listed_below P n xs l = All-from_get_or (λ c. c < n) xs 0 (λ k lt. ((l.each (get_or xs k 0)).0 (Contains-get_or xs k 0 lt)).0)

-- the list of the numbers below a bound that pass a test: at first, with one number more, and at the end
module _ (p : ℕ → Bool) where
  pub listed_none : (xs : List ℕ) → xs ≡ [] → ListsBelow (λ k. p k ≡ true) 0 xs
  listed_none xs e = subst (λ (l : List ℕ). ListsBelow (λ k. p k ≡ true) 0 l) (sym e) (ListsBelow-empty (λ k. p k ≡ true))

  pub listed_next : (n : ℕ) (b : Bool) (xs new : List ℕ) → b ≡ p n → new ≡ xs ++ cond b (n ∷ []) [] → ListsBelow (λ k. p k ≡ true) n xs
      → ListsBelow (λ k. p k ≡ true) (n + 1) new
  listed_next n b xs new is step l = subst (λ (ys : List ℕ). ListsBelow (λ k. p k ≡ true) (n + 1) ys) (sym step)
      (ListsBelow-step (λ k. p k ≡ true) n xs l b ((λ h. sym is ∙ h), (λ h. is ∙ h)))

  pub listed_all : (i n : ℕ) (xs : List ℕ) → i ≡ n → ListsBelow (λ k. p k ≡ true) i xs → ListsBelow (λ k. p k ≡ true) n xs
  listed_all i n xs e l = subst (λ (j : ℕ). ListsBelow (λ k. p k ≡ true) j xs) e l

module _ (F : Facts) (H : Hierarchy) (n : ℕ) (p : ℕ → Bool) (xs : List ℕ) (l : ListsBelow (λ c. p c ≡ true) (length F.columns.items) xs) (i : ℕ)
    (none : (j : ℕ) → j < i → stands_at H n (get_or xs j 0) ≡ false) where
  clear : (k : ℕ) → k < length F.columns.items → ((j : ℕ) → j < length xs → get_or xs j 0 ≡ k → j < i) → when (stands_at H n k && p k) (of_column B8 n k) ≡ None
  clear k lt before = ap (λ b. when b (of_column B8 n k)) no
    where
      bad : (stands_at H n k && p k) ≡ true → ⊥
      bad h =
          let q = and_parts (stands_at H n k) (p k) h in
          let m = (l.each k).1 (lt, q.1) in
          let at : get_or xs m.0 0 ≡ k = get_or_default xs m.0 0 k m.1 ∙ m.2 in
          false≢true (sym (none m.0 (before m.0 m.1 at)) ∙ ap (stands_at H n) at ∙ q.0)

      no : (stands_at H n k && p k) ≡ false
      no = ⊎_elim (λ t. absurd (bad t)) (λ f. f) (cases_Bool (stands_at H n k && p k))

  pub none_stands : i ≡ length xs → first_standing F H n p ≡ None
  none_stands end =
      first_below_clear (λ c. when (stands_at H n c && p c) (of_column B8 n c)) (length F.columns.items)
      (λ k lt. clear k lt (λ j less e. omega (arith, less, end)))

  pub one_stands : i < length xs → stands_at H n (get_or xs i 0) ≡ true → first_standing F H n p ≡ Some (of_column B8 n (get_or xs i 0))
  one_stands lt h =
      let x = get_or xs i 0 in
      let has = (l.each x).0 (Contains-get_or xs i 0 lt) in
      let pairs = AllPairs-from_increasing xs l.rising in
      first_below_found (λ c. when (stands_at H n c && p c) (of_column B8 n c)) x (length F.columns.items) (of_column B8 n x) has.0
      (first_below_clear (λ c. when (stands_at H n c && p c) (of_column B8 n c)) x (λ k less.
      clear k (omega (arith, less, has.0)) (λ j jn e.
      ⊎_elim
      (λ early. early)
      (⊎_elim
      (λ late. let up = pairs i j 0 late jn in absurd (omega (arith, up, e, less)))
      (λ same. let z : get_or xs j 0 ≡ x = ap (λ q. get_or xs q 0) same in absurd (omega (arith, z, e, less))))
      (order j i))))
      (ap (λ b. when b (of_column B8 n x)) (and_from (stands_at H n x) (p x) h has.1))
    where
      order : (j k : ℕ) → (j < k) ⊎ ((k < j) ⊎ (j ≡ k))
      order j k = ⊎_elim (λ e. inr (inr e)) (⊎_elim (λ a. inl a) (λ b. inr (inl b))) (cases_order j k)

regroup : (a b c : Bool) → ((a && b) && c) ≡ (a && (b && c))
regroup true b c = refl
regroup false b c = refl

-- the first at a node, by the parts of its test
pub standing_unwritable : (F : Facts) (H : Hierarchy) (n : ℕ) → first_standing F H n (is_unwritable_member F H) ≡ first_below (length F.columns.items)
    (unwritable F H n)
standing_unwritable F H n =
    first_below_same (λ c. when (stands_at H n c && is_unwritable_member F H c) (of_column B8 n c)) (unwritable F H n) (length F.columns.items)
    (λ c lt. ap (λ b. when b (of_column B8 n c)) (sym (regroup (stands_at H n c) _ _)))

pub standing_taken : (F : Facts) (H : Hierarchy) (n : ℕ) → first_standing F H n (is_taken_field F H) ≡ first_below (length F.columns.items) (taken_field F H n)
standing_taken F H n =
    first_below_same (λ c. when (stands_at H n c && is_taken_field F H c) (of_column B8 n c)) (taken_field F H n) (length F.columns.items)
    (λ c lt. ap (λ b. when b (of_column B8 n c)) (sym (regroup (stands_at H n c) _ _)))
