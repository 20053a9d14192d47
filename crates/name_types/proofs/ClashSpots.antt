-- The clashes with the methods of a name are the clashes with all methods.
use Rattle.std.proofs.Common.{◌≡◌, ℕ, ◌+◌, ◌<◌, ◌≤◌, ◌≢◌, Bool, true, false, cond, List, [], ◌∷◌, ◌++◌, map, length, Option, Some, None, Result, Ok, refl, sym, ap, ◌∙◌, subst, arith}
use Rattle.std.specs.Prelude.{slice_get, nat_lt, ◌==◌, if◌then◌else◌}
use Rattle.std.specs.Str.{bytes_eq}
use Rattle.std.proofs.lemmas.Bool.{eqb-true, eqb-false, eq-eqb, lt-ltb, ltb-true}
use Rattle.std.proofs.lemmas.List.{append_assoc, length-append}
use Rattle.kaba_base.proofs.ListLemmas.{middle}
use Rattle.name_rules.specs.declared.Refusal.{Refusal}
use Rattle.name_laws.specs.declared.parts.Heading.{Heading}
use Rattle.name_laws.specs.Answers.{run, with, unless}
use Rattle.name_laws.specs.Members.{clash_of, clash_with, earlier_step}
use Rattle.name_types.specs.Clashes.{clash_at, or_clash, clash_among, clash_after}
use Rattle.name_tables.specs.Spots.{spots_from}

-- a number is not below one that is no greater
pub not-below : (i k : ℕ) → k ≤ i → nat_lt i k ≡ false
not-below i k le = go (nat_lt i k) refl
  where
    go : (c : Bool) → nat_lt i k ≡ c → nat_lt i k ≡ false
    go true e = absurd (let lt = ltb-true i k e in omega (arith, lt, le))
    go false e = e

module _ (rows : List (List Bool)) (k : ℕ) (b : Heading) where
  abbrev name_of : Heading → List ℕ
  name_of h = h.name

  -- those from the method's own number on are none before it
  late : (all : List Heading) (i : ℕ) (names : List (List ℕ)) → k ≤ i → clash_among rows all k b (spots_from i b.name names) ≡ None
  late all i [] le = refl
  late all i (n ∷ names) le = go (bytes_eq n b.name) (late all (i + 1) names (omega (arith, le)))
    where
      go : (c : Bool) → clash_among rows all k b (spots_from (i + 1) b.name names) ≡ None
          → clash_among rows all k b (cond c (i ∷ spots_from (i + 1) b.name names) (spots_from (i + 1) b.name names)) ≡ None
      go true rest = ap (λ z. if z then or_clash (clash_at rows b (slice_get all i)) (clash_among rows all k b (spots_from (i + 1) b.name names)) else
          None) (not-below i k le)
      go false rest = rest

  -- at the method's own number the steps stay
  stays : (rest : List Heading) → run (earlier_step rows k b) k rest ≡ Ok k
  stays [] = refl
  stays (a ∷ rest) = ap (λ z. with (if z then Ok k else unless (clash_with rows b a) (Ok (k + 1))) (λ t. run (earlier_step rows k b) t rest))
      (eq-eqb k k refl) ∙ stays rest

  abbrev so_far : ℕ → List Heading → Result ℕ Refusal
  so_far j rest = with (run (earlier_step rows k b) j rest) (λ _. Ok (k + 1))

  -- a method before it, by whether it has the name and what it then gives
  one : (j : ℕ) (rest : List Heading) (more : Option Refusal) → so_far (j + 1) rest ≡ unless more (Ok (k + 1)) → (same : Bool) (o : Option Refusal) →
      with (with (unless (if same then o else None) (Ok (j + 1))) (λ t. run (earlier_step rows k b) t rest)) (λ _. Ok (k + 1))
      ≡ unless (if same then or_clash o more else more) (Ok (k + 1))
  one j rest more h true (Some r) = refl
  one j rest more h true None = h
  one j rest more h false o = h

  -- the same for the list of numbers
  among : (all : List Heading) (j : ℕ) (js : List ℕ) (a : Heading) → nat_lt j k ≡ true → slice_get all j ≡ Some a → (same : Bool) →
      clash_among rows all k b (cond same (j ∷ js) js) ≡ (if same then or_clash (clash_of rows a b) (clash_among rows all k b js) else clash_among
      rows all k b js)
  among all j js a lt at true =
      ap (λ z. if z then or_clash (clash_at rows b (slice_get all j)) (clash_among rows all k b js) else None) lt
      ∙ ap (λ o. or_clash (clash_at rows b o) (clash_among rows all k b js)) at
  among all j js a lt at false = refl

  pub earlier : (done rest : List Heading) (j : ℕ) → length done ≡ j → j ≤ k → so_far j rest ≡ clash_after rows (done ++ rest) k b
      (spots_from j b.name (map name_of rest))
  earlier done [] j e le = refl
  earlier done (a ∷ rest) j e le = go (j == k) refl (λ next. earlier (done ++ a ∷ []) rest (j + 1) (length-append done (a ∷ []) ∙ ap (λ i. i + 1) e) next)
    where
      at : slice_get (done ++ a ∷ rest) j ≡ Some a
      at = subst (λ i. slice_get (done ++ a ∷ rest) i ≡ Some a) e (middle done a rest)

      go : (c : Bool) → (j == k) ≡ c
          → (j + 1 ≤ k → so_far (j + 1) rest ≡ clash_after rows ((done ++ a ∷ []) ++ rest) k b (spots_from (j + 1) b.name (map name_of rest)))
          → so_far j (a ∷ rest) ≡ clash_after rows (done ++ a ∷ rest) k b (spots_from j b.name (map name_of (a ∷ rest)))
      go true f more =
          let same : j ≡ k = eqb-true j k f in
          ap (λ i. so_far i (a ∷ rest)) same ∙ ap (λ (o : Result ℕ Refusal). with o (λ _. Ok (k + 1))) (stays (a ∷ rest))
          ∙ sym (ap (λ (o : Option Refusal). unless o (Ok (k + 1))) (late (done ++ a ∷ rest) j (map name_of (a ∷ rest)) (omega (arith, same))))
      go false f more =
          let ne : j ≢ k = eqb-false j k f in
          let lt : j < k = omega (arith, le, ne) in
          ap (λ z. with (with (if z then Ok j else unless (clash_with rows b a) (Ok (j + 1))) (λ t. run (earlier_step rows k b) t rest)) (λ _. Ok (k + 1))) f
          ∙ one j rest (clash_among rows (done ++ a ∷ rest) k b (spots_from (j + 1) b.name (map name_of rest)))
          (more (omega (arith, lt)) ∙ ap (λ w. clash_after rows w k b (spots_from (j + 1) b.name (map name_of rest)))
          (append_assoc done (a ∷ []) rest)) (bytes_eq a.name b.name) (clash_of rows a b)
          ∙ sym (ap (λ (o : Option Refusal). unless o (Ok (k + 1))) (among (done ++ a ∷ rest) j (spots_from (j + 1) b.name (map name_of rest)) a
          (lt-ltb j k lt) at (bytes_eq a.name b.name)))
