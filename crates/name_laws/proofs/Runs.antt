-- Steps over lists that stop at the first fault, and what stands where in a list.
use Rattle.std.proofs.Common.{◌≡◌, ℕ, zero, suc, ◌⊎◌, inl, inr, ⊎_elim, Bool, true, List, [], ◌∷◌, ◌++◌, length, Some, None, Result, refl, sym, ap, ◌∙◌, subst, arith}
use Rattle.std.specs.Prelude.{slice_get, position}
use Rattle.std.specs.List.{position_from}
use Rattle.std.proofs.lemmas.List.{append-nil, append_assoc}
use Rattle.std.proofs.lemmas.Option.{slice_get_within}
use Rattle.std.proofs.lemmas.Iterator.Adapters.{position_from-zero}
use Rattle.kaba_base.proofs.ListLemmas.{at_left, middle, below_at}
use Rattle.java_core.proofs.Positions.{passes-position}
use Rattle.java_core.specs.Formed.{HasNoTwice}
use Rattle.name_rules.specs.declared.Refusal.{Refusal}
use Rattle.name_laws.specs.Answers.{run}
use Rattle.name_laws.proofs.Sees.{Tells, tell, same_some}

-- what each step keeps holds at the end
pub run-tells : {A S : Type 0} (F : Refusal → Type 0) (whole : List A) (f : S → A → Result S Refusal) (I : List A → S → Type 0) →
    ((done rest : List A) (x : A) (s : S) → whole ≡ done ++ x ∷ rest → I done s → Tells (I (done ++ x ∷ [])) F (f s x)) →
    (done xs : List A) (s : S) → whole ≡ done ++ xs → I done s → Tells (I whole) F (run f s xs)
run-tells F whole f I step done [] s e h = subst (λ z. I z s) (sym (e ∙ append-nil done)) h
run-tells F whole f I step done (x ∷ xs) s e h =
    tell (I whole) F (f s x) (λ t. run f t xs) (step done xs x s e h) (λ t k. run-tells F whole f I step (done ++ x ∷ []) xs t (e
    ∙ sym (append_assoc done (x ∷ []) xs)) k) (λ r q. q)

-- ---- what stands where

pub stands-at : {A : Type 0} {whole : List A} (done : List A) (x : A) (rest : List A) → whole ≡ done ++ x ∷ rest → slice_get whole (length done) ≡ Some x
stands-at done x rest e = ap (λ z. slice_get z (length done)) e ∙ middle done x rest

pub earlier-stands : {A : Type 0} {whole : List A} (done rest : List A) → whole ≡ done ++ rest → (i : ℕ) (x : A) → slice_get done i ≡ Some x
    → slice_get whole i ≡ Some x
earlier-stands done rest e i x h = ap (λ z. slice_get z i) e ∙ at_left done rest i x h

pub push-cases : {A : Type 0} (xs : List A) (y : A) (i : ℕ) (x : A) → slice_get (xs ++ y ∷ []) i ≡ Some x → (slice_get xs i ≡ Some x)
    ⊎ ((i ≡ length xs) × (y ≡ x))
push-cases [] y zero x e = inr (refl, same_some e)
push-cases [] y (suc i) x e = absurd (cc e)
push-cases (z ∷ xs) y zero x e = inl e
push-cases (z ∷ xs) y (suc i) x e = ⊎_elim (λ h. inl h) (λ h. inr (ap suc h.0, h.1)) (push-cases xs y i x e)

-- what stands beside it in a list of the same length
pub stands-beside : {A B : Type 0} (xs : List A) (ys : List B) → length xs ≡ length ys → (i : ℕ) (x : A) → slice_get xs i ≡ Some x
    → (y : B) × (slice_get ys i ≡ Some y)
stands-beside xs ys e i x at = below_at ys i (let l = slice_get_within xs i x at in omega (arith, l, e))

-- one more behind those that differ from it
pub once-more : {A : Type 0} (xs : List A) (x : A) (Same : A → A → Type 0) → ((a b : A) → Same a b → Same b a)
    → ((i j : ℕ) (a b : A) → slice_get xs i ≡ Some a → slice_get xs j ≡ Some b → Same a b → i ≡ j)
    → ((i : ℕ) (a : A) → slice_get xs i ≡ Some a → Same a x → ⊥) → (i j : ℕ) (a b : A) → slice_get (xs ++ x ∷ []) i ≡ Some a
    → slice_get (xs ++ x ∷ []) j ≡ Some b → Same a b → i ≡ j
once-more xs x Same turned once fresh i j a b p q s =
    ⊎_elim
    (λ u. ⊎_elim (λ v. once i j a b u v s) (λ v. absurd (fresh i a u (subst (λ z. Same a z) (sym v.1) s))) (push-cases xs x j b q))
    (λ u. ⊎_elim (λ v. absurd (fresh j b v (subst (λ z. Same b z) (sym u.1) (turned a b s)))) (λ v. u.0 ∙ sym v.0) (push-cases xs x j b q))
    (push-cases xs x i a p)

pub once-push : {A : Type 0} (xs : List A) (y : A) → HasNoTwice xs → ((i : ℕ) → slice_get xs i ≡ Some y → ⊥) → HasNoTwice (xs ++ y ∷ [])
unfolding HasNoTwice
once-push xs y once fresh i j x a b =
    ⊎_elim
    (λ h. ⊎_elim (λ k. once i j x h k) (λ k. absurd (fresh i (h ∙ ap Some (sym k.1)))) (push-cases xs y j x b))
    (λ h. ⊎_elim (λ k. absurd (fresh j (k ∙ ap Some (sym h.1)))) (λ k. h.0 ∙ sym k.0) (push-cases xs y j x b))
    (push-cases xs y i x a)

-- ---- the first that passes

pub position-from : {A : Type 0} (p : A → Bool) (xs : List A) → position p xs ≡ position_from p 0 xs
position-from p xs = position_from-zero p xs

pub none-passes : {A : Type 0} (p : A → Bool) (xs : List A) → position p xs ≡ None → (i : ℕ) (x : A) → slice_get xs i ≡ Some x → p x ≡ true → ⊥
none-passes p xs none i x e h = let found = passes-position p xs i x e h in cc (sym none ∙ found.1)
