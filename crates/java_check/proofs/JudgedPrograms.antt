-- What is answered of a program is right: it is typed, or a rule fails in it; and where one fails, it is not typed.
use Rattle.std.proofs.Common.{◌≡◌, ℕ, zero, suc, List, [], ◌∷◌, Option, Some, None, Result, Ok, refl, sym, ◌∙◌, subst, slice_get}
use Rattle.std.specs.Result.{IfOk, IfErr}
use Rattle.std.proofs.lemmas.Option.{same_Some}
use Rattle.kaba_base.specs.declared.Place.{Place}
use Rattle.java_core.specs.Trees.{Sts}
use Rattle.java_core.specs.Programs.{Plain, PlainClass, PlainMethod}
use Rattle.java_core.specs.Types.{env_of}
use Rattle.java_core.specs.Typing.{TypedSts, IsTyped, IsTypedClass, IsTypedMethod}
use Rattle.java_check.specs.declared.Kind.{Kind}
use Rattle.java_check.specs.declared.CheckFault.{CheckFault}
use Rattle.java_check.specs.Outcome.{env_in, and_then}
use Rattle.java_check.specs.Fails.{FailsIn, in_method, at_class, IsRefused}
use Rattle.java_check.specs.ClassOutcome.{class_rule}
use Rattle.java_check.specs.ProgramOutcome.{class_answer, classes_answer, body_answer, methods_answer}
use Rattle.java_check.proofs.JudgedStatements.{Right, holds, fails, then_right, mapped, judged_sts}
use Rattle.java_check.proofs.RefutedStatements.{fails_sts_untyped}
use Rattle.java_check.proofs.JudgedClasses.{class_broken, class_typed, breaks_untyped_class}

-- what is answered of a list is right where that of each of its elements is; the element at j has the number n j
module _ {A : Type 0} (T : ℕ → A → Type 0) (F : Kind → Place → Type 0) (answer : ℕ → A → Result (Unit {0}) CheckFault)
    (all : ℕ → List A → Result (Unit {0}) CheckFault) (end : (i : ℕ) → all i [] ≡ Ok tt)
    (step : (i : ℕ) (x : A) (xs : List A) → all i (x ∷ xs) ≡ and_then (answer i x) (λ _. all (suc i) xs)) where
  AreEach : (ℕ → ℕ) → List A → Type 0
  AreEach n xs = (j : ℕ) (x : A) → slice_get xs j ≡ Some x → T (n j) x

  both : (n : ℕ → ℕ) (x : A) (xs : List A) → T (n zero) x → AreEach (λ j. n (suc j)) xs → AreEach n (x ∷ xs)
  unfolding AreEach
  both n x xs h more zero y at = subst (T (n zero)) (same_Some x y at) h
  both n x xs h more (suc j) y at = more j y at

  each_right : (n : ℕ → ℕ) → ((j : ℕ) → n (suc j) ≡ suc (n j)) → (xs : List A)
      → ((j : ℕ) (x : A) → slice_get xs j ≡ Some x → Right (T (n j) x) F (answer (n j) x)) → Right (AreEach n xs) F (all (n zero) xs)
  unfolding AreEach
  each_right n next [] right = subst (Right (AreEach n []) F) (sym (end (n zero))) (holds (λ j x at. absurd (cc at)))
  each_right n next (x ∷ xs) right =
      subst (Right (AreEach n (x ∷ xs)) F) (sym (step (n zero) x xs))
      (then_right _ (right zero x refl) (λ r p f. f)
      (λ h. subst (λ i. Right (AreEach n (x ∷ xs)) F (all i xs)) (next zero)
      (mapped (each_right (λ j. n (suc j)) (λ j. next (suc j)) xs (λ j. right (suc j))) (λ r p f. f) (both n x xs h))))

  pub list_right : (xs : List A) → ((j : ℕ) (x : A) → slice_get xs j ≡ Some x → Right (T j x) F (answer j x))
      → Right ((j : ℕ) (x : A) → slice_get xs j ≡ Some x → T j x) F (all 0 xs)
  unfolding AreEach
  list_right xs right = each_right (λ j. j) (λ j. refl) xs right

module _ (P : Plain) where
  class_right : (c : ℕ) (k : PlainClass) → slice_get P.classes c ≡ Some k → (o : Option Kind) → class_rule P c P.methods ≡ o
      → Right (IsTypedClass P c) (FailsIn P) (class_answer o k.tag)
  class_right c k at None e = holds (class_typed P c e)
  class_right c k at (Some r) e = fails (at_class at (class_broken P c r e))

  env_same : (m : ℕ) (k : PlainMethod) → slice_get P.methods m ≡ Some k → env_of m k ≡ env_in P m
  env_same m k at = rw at refl

  body_right : (m : ℕ) (k : PlainMethod) → slice_get P.methods m ≡ Some k → (o : Option Sts) → k.body ≡ o
      → Right (IsTypedMethod P m k) (FailsIn P) (body_answer P (env_of m k) o)
  unfolding IsTypedMethod
  body_right m k at None e = holds (λ xs f. absurd (cc (e, f)))
  body_right m k at (Some xs) e = mapped (judged_sts P (env_of m k) xs) (λ r p f. in_method m at e f)
      (λ h ys f. subst (TypedSts P (env_of m k)) (same_Some xs ys (sym e ∙ f)) h)

  classes_right : Right ((c : ℕ) (k : PlainClass) → slice_get P.classes c ≡ Some k → IsTypedClass P c) (FailsIn P) (classes_answer P 0 P.classes)
  classes_right = list_right (λ c k. IsTypedClass P c) (FailsIn P) (λ c k. class_answer (class_rule P c P.methods) k.tag) (classes_answer P) (λ i. refl)
      (λ i x xs. refl) P.classes (λ c k at. class_right c k at _ refl)

  methods_right : Right ((m : ℕ) (k : PlainMethod) → slice_get P.methods m ≡ Some k → IsTypedMethod P m k) (FailsIn P) (methods_answer P 0 P.methods)
  methods_right = list_right (IsTypedMethod P) (FailsIn P) (λ m k. body_answer P (env_in P m) k.body) (methods_answer P) (λ i. refl) (λ i x xs. refl) P.methods
      (λ m k at. subst (λ g. Right (IsTypedMethod P m k) (FailsIn P) (body_answer P g k.body)) (env_same m k at) (body_right m k at k.body refl))

  pub program_right : Right (IsTyped P) (FailsIn P) (and_then (classes_answer P 0 P.classes) (λ _. methods_answer P 0 P.methods))
  program_right = then_right _ classes_right (λ r p f. f)
      (λ classes. mapped methods_right (λ r p f. f) (λ methods. record { classes = classes; methods = methods }))

  -- where a rule fails in a program, it is not typed
  fails_in_untyped : {r : Kind} {p : Place} → FailsIn P r p → IsTyped P → ⊥
  unfolding IsTypedMethod
  fails_in_untyped (at_class at b) typed = breaks_untyped_class P _ b (typed.classes _ _ at)
  fails_in_untyped (in_method m at body f) typed = fails_sts_untyped P _ f (typed.methods m _ at _ body)

  pub ok_typed : (r : Result (Unit {0}) CheckFault) → Right (IsTyped P) (FailsIn P) r → IfOk r (λ _. IsTyped P)
  ok_typed r (holds h) = h
  ok_typed r (fails f) = tt

  pub err_refused : (r : Result (Unit {0}) CheckFault) → Right (IsTyped P) (FailsIn P) r → IfErr r (λ e. IsRefused P e)
  unfolding IsRefused
  err_refused r (holds h) = tt
  err_refused r (fails f) = f

  pub err_untyped : (r : Result (Unit {0}) CheckFault) → Right (IsTyped P) (FailsIn P) r → IfErr r (λ _. IsTyped P → ⊥)
  err_untyped r (holds h) = tt
  err_untyped r (fails f) = λ h. fails_in_untyped f h
