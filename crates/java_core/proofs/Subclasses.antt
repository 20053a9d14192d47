-- Subtyping as a test and as a relation, and what is nearest along the superclasses: each way is the other.
use Rattle.std.proofs.Common.{◌≡◌, ℕ, suc, zero, ◌+◌, ◌-◌, ◌<◌, ◌≤◌, ◌⊎◌, true, false, List, [], ◌∷◌, eqb, length, Option, Some, None, Contains, refl, sym, ◌∙◌, subst, arith, ⊎_elim, inl, inr}
use Rattle.std.specs.List.{IsDistinct, AllByRecursion, list_any}
use Rattle.std.specs.Option.{option_and_then, option_map, is_some}
use Rattle.std.proofs.lemmas.Bool.{or_cases, or_left, or_right, eqb-true, eq-eqb, ne_eqb, false≢true, cases_lt}
use Rattle.std.proofs.lemmas.List.Folds.{Any-from_list_any, list_any-from_Any}
use Rattle.std.proofs.lemmas.Map.Keys.{IsDistinct-cons}
use Rattle.std.proofs.lemmas.Map.Steps.{length-le_from_distinct_below}
use Rattle.std.proofs.lemmas.Option.{slice_get_past}
use Rattle.kaba_base.specs.declared.ClassId.{ClassId}
use Rattle.java_core.specs.Programs.{Plain}
use Rattle.java_core.specs.Classes.{parent_of, supers_of, IsSubclass, same_class, through, IsProperSubclass, reaches, below, first_or, nearest, nearest_of}
use Rattle.java_core.specs.Found.{IsNearest, at_class, above_class}

-- no class is its own ancestor
abbrev pub IsAcyclic : Plain → Type 0
IsAcyclic P = (c : ℕ) → IsProperSubclass P c c → ⊥

module _ (P : Plain) where
  pub subclass-then : {a b c : ℕ} → IsSubclass P a b → IsSubclass P b c → IsSubclass P a c
  subclass-then same_class k = k
  subclass-then (through direct rest) k = through direct (subclass-then rest k)

  pub proper-subclass : {a b : ℕ} → IsProperSubclass P a b → IsSubclass P a b
  proper-subclass s = through s.direct s.rest

  pub proper-then : {a b c : ℕ} → IsProperSubclass P a b → IsSubclass P b c → IsProperSubclass P a c
  proper-then s k = record { by = s.by; direct = s.direct; rest = subclass-then s.rest k }

  pub subclass_cases : {a b : ℕ} → IsSubclass P a b → (a ≡ b) ⊎ IsProperSubclass P a b
  subclass_cases same_class = inl refl
  subclass_cases (through {c = c} direct rest) = inr (record { by = c; direct = direct; rest = rest })

  pub reaches-subclass : (n a b : ℕ) → reaches P n a b ≡ true → IsSubclass P a b
  reaches-subclass zero a b h = subst (λ x. IsSubclass P a x) (eqb-true a b h) same_class
  reaches-subclass (suc n) a b h =
      ⊎_elim
      (λ e. subst (λ x. IsSubclass P a x) (eqb-true a b e) same_class)
      (λ any. let found = Any-from_list_any (λ c. reaches P n c.0 b) (supers_of P a) any in
      through {c = found.1} (found.0, found.2, found.3) (reaches-subclass n found.1.0 b found.4))
      (or_cases (eqb a b) (list_any (λ c. reaches P n c.0 b) (supers_of P a)) h)

  -- only a class of the list has something above it
  pub supers-within : (a : ℕ) (c : ClassId) → Contains (supers_of P a) c → a < length P.classes
  supers-within a c h = ⊎_elim (λ lt. lt) (λ past. absurd (none past)) (cases_lt a (length P.classes))
    where
      none : length P.classes ≤ a → ⊥
      none past = let e = slice_get_past P.classes a past in let lt : h.0 < 0 = rw e at h.1 in omega (arith, lt)

  pub parent-super : (a : ℕ) (p : ClassId) → parent_of P a ≡ Some p → Contains (supers_of P a) p
  parent-super a p e = rw e (0, omega arith, refl)

  -- classes passed on the way up to one: different ones, each properly below it
  pub record ArePassed (seen : List ℕ) (a : ℕ) : Type 0 where
    distinct : IsDistinct eqb seen
    each : AllByRecursion (λ q. (q < length P.classes) × IsProperSubclass P q a) seen

  up : (a : ℕ) (c : ClassId) (seen : List ℕ) → Contains (supers_of P a) c → AllByRecursion (λ q. (q < length P.classes) × IsProperSubclass P q a) seen
      → AllByRecursion (λ q. (q < length P.classes) × IsProperSubclass P q c.0) seen
  up a c [] direct h = tt
  up a c (q ∷ seen) direct h = ((h.0.0, proper-then h.0.1 (through direct same_class)), up a c seen direct h.1)

  apart : IsAcyclic P → (a : ℕ) (seen : List ℕ) → AllByRecursion (λ q. (q < length P.classes) × IsProperSubclass P q a) seen
      → AllByRecursion (λ y. eqb a y ≡ false) seen
  apart acyclic a [] h = tt
  apart acyclic a (q ∷ seen) h = (ne_eqb a q (λ e. acyclic a (subst (λ x. IsProperSubclass P x a) (sym e) h.0.1)), apart acyclic a seen h.1)

  pub passed_more : IsAcyclic P → {a : ℕ} {c : ClassId} (seen : List ℕ) → Contains (supers_of P a) c → ArePassed seen a → ArePassed (a ∷ seen) c.0
  passed_more acyclic {a} {c} seen direct h = record {
    distinct = IsDistinct-cons eqb a seen (apart acyclic a seen h.each) h.distinct;
    each = ((supers-within a c direct, record { by = c; direct = direct; rest = same_class }), up a c seen direct h.each);
  }

  within : (a : ℕ) (seen : List ℕ) → AllByRecursion (λ q. (q < length P.classes) × IsProperSubclass P q a) seen → (q : ℕ)
      → list_any (eqb q) seen ≡ true → q < length P.classes
  within a [] h q e = absurd (false≢true e)
  within a (x ∷ seen) h q e = ⊎_elim (λ one. subst (λ y. y < length P.classes) (sym (eqb-true q x one)) h.0.0) (λ more. within a seen h.1 q more)
      (or_cases (eqb q x) (list_any (eqb q) seen) e)

  pub passed-le : {a : ℕ} (seen : List ℕ) → ArePassed seen a → length seen ≤ length P.classes
  passed-le {a} seen h = length-le_from_distinct_below seen (length P.classes) h.distinct (within a seen h.each)

  pub none_passed : (a : ℕ) → ArePassed [] a
  unfolding IsDistinct
  none_passed a = record { distinct = tt; each = tt }

  -- with as many steps left as there are classes that are not passed, one more step is left
  pub one_left : IsAcyclic P → {a : ℕ} {c : ClassId} (seen : List ℕ) → Contains (supers_of P a) c → ArePassed seen a → 0 + length seen ≡ length P.classes → ⊥
  one_left acyclic {a} seen direct h e = omega (arith, passed-le (a ∷ seen) (passed_more acyclic seen direct h))

  reaches-all : IsAcyclic P → (n : ℕ) (seen : List ℕ) {a b : ℕ} → IsSubclass P a b → n + length seen ≡ length P.classes → ArePassed seen a
      → reaches P n a b ≡ true
  reaches-all acyclic zero seen {a} same_class e h = eq-eqb a a refl
  reaches-all acyclic (suc n) seen {a} same_class e h = or_left (eqb a a) (list_any (λ c. reaches P n c.0 a) (supers_of P a)) (eq-eqb a a refl)
  reaches-all acyclic zero seen (through direct rest) e h = absurd (one_left acyclic seen direct h e)
  reaches-all acyclic (suc n) seen {a} {b} (through {c = c} direct rest) e h =
      or_right (eqb a b) (list_any (λ c. reaches P n c.0 b) (supers_of P a))
      (list_any-from_Any (λ c. reaches P n c.0 b) (supers_of P a)
      (direct.0, c, direct.1, direct.2, reaches-all acyclic n (a ∷ seen) rest (omega arith) (passed_more acyclic seen direct h)))

  pub below-subclass : (a b : ℕ) → below P a b ≡ true → IsSubclass P a b
  unfolding below
  below-subclass a b h = reaches-subclass (length P.classes) a b h

  pub subclass-below : IsAcyclic P → {a b : ℕ} → IsSubclass P a b → below P a b ≡ true
  unfolding below
  subclass-below acyclic {a} h = reaches-all acyclic (length P.classes) [] h (omega arith) (none_passed a)

  module _ (own : ℕ → Option ℕ) where
    found_up : (n a d : ℕ) (o : Option ℕ) (p : Option ClassId) → own a ≡ o → parent_of P a ≡ p → ((p : ClassId) → nearest P own n p.0 ≡ Some d
        → IsNearest P own p.0 d)
        → first_or o (option_and_then (λ p. nearest P own n p.0) p) ≡ Some d → IsNearest P own a d
    found_up n a d (Some y) p e f up h = at_class (e ∙ h)
    found_up n a d None None e f up h = absurd (cc h)
    found_up n a d None (Some p) e f up h = above_class e f (up p h)

    nearest-sound : (n a d : ℕ) → nearest P own n a ≡ Some d → IsNearest P own a d
    nearest-sound zero a d h = at_class h
    nearest-sound (suc n) a d h = found_up n a d (own a) (parent_of P a) refl refl (λ p. nearest-sound n p.0 d) h

    nearest-all : IsAcyclic P → (n : ℕ) (seen : List ℕ) {a d : ℕ} → IsNearest P own a d → n + length seen ≡ length P.classes → ArePassed seen a
        → nearest P own n a ≡ Some d
    nearest-all acyclic zero seen (at_class e) k h = e
    nearest-all acyclic (suc n) seen (at_class e) k h = rw e
    nearest-all acyclic zero seen {a} (above_class {p = p} none e up) k h = absurd (one_left acyclic seen (parent-super a p e) h k)
    nearest-all acyclic (suc n) seen {a} (above_class {p = p} none e up) k h =
        rw (none, e) (nearest-all acyclic n (a ∷ seen) up (omega arith) (passed_more acyclic seen (parent-super a p e) h))

    -- the look-up is the relation
    pub nearest_of-nearest : {a d : ℕ} → nearest_of P own a ≡ Some d → IsNearest P own a d
    nearest_of-nearest {a} {d} h = nearest-sound (length P.classes) a d h

    pub nearest-nearest_of : IsAcyclic P → {a d : ℕ} → IsNearest P own a d → nearest_of P own a ≡ Some d
    nearest-nearest_of acyclic {a} h = nearest-all acyclic (length P.classes) [] h (omega arith) (none_passed a)

    -- where a class has nothing of its own, what its superclass has
    pub nearest-up : {D : Type 0} (number : D → ℕ) (n a : ℕ) (o : Option D) (p : ClassId) → (n ≡ 0 → ⊥) → option_map number o ≡ own a → is_some o ≡ false
        → parent_of P a ≡ Some p → nearest P own (n - 1) p.0 ≡ nearest P own n a
    nearest-up number n a (Some d) p more here none at = absurd (cc none)
    nearest-up number zero a None p more here none at = absurd (more refl)
    nearest-up number (suc n) a None p more here none at = let one : suc n - 1 ≡ n = omega arith in rw (sym here, at, one) refl

    pub nearest-top : {D : Type 0} (number : D → ℕ) (n a : ℕ) (o : Option D) → option_map number o ≡ own a → is_some o ≡ false → parent_of P a ≡ None
        → None ≡ nearest P own n a
    nearest-top number n a (Some d) here none top = absurd (cc none)
    nearest-top number zero a None here none top = here
    nearest-top number (suc n) a None here none top = rw (sym here, top) refl

    pub nearest-here : (n a d : ℕ) → own a ≡ Some d → nearest P own n a ≡ Some d
    nearest-here zero a d e = e
    nearest-here (suc n) a d e = rw e
