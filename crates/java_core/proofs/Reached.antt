-- What is reached upwards is what is a subclass.
use Rattle.std.proofs.Common.{◌≡◌, ℕ, zero, suc, ◌<◌, ◌≤◌, ⊎_elim, Bool, true, false, ◌||◌, List, [], ◌∷◌, length, eqb, Contains, refl, sym, ap, ◌∙◌, subst, arith}
use Rattle.std.specs.Prelude.{◌==◌}
use Rattle.std.specs.List.{list_any, IsDistinct, AllByRecursion}
use Rattle.std.proofs.lemmas.Bool.{or_cases, or_left, or_right, eqb-true, eq-eqb, ne_eqb, eqb-false, false≢true}
use Rattle.std.proofs.lemmas.List.Folds.{list_any-from_Any}
use Rattle.std.proofs.lemmas.Map.Steps.{length-le_from_distinct_below}
use Rattle.kaba_base.specs.declared.ClassId.{ClassId}
use Rattle.kaba_base.proofs.TestLemmas.{same_truth}
use Rattle.java_core.specs.Plain.{Plain}
use Rattle.java_core.specs.Classes.{supers_of, IsSubclass, same_class, through, reaches}
use Rattle.java_core.proofs.Subclasses.{supers-within, reaches-subclass}
use Rattle.java_core.specs.Squares.{is_above}
use Rattle.java_core.specs.Subtypes.{of_classes}
use Rattle.java_core.specs.Squares.{square}
use Rattle.java_core.proofs.SquareLemmas.{square-above, square-within}

eq-swap : (a b : ℕ) → (a == b) ≡ (b == a)
eq-swap a b = go (a == b) refl
  where
    go : (c : Bool) → (a == b) ≡ c → (a == b) ≡ (b == a)
    go true e = e ∙ sym (eq-eqb b a (sym (eqb-true a b e)))
    go false e = e ∙ sym (ne_eqb b a (λ k. eqb-false a b e (sym k)))

module _ (P : Plain) where
  -- ---- a way upwards without a turn

  -- a way from a to b by these types, b itself left out
  data Way : ℕ → ℕ → List ℕ → Type 0 where
    arrived : {b : ℕ} → Way b b []
    one_up : {a b : ℕ} {c : ClassId} {xs : List ℕ} → Contains (supers_of P a) c → Way c.0 b xs → Way a b (a ∷ xs)

  record Straight (a b : ℕ) : Type 0 where
    by : List ℕ
    way : Way a b by
    distinct : IsDistinct eqb by
    short : list_any (eqb b) by ≡ false

  cut : (a : ℕ) {c b : ℕ} {xs : List ℕ} → Way c b xs → IsDistinct eqb xs → list_any (eqb b) xs ≡ false → list_any (eqb a) xs ≡ true → Straight a b
  unfolding IsDistinct
  cut a arrived d s e = absurd (cc e)
  cut a {c} {b} (one_up {xs = xs} direct rest) d s e = go (eqb a c) refl (eqb b c) refl (λ t f. cut a rest d.1 t f)
    where
      go : (x : Bool) → eqb a c ≡ x → (y : Bool) → eqb b c ≡ y → (list_any (eqb b) xs ≡ false → list_any (eqb a) xs ≡ true → Straight a b) → Straight a b
      go x f true g more = absurd (false≢true (sym s ∙ or_left (eqb b c) (list_any (eqb b) xs) g))
      go true f false g more = subst (λ z. Straight z b) (sym (eqb-true a c f)) (record { by = c ∷ xs; way = one_up direct rest; distinct = d; short = s })
      go false f false g more = more (sym (ap (λ z. z || list_any (eqb b) xs) g) ∙ s) (sym (ap (λ z. z || list_any (eqb a) xs) f) ∙ e)

  apart-all : (a : ℕ) (xs : List ℕ) → list_any (eqb a) xs ≡ false → AllByRecursion (λ y. eqb a y ≡ false) xs
  apart-all a [] e = tt
  apart-all a (x ∷ xs) e = go (eqb a x) refl (apart-all a xs)
    where
      go : (c : Bool) → eqb a x ≡ c → (list_any (eqb a) xs ≡ false → AllByRecursion (λ y. eqb a y ≡ false) xs) → AllByRecursion (λ y. eqb a y ≡ false) (x ∷ xs)
      go true f more = absurd (false≢true (sym e ∙ or_left (eqb a x) (list_any (eqb a) xs) f))
      go false f more = (f, more (sym (ap (λ z. z || list_any (eqb a) xs) f) ∙ e))

  straight : {a b : ℕ} → IsSubclass P a b → Straight a b
  unfolding IsDistinct
  straight same_class = record { by = []; way = arrived; distinct = tt; short = refl }
  straight {a} {b} (through {c = c} direct rest) = go (straight rest)
    where
      go : Straight c.0 b → Straight a b
      go s = by_end (eqb a b) refl (list_any (eqb a) s.by) refl
        where
          by_end : (x : Bool) → eqb a b ≡ x → (y : Bool) → list_any (eqb a) s.by ≡ y → Straight a b
          by_end true e y f = subst (λ z. Straight z b) (sym (eqb-true a b e)) (record { by = []; way = arrived; distinct = tt; short = refl })
          by_end false e true f = cut a s.way s.distinct s.short f
          by_end false e false f = record {
            by = a ∷ s.by;
            way = one_up direct s.way;
            distinct = (apart-all a s.by f, s.distinct);
            short = ap
                (λ z. z || list_any (eqb b) s.by) (eq-swap b a ∙ e) ∙ s.short;
          }

  way-within : {a b : ℕ} {xs : List ℕ} → Way a b xs → (q : ℕ) → list_any (eqb q) xs ≡ true → q < length P.classes
  way-within arrived q e = absurd (cc e)
  way-within {a} (one_up {c = c} {xs = xs} direct rest) q e =
      ⊎_elim (λ f. subst (λ z. z < length P.classes) (sym (eqb-true q a f)) (supers-within P a c direct)) (λ f. way-within rest q f)
      (or_cases (eqb q a) (list_any (eqb q) xs) e)

  way-reaches : {a b : ℕ} {xs : List ℕ} → Way a b xs → (m : ℕ) → length xs ≤ m → reaches P m a b ≡ true
  way-reaches {a} arrived zero e = eq-eqb a a refl
  way-reaches {a} arrived (suc m) e = or_left (eqb a a) (list_any (λ c. reaches P m c.0 a) (supers_of P a)) (eq-eqb a a refl)
  way-reaches {a} {b} (one_up direct rest) zero e = absurd (omega (arith, e))
  way-reaches {a} {b} (one_up {c = c} direct rest) (suc m) e =
      or_right (eqb a b) (list_any (λ c. reaches P m c.0 b) (supers_of P a))
      (list_any-from_Any (λ c. reaches P m c.0 b) (supers_of P a) (direct.0, c, direct.1, direct.2, way-reaches rest m (omega (arith, e))))

  -- no way upwards has more steps than there are types
  subclass-reaches : {a b : ℕ} → IsSubclass P a b → b < length P.classes → reaches P (length P.classes) a b ≡ true
  unfolding IsDistinct
  subclass-reaches {a} {b} h lt =
      let s = straight h in
      let all = length-le_from_distinct_below (b ∷ s.by) (length P.classes) (apart-all b s.by s.short, s.distinct) (λ q f. within s q f) in
      way-reaches s.way (length P.classes) (omega (arith, all))
    where
      within : (s : Straight a b) (q : ℕ) → list_any (eqb q) (b ∷ s.by) ≡ true → q < length P.classes
      within s q f = ⊎_elim (λ g. subst (λ z. z < length P.classes) (sym (eqb-true q b g)) lt) (λ g. way-within s.way q g)
          (or_cases (eqb q b) (list_any (eqb q) s.by) f)

  pub subclass-within : {a b : ℕ} → IsSubclass P a b → b < length P.classes → a < length P.classes
  subclass-within same_class lt = lt
  subclass-within (through {a = a} {c = c} direct rest) lt = supers-within P a c direct

  pub reaches-is : (a b : ℕ) (t : Bool) → b < length P.classes → (t ≡ true → IsSubclass P a b) → (IsSubclass P a b → t ≡ true)
      → t ≡ reaches P (length P.classes) a b
  reaches-is a b t lt sound whole = same_truth t (reaches P (length P.classes) a b) (λ e. subclass-reaches (sound e) lt)
      (λ e. whole (reaches-subclass P (length P.classes) a b e))

  -- ---- the rows of what is reached

  -- only the classes of a program count
  pub same-reach : (n a b : ℕ) → reaches (of_classes P.classes) n a b ≡ reaches P n a b
  same-reach zero a b = refl
  same-reach (suc n) a b = ap (λ z. (a == b) || z) (each (supers_of P a) (λ k. same-reach n k b))
    where
      each : (cs : List ClassId) → ((k : ℕ) → reaches (of_classes P.classes) n k b ≡ reaches P n k b)
          → list_any (λ c. reaches (of_classes P.classes) n c.0 b) cs ≡ list_any (λ c. reaches P n c.0 b) cs
      each [] more = refl
      each (c ∷ cs) more = ap (λ z. z || list_any (λ c. reaches (of_classes P.classes) n c.0 b) cs) (more c.0)
          ∙ ap (λ z. reaches P n c.0 b || z) (each cs more)

  abbrev pub reached : List (List Bool)
  reached = square (length P.classes) (reaches (of_classes P.classes) (length P.classes))

  pub reached-is : (a b : ℕ) → a < length P.classes → b < length P.classes → is_above reached a b ≡ reaches P (length P.classes) a b
  reached-is a b la lb = square-above (length P.classes) (reaches (of_classes P.classes) (length P.classes)) a b la lb ∙ same-reach (length P.classes) a b

  pub reached-sound : (a b : ℕ) → is_above reached a b ≡ true → IsSubclass P a b
  reached-sound a b e =
      let w = square-within (length P.classes) (reaches (of_classes P.classes) (length P.classes)) a b e in
      reaches-subclass P (length P.classes) a b (sym (reached-is a b w.0 w.1) ∙ e)

  pub reached-whole : (a b : ℕ) → b < length P.classes → IsSubclass P a b → is_above reached a b ≡ true
  reached-whole a b lt h = reached-is a b (subclass-within h lt) lt ∙ subclass-reaches h lt
