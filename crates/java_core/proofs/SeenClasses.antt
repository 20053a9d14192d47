-- Subtyping among the classes of a program.
use Rattle.std.proofs.Common.{◌≡◌, ℕ, zero, suc, ◌<◌, ◌⊎◌, inl, inr, ⊎_elim, Bool, true, ◌||◌, List, [], ◌++◌, map, length, Option, Some, None, Contains, refl, sym, ap, ◌∙◌, subst, arith}
use Rattle.std.specs.Prelude.{slice_get, ◌==◌, ◌↔◌}
use Rattle.std.specs.Option.{option_to_list, option_and_then, option_map_or}
use Rattle.std.proofs.lemmas.Bool.{or_cases, or_left, or_right, eqb-true, eq-eqb}
use Rattle.std.proofs.lemmas.List.Elements.{Contains-append_cases}
use Rattle.std.proofs.lemmas.Option.{slice_get_within}
use Rattle.kaba_base.specs.declared.ClassId.{ClassId}
use Rattle.kaba_base.proofs.ListLemmas.{one_from, no-member}
use Rattle.kaba_base.proofs.TestLemmas.{same_truth}
use Rattle.java_core.specs.declared.Class.{Class}
use Rattle.java_core.specs.Plain.{Plain, PlainClass, class_seen}
use Rattle.java_core.specs.Classes.{supers_of, IsSubclass, same_class, through, below}
use Rattle.java_core.specs.Formed.{IsFormed}
use Rattle.java_core.specs.Squares.{is_above}
use Rattle.java_core.specs.Subtypes.{of_classes, subtype_rows}
use Rattle.java_core.proofs.Subclasses.{below-subclass, subclass-below}
use Rattle.java_core.proofs.Reached.{reached-sound, reached-whole}

subclass-same : (P Q : Plain) → ((a : ℕ) → supers_of P a ≡ supers_of Q a) → {a b : ℕ} → IsSubclass P a b → IsSubclass Q a b
subclass-same P Q same same_class = same_class
subclass-same P Q same (through {a = a} {c = c} direct rest) = through {c = c} (subst (λ l. Contains l c) (same a) direct) (subclass-same P Q same rest)

-- what stands directly above a class of a formed program is one of its classes
super-stands : (P : Plain) → IsFormed P → (a : ℕ) (c : ClassId) → Contains (supers_of P a) c → c.0 < length P.classes
super-stands P formed zero c h =
    absurd (no-member c (subst (λ l. Contains l c) (ap (λ o. option_to_list (option_and_then (λ k. k.parent) o) ++ option_map_or (λ k. k.faces) o [])
    formed.object.first
    ∙ ap (λ o. option_to_list o ++ formed.object.object.faces) formed.object.parent ∙ formed.object.faces) h))
super-stands P formed (suc a) c h = at (slice_get P.classes (suc a)) refl
  where
    at : (o : Option PlainClass) → slice_get P.classes (suc a) ≡ o → c.0 < length P.classes
    at None e = absurd (no-member c
        (subst (λ l. Contains l c) (ap (λ o. option_to_list (option_and_then (λ k. k.parent) o) ++ option_map_or (λ k. k.faces) o []) e) h))
    at (Some k) e =
        let f = formed.classes a k e in
        let own : Contains (option_to_list k.parent ++ k.faces) c =
        subst (λ l. Contains l c) (ap (λ o. option_to_list (option_and_then (λ k. k.parent) o) ++ option_map_or (λ k. k.faces) o []) e) h in
        ⊎_elim
        (λ d. let p : f.parent ≡ c = one_from f.parent c (subst (λ o. Contains (option_to_list o) c) f.has_parent d) in
        subst (λ x. x.0 < length P.classes) p (slice_get_within P.classes f.parent.0 f.above f.parent_stands))
        (λ d. let g = f.faces c d in slice_get_within P.classes c.0 g.0 g.1)
        (Contains-append_cases (option_to_list k.parent) k.faces c own)

subclass-stands : (P : Plain) → IsFormed P → {a b : ℕ} → IsSubclass P a b → (a ≡ b) ⊎ (b < length P.classes)
subclass-stands P formed same_class = inl refl
subclass-stands P formed (through {a = a} {c = c} direct rest) =
    ⊎_elim (λ e. inr (subst (λ b. b < length P.classes) e (super-stands P formed a c direct))) (λ lt. inr lt) (subclass-stands P formed rest)

module _ (P : Plain) (cs : List Class) (is : P.classes ≡ map class_seen cs) (formed : IsFormed P) where
  abbrev shown : Plain
  shown = of_classes (map class_seen cs)

  supers-shown : (a : ℕ) → supers_of shown a ≡ supers_of P a
  supers-shown a = ap (λ l. supers_of (of_classes l) a) (sym is)

  abbrev rows_say : ℕ → ℕ → Bool
  rows_say a b = is_above (subtype_rows (map class_seen cs)) a b

  rows-sound : (a b : ℕ) → (a == b) || rows_say a b ≡ true → IsSubclass P a b
  rows-sound a b h = ⊎_elim
      (λ k. subst (λ x. IsSubclass P a x) (eqb-true a b k) same_class)
      (λ k. subclass-same shown P supers-shown (reached-sound shown a b k))
      (or_cases (a == b) (rows_say a b) h)

  rows-whole : (a b : ℕ) → IsSubclass P a b → (a == b) || rows_say a b ≡ true
  rows-whole a b h = ⊎_elim
      (λ k. or_left (a == b) (rows_say a b) (subst (λ x. (a == x) ≡ true) k (eq-eqb a a refl)))
      (λ lt. or_right (a == b) (rows_say a b) (reached-whole shown a b (inside lt) (subclass-same P shown (λ x. sym (supers-shown x)) h)))
      (subclass-stands P formed h)
    where
      inside : b < length P.classes → b < length (map class_seen cs)
      inside lt = let n = ap length is in omega (arith, lt, n)

  -- the test by rows is subtyping
  pub rows-subclass : (a b : ℕ) (r : Bool) → r ≡ ((a == b) || rows_say a b) → (r ≡ true) ↔ IsSubclass P a b
  rows-subclass a b r e = (λ h. rows-sound a b (sym e ∙ h), λ h. e ∙ rows-whole a b h)

  pub rows-below : (a b : ℕ) (r : Bool) → r ≡ ((a == b) || rows_say a b) → r ≡ below P a b
  rows-below a b r e = let k = rows-subclass a b r e in
      same_truth r (below P a b) (λ h. subclass-below P formed.acyclic (k.0 h)) (λ h. k.1 (below-subclass P a b h))
