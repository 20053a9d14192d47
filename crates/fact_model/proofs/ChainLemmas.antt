-- For facts in order the classes at or above one type form a chain, and one of several is the lowest.
use Rattle.std.proofs.Common.{◌≡◌, ℕ, ◌⊎◌, inl, inr, ⊎_elim, true, false, List, [], ◌∷◌, Option, Some, None, Contains, refl, sym, ◌∙◌, subst, arith}
use Rattle.std.specs.List.{AllByRecursion}
use Rattle.std.specs.Option.{option_to_list}
use Rattle.std.proofs.lemmas.Bool.{cases_Bool, false≢true}
use Rattle.std.proofs.lemmas.List.Elements.{Contains-append_cases, Contains-append_right, All-contains, All-from_recursion}
use Rattle.kaba_derivations.proofs.Derivations.{each_weaker}
use Rattle.kaba_base.specs.declared.ClassId.{ClassId}
use Rattle.fact_model.specs.Classes.{parent_of, faces_of, supers_of, IsBelow, same, through, is_interface}
use Rattle.fact_model.specs.InOrder.{InOrder}
use Rattle.fact_model.specs.Closures.{IsPlainClass, AreChains}
use Rattle.fact_model.specs.declared.facts.Facts.{Facts}
use Rattle.fact_model.proofs.ClassLemmas.{below-then, below-both}

module _ (F : Facts) (O : InOrder F) where
  top : {b : ℕ} → IsPlainClass F b → IsBelow F b 0
  top {b} k = O.classes.top b k.below

  from_zero : {a b : ℕ} → IsPlainClass F b → a ≡ 0 → IsBelow F a b → b ≡ 0
  from_zero {a} {b} k e h = below-both F O.classes.acyclic (top k) (subst (λ x. IsBelow F x b) e h)

  under : {b c : ℕ} → IsPlainClass F b → c ≡ 0 → IsBelow F b c
  under {b} k e = subst (λ x. IsBelow F b x) (sym e) (top k)

  one : (o : Option ClassId) (c : ClassId) → Contains (option_to_list o) c → o ≡ Some c
  one None c h = absurd (omega (arith, h.1))
  one (Some p) c h = grind (arith, h.1, h.2)

  -- what stands directly above is the parent or a face
  pub direct_cases : (a : ℕ) (c : ClassId) → Contains (supers_of F a) c → (parent_of F a ≡ Some c) ⊎ (is_interface F c.0 ≡ true)
  direct_cases a c h =
      ⊎_elim (λ p. inl (one (parent_of F a) c p)) (λ f. inr (O.classes.faces a c f)) (Contains-append_cases (option_to_list (parent_of F a)) (faces_of F a) c h)

  -- above an interface there is no class but class 0
  pub above_interface : (a b : ℕ) → is_interface F a ≡ true → IsPlainClass F b → IsBelow F a b → b ≡ 0
  above_interface a b i k same = absurd (false≢true (sym k.kind ∙ i))
  above_interface a b i k (through {c = c} direct rest) =
      ⊎_elim (λ p. from_zero k (O.classes.roots a c i p) rest) (λ f. above_interface c.0 b f k rest) (direct_cases a c direct)

  -- a class directly above is the parent
  class_parent : (a : ℕ) (c : ClassId) → is_interface F c.0 ≡ false → Contains (supers_of F a) c → parent_of F a ≡ Some c
  class_parent a c k h = ⊎_elim (λ p. p) (λ f. absurd (false≢true (sym k ∙ f))) (direct_cases a c h)

  pub chain : (a b c : ℕ) → IsPlainClass F b → IsPlainClass F c → IsBelow F a b → IsBelow F a c → IsBelow F b c ⊎ IsBelow F c b
  chain a b c k l same g = inl g
  chain a b c k l (through {c = p} direct rest) same = inr (through direct rest)
  chain a b c k l (through {c = p} direct rest) (through {c = q} other more) =
      ⊎_elim
      (λ i. inr (under l (above_interface p.0 b i k rest)))
      (λ m. ⊎_elim
      (λ i. inl (under k (above_interface q.0 c i l more)))
      (λ n. let e : p ≡ q = cc (class_parent a p m direct, class_parent a q n other) in
      chain p.0 b c k l rest (subst (λ x. IsBelow F x.0 c) (sym e) more))
      (cases_Bool (is_interface F q.0)))
      (cases_Bool (is_interface F p.0))

  pub chains : AreChains F
  chains = record { chain = chain; above_interface = above_interface }

  -- a class of a list that is at or below each of it
  pub record IsLowest (m : ℕ) (xs : List ℕ) : Type 0 where
    pub among : Contains xs m
    pub least : AllByRecursion (λ b. IsBelow F m b) xs

  -- the lower of two, where one is
  lower : (x m : ℕ) (xs : List ℕ) → IsLowest m xs → IsBelow F x m ⊎ IsBelow F m x → (y : ℕ) × IsLowest y (x ∷ xs)
  lower x m xs low (inl down) =
      let rest = each_weaker (λ b. IsBelow F m b) (λ b. IsBelow F x b) (λ b h. below-then F down h) xs low.least in
      (x, record { among = (0, omega arith, refl); least = (same, rest) })
  lower x m xs low (inr up) = (m, record { among = Contains-append_right (x ∷ []) xs m low.among; least = (up, low.least) })

  -- a class at or above a type
  abbrev pub IsClassAbove : ℕ → ℕ → Type 0
  IsClassAbove a b = IsPlainClass F b × IsBelow F a b

  -- of some classes at or above a type one is the lowest
  pub lowest : (a : ℕ) (x : ℕ) (xs : List ℕ) → AllByRecursion (IsClassAbove a) (x ∷ xs) → (m : ℕ) × IsLowest m (x ∷ xs)
  lowest a x [] h = (x, record { among = (0, omega arith, refl); least = (same, tt) })
  lowest a x (y ∷ ys) h =
      let m = lowest a y ys h.1 in
      let k = All-contains (IsClassAbove a) (y ∷ ys) m.0 (All-from_recursion (IsClassAbove a) (y ∷ ys) h.1) m.1.among in
      lower x m.0 (y ∷ ys) m.1 (chain a x m.0 h.0.0 k.0 h.0.1 k.1)
