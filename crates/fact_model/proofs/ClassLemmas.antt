-- Subtyping as a test and as a relation, and the body found: each way is the other.
use Rattle.std.proofs.Common.{◌≡◌, ◌≢◌, ℕ, suc, zero, ◌+◌, ◌-◌, ◌<◌, ◌≤◌, ◌⊎◌, true, false, List, [], ◌∷◌, eqb, length, Option, Some, None, Contains, refl, sym, ap, ◌∙◌, subst, arith, ⊎_elim, inl, inr}
use Rattle.std.specs.List.{IsDistinct, AllByRecursion, list_any, slice_get}
use Rattle.std.specs.Option.{option_and_then}
use Rattle.std.proofs.lemmas.Bool.{or_cases, or_left, or_right, eqb-true, eq-eqb, ne_eqb, false≢true}
use Rattle.std.proofs.lemmas.List.Folds.{Any-from_list_any, list_any-from_Any}
use Rattle.std.proofs.lemmas.Map.Keys.{IsDistinct-cons}
use Rattle.std.proofs.lemmas.Map.Steps.{length-le_from_distinct_below}
use Rattle.std.proofs.lemmas.Option.{slice_get_past}
use Rattle.std.proofs.lemmas.Bool.{cases_lt}
use Rattle.kaba_base.specs.declared.ClassId.{ClassId}
use Rattle.kaba_bits.specs.Sets.{or_else}
use Rattle.std.proofs.Common.{◌&&◌}
use Rattle.std.proofs.lemmas.Bool.{and_parts}
use Rattle.std.proofs.lemmas.List.Quantifiers.{position-Some}
use Rattle.fact_model.specs.Items.{column_at, column_kind, column_class, column_slot}
use Rattle.fact_model.specs.declared.facts.ColKind.{ColKind}
use Rattle.fact_model.specs.declared.facts.ColKind.TheVariants.{Fld, Dcl, Def, Is}
use Rattle.fact_model.specs.Classes.{is_def, is_slot, is_body, parent_of, supers_of, IsBelow, same, through, IsStrictSubclass, IsAcyclic, reaches, below, own_body, IsBodyFound, own, inherited, finds_within, finds}
use Rattle.fact_model.specs.declared.facts.Facts.{Facts}
use Rattle.fact_model.specs.declared.facts.ClassInfo.{ClassInfo}

pub slot_says : (o : Option ℕ) (x : ℕ) → is_slot o x ≡ true → o ≡ Some x
slot_says None x h = absurd (false≢true h)
slot_says (Some y) x h = ap Some (eqb-true y x h)

module _ (F : Facts) where
  pub below-then : {a b c : ℕ} → IsBelow F a b → IsBelow F b c → IsBelow F a c
  below-then same k = k
  below-then (through direct rest) k = through direct (below-then rest k)

  pub strictly-below : {a b : ℕ} → IsStrictSubclass F a b → IsBelow F a b
  strictly-below s = through s.direct s.rest

  pub strictly-then : {a b c : ℕ} → IsStrictSubclass F a b → IsBelow F b c → IsStrictSubclass F a c
  strictly-then s k = record { by = s.by; direct = s.direct; rest = below-then s.rest k }

  -- at or below is equal or strictly below
  pub below_cases : {a b : ℕ} → IsBelow F a b → (a ≡ b) ⊎ IsStrictSubclass F a b
  below_cases same = inl refl
  below_cases (through {c = c} direct rest) = inr (record { by = c; direct = direct; rest = rest })

  pub below-both : IsAcyclic F → {a b : ℕ} → IsBelow F a b → IsBelow F b a → a ≡ b
  below-both acyclic {a} {b} h k = ⊎_elim (λ e. e) (λ s. absurd (acyclic a (strictly-then s k))) (below_cases h)

  pub reaches-below : (n a b : ℕ) → reaches F n a b ≡ true → IsBelow F a b
  reaches-below zero a b h = subst (λ x. IsBelow F a x) (eqb-true a b h) same
  reaches-below (suc n) a b h =
      ⊎_elim
      (λ e. subst (λ x. IsBelow F a x) (eqb-true a b e) same)
      (λ any. let found = Any-from_list_any (λ c. reaches F n c.0 b) (supers_of F a) any in
      through {c = found.1} (found.0, found.2, found.3) (reaches-below n found.1.0 b found.4))
      (or_cases (eqb a b) (list_any (λ c. reaches F n c.0 b) (supers_of F a)) h)

  -- only a class of the list has something above it
  supers-within : (a : ℕ) (c : ClassId) → Contains (supers_of F a) c → a < length F.classes.items
  supers-within a c h = ⊎_elim (λ lt. lt) (λ past. absurd (none past)) (cases_lt a (length F.classes.items))
    where
      none : length F.classes.items ≤ a → ⊥
      none past = let e = slice_get_past F.classes.items a past in let lt : h.0 < 0 = rw e at h.1 in omega (arith, lt)

  pub parent-super : (a : ℕ) (p : ClassId) → parent_of F a ≡ Some p → Contains (supers_of F a) p
  parent-super a p e = rw e (0, omega arith, refl)

  -- classes passed on the way up to one: different ones, each strictly below it
  record ArePassed (seen : List ℕ) (a : ℕ) : Type 0 where
    distinct : IsDistinct eqb seen
    each : AllByRecursion (λ q. (q < length F.classes.items) × IsStrictSubclass F q a) seen

  up : (a : ℕ) (c : ClassId) (seen : List ℕ) → Contains (supers_of F a) c → AllByRecursion (λ q. (q < length F.classes.items) × IsStrictSubclass F q a)
      seen → AllByRecursion (λ q. (q < length F.classes.items) × IsStrictSubclass F q c.0) seen
  up a c [] direct h = tt
  up a c (q ∷ seen) direct h = ((h.0.0, strictly-then h.0.1 (through direct same)), up a c seen direct h.1)

  apart : IsAcyclic F → (a : ℕ) (seen : List ℕ) → AllByRecursion (λ q. (q < length F.classes.items) × IsStrictSubclass F q a) seen
      → AllByRecursion (λ y. eqb a y ≡ false) seen
  apart acyclic a [] h = tt
  apart acyclic a (q ∷ seen) h = (ne_eqb a q (λ e. acyclic a (subst (λ x. IsStrictSubclass F x a) (sym e) h.0.1)), apart acyclic a seen h.1)

  passed_more : IsAcyclic F → {a : ℕ} {c : ClassId} (seen : List ℕ) → Contains (supers_of F a) c → ArePassed seen a → ArePassed (a ∷ seen) c.0
  passed_more acyclic {a} {c} seen direct h = record {
    distinct = IsDistinct-cons eqb a seen (apart acyclic a seen h.each) h.distinct;
    each = ((supers-within a c direct, record { by = c; direct = direct; rest = same }), up a c seen direct h.each);
  }

  within : (a : ℕ) (seen : List ℕ) → AllByRecursion (λ q. (q < length F.classes.items) × IsStrictSubclass F q a) seen → (q : ℕ)
      → list_any (eqb q) seen ≡ true → q < length F.classes.items
  within a [] h q e = absurd (false≢true e)
  within a (x ∷ seen) h q e = ⊎_elim (λ one. subst (λ y. y < length F.classes.items) (sym (eqb-true q x one)) h.0.0)
      (λ more. within a seen h.1 q more) (or_cases (eqb q x) (list_any (eqb q) seen) e)

  passed-le : {a : ℕ} (seen : List ℕ) → ArePassed seen a → length seen ≤ length F.classes.items
  passed-le {a} seen h = length-le_from_distinct_below seen (length F.classes.items) h.distinct (within a seen h.each)

  start : (a : ℕ) → ArePassed [] a
  unfolding IsDistinct
  start a = record { distinct = tt; each = tt }

  reaches-all : IsAcyclic F → (n : ℕ) (seen : List ℕ) {a b : ℕ} → IsBelow F a b → n + length seen ≡ length F.classes.items → ArePassed seen a
      → reaches F n a b ≡ true
  reaches-all acyclic zero seen {a} same e h = eq-eqb a a refl
  reaches-all acyclic (suc n) seen {a} same e h = or_left (eqb a a) (list_any (λ c. reaches F n c.0 a) (supers_of F a)) (eq-eqb a a refl)
  reaches-all acyclic zero seen (through direct rest) e h = absurd (omega (arith, passed-le (_ ∷ seen) (passed_more acyclic seen direct h)))
  reaches-all acyclic (suc n) seen {a} {b} (through {c = c} direct rest) e h =
      or_right (eqb a b) (list_any (λ c. reaches F n c.0 b) (supers_of F a))
      (list_any-from_Any (λ c. reaches F n c.0 b) (supers_of F a)
      (direct.0, c, direct.1, direct.2, reaches-all acyclic n (a ∷ seen) rest (omega arith) (passed_more acyclic seen direct h)))

  -- the test is the relation
  pub below-exact : IsAcyclic F → (a b : ℕ) → (below F a b ≡ true → IsBelow F a b) × (IsBelow F a b → below F a b ≡ true)
  below-exact acyclic a b = (
    λ h. reaches-below (length F.classes.items) a b h,
    λ h. reaches-all acyclic (length F.classes.items) [] h (omega arith) (start a),
  )

  found_up : (n a x d : ℕ) (o : Option ℕ) (p : Option ClassId) → own_body F a x ≡ o → parent_of F a ≡ p
      → ((p : ClassId) → finds_within F n p.0 x ≡ Some d → IsBodyFound F p.0 x d) → or_else o (option_and_then (λ p. finds_within F n p.0 x) p)
      ≡ Some d → IsBodyFound F a x d
  found_up n a x d (Some y) p e f up h = own (e ∙ h)
  found_up n a x d None None e f up h = absurd (cc h)
  found_up n a x d None (Some p) e f up h = inherited e f (up p h)

  pub finds-sound : (n a x d : ℕ) → finds_within F n a x ≡ Some d → IsBodyFound F a x d
  finds-sound zero a x d h = own h
  finds-sound (suc n) a x d h = found_up n a x d (own_body F a x) (parent_of F a) refl refl (λ p. finds-sound n p.0 x d) h

  -- where a class has no body of its own, that of its superclass
  pub finds_within-up : (n a x : ℕ) (k : ClassInfo) (p : ClassId) → 0 < n → own_body F a x ≡ None → slice_get F.classes.items a ≡ Some k
      → k.parent ≡ Some p → finds_within F n a x ≡ finds_within F (n - 1) p.0 x
  finds_within-up zero a x k p lt none at e = absurd (omega (arith, lt))
  finds_within-up (suc n) a x k p lt none at e = let one : suc n - 1 ≡ n = omega arith in rw (none, at, e, one) refl

  finds-all : IsAcyclic F → (n : ℕ) (seen : List ℕ) {a x d : ℕ} → IsBodyFound F a x d → n + length seen ≡ length F.classes.items → ArePassed seen a
      → finds_within F n a x ≡ Some d
  finds-all acyclic zero seen (own e) k h = e
  finds-all acyclic (suc n) seen (own e) k h = rw e
  finds-all acyclic zero seen {a} (inherited {p = p} none e up) k h =
      absurd (omega (arith, passed-le (a ∷ seen) (passed_more acyclic seen (parent-super a p e) h)))
  finds-all acyclic (suc n) seen {a} (inherited {p = p} none e up) k h =
      rw (none, e) (finds-all acyclic n (a ∷ seen) up (omega arith) (passed_more acyclic seen (parent-super a p e) h))

  -- the look-up is the relation
  pub finds-exact : IsAcyclic F → (a x d : ℕ) → (finds F a x ≡ Some d → IsBodyFound F a x d) × (IsBodyFound F a x d → finds F a x ≡ Some d)
  finds-exact acyclic a x d = (
    λ h. finds-sound (length F.classes.items) a x d h,
    λ h. finds-all acyclic (length F.classes.items) [] h (omega arith) (start a),
  )

  -- strictly below is below and another
  pub strictly-exact : IsAcyclic F → (a b : ℕ) → (IsStrictSubclass F a b → (a ≢ b) × IsBelow F a b) × (a ≢ b → IsBelow F a b → IsStrictSubclass F a b)
  strictly-exact acyclic a b = (
    λ s. (λ e. acyclic a (subst (λ x. IsStrictSubclass F a x) (sym e) s), strictly-below s),
    λ ne h. ⊎_elim (λ e. absurd (ne e)) (λ s. s) (below_cases h),
  )

  is_def-true : (k : ColKind) → is_def k ≡ true → k ≡ Def
  is_def-true Def e = refl
  is_def-true Fld e = absurd (false≢true e)
  is_def-true Dcl e = absurd (false≢true e)
  is_def-true Is e = absurd (false≢true e)

  is_slot-true : (o : Option ℕ) (x : ℕ) → is_slot o x ≡ true → o ≡ Some x
  is_slot-true None x e = absurd (false≢true e)
  is_slot-true (Some y) x e = ap Some (eqb-true y x e)

  -- d is a body of the slot x, in the class a
  pub record IsBodyOf (a x d : ℕ) : Type 0 where
    pub below : d < length F.columns.items
    pub kind : column_kind F d ≡ Def
    pub class : column_class F d ≡ a
    pub slot : column_slot F d ≡ Some x

  pub own_body-Some : (a x d : ℕ) → own_body F a x ≡ Some d → IsBodyOf a x d
  own_body-Some a x d e =
      let k = column_at F d in
      let at = position-Some (λ c. is_body a x c) F.columns.items d (record { kind = Is; class = record { 0 = 0 }; slot = None; name = []; label = [] }) e in
      let outer = and_parts (is_def k.kind) (eqb k.class.0 a && is_slot k.slot x) at.1 in
      let inner = and_parts (eqb k.class.0 a) (is_slot k.slot x) outer.1 in
      record { below = at.0; kind = is_def-true k.kind outer.0; class = eqb-true k.class.0 a inner.0; slot = is_slot-true k.slot x inner.1 }

  -- the body found is one of the slot, at or above the class
  pub record IsFound (a x d : ℕ) : Type 0 where
    pub class : ℕ
    pub above : IsBelow F a class
    pub body : IsBodyOf class x d

  pub Finds-found : {a x d : ℕ} → IsBodyFound F a x d → IsFound a x d
  Finds-found {a} {x} {d} (own e) = record { class = a; above = same; body = own_body-Some a x d e }
  Finds-found {a} (inherited {p = p} none e up) =
      let f = Finds-found up in
      record { class = f.class; above = through (parent-super a p e) f.above; body = f.body }

  pub finds-found : (a x d : ℕ) → finds F a x ≡ Some d → IsFound a x d
  finds-found a x d e = Finds-found (finds-sound (length F.classes.items) a x d e)
