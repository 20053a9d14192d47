-- The body that is found is the nearest: each other of the slot at or above the class belongs to a class at or above its own.
use Rattle.std.proofs.Common.{◌≡◌, ◌≢◌, ℕ, suc, zero, ◌<◌, ◌≤◌, ◌+◌, Bool, true, false, List, [], ◌∷◌, length, get_or, Option, Some, None, refl, sym, ◌∙◌, subst, ⊎_elim, inr, nat_lt, arith}
use Rattle.std.specs.List.{position, position_or_len}
use Rattle.std.proofs.lemmas.Bool.{cases_Bool, lt-ltb, eq-eqb}
use Rattle.kaba_base.specs.declared.ClassId.{ClassId}
use Rattle.fact_model.specs.Items.{column_class}
use Rattle.fact_model.specs.Classes.{parent_of, IsBelow, same, through, IsStrictSubclass, is_interface, is_body, own_body, IsBodyFound, own, inherited, finds}
use Rattle.std.proofs.lemmas.List.Elements.{All-get_or}
use Rattle.fact_model.specs.InRange.{InRange, IsClass}
use Rattle.fact_model.specs.InOrder.{InOrder}
use Rattle.fact_model.specs.Closures.{IsPlainClass}
use Rattle.fact_model.specs.declared.facts.Facts.{Facts}
use Rattle.fact_model.specs.declared.facts.ColKind.TheVariants.{Is}
use Rattle.std.proofs.lemmas.Option.{slice_get_within, get_or_from_slice_get}
use Rattle.std.specs.Prelude.{slice_get, option_and_then, All, IfSome}
use Rattle.std.proofs.lemmas.List.Elements.{All-contains}
use Rattle.fact_model.specs.declared.facts.ClassInfo.{ClassInfo}
use Rattle.fact_model.proofs.ClassLemmas.{below_cases, parent-super, finds-exact, finds-found, Finds-found, IsBodyOf, own_body-Some}
use Rattle.fact_model.proofs.ChainLemmas.{above_interface, direct_cases}

-- the first place that passes is not after one that does
first_at_most : {X : Type 0} (p : X → Bool) (xs : List X) (i : ℕ) (d : X) → i < length xs → p (get_or xs i d) ≡ true → position_or_len p xs ≤ i
first_at_most p [] i d lt h = absurd (omega (arith, lt))
first_at_most p (x ∷ xs) zero d lt h = let e : position_or_len p (x ∷ xs) ≡ 0 = rw h refl in omega (arith, e)
first_at_most p (x ∷ xs) (suc i) d lt h =
    ⊎_elim
    (λ y. let e : position_or_len p (x ∷ xs) ≡ 0 = rw y refl in omega (arith, e))
    (λ n. let e : position_or_len p (x ∷ xs) ≡ 1 + position_or_len p xs = rw n refl in omega (arith, e, first_at_most p xs i d (omega (arith, lt)) h))
    (cases_Bool (p x))

passes_somewhere : {X : Type 0} (p : X → Bool) (xs : List X) (i : ℕ) (d : X) → i < length xs → p (get_or xs i d) ≡ true → position p xs ≡ None → ⊥
passes_somewhere p xs i d lt h none =
    let le = first_at_most p xs i d lt h in
    let here : nat_lt (position_or_len p xs) (length xs) ≡ true = lt-ltb (position_or_len p xs) (length xs) (omega (arith, le, lt)) in
    let some : position p xs ≡ Some (position_or_len p xs) = rw here refl in
    cc (some, none)

module _ (F : Facts) (R : InRange F) (O : InOrder F) where
  -- a class with a body of the slot finds one of its own
  own_there : (x e : ℕ) → IsBodyOf F (column_class F e) x e → own_body F (column_class F e) x ≡ None → ⊥
  own_there x e b none =
      passes_somewhere (λ k. is_body (column_class F e) x k) F.columns.items e
      (record { kind = Is; class = record { 0 = 0 }; slot = None; name = []; label = [] }) b.below
      (rw (b.kind, b.slot, eq-eqb (column_class F e) (column_class F e) refl, eq-eqb x x refl) refl)
      none

  -- what is strictly above a class is at or above its superclass, where it is a class
  pub above_parent : (a b : ℕ) (p : ClassId) → IsPlainClass F b → is_interface F p.0 ≡ false → p.0 < length F.classes.items → parent_of F a ≡ Some p
      → IsStrictSubclass F a b → IsBelow F p.0 b
  above_parent a b p k plain lt up s =
      ⊎_elim
      (λ e. let same : s.by ≡ p = cc (e, up) in subst (λ y. IsBelow F y.0 b) same s.rest)
      (λ i. subst (λ y. IsBelow F p.0 y) (sym (above_interface F O s.by.0 b i k s.rest)) (O.classes.top p.0 lt))
      (direct_cases F O a s.by s.direct)

  plain_body : {a x d : ℕ} → IsBodyOf F a x d → is_interface F a ≡ false
  plain_body {d = d} b = subst (λ k. is_interface F k ≡ false) b.class (O.classes.fields d b.below (inr b.kind))

  class_below : (e : ℕ) → e < length F.columns.items → column_class F e < length F.classes.items
  class_below e lt = All-get_or (λ c. IsClass F c.class) F.columns.items e
      (record { kind = Is; class = record { 0 = 0 }; slot = None; name = []; label = [] }) lt R.columns

  -- the class of a body is a class
  pub plain_class : (x e : ℕ) → IsBodyOf F (column_class F e) x e → IsPlainClass F (column_class F e)
  plain_class x e b = record { below = class_below e b.below; kind = plain_body b }

  parent_below : (a : ℕ) (p : ClassId) → parent_of F a ≡ Some p → p.0 < length F.classes.items
  parent_below a p e =
      from (slice_get F.classes.items a) refl e
    where
      from : (o : Option ClassInfo) → slice_get F.classes.items a ≡ o → option_and_then (λ (k : ClassInfo). k.parent) o ≡ Some p → p.0 < length F.classes.items
      from None at e = absurd (cc e)
      from (Some k) at e =
          let all = All-contains (λ k. IfSome k.parent (IsClass F) × All (IsClass F) k.faces.items) F.classes.items k R.classes
          (a, slice_get_within F.classes.items a k at, get_or_from_slice_get F.classes.items a k k at) in
          subst (λ o. IfSome o (IsClass F)) e all.0

  nearest : {a x d : ℕ} → IsBodyFound F a x d → is_interface F a ≡ false → (e : ℕ) → IsBodyOf F (column_class F e) x e → IsBelow F a (column_class F e)
      → IsBelow F (column_class F d) (column_class F e)
  nearest {a} {x} {d} (own h) plain e b up = subst (λ k. IsBelow F k (column_class F e)) (sym (own_body-Some F a x d h).class) up
  nearest {a} {x} {d} (inherited {p = p} none above rest) plain e b up =
      ⊎_elim
      (λ here. absurd (own_there x e b (subst (λ k. own_body F k x ≡ None) here none)))
      (λ s.
      let higher : is_interface F p.0 ≡ false = O.classes.parents a p plain above in
      nearest rest higher e b (above_parent a (column_class F e) p (plain_class x e b) higher (parent_below a p above) above s))
      (below_cases F up)

  -- above an interface there is only class 0
  at_interface : {a x d : ℕ} → IsBodyFound F a x d → is_interface F a ≡ true → (e : ℕ) → IsBodyOf F (column_class F e) x e → IsBelow F a (column_class F e)
      → IsBelow F (column_class F d) (column_class F e)
  at_interface {a} {x} {d} f face e b up =
      let found = Finds-found F f in
      let d_class : IsBodyOf F (column_class F d) x d = subst (λ k. IsBodyOf F k x d) (sym found.body.class) found.body in
      let d_up : IsBelow F a (column_class F d) = subst (λ k. IsBelow F a k) (sym found.body.class) found.above in
      let zero_d = above_interface F O a (column_class F d) face (plain_class x d d_class) d_up in
      let zero_e = above_interface F O a (column_class F e) face (plain_class x e b) up in
      subst (λ k. IsBelow F (column_class F d) k) (zero_d ∙ sym zero_e) same

  pub finds_nearest : (a x d : ℕ) → finds F a x ≡ Some d → (e : ℕ) → IsBodyOf F (column_class F e) x e → IsBelow F a (column_class F e)
      → IsBelow F (column_class F d) (column_class F e)
  finds_nearest a x d h e b up =
      let f = (finds-exact F O.classes.acyclic a x d).0 h in
      ⊎_elim (λ face. at_interface f face e b up) (λ plain. nearest f plain e b up) (cases_Bool (is_interface F a))

  -- the same of the body found strictly above
  pub found_above : (a x d : ℕ) (p : ClassId) → parent_of F a ≡ Some p → finds F p.0 x ≡ Some d → (e : ℕ) → IsBodyOf F (column_class F e) x e
      → IsBelow F a (column_class F e) → column_class F e ≢ a
      → IsBelow F (column_class F d) (column_class F e)
  found_above a x d p above h e b up ne =
      ⊎_elim
      (λ here. absurd (ne (sym here)))
      (λ s.
      ⊎_elim
      (λ face.
      let found = finds-found F p.0 x d h in
      let d_class : IsBodyOf F (column_class F d) x d = subst (λ k. IsBodyOf F k x d) (sym found.body.class) found.body in
      let d_up : IsBelow F a (column_class F d) = through (parent-super F a p above) (subst (λ k. IsBelow F p.0 k) (sym found.body.class) found.above) in
      let zero_d = above_interface F O a (column_class F d) face (plain_class x d d_class) d_up in
      let zero_e = above_interface F O a (column_class F e) face (plain_class x e b) up in
      subst (λ k. IsBelow F (column_class F d) k) (zero_d ∙ sym zero_e) same)
      (λ plain. finds_nearest p.0 x d h e b (above_parent a (column_class F e) p (plain_class x e b) (O.classes.parents a p plain above)
      (parent_below a p above) above s))
      (cases_Bool (is_interface F a)))
      (below_cases F up)

  -- the body found strictly above a class is not its own
  pub found_other : (a x d : ℕ) (p : ClassId) → parent_of F a ≡ Some p → finds F p.0 x ≡ Some d → column_class F d ≢ a
  found_other a x d p above h e =
      let found = finds-found F p.0 x d h in
      O.classes.acyclic a (record { by = p; direct = parent-super F a p above; rest = subst (λ k. IsBelow F p.0 k) (sym found.body.class ∙ e) found.above })
