-- What is answered of a class is right: it is typed, or it breaks the rule.
use Rattle.std.proofs.Common.{◌≡◌, ◌&&◌, ℕ, zero, suc, Bool, true, false, not, List, [], ◌∷◌, Option, Some, None, ◌⊎◌, inl, inr, ⊎_elim, refl, sym, ap, ◌∙◌, subst, slice_get}
use Rattle.std.specs.Option.{option_map_or}
use Rattle.java_core.specs.Programs.{Plain, PlainMethod}
use Rattle.java_core.specs.Classes.{below, is_concrete, is_interface, has_body, nearest_declaration}
use Rattle.java_core.specs.Typing.{Offers, HasBodies, HasPublicMethods, IsTypedClass, is_public_method}
use Rattle.java_check.specs.declared.Kind.{Kind}
use Rattle.java_check.specs.declared.Kind.TheVariants.{MissingBody, NotPublic}
use Rattle.java_check.specs.Fails.{BreaksClass, no_body, not_public}
use Rattle.java_check.specs.ClassOutcome.{first_rule, below_rule, slot_rule, method_rule, first_some, class_rule}
use Rattle.java_check.proofs.Refuted.{clash}

module _ (P : Plain) (c : ℕ) where
  -- the nearest declaration has a body
  abbrev IsBodied : ℕ → Bool
  IsBodied s = option_map_or (has_body P) (nearest_declaration P c s) false

  first_cases : (con bod int own p : Bool) (k : Kind) → first_rule (con && not bod) (not int && (own && not p)) ≡ Some k
      → ((con ≡ true) × (bod ≡ false) × (k ≡ MissingBody)) ⊎ ((int ≡ false) × (own ≡ true) × (p ≡ false) × (k ≡ NotPublic))
  first_cases true false int own p k e = inl (refl, refl, cc e)
  first_cases true true true own p k e = cc e
  first_cases true true false true true k e = cc e
  first_cases true true false true false k e = inr (refl, refl, refl, cc e)
  first_cases true true false false p k e = cc e
  first_cases false bod true own p k e = cc e
  first_cases false bod false true true k e = cc e
  first_cases false bod false true false k e = inr (refl, refl, refl, cc e)
  first_cases false bod false false p k e = cc e

  first_none : (con bod int own p : Bool) → first_rule (con && not bod) (not int && (own && not p)) ≡ None → (con ≡ true → bod ≡ true)
      × (int ≡ false → own ≡ true → p ≡ true)
  first_none true false int own p e = cc e
  first_none true true true own p e = (λ h. refl, λ h. cc h)
  first_none true true false true true e = (λ h. refl, λ h k. refl)
  first_none true true false true false e = cc e
  first_none true true false false p e = (λ h. refl, λ h k. cc k)
  first_none false bod true own p e = (λ h. cc h, λ h. cc h)
  first_none false bod false true true e = (λ h. cc h, λ h k. refl)
  first_none false bod false true false e = cc e
  first_none false bod false false p e = (λ h. cc h, λ h k. cc k)

  broken : (m : ℕ) (k : PlainMethod) (r : Kind) → slice_get P.methods m ≡ Some k → (o : Option ℕ) → k.slot ≡ o → (b : Bool) → below P c k.owner ≡ b
      → slot_rule P c k.owner o ≡ Some r → BreaksClass P c r
  broken m k r at None e b h rule = absurd (cc rule)
  broken m k r at (Some s) e false h rule = absurd (let f : below_rule P c k.owner s false ≡ Some r = sym (ap (below_rule P c k.owner s) h) ∙ rule in cc f)
  broken m k r at (Some s) e true h rule =
      let f : below_rule P c k.owner s true ≡ Some r = sym (ap (below_rule P c k.owner s) h) ∙ rule in
      let o : Offers P c s m = record { method = k; stands = at; slot = e; above = h } in
      ⊎_elim
      (λ (x : _). subst (BreaksClass P c) (sym x.2) (no_body x.0 o x.1))
      (λ (x : _). subst (BreaksClass P c) (sym x.3) (not_public x.0 o x.1 x.2))
      (first_cases (is_concrete P c) (IsBodied s) (is_interface P c) (is_interface P k.owner) (is_public_method P (nearest_declaration P c s)) r f)

  fine : (k : PlainMethod) (s : ℕ) → method_rule P c k ≡ None → k.slot ≡ Some s → below P c k.owner ≡ true
      → (is_concrete P c ≡ true → IsBodied s ≡ true) × (is_interface P c ≡ false → is_interface P k.owner ≡ true
      → is_public_method P (nearest_declaration P c s) ≡ true)
  fine k s rule e h =
      let f : below_rule P c k.owner s true ≡ None = sym (ap (slot_rule P c k.owner) e ∙ ap (below_rule P c k.owner s) h) ∙ rule in
      first_none (is_concrete P c) (IsBodied s) (is_interface P c) (is_interface P k.owner) (is_public_method P (nearest_declaration P c s)) f

  some_rule : (a b : Option Kind) (r : Kind) → first_some a b ≡ Some r → (a ≡ Some r) ⊎ (b ≡ Some r)
  some_rule (Some k) b r e = inl e
  some_rule None b r e = inr e

  no_rule : (a b : Option Kind) → first_some a b ≡ None → (a ≡ None) × (b ≡ None)
  no_rule (Some k) b e = cc e
  no_rule None b e = (refl, e)

  listed : (ks : List PlainMethod) (r : Kind) → class_rule P c ks ≡ Some r → (m : ℕ) × (k : PlainMethod) × (slice_get ks m ≡ Some k)
      × (method_rule P c k ≡ Some r)
  listed [] r e = absurd (cc e)
  listed (k ∷ ks) r e = ⊎_elim (λ (h : _). (zero, k, refl, h)) (λ (h : _). let x = listed ks r h in (suc x.0, x.1, x.2, x.3))
      (some_rule (method_rule P c k) (class_rule P c ks) r e)

  none_listed : (ks : List PlainMethod) → class_rule P c ks ≡ None → (m : ℕ) (k : PlainMethod) → slice_get ks m ≡ Some k → method_rule P c k ≡ None
  none_listed [] e m k at = absurd (cc at)
  none_listed (x ∷ ks) e zero k at = let same : x ≡ k = cc at in ap (method_rule P c) (sym same) ∙ (no_rule (method_rule P c x) (class_rule P c ks) e).0
  none_listed (x ∷ ks) e (suc m) k at = none_listed ks (no_rule (method_rule P c x) (class_rule P c ks) e).1 m k at

  pub class_broken : (r : Kind) → class_rule P c P.methods ≡ Some r → BreaksClass P c r
  class_broken r e = let x = listed P.methods r e in broken x.0 x.1 r x.2 x.1.slot refl (below P c x.1.owner) refl x.3

  found_body : (o : Option ℕ) → option_map_or (has_body P) o false ≡ true → (d : ℕ) × (o ≡ Some d) × (has_body P d ≡ true)
  found_body None e = cc e
  found_body (Some d) e = (d, refl, e)

  pub class_typed : class_rule P c P.methods ≡ None → IsTypedClass P c
  unfolding HasBodies HasPublicMethods
  class_typed e =
      let each = none_listed P.methods e in
      record {
        bodies = λ concrete s m o. found_body (nearest_declaration P c s) ((fine o.method s (each m o.method o.stands) o.slot o.above).0 concrete);
        public_methods = λ face s m o own. (fine o.method s (each m o.method o.stands) o.slot o.above).1 face own;
      }

  lost_body : (o : Option ℕ) → option_map_or (has_body P) o false ≡ false → (d : ℕ) → o ≡ Some d → has_body P d ≡ true → ⊥
  lost_body o f d e h = clash (ap (λ o. option_map_or (has_body P) o false) e ∙ h) f

  pub breaks_untyped_class : {r : Kind} → BreaksClass P c r → IsTypedClass P c → ⊥
  unfolding HasBodies HasPublicMethods
  breaks_untyped_class (no_body {s = s} {m = m} concrete o f) h = let d = h.bodies concrete s m o in lost_body (nearest_declaration P c s) f d.0 d.1 d.2
  breaks_untyped_class (not_public {s = s} {m = m} face o own f) h = clash (h.public_methods face s m o own) f
