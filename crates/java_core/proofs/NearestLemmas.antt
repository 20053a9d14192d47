-- What is found by a number of a name is what is found by going upwards.
use Rattle.std.proofs.Common.{◌≡◌, ℕ, zero, suc, ◌≤◌, ◌⊎◌, Bool, true, false, ◌&&◌, List, ◌∷◌, map, length, Option, Some, None, set, inl, inr, ⊎_elim, refl, sym, ap, ◌∙◌, subst, arith, []}
use Rattle.std.specs.Prelude.{◌==◌, if◌then◌else◌}
use Rattle.std.specs.List.{position, slice_get}
use Rattle.std.specs.Option.{option_and_then, option_map, is_some, IfSome}
use Rattle.std.proofs.Math.Logic.{∥∥₁_elim, ∥∥₁_map}
use Rattle.std.specs.Str.{bytes_eq}
use Rattle.std.proofs.Props.{props}
use Rattle.std.proofs.lemmas.Bool.{and_parts, eqb-true, eq-eqb, false≢true}
use Rattle.std.proofs.lemmas.Option.{slice_get-map}
use Rattle.std.proofs.lemmas.List.{length-map}
use Rattle.std.proofs.lemmas.Slice.Eq.{bytes_eq-Decides}
use Rattle.std.specs.declared.vec.Vec.{Vec}
use Rattle.std.specs.declared.alloc.Global.{Global}
use Rattle.kaba_base.specs.declared.ClassId.{ClassId}
use Rattle.kaba_versions.specs.declared.VersionMap.{VersionMap}
use Rattle.kaba_versions.specs.Held.{holds}
use Rattle.java_core.specs.declared.Class.{Class}
use Rattle.java_core.specs.Plain.{Plain, class_seen}
use Rattle.java_core.specs.Subtypes.{of_classes}
use Rattle.java_core.specs.Classes.{parent_of, first_or, nearest, nearest_of, is_slot}
use Rattle.java_core.specs.Owned.{AreOwned, owned_from, listed, passes, first_among}
use Rattle.java_core.specs.MemberKeys.{MemberKeys}
use Rattle.java_core.specs.Nearest.{superclasses, parent_at, nearest_by, IsNearestOwn, highest, lower, AreVersions, IsVersionAbove, IsSuperclassVersion, IsNearestBy, numbered_among, has_name, name_number, number_of, name_numbers}
use Rattle.java_core.proofs.Chains.{Chain, ends, goes_up, short}
use Rattle.java_core.proofs.OwnedLemmas.{owned-position}
use Rattle.java_core.proofs.Positions.{position-passes, position-map, passes-position}
use Rattle.java_core.proofs.Subclasses.{nearest-here}

-- ---- along the superclasses

or_none : (o : Option ℕ) → first_or o None ≡ o
or_none None = refl
or_none (Some y) = refl

module _ (parents : List (Option ClassId)) where
  first-same : {f g : ℕ → Option ℕ} → ((k : ℕ) → f k ≡ g k) → {c : ℕ} {r : Option ℕ} → IsNearestOwn parents f c r → IsNearestOwn parents g c r
  first-same {f} {g} e (highest {c = c} top) = subst (IsNearestOwn parents g c) (sym (e c)) (highest top)
  first-same {f} {g} e (lower {c = c} {p = p} {r = r} up rest) = subst (λ o. IsNearestOwn parents g c (first_or o r)) (sym (e c)) (lower up (first-same e rest))

  module _ (own : ℕ → Option ℕ) where
    record Steps (c : ℕ) (r : Option ℕ) : Type 0 where
      count : ℕ
      chain : Chain parents c count
      from : (n : ℕ) → count ≤ n → nearest_by parents own n c ≡ r

    steps : {c : ℕ} {r : Option ℕ} → IsNearestOwn parents own c r → Steps c r
    steps (highest {c = c} top) = record { count = 0; chain = ends top; from = λ n le. go n }
      where
        go : (n : ℕ) → nearest_by parents own n c ≡ own c
        go zero = refl
        go (suc n) = rw top (or_none (own c))
    steps (lower {c = c} {p = p} {r = r} up rest) =
        let s = steps rest in record { count = suc s.count; chain = goes_up up s.chain; from = λ n le. go s n le }
      where
        go : (s : Steps p.0 r) (n : ℕ) → suc s.count ≤ n → nearest_by parents own n c ≡ first_or (own c) r
        go s zero le = absurd (omega (arith, le))
        go s (suc n) le = rw (up, s.from n (omega (arith, le))) refl

    first-nearest : {c : ℕ} {r : Option ℕ} → IsNearestOwn parents own c r → nearest_by parents own (length parents) c ≡ r
    first-nearest h = let s = steps h in s.from (length parents) (short parents s.chain)

    -- where no class has anything, nothing is nearest
    nowhere : ((k : ℕ) → own k ≡ None) → (n c : ℕ) → nearest_by parents own n c ≡ None
    nowhere e zero c = e c
    nowhere e (suc n) c = rw (e c) (up n (parent_at parents c) (λ k. nowhere e n k))
      where
        up : (n : ℕ) (o : Option ClassId) → ((k : ℕ) → nearest_by parents own n k ≡ None) → option_and_then (λ p. nearest_by parents own n p.0) o ≡ None
        up n None h = refl
        up n (Some p) h = h p.0

    -- where a class has nothing of its own, what is first from its superclass is nearest
    first-above : (f : ℕ → Option ℕ) → ((k : ℕ) → f k ≡ own k) → (c : ℕ) (p : ClassId) (r : Option ℕ) → own c ≡ None → parent_at parents c ≡ Some p
        → ∥ IsNearestOwn parents f p.0 r ∥₁ → nearest_by parents own (length parents) c ≡ r
    first-above f e c p r here up h =
        ∥∥₁_elim h (hlevel props) (λ h. first-nearest (subst (λ o. IsNearestOwn parents own c (first_or o r)) here (lower up (first-same e h))))

-- what a program has nearest is what its list of superclasses has
module _ (classes : List Class) where
  superclass-seen : (c : ℕ) → parent_at (superclasses classes) c ≡ parent_of (of_classes (map class_seen classes)) c
  superclass-seen c = ap (option_and_then (λ o. o)) (slice_get-map (λ k. k.parent) classes c) ∙ go (slice_get classes c)
      ∙ ap (option_and_then (λ k. k.parent)) (sym (slice_get-map class_seen classes c))
    where
      go : (o : Option Class) → option_and_then (λ o. o) (option_map (λ k. k.parent) o) ≡ option_and_then (λ k. k.parent) (option_map class_seen o)
      go None = refl
      go (Some k) = refl

  pub nearest-seen : (P : Plain) → P.classes ≡ map class_seen classes → (own : ℕ → Option ℕ) (n c : ℕ)
      → nearest_by (superclasses classes) own n c ≡ nearest P own n c
  nearest-seen P is own zero c = refl
  nearest-seen P is own (suc n) c =
      ap (λ o. first_or (own c) (option_and_then (λ p. nearest_by (superclasses classes) own n p.0) o))
      (superclass-seen c ∙ ap (λ ks. option_and_then (λ k. k.parent) (slice_get ks c)) (sym is))
      ∙ ap (first_or (own c)) (up (parent_of P c) (λ k. nearest-seen P is own n k))
    where
      up : (o : Option ClassId) → ((k : ℕ) → nearest_by (superclasses classes) own n k ≡ nearest P own n k)
          → option_and_then (λ p. nearest_by (superclasses classes) own n p.0) o ≡ option_and_then (λ p. nearest P own n p.0) o
      up None h = refl
      up (Some p) h = h p.0

  nearest-told : (P : Plain) → P.classes ≡ map class_seen classes → (parents : List (Option ClassId)) → parents ≡ superclasses classes
      → (own : ℕ → Option ℕ) (c : ℕ) (r : Option ℕ) → IsNearestBy parents own c r → own c ≡ None → r ≡ nearest_of P own c
  nearest-told P is parents up own c r h here =
      sym (h here) ∙ ap (λ ps. nearest_by ps own (length ps) c) up
      ∙ ap (λ n. nearest_by (superclasses classes) own n c)
      (length-map classes (λ k. k.parent) ∙ sym (length-map classes class_seen) ∙ ap length (sym is))
      ∙ nearest-seen P is own (length P.classes) c

  -- the same where it is told of whatever finds what the classes themselves have, by a test of the members as they are seen
  pub told-nearest : (P : Plain) → P.classes ≡ map class_seen classes → (parents : List (Option ClassId)) → parents ≡ superclasses classes
      → {A B : Type 0} (view : A → B) (test : ℕ → B → Bool) (members shown : List A) → shown ≡ members
      → (own : ℕ → Option ℕ) → ((k : ℕ) → position (test k) (map view members) ≡ own k) → (c : ℕ) (o : Option (Option ℕ))
      → IfSome o (λ r. (f : ℕ → Option ℕ) → ((k : ℕ) → position (λ a. test k (view a)) shown ≡ f k) → IsNearestBy parents f c r)
      → IfSome o (λ r. own c ≡ None → r ≡ nearest_of P own c)
  told-nearest P is parents up view test members shown all own same c None h = tt
  told-nearest P is parents up view test members shown all own same c (Some r) h = nearest-told P is parents up own c r
      (h own (λ k. ap (position (λ a. test k (view a))) all ∙ sym (position-map view (test k) members) ∙ same k))

module _ (P : Plain) (own : ℕ → Option ℕ) where
  -- what a class itself has is nearest
  pub own-nearest : {D : Type 0} (number : D → ℕ) (n c : ℕ) (o : Option D) → is_some o ≡ true → option_map number o ≡ own c
      → option_map number o ≡ nearest P own n c
  own-nearest number n c None some e = absurd (cc some)
  own-nearest number n c (Some d) some e = sym (nearest-here P own n c (number d) (sym e))

  pub nothing-own : {D : Type 0} (number : D → ℕ) (c : ℕ) (o : Option D) → is_some o ≡ false → option_map number o ≡ own c → own c ≡ None
  nothing-own number c None none e = sym e
  nothing-own number c (Some d) none e = absurd (cc none)

-- ---- one version more

set_cases : {A : Type 0} (xs : List A) (i c : ℕ) (y z : A) → slice_get (set xs i y) c ≡ Some z → ((c ≡ i) × (z ≡ y)) ⊎ (slice_get xs c ≡ Some z)
set_cases [] i c y z e = inr e
set_cases (x ∷ xs) zero zero y z e = inl (refl, cc e)
set_cases (x ∷ xs) zero (suc c) y z e = inr e
set_cases (x ∷ xs) (suc i) zero y z e = inr e
set_cases (x ∷ xs) (suc i) (suc c) y z e = ⊎_elim (λ h. inl (ap suc h.0, h.1)) (λ h. inr h) (set_cases xs i c y z e)

module _ (parents : List (Option ClassId)) (numbers : List (Option ℕ)) (own : List (Vec ℕ Global)) (all : List (Option VersionMap))
    (v : AreVersions parents numbers own all) (at : ℕ) (map : VersionMap) (h : ℕ → Option ℕ)
    (is : (i : ℕ) → holds map i ≡ first_or (numbered_among numbers i (listed own at)) (h i)) where
  first-entered : (o : Option ClassId) → parent_at parents at ≡ o → IsVersionAbove all o h → (i : ℕ)
      → ∥ IsNearestOwn parents (λ k. numbered_among numbers i (listed own k)) at (holds map i) ∥₁
  first-entered None e above i =
      let f : ℕ → Option ℕ = λ k. numbered_among numbers i (listed own k) in
      ∣ subst (IsNearestOwn parents f at) (sym (is i ∙ ap (first_or (f at)) (above i) ∙ or_none (f at))) (highest e) ∣₁
  first-entered (Some p) e above i =
      let f : ℕ → Option ℕ = λ k. numbered_among numbers i (listed own k) in
      ∥∥₁_map (v.each p.0 above.of above.stands i)
      (λ g. subst (IsNearestOwn parents f at) (sym (is i ∙ ap (first_or (f at)) (above.same i))) (lower e g))

  pub versions-entered : IsVersionAbove all (parent_at parents at) h → AreVersions parents numbers own (set all at (Some map))
  versions-entered above = record {
    each = λ c m e i. ⊎_elim
        (λ same. subst (λ z. ∥ IsNearestOwn parents (λ k. numbered_among numbers i (listed own k)) z (holds m i) ∥₁) (sym same.0)
        (subst (λ w. ∥ IsNearestOwn parents (λ k. numbered_among numbers i (listed own k)) at (holds w i) ∥₁) (sym (some-one same.1))
        (first-entered (parent_at parents at) refl above i)))
        (λ old. v.each c m old i) (set_cases all at c (Some map) (Some m) e);
  }
    where
      some-one : {m w : VersionMap} → ◌≡◌ {A = Option VersionMap} (Some m) (Some w) → m ≡ w
      some-one e = cc e

-- ---- numbers of names

first_among-map : {A B : Type 0} (v : A → B) (p : B → Bool) (xs : List A) (ks : List ℕ) → first_among p (map v xs) ks ≡ first_among (λ a. p (v a)) xs ks
first_among-map v p xs [] = refl
first_among-map {A} {B} v p xs (k ∷ ks) = rw (ap (passes p) (slice_get-map v xs k) ∙ seen (slice_get xs k), first_among-map v p xs ks) refl
  where
    seen : (o : Option A) → passes p (option_map v o) ≡ passes (λ a. p (v a)) o
    seen None = refl
    seen (Some a) = refl

first_among-same : {A : Type 0} (p q : A → Bool) → ((a : A) → p a ≡ q a) → (xs : List A) (ks : List ℕ) → first_among p xs ks ≡ first_among q xs ks
first_among-same p q e xs [] = refl
first_among-same {A} p q e xs (k ∷ ks) = rw (seen (slice_get xs k), first_among-same p q e xs ks) refl
  where
    seen : (o : Option A) → passes p o ≡ passes q o
    seen None = refl
    seen (Some a) = e a

-- what is found by the number of a name
module _ {A : Type 0} (keys : A → MemberKeys) (xs : List A) where
  abbrev owner : A → ℕ
  owner a = (keys a).owner

  -- a member has the number of a name where it has the name
  numbered : (x : List ℕ) (i : ℕ) → name_number keys xs x ≡ Some i → (a : A) → is_slot (number_of keys xs a) i ≡ has_name keys x a
  numbered x i e a = by_count (keys a).is_inherited
    where
      other : (b : Bool) → bytes_eq (keys a).name x ≡ b → (o : Option ℕ) → name_number keys xs (keys a).name ≡ o → is_slot o i ≡ b
      other true h o k = let same = (bytes_eq-Decides (keys a).name x).0 h in rw (sym k ∙ ap (name_number keys xs) same ∙ e) (eq-eqb i i refl)
      other false h None k = refl
      other false h (Some j) k = by_number (j == i) refl
        where
          by_number : (b : Bool) → (j == i) ≡ b → b ≡ false
          by_number false g = refl
          by_number true g =
              let mine = position-passes (λ y. has_name keys (keys a).name y) xs i (k ∙ ap Some (eqb-true j i g)) in
              let its = position-passes (λ y. has_name keys x y) xs i e in
              let y : mine.0 ≡ its.0 = cc (mine.1, its.1) in
              let m = (bytes_eq-Decides (keys mine.0).name (keys a).name).0
              (and_parts ((keys mine.0).is_inherited) (bytes_eq (keys mine.0).name (keys a).name) mine.2).1 in
              let t = (bytes_eq-Decides (keys its.0).name x).0 (and_parts ((keys its.0).is_inherited) (bytes_eq (keys its.0).name x) its.2).1 in
              absurd (false≢true (sym h ∙ (bytes_eq-Decides (keys a).name x).1 (sym m ∙ ap (λ z. (keys z).name) y ∙ t)))

      by_count : (b : Bool) → is_slot (if b then name_number keys xs (keys a).name else None) i ≡ (b && bytes_eq (keys a).name x)
      by_count false = refl
      by_count true = other (bytes_eq (keys a).name x) refl (name_number keys xs (keys a).name) refl

  -- what a class itself has under the number of a name is the member of the name that it declares
  pub own-numbered : (x : List ℕ) (i : ℕ) → name_number keys xs x ≡ Some i → (c : ℕ)
      → first_among (λ o. is_slot o i) (name_numbers keys xs) (owned_from 0 c (map owner xs)) ≡ position (λ a. (owner a == c) && has_name keys x a) xs
  own-numbered x i e c =
      first_among-map (number_of keys xs) (λ o. is_slot o i) xs (owned_from 0 c (map owner xs))
      ∙ first_among-same (λ a. is_slot (number_of keys xs a) i) (has_name keys x) (numbered x i e) xs (owned_from 0 c (map owner xs))
      ∙ owned-position owner (has_name keys x) c xs

  -- no class has a member of a name without a number
  pub unnumbered : (x : List ℕ) → name_number keys xs x ≡ None → (c : ℕ) → position (λ a. (owner a == c) && has_name keys x a) xs ≡ None
  unnumbered x e c = go (position (λ a. (owner a == c) && has_name keys x a) xs) refl
    where
      go : (o : Option ℕ) → position (λ a. (owner a == c) && has_name keys x a) xs ≡ o → o ≡ None
      go None h = refl
      go (Some j) h =
          let f = position-passes (λ a. (owner a == c) && has_name keys x a) xs j h in
          let g = passes-position (λ a. has_name keys x a) xs j f.0 f.1 (and_parts (owner f.0 == c) (has_name keys x f.0) f.2).1 in
          absurd (cc (e, g.1))

  -- what the version of the superclass has under the number of a name is nearest, where a class has nothing of its own
  pub numbered-nearest : (parents : List (Option ClassId)) (lists : List (Vec ℕ Global)) → AreOwned (map owner xs) lists
      → (all : List (Option VersionMap)) → AreVersions parents (name_numbers keys xs) lists all → (c : ℕ) (m : VersionMap) → IsSuperclassVersion parents all c m
      → (x : List ℕ) (o : Option ℕ) → o ≡ name_number keys xs x → (own : ℕ → Option ℕ)
      → ((k : ℕ) → position (λ a. (owner a == k) && has_name keys x a) xs ≡ own k)
      → IsNearestBy parents own c (option_and_then (holds m) o)
  numbered-nearest parents lists owned all v c m a x None e own is here = nowhere parents own (λ k. sym (is k) ∙ unnumbered x (sym e) k) (length parents) c
  numbered-nearest parents lists owned all v c m a x (Some i) e own is here =
      first-above parents own (λ k. numbered_among (name_numbers keys xs) i (listed lists k))
      (λ k. ap (numbered_among (name_numbers keys xs) i) (owned.exact k) ∙ own-numbered x i (sym e) k ∙ is k)
      c a.by (holds m i) here a.parent (v.each a.by.0 m a.stands i)
