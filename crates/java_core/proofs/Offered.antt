-- The declaration found for a name is one at or above the type, and where there is one, one is found.
use Rattle.std.proofs.Common.{◌≡◌, ℕ, suc, zero, ◌+◌, ◌-◌, ◌<◌, ◌⊎◌, ◌&&◌, Bool, true, false, not, List, [], ◌∷◌, ◌++◌, drop, drop-cons, add-one, get_or, eqb, length, Option, Some, None, Contains, refl, sym, ap, ◌∙◌, subst, arith, ⊎_elim, inl, inr, IfSome, IfNone, slice_get}
use Rattle.std.specs.Prelude.{if◌then◌else◌}
use Rattle.std.specs.List.{flat_map}
use Rattle.std.specs.Option.{option_and_then, option_map, option_to_list, is_some}
use Rattle.std.specs.Str.{bytes_eq}
use Rattle.std.proofs.lemmas.Bool.{and_parts, eqb-true, eq-eqb, false≢true}
use Rattle.std.proofs.lemmas.Slice.Eq.{bytes_eq-Decides}
use Rattle.kaba_base.specs.declared.ClassId.{ClassId}
use Rattle.kaba_base.specs.declared.MemberId.{MemberId}
use Rattle.kaba_base.proofs.ListLemmas.{contains_cases}
use Rattle.kaba_base.proofs.TestLemmas.{from_not}
use Rattle.java_core.specs.Programs.{Plain, PlainMethod}
use Rattle.java_core.specs.Classes.{parent_of, faces_of, supers_of, IsSubclass, same_class, through, below, first_or, nearest_of, is_method_of, own_method, faces_above, first_found, declaration_of, slot_of_method, slot_of}
use Rattle.java_core.specs.Found.{IsNearest, at_class, above_class, IsOffered}
use Rattle.java_core.specs.Own.{offers, offered, towards}
use Rattle.java_core.specs.Formed.{IsFormed}
use Rattle.java_core.proofs.Subclasses.{parent-super, subclass-then, subclass-below, below-subclass, nearest_of-nearest, ArePassed, passed_more, none_passed, one_left}
use Rattle.java_core.proofs.Upwards.{IsThere, super_cases, IsAbove, further, chain-above, face_interface, interface_parent, above_object, nearest-there, there-up}
use Rattle.java_core.proofs.SearchOrder.{first_found-append, declaration_of-found}
use Rattle.java_core.proofs.Positions.{position-passes, passes-position}

first_or_cases : (a b : Option ℕ) (d : ℕ) → first_or a b ≡ Some d → (a ≡ Some d) ⊎ (b ≡ Some d)
first_or_cases (Some x) b d e = inl e
first_or_cases None b d e = inr e

module _ (P : Plain) (own : ℕ → Option ℕ) where
  face-super : (c : ℕ) (k : ClassId) → Contains (faces_of P c) k → Contains (supers_of P c) k
  face-super c k h = face (parent_of P c) h
    where
      face : (p : Option ClassId) → Contains (faces_of P c) k → Contains (option_to_list p ++ faces_of P c) k
      face None h = h
      face (Some q) h = (suc h.0, omega (arith, h.1), h.2)

  in_faces : (n c d : ℕ) (xs : List ClassId) → ((k : ClassId) → Contains xs k → IsSubclass P c k.0)
      → ((k : ClassId) → first_found own (faces_above P n k.0) ≡ Some d → IsAbove P own k.0 d)
      → first_found own (flat_map (λ k. k.0 ∷ faces_above P n k.0) xs) ≡ Some d → IsAbove P own c d
  in_faces n c d [] up more e = absurd (cc e)
  in_faces n c d (k ∷ xs) up more e =
      let direct = up k (0, omega arith, refl) in
      ⊎_elim
      (λ here. ⊎_elim (λ it. record { holder = k.0; above = direct; found = it }) (λ above. further P own direct (more k above))
      (first_or_cases (own k.0) (first_found own (faces_above P n k.0)) d here))
      (λ later. in_faces n c d xs (λ j h. up j (suc h.0, omega (arith, h.1), h.2)) more later)
      (first_or_cases (first_found own (k.0 ∷ faces_above P n k.0)) (first_found own (flat_map (λ k. k.0 ∷ faces_above P n k.0) xs)) d
      (sym (first_found-append own (k.0 ∷ faces_above P n k.0) (flat_map (λ k. k.0 ∷ faces_above P n k.0) xs)) ∙ e))

  faces-above : (n c d : ℕ) → first_found own (faces_above P n c) ≡ Some d → IsAbove P own c d
  faces-above zero c d e = absurd (cc e)
  faces-above (suc n) c d e = in_faces n c d (faces_of P c) (λ k h. through (face-super c k h) same_class) (λ k. faces-above n k.0 d) e

nearest-face : (P : Plain) (own : ℕ → Option ℕ) {c d : ℕ} → IsNearest P (λ k. first_found own (faces_above P (length P.classes) k)) c d → IsAbove P own c d
nearest-face P own {c} {d} (at_class e) = faces-above P own (length P.classes) c d e
nearest-face P own {c} (above_class {p = p} none e up) = further P own (through (parent-super P c p e) same_class) (nearest-face P own up)

-- what is found for a name stands at or above the type
pub declaration-above : (P : Plain) (c : ℕ) (x : List ℕ) (m : ℕ) → declaration_of P c x ≡ Some m → IsAbove P (λ k. own_method P k x) c m
declaration-above P c x m e =
    let own = λ (k : ℕ). own_method P k x in
    let faces = λ (k : ℕ). first_found own (faces_above P (length P.classes) k) in
    ⊎_elim
    (λ near. chain-above P own (nearest_of-nearest P own near))
    (λ far. nearest-face P own (nearest_of-nearest P faces far))
    (first_or_cases (nearest_of P own c) (nearest_of P faces c) m (sym (declaration_of-found P c x) ∙ e))

or_there : (a b : Option ℕ) → IsThere b → IsThere (first_or a b)
or_there (Some x) b h = (x, refl)
or_there None b h = h

there_or : (a b : Option ℕ) → IsThere a → IsThere (first_or a b)
there_or a b (x, e) = (x, rw e)

module _ (P : Plain) (own : ℕ → Option ℕ) (formed : IsFormed P) (no_member : own 0 ≡ None) where
  none_above : {c b d : ℕ} → c ≡ 0 → IsSubclass P c b → own b ≡ Some d → ⊥
  none_above e up found = let z = above_object P formed e up in cc (no_member, z, found)

  listed : (n : ℕ) (xs : List ClassId) (k : ClassId) → Contains xs k → IsThere (first_found own (k.0 ∷ faces_above P n k.0))
      → IsThere (first_found own (flat_map (λ k. k.0 ∷ faces_above P n k.0) xs))
  listed n [] k h there = absurd (omega (arith, h.1))
  listed n (j ∷ xs) k h there =
      let rest = flat_map (λ (k : ClassId). k.0 ∷ faces_above P n k.0) xs in
      subst IsThere (sym (first_found-append own (j.0 ∷ faces_above P n j.0) rest))
      (⊎_elim
      (λ e. there_or (first_found own (j.0 ∷ faces_above P n j.0)) (first_found own rest)
      (subst (λ (i : ClassId). IsThere (first_found own (i.0 ∷ faces_above P n i.0))) (sym e) there))
      (λ later. or_there (first_found own (j.0 ∷ faces_above P n j.0)) (first_found own rest) (listed n xs k later there))
      (contains_cases j xs k h))

  face-found : (n c : ℕ) (seen : List ℕ) (k : ClassId) {b d : ℕ} → n + length seen ≡ length P.classes → ArePassed P seen c → Contains (faces_of P c) k
      → IsSubclass P k.0 b → own b ≡ Some d → IsThere (first_found own (faces_above P n c))
  face-found zero c seen k e h direct up found = absurd (one_left P formed.acyclic seen (face-super P own c k direct) h e)
  face-found (suc n) c seen k {d = d} e h direct same_class found =
      listed n (faces_of P c) k direct (there_or (own k.0) (first_found own (faces_above P n k.0)) (d, found))
  face-found (suc n) c seen k {b} e h direct (through {c = j} more up) found =
      ⊎_elim
      (λ parent. absurd (none_above (interface_parent P formed k.0 j (face_interface P formed c k direct) parent) up found))
      (λ face. listed n (faces_of P c) k direct
      (or_there (own k.0) (first_found own (faces_above P n k.0))
      (face-found n k.0 (c ∷ seen) j (omega (arith, e)) (passed_more P formed.acyclic seen (face-super P own c k direct) h) face up found)))
      (super_cases P k.0 j more)

  -- what some class at or above has is found, along the superclasses or in their interfaces
  above-found : {c b d : ℕ} → IsSubclass P c b → own b ≡ Some d → IsThere (nearest_of P own c)
      ⊎ IsThere (nearest_of P (λ k. first_found own (faces_above P (length P.classes) k)) c)
  above-found {c} {d = d} same_class found = inl (nearest-there P formed own c (d, found))
  above-found {c} (through {c = k} direct up) found =
      let faces = λ (k : ℕ). first_found own (faces_above P (length P.classes) k) in
      ⊎_elim
      (λ parent. ⊎_elim (λ h. inl (there-up P formed own c k parent h)) (λ h. inr (there-up P formed faces c k parent h)) (above-found up found))
      (λ face. inr (nearest-there P formed faces c (face-found (length P.classes) c [] k (omega arith) (none_passed P c) face up found)))
      (super_cases P c k direct)

-- a method that a class itself declares
pub record IsOwn (P : Plain) (c : ℕ) (x : List ℕ) (m : ℕ) : Type 0 where
  pub method : PlainMethod
  pub stands : slice_get P.methods m ≡ Some method
  pub owner : method.owner ≡ c
  pub instance : method.is_static ≡ false
  pub name : method.name ≡ x

pub own_method-own : (P : Plain) (c : ℕ) (x : List ℕ) (m : ℕ) → own_method P c x ≡ Some m → IsOwn P c x m
own_method-own P c x m e =
    let found = position-passes (λ k. is_method_of c x k) P.methods m e in
    let k = found.0 in
    let outer = and_parts (eqb k.owner c) (not k.is_static && bytes_eq k.name x) found.2 in
    let inner = and_parts (not k.is_static) (bytes_eq k.name x) outer.1 in
    record {
      method = k;
      stands = found.1;
      owner = eqb-true k.owner c outer.0;
      instance = from_not k.is_static inner.0;
      name =
          (bytes_eq-Decides k.name x).0 inner.1;
    }

pub own-own_method : (P : Plain) (c : ℕ) (x : List ℕ) (m : ℕ) → IsOwn P c x m → IsThere (own_method P c x)
own-own_method P c x m h =
    let k = h.method in
    let passes : is_method_of c x k ≡ true = rw (eq-eqb k.owner c h.owner, h.instance, (bytes_eq-Decides k.name x).1 h.name) refl in
    passes-position (λ k. is_method_of c x k) P.methods m k h.stands passes

-- Object has no members
no_own : (P : Plain) (x : List ℕ) → IsFormed P → own_method P 0 x ≡ None
no_own P x formed = none (own_method P 0 x) refl
  where
    none : (o : Option ℕ) → own_method P 0 x ≡ o → own_method P 0 x ≡ None
    none None e = e
    none (Some m) e = let o = own_method-own P 0 x m e in absurd ((formed.methods m o.method o.stands).no_object o.owner)

module _ (P : Plain) (formed : IsFormed P) where
  -- where a type has an instance method of the name, a declaration is found, and it has a slot
  pub offered-declared : (c : ℕ) (x : List ℕ) (s : ℕ) → IsOffered P c x s → IsThere (declaration_of P c x)
  offered-declared c x s o =
      let own = λ (k : ℕ). own_method P k x in
      let there = own-own_method P o.method.owner x o.number
      (record { method = o.method; stands = o.stands; owner = refl; instance = o.instance; name = o.name }) in
      subst IsThere (sym (declaration_of-found P c x))
      (⊎_elim
      (λ near. there_or (nearest_of P own c) (nearest_of P (λ k. first_found own (faces_above P (length P.classes) k)) c) near)
      (λ far. or_there (nearest_of P own c) (nearest_of P (λ k. first_found own (faces_above P (length P.classes) k)) c) far)
      (above-found P own formed (no_own P x formed) o.above there.1))

  pub slot_of-offered : (c : ℕ) (x : List ℕ) (s : ℕ) → slot_of P c x ≡ Some s → IsOffered P c x s
  slot_of-offered c x s e = declared (declaration_of P c x) refl e
    where
      declared : (o : Option ℕ) → declaration_of P c x ≡ o → option_and_then (slot_of_method P) o ≡ Some s → IsOffered P c x s
      declared None d e = absurd (cc e)
      declared (Some m) d e =
          let a = declaration-above P c x m d in
          let k = own_method-own P a.holder x m a.found in
          record {
            number = m;
            method = k.method;
            stands = k.stands;
            instance = k.instance;
            name = k.name;
            above = subst (λ b. IsSubclass P c b)
                (sym k.owner) a.above;
            slot = sym (rw k.stands refl) ∙ e;
          }

  pub offered-slot_of : (c : ℕ) (x : List ℕ) (s : ℕ) → IsOffered P c x s → slot_of P c x ≡ Some s
  offered-slot_of c x s o =
      let there = offered-declared c x s o in
      let m = there.0 in
      let a = declaration-above P c x m there.1 in
      let k = own_method-own P a.holder x m a.found in
      let above = subst (λ b. IsSubclass P c b) (sym k.owner) a.above in
      rw (there.1, k.stands)
      (⊎_elim
      (λ e. let same : Some k.method ≡ Some o.method = sym k.stands ∙ ap (slice_get P.methods) e ∙ o.stands in let it : k.method ≡ o.method = cc in ap
      (λ (h : PlainMethod). h.slot) it ∙ o.slot)
      (λ h. h.1 ∙ o.slot)
      (formed.one_slot c m o.number k.method o.method k.stands o.stands above o.above (k.name ∙ sym o.name)))

  pub slot_found : (c : ℕ) (x : List ℕ) (r : Option ℕ) → r ≡ slot_of P c x → IfSome r (λ s. IsOffered P c x s)
  slot_found c x None e = tt
  slot_found c x (Some s) e = slot_of-offered c x s (sym e)

  pub no_slot : (c : ℕ) (x : List ℕ) (r : Option ℕ) → r ≡ slot_of P c x → IfNone r ((s : ℕ) → IsOffered P c x s → ⊥)
  no_slot c x None e = λ s o. cc (offered-slot_of c x s o, e)
  no_slot c x (Some s) e = tt

-- ---- a method of a name at or above a type leads to the declaration

-- on the way up from c with so many steps left: what is above the type reached is what is above c
pub record IsOnWay (P : Plain) (x : List ℕ) (c at steps : ℕ) : Type 0 where
  pub same : first_found (λ k. own_method P k x) (faces_above P steps at) ≡ first_found (λ k. own_method P k x) (faces_above P (length P.classes) c)
  pub seen : List ℕ
  pub count : steps + length seen ≡ length P.classes
  pub passed : ArePassed P seen at

module _ (P : Plain) (formed : IsFormed P) (x : List ℕ) where
  abbrev own : ℕ → Option ℕ
  own k = own_method P k x

  -- the part of the search that an interface begins, and the search above a type
  abbrev part : ℕ → ClassId → Option ℕ
  part n k = first_found own (k.0 ∷ faces_above P n k.0)

  abbrev found-above : ℕ → ℕ → Option ℕ
  found-above n c = first_found own (faces_above P n c)

  offered-own : (c m : ℕ) → offered P c x ≡ Some m → (b : ℕ) × IsOwn P b x m × IsSubclass P c b
  offered-own c m e =
      let found = position-passes (λ k. offers P c x k) P.methods m e in
      let k = found.0 in
      let outer = and_parts (below P c k.owner) (not k.is_static && bytes_eq k.name x) found.2 in
      let inner = and_parts (not k.is_static) (bytes_eq k.name x) outer.1 in
      let it : IsOwn P k.owner x m = record {
        method = k;
        stands = found.1;
        owner = refl;
        instance = from_not k.is_static inner.0;
        name = (bytes_eq-Decides k.name x).0 inner.1;
      } in
      (k.owner, it, below-subclass P c k.owner outer.0)

  own-offered : (c b m : ℕ) → IsSubclass P c b → own b ≡ Some m → IsThere (offered P c x)
  own-offered c b m up e =
      let h = own_method-own P b x m e in
      let k = h.method in
      let above = subclass-below P formed.acyclic (subst (λ z. IsSubclass P c z) (sym h.owner) up) in
      let passes : offers P c x k ≡ true = rw (above, h.instance, (bytes_eq-Decides k.name x).1 h.name) refl in
      passes-position (λ k. offers P c x k) P.methods m k h.stands passes

  part-above : (n : ℕ) (k : ClassId) (d : ℕ) → part n k ≡ Some d → IsAbove P own k.0 d
  part-above n k d h = ⊎_elim (λ here. record { holder = k.0; above = same_class; found = here }) (λ above. faces-above P own n k.0 d above)
      (first_or_cases (own k.0) (found-above n k.0) d h)

  not-offered : (n : ℕ) (k : ClassId) → is_some (offered P k.0 x) ≡ false → part n k ≡ None
  not-offered n k e = none (part n k) refl
    where
      none : (o : Option ℕ) → part n k ≡ o → part n k ≡ None
      none None h = h
      none (Some d) h = let a = part-above n k d h in absurd (false≢true (sym e ∙ ap is_some (own-offered k.0 a.holder d a.above a.found).1))

  part-found : (n : ℕ) (k : ClassId) (c : ℕ) (seen : List ℕ) → Contains (faces_of P c) k → n + length seen ≡ length P.classes → ArePassed P seen k.0
      → is_some (offered P k.0 x) ≡ true → IsThere (part n k)
  part-found n k c seen direct e h there = found (offered P k.0 x) refl there
    where
      by-way : {b d : ℕ} → IsSubclass P k.0 b → own b ≡ Some d → IsThere (part n k)
      by-way {d = d} same_class f = there_or (own k.0) (found-above n k.0) (d, f)
      by-way (through {c = j} more up) f =
          ⊎_elim
          (λ parent. absurd (none_above P own formed (no_own P x formed)
          (interface_parent P formed k.0 j (face_interface P formed c k direct) parent) up f))
          (λ face. or_there (own k.0) (found-above n k.0) (face-found P own formed (no_own P x formed) n k.0 seen j e h face up f))
          (super_cases P k.0 j more)

      found : (o : Option ℕ) → offered P k.0 x ≡ o → is_some o ≡ true → IsThere (part n k)
      found None is t = absurd (false≢true t)
      found (Some m) is t = let z = offered-own k.0 m is in by-way z.2 (own-own_method P z.0 x m z.1).1

  part-append : (n : ℕ) (k : ClassId) (ks : List ClassId) → first_found own (flat_map (λ k. k.0 ∷ faces_above P n k.0) (k ∷ ks))
      ≡ first_or (part n k) (first_found own (flat_map (λ k. k.0 ∷ faces_above P n k.0) ks))
  part-append n k ks = first_found-append own (k.0 ∷ faces_above P n k.0) (flat_map (λ k. k.0 ∷ faces_above P n k.0) ks)

  none-towards : (n : ℕ) (ks : List ClassId) → towards P x ks ≡ None → first_found own (flat_map (λ k. k.0 ∷ faces_above P n k.0) ks) ≡ None
  none-towards n [] e = refl
  none-towards n (k ∷ ks) e = split (is_some (offered P k.0 x)) refl e (none-towards n ks)
    where
      split : (b : Bool) → is_some (offered P k.0 x) ≡ b → (if b then Some k else towards P x ks) ≡ None
          → (towards P x ks ≡ None → first_found own (flat_map (λ k. k.0 ∷ faces_above P n k.0) ks) ≡ None)
          → first_found own (flat_map (λ k. k.0 ∷ faces_above P n k.0) (k ∷ ks)) ≡ None
      split true is h later = absurd (cc h)
      split false is h later = part-append n k ks ∙ rw (not-offered n k is) (later h)

  some-towards : (n : ℕ) (ks : List ClassId) (f : ClassId) → towards P x ks ≡ Some f → IsThere (part n f)
      → first_found own (flat_map (λ k. k.0 ∷ faces_above P n k.0) ks) ≡ part n f
  some-towards n [] f e there = absurd (cc e)
  some-towards n (k ∷ ks) f e there = split (is_some (offered P k.0 x)) refl e (λ h. some-towards n ks f h there)
    where
      split : (b : Bool) → is_some (offered P k.0 x) ≡ b → (if b then Some k else towards P x ks) ≡ Some f
          → (towards P x ks ≡ Some f → first_found own (flat_map (λ k. k.0 ∷ faces_above P n k.0) ks) ≡ part n f)
          → first_found own (flat_map (λ k. k.0 ∷ faces_above P n k.0) (k ∷ ks)) ≡ part n f
      split true is h later =
          let same : k ≡ f = cc in
          part-append n k ks ∙ subst (λ j. first_or (part n j) (first_found own (flat_map (λ k. k.0 ∷ faces_above P n k.0) ks)) ≡ part n f) (sym same)
          (rw there.1 refl)
      split false is h later = part-append n k ks ∙ rw (not-offered n k is) (later h)

  towards-among : (ks : List ClassId) (f : ClassId) → towards P x ks ≡ Some f → Contains ks f × (is_some (offered P f.0 x) ≡ true)
  towards-among [] f e = absurd (cc e)
  towards-among (k ∷ ks) f e = split (is_some (offered P k.0 x)) refl e (towards-among ks f)
    where
      split : (b : Bool) → is_some (offered P k.0 x) ≡ b → (if b then Some k else towards P x ks) ≡ Some f
          → (towards P x ks ≡ Some f → Contains ks f × (is_some (offered P f.0 x) ≡ true))
          → Contains (k ∷ ks) f × (is_some (offered P f.0 x) ≡ true)
      split true is h later = let same : k ≡ f = cc in ((0, omega arith, same), subst (λ (j : ClassId). is_some (offered P j.0 x) ≡ true) same is)
      split false is h later = let m = later h in ((suc m.0.0, omega (arith, m.0.1), m.0.2), m.1)

  pub way-begins : (c : ℕ) → IsOnWay P x c c (length P.classes)
  way-begins c = record { same = refl; seen = []; count = omega arith; passed = none_passed P c }

  way-step : (n c at : ℕ) (f : ClassId) → (h : IsOnWay P x c at (suc n)) → towards P x (faces_of P at) ≡ Some f
      → (part n f ≡ found-above (length P.classes) c) × ArePassed P (at ∷ h.seen) f.0
  way-step n c at f h e =
      let a = towards-among (faces_of P at) f e in
      let passed = passed_more P formed.acyclic h.seen (face-super P own at f a.0) h.passed in
      let there = part-found n f at (at ∷ h.seen) a.0 (omega (arith, h.count)) passed a.1 in
      (sym (some-towards n (faces_of P at) f e there) ∙ h.same, passed)

  pub way-none : (n c at : ℕ) → IsOnWay P x c at n → (n ≡ 0 → ⊥) → towards P x (faces_of P at) ≡ None → None ≡ found-above (length P.classes) c
  way-none zero c at h more e = absurd (more refl)
  way-none (suc n) c at h more e = sym (none-towards n (faces_of P at) e) ∙ h.same

  pub way-found : {D : Type 0} (number : D → ℕ) (n c at : ℕ) (f : ClassId) (o : Option D) → IsOnWay P x c at n → (n ≡ 0 → ⊥)
      → towards P x (faces_of P at) ≡ Some f → option_map number o ≡ own f.0 → is_some o ≡ true → option_map number o ≡ found-above (length P.classes) c
  way-found number n c at f None h more e is some = absurd (false≢true some)
  way-found number zero c at f (Some d) h more e is some = absurd (more refl)
  way-found number (suc n) c at f (Some d) h more e is some = sym (rw (sym is) refl) ∙ (way-step n c at f h e).0

  pub way-up : {D : Type 0} (number : D → ℕ) (n c at : ℕ) (f : ClassId) (o : Option D) → IsOnWay P x c at n → (n ≡ 0 → ⊥)
      → towards P x (faces_of P at) ≡ Some f → option_map number o ≡ own f.0 → is_some o ≡ false → IsOnWay P x c f.0 (n - 1)
  way-up number n c at f (Some d) h more e is none = absurd (false≢true (sym none))
  way-up number zero c at f None h more e is none = absurd (more refl)
  way-up number (suc n) c at f None h more e is none =
      let step = way-step n c at f h e in
      let less : suc n - 1 ≡ n = omega arith in
      subst (λ k. IsOnWay P x c f.0 k) (sym less)
      (record { same = sym (rw (sym is) refl) ∙ step.0; seen = at ∷ h.seen; count = omega (arith, h.count); passed = step.1 })

  pub towards-later : (ks : List ClassId) (i : ℕ) (d : ClassId) → i < length ks → is_some (offered P (get_or ks i d).0 x) ≡ false
      → towards P x (drop (i + 1) ks) ≡ towards P x (drop i ks)
  towards-later ks i d h e = rw (add-one, drop-cons ks i d) (rw e refl)

  -- the slot of a type's own method, and that of any at or above it, is the one that the type offers
  held-slot : (c b m : ℕ) → IsOwn P b x m → IsSubclass P c b → slot_of_method P m ≡ slot_of P c x
  held-slot c b m o up =
      let s = (formed.methods m o.method o.stands).slotted o.instance in
      let offer : IsOffered P c x s.0 = record {
        number = m;
        method = o.method;
        stands = o.stands;
        instance = o.instance;
        name = o.name;
        above = subst (λ z. IsSubclass P c z) (sym o.owner) up;
        slot = s.1;
      } in
      rw o.stands (s.1 ∙ sym (offered-slot_of P formed c x s.0 offer))

  pub own-slot : (c b m : ℕ) → IsSubclass P c b → own b ≡ Some m → slot_of_method P m ≡ slot_of P c x
  own-slot c b m up e = held-slot c b m (own_method-own P b x m e) up

  pub met-slot : (c b : ℕ) (o : Option MemberId) → IsSubclass P c b → option_map (λ (d : MemberId). d.0) o ≡ own b
      → IfSome o (λ (d : MemberId). slot_of_method P d.0 ≡ slot_of P c x)
  met-slot c b None up e = tt
  met-slot c b (Some d) up e = own-slot c b d.0 up (sym e)

  pub offered-slot : (c m : ℕ) → offered P c x ≡ Some m → slot_of_method P m ≡ slot_of P c x
  offered-slot c m e = let z = offered-own c m e in held-slot c z.0 m z.1 z.2

  pub no_offer-slot : (c : ℕ) → offered P c x ≡ None → None ≡ slot_of P c x
  no_offer-slot c e = none (slot_of P c x) refl
    where
      none : (o : Option ℕ) → slot_of P c x ≡ o → None ≡ o
      none None h = refl
      none (Some s) h =
          let o = slot_of-offered P formed c x s h in
          let it = own-own_method P o.method.owner x o.number
          (record { method = o.method; stands = o.stands; owner = refl; instance = o.instance; name = o.name }) in
          absurd (cc (e, (own-offered c o.method.owner it.0 o.above it.1).1))

pub one_up : (P : Plain) (c a : ℕ) (k : ClassId) → IsSubclass P c a → Contains (supers_of P a) k → IsSubclass P c k.0
one_up P c a k up h = subclass-then P up (through h same_class)
