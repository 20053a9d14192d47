-- What stands above a class one step up, and that a class with members stands along the superclasses of the classes below it.
use Rattle.std.proofs.Common.{◌≡◌, ◌≢◌, ℕ, zero, suc, ◌<◌, ◌⊎◌, ◌++◌, Option, Some, None, Contains, refl, sym, ap, ◌∙◌, subst, ⊎_elim, inl, inr, arith}
use Rattle.std.specs.Prelude.{true, false, slice_get}
use Rattle.std.specs.Option.{option_to_list}
use Rattle.std.proofs.lemmas.Bool.{false≢true}
use Rattle.std.proofs.lemmas.Option.{same_Some}
use Rattle.kaba_base.specs.declared.ClassId.{ClassId}
use Rattle.kaba_base.proofs.ListLemmas.{contains_cases}
use Rattle.java_core.specs.Programs.{Plain, PlainClass}
use Rattle.java_core.specs.Classes.{parent_of, faces_of, supers_of, IsSubclass, same_class, through, nearest_of}
use Rattle.java_core.specs.Found.{IsNearest, at_class, above_class}
use Rattle.java_core.specs.Formed.{IsFormed}
use Rattle.java_core.proofs.Subclasses.{subclass-then, parent-super, nearest_of-nearest, nearest-nearest_of}

-- some number is there
abbrev pub IsThere : Option ℕ → Type 0
IsThere o = (d : ℕ) × (o ≡ Some d)

module _ (P : Plain) where
  pub super_cases : (c : ℕ) (k : ClassId) → Contains (supers_of P c) k → (parent_of P c ≡ Some k) ⊎ Contains (faces_of P c) k
  super_cases c k h = cases (parent_of P c) refl h
    where
      cases : (p : Option ClassId) → parent_of P c ≡ p → Contains (option_to_list p ++ faces_of P c) k → (parent_of P c ≡ Some k) ⊎ Contains (faces_of P c) k
      cases None e h = inr h
      cases (Some q) e h = ⊎_elim (λ s. inl (e ∙ ap Some s)) (λ f. inr f) (contains_cases q (faces_of P c) k h)

  -- a class at or above another by superclasses alone
  pub data IsOnChain : ℕ → ℕ → Type 0 where
    chain_here : {c : ℕ} → IsOnChain c c
    chain_up : {c h : ℕ} {p : ClassId} → parent_of P c ≡ Some p → IsOnChain p.0 h → IsOnChain c h

  pub on_chain : {c h : ℕ} → IsOnChain c h → IsSubclass P c h
  on_chain chain_here = same_class
  on_chain {c} (chain_up {p = p} up rest) = through (parent-super P c p up) (on_chain rest)

  abbrev pub IsInterface : ℕ → Type 0
  IsInterface c = (k : PlainClass) × (slice_get P.classes c ≡ Some k) × (k.is_interface ≡ true)

  -- a class that can have members: no interface, and not Object
  pub record IsMemberClass (c : ℕ) : Type 0 where
    pub class : PlainClass
    pub stands : slice_get P.classes c ≡ Some class
    pub no_interface : class.is_interface ≡ false
    pub no_object : c ≢ 0

  module _ (own : ℕ → Option ℕ) where
    -- d is what some class at or above c has
    pub record IsAbove (c d : ℕ) : Type 0 where
      pub holder : ℕ
      pub above : IsSubclass P c holder
      pub found : own holder ≡ Some d

    pub further : {b c d : ℕ} → IsSubclass P b c → IsAbove c d → IsAbove b d
    further h k = record { holder = k.holder; above = subclass-then P h k.above; found = k.found }

    -- what is nearest stands at or above the class
    pub chain-above : {c d : ℕ} → IsNearest P own c d → IsAbove c d
    chain-above {c} (at_class e) = record { holder = c; above = same_class; found = e }
    chain-above {c} (above_class {p = p} none e up) = further (through (parent-super P c p e) same_class) (chain-above up)

    pub nearest-own : {c d : ℕ} → IsNearest P own c d → (k : ℕ) × (own k ≡ Some d)
    nearest-own n = let a = chain-above n in (a.holder, a.found)

  module _ (formed : IsFormed P) where
    pub no_super : (c : ClassId) → Contains (supers_of P 0) c → ⊥
    no_super c h = let lt : h.0 < 0 = rw (formed.object.first, formed.object.parent, formed.object.faces) at h.1 in omega (arith, lt)

    pub face_interface : (c : ℕ) (f : ClassId) → Contains (faces_of P c) f → IsInterface f.0
    face_interface c f h = go c (slice_get P.classes c) refl h
      where
        go : (c : ℕ) (o : Option PlainClass) → slice_get P.classes c ≡ o → Contains (faces_of P c) f → IsInterface f.0
        go c None at h = let lt : h.0 < 0 = rw at at h.1 in absurd (omega (arith, lt))
        go zero (Some k) at h = let lt : h.0 < 0 = rw (formed.object.first, formed.object.faces) at h.1 in absurd (omega (arith, lt))
        go (suc c) (Some k) at h = (formed.classes c k at).faces f (rw at at h)

    pub interface_parent : (c : ℕ) (p : ClassId) → IsInterface c → parent_of P c ≡ Some p → p.0 ≡ 0
    interface_parent zero p i up = cc (formed.object.first, formed.object.class, i.1, i.2)
    interface_parent (suc c) p i up =
        let f = formed.classes c i.0 i.1 in
        let same : Some f.parent ≡ Some p = sym f.has_parent ∙ sym (rw i.1 refl) ∙ up in
        subst (λ (q : ClassId). q.0 ≡ 0) (let e : f.parent ≡ p = cc in e) (f.interface_parent i.2)

    pub above_object : {c b : ℕ} → c ≡ 0 → IsSubclass P c b → b ≡ 0
    above_object e same_class = e
    above_object e (through {c = k} direct rest) = absurd (no_super k (subst (λ z. Contains (supers_of P z) k) e direct))

    -- above an interface stand interfaces and Object
    above_interface : {c b : ℕ} → IsInterface c → IsSubclass P c b → (b ≡ 0) ⊎ IsInterface b
    above_interface i same_class = inr i
    above_interface {c} {b} i (through {c = k} direct rest) =
        ⊎_elim (λ up. inl (above_object (interface_parent c k i up) rest)) (λ f. above_interface (face_interface c k f) rest) (super_cases c k direct)

    -- so no interface stands below a class with members
    no_face : (c : ℕ) {h : ℕ} (k : ClassId) → Contains (faces_of P c) k → IsSubclass P k.0 h → IsMemberClass h → ⊥
    no_face c k f rest m =
        ⊎_elim (λ e. m.no_object e) (λ i. false≢true
        (sym m.no_interface ∙ ap (λ (z : PlainClass). z.is_interface) (same_Some _ _ (sym m.stands ∙ i.1)) ∙ i.2)) (above_interface (face_interface c k f) rest)

    pub along : {c h : ℕ} → IsMemberClass h → IsSubclass P c h → IsOnChain c h
    along m same_class = chain_here
    along {c} m (through {c = k} direct rest) = ⊎_elim (λ up. chain_up up (along m rest)) (λ f. absurd (no_face c k f rest m)) (super_cases c k direct)

    module _ (own : ℕ → Option ℕ) where
      pub nearest-there : (c : ℕ) → IsThere (own c) → IsThere (nearest_of P own c)
      nearest-there c (d, e) = (d, nearest-nearest_of P own formed.acyclic (at_class e))

      pub there-up : (c : ℕ) (p : ClassId) → parent_of P c ≡ Some p → IsThere (nearest_of P own p.0) → IsThere (nearest_of P own c)
      there-up c p up (d, e) = split (own c) refl
        where
          split : (o : Option ℕ) → own c ≡ o → IsThere (nearest_of P own c)
          split (Some y) e = nearest-there c (y, e)
          split None none = (d, nearest-nearest_of P own formed.acyclic (above_class none up (nearest_of-nearest P own e)))

      -- what a class with members has of its own, each class below it finds, that or another
      pub chain-there : {c h d : ℕ} → IsOnChain c h → own h ≡ Some d → IsThere (nearest_of P own c)
      chain-there {c} {d = d} chain_here e = nearest-there c (d, e)
      chain-there {c} (chain_up {p = p} up rest) e = there-up c p up (chain-there rest e)
