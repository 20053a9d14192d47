-- The slots of methods: one for each name, parameter types and result, in the order of the first methods.
use Rattle.std.proofs.Common.{◌≡◌, ℕ, ◌<◌, ◌≤◌, ⊎_elim, true, false, List, [], ◌∷◌, ◌++◌, length, Some, None, sym, ap, ◌∙◌, subst, arith}
use Rattle.std.specs.Prelude.{slice_get}
use Rattle.std.proofs.lemmas.Option.{slice_get_within}
use Rattle.kaba_base.proofs.ListLemmas.{at_left, middle}
use Rattle.java_core.specs.Programs.{PlainSlot}
use Rattle.name_laws.specs.declared.parts.Heading.{Heading}
use Rattle.name_rules.specs.Outline.{MethodAt, is_static, method_outline}
use Rattle.name_rules.specs.Resolves.{IsOfSlot}
use Rattle.name_laws.proofs.Sees.{same_some}
use Rattle.name_laws.proofs.Runs.{push-cases, stands-beside}

module _ (types : List (List ℕ)) where
  -- which slot a heading has
  pub data SlotOf (ss : List PlainSlot) (h : Heading) (m : MethodAt) : Type 0 where
    none_of : is_static m ≡ true → h.slot ≡ None → SlotOf ss h m
    one_of : {s : ℕ} {slot : PlainSlot} → is_static m ≡ false → h.slot ≡ Some s → slice_get ss s ≡ Some slot → IsOfSlot slot (method_outline types m)
        → SlotOf ss h m

  pub record SlotsAre (ms : List MethodAt) (hs : List Heading) (ss : List PlainSlot) : Type 0 where
    pub each : (i : ℕ) (h : Heading) (m : MethodAt) → slice_get hs i ≡ Some h → slice_get ms i ≡ Some m → SlotOf ss h m
    pub first : (s : ℕ) (slot : PlainSlot) → slice_get ss s ≡ Some slot → (h : Heading) × (slice_get hs slot.first ≡ Some h) × (h.slot ≡ Some s)
    pub least : (s i : ℕ) (slot : PlainSlot) (h : Heading) → slice_get ss s ≡ Some slot → slice_get hs i ≡ Some h → h.slot ≡ Some s → slot.first ≤ i
    pub apart : (r s : ℕ) (a b : PlainSlot) → slice_get ss r ≡ Some a → slice_get ss s ≡ Some b → a.name ≡ b.name → a.params ≡ b.params
        → a.result ≡ b.result → r ≡ s
    pub order : (r s : ℕ) (a b : PlainSlot) → slice_get ss r ≡ Some a → slice_get ss s ≡ Some b → r < s → a.first < b.first

  slot_in : {ss : List PlainSlot} {h : Heading} {m : MethodAt} → SlotOf ss h m → (s : ℕ) → h.slot ≡ Some s → s < length ss
  slot_in (none_of a b) s e = absurd (cc (sym b ∙ e))
  slot_in {ss} (one_of {s = r} {slot = slot} a b c d) s e = subst (λ z. z < length ss) (same_some (sym b ∙ e)) (slice_get_within ss r slot c)

  more_slots : {ss : List PlainSlot} {h : Heading} {m : MethodAt} (ts : List PlainSlot) → SlotOf ss h m → SlotOf (ss ++ ts) h m
  more_slots ts (none_of a b) = none_of a b
  more_slots {ss} ts (one_of {s = s} {slot = slot} a b c d) = one_of a b (at_left ss ts s slot c) d

  module _ (ms : List MethodAt) (hs : List Heading) (m : MethodAt) (h : Heading) (count : length hs ≡ length ms) where
    -- of the two lists with one more each
    both-cases : {A : Type 0} (i : ℕ) (g : Heading) (n : MethodAt) → slice_get (hs ++ h ∷ []) i ≡ Some g → slice_get (ms ++ m ∷ []) i ≡ Some n
        → (slice_get hs i ≡ Some g → slice_get ms i ≡ Some n → A) → (h ≡ g → m ≡ n → A) → A
    both-cases i g n a b early late =
        ⊎_elim (λ x. ⊎_elim (λ y. early x y) (λ y. absurd (let l = slice_get_within hs i g x in let e = y.0 in omega (arith, l, e, count)))
        (push-cases ms m i n b))
        (λ x. ⊎_elim (λ y. absurd (let l = slice_get_within ms i n y in let e = x.0 in omega (arith, l, e, count))) (λ y. late x.1 y.1) (push-cases ms m i n b))
        (push-cases hs h i g a)

    -- a method with a slot that is there, or none
    pub slots-old : (ss : List PlainSlot) → SlotsAre ms hs ss → SlotOf ss h m → SlotsAre (ms ++ m ∷ []) (hs ++ h ∷ []) ss
    slots-old ss are one = record {
      each = λ i g n a b. both-cases i g n a b (λ x y. are.each i g n x y) (λ x y. subst (λ z. SlotOf ss z n) x (subst (λ z. SlotOf ss h z) y one));
      first = λ s slot a. let f = are.first s slot a in (f.0, at_left hs (h ∷ []) slot.first f.0 f.1, f.2);
      least = λ s i slot g a b c. ⊎_elim (λ x. are.least s i slot g a x c)
          (λ x. let f = are.first s slot a in let l = slice_get_within hs slot.first f.0 f.1 in let e = x.0 in omega (arith, l, e))
          (push-cases hs h i g b);
      apart = are.apart;
      order = are.order;
    }

    -- a method with a slot of its own
    pub slots-new : (ss : List PlainSlot) (new : PlainSlot) → SlotsAre ms hs ss → is_static m ≡ false → h.slot ≡ Some (length ss)
        → new.first ≡ length hs → IsOfSlot new (method_outline types m)
        → ((i : ℕ) (s : PlainSlot) → slice_get ss i ≡ Some s → s.name ≡ new.name → s.params ≡ new.params → s.result ≡ new.result → ⊥)
        → SlotsAre (ms ++ m ∷ []) (hs ++ h ∷ []) (ss ++ new ∷ [])
    slots-new ss new are instance slot at of fresh = record {
      each = λ i g n a b. both-cases i g n a b (λ x y. more_slots (new ∷ []) (are.each i g n x y)) (λ x y. subst (λ z. SlotOf (ss ++ new ∷ []) z n) x
          (subst (λ z. SlotOf (ss ++ new ∷ []) h z) y (one_of instance slot (middle ss new []) of)));
      first = λ s t a. ⊎_elim
          (λ x. let f = are.first s t x in (f.0, at_left hs (h ∷ []) t.first f.0 f.1, f.2))
          (λ x. (h, subst (λ z. slice_get (hs ++ h ∷ []) z ≡ Some h) (sym at ∙ ap (λ z. z.first) x.1) (middle hs h []), slot ∙ ap Some (sym x.0)))
          (push-cases ss new s t a);
      least = λ s i t g a b c. ⊎_elim
          (λ x. ⊎_elim (λ y. are.least s i t g x y c) (λ y. let l = slice_get_within ss s t x in let e : s ≡ length ss = same_some (sym c
          ∙ sym (ap (λ z. z.slot) y.1) ∙ slot) in absurd (omega (arith, l, e))) (push-cases hs h i g b))
          (λ x. ⊎_elim
          (λ y. let lt = slice_get_within hs i g y in absurd (old i g y s c (let e = x.0 in e)))
          (λ y. let e = y.0 in let f : t.first ≡ length hs = sym (ap (λ z. z.first) x.1) ∙ at in omega (arith, e, f)) (push-cases hs h i g b))
          (push-cases ss new s t a);
      apart = λ r s a b x y n p q. ⊎_elim
          (λ u. ⊎_elim (λ v. are.apart r s a b u v n p q)
          (λ v. absurd (fresh r a u (n ∙ sym (ap (λ z. z.name) v.1)) (p ∙ sym (ap (λ z. z.params) v.1)) (q ∙ sym (ap (λ z. z.result) v.1))))
          (push-cases ss new s b y))
          (λ u. ⊎_elim (λ v. absurd (fresh s b v (sym n ∙ sym (ap (λ z. z.name) u.1)) (sym p ∙ sym (ap (λ z. z.params) u.1)) (sym q
          ∙ sym (ap (λ z. z.result) u.1)))) (λ v. u.0 ∙ sym v.0) (push-cases ss new s b y))
          (push-cases ss new r a x);
      order = λ r s a b x y lt. ⊎_elim
          (λ u. ⊎_elim (λ v. are.order r s a b u v lt) (λ v. let f = are.first r a u in let l = slice_get_within hs a.first f.0 f.1 in let e : b.first
          ≡ length hs = sym (ap (λ z. z.first) v.1) ∙ at in omega (arith, l, e)) (push-cases ss new s b y))
          (λ u. ⊎_elim (λ v. let l = slice_get_within ss s b v in let e = u.0 in absurd (omega (arith, l, e, lt)))
          (λ v. let e = u.0 in let f = v.0 in absurd (omega (arith, e, f, lt))) (push-cases ss new s b y))
          (push-cases ss new r a x);
    }
      where
        old : (i : ℕ) (g : Heading) → slice_get hs i ≡ Some g → (s : ℕ) → g.slot ≡ Some s → s ≡ length ss → ⊥
        old i g y s c e =
            let n = stands-beside hs ms count i g y in
            let l = slot_in (are.each i g n.0 y n.1) s c in omega (arith, l, e)
