-- Each slot is among those that are filled in, once.
use Rattle.std.proofs.Common.{◌≡◌, ℕ, true, List, [], ◌∷◌, Option, Some, None, Contains, refl, sym, ap, ◌∙◌, subst, arith, ⊎_elim}
use Rattle.std.specs.Prelude.{not, slice_get, option_and_then}
use Rattle.std.specs.Option.{option_map_or}
use Rattle.std.proofs.lemmas.Bool.{cases_Bool, false≢true, not-true}
use Rattle.std.proofs.lemmas.Option.{same_Some}
use Rattle.std.proofs.lemmas.List.Elements.{Contains-append_left, Contains-append_right}
use Rattle.java_core.specs.Programs.{Plain, PlainClass, PlainMethod, PlainSlot}
use Rattle.java_core.specs.Classes.{own_method, slot_of_method}
use Rattle.java_core.specs.Makers.{maker_name, maker_of, maker_slot}
use Rattle.java_core.specs.Formed.{IsFormed}
use Rattle.java_core.proofs.Offered.{own_method-own, own-own_method}
use Rattle.flow_rules.specs.Facts.{is_marked}
use Rattle.flow_rules.specs.Ordered.{each, when}
use Rattle.flow_rules.proofs.Listed.{first, each_has, each_from_zero, when_has, when_from, one_from}
use Rattle.flow_laws.proofs.cover.Makers.{MakerAt, maker_at}
use Rattle.flow_laws.proofs.order.Fixed.{marked_maker, one_owner}
use Rattle.write_model.specs.Members.{filled_slots}
use Rattle.write_laws.proofs.names.Once.{Once, append_once, each_once, one_once, when_once}

module _ (P : Plain) (formed : IsFormed P) where
  abbrev other_slot : ℕ → PlainSlot → List ℕ
  other_slot x s = when (not (is_marked s.name)) (x ∷ [])

  abbrev as_list : Option ℕ → List ℕ
  as_list o = option_map_or (λ x. x ∷ []) o []

  abbrev class_slot : ℕ → PlainClass → List ℕ
  class_slot c k = as_list (maker_slot P c)

  abbrev others : List ℕ
  others = each other_slot 0 P.slots

  abbrev makers : List ℕ
  makers = each class_slot 0 P.classes

  in_list : (o : Option ℕ) (s : ℕ) → o ≡ Some s → Contains (as_list o) s
  in_list o s e = subst (λ z. Contains (as_list z) s) (sym e) (first s [])

  from_list : (o : Option ℕ) (s : ℕ) → Contains (as_list o) s → o ≡ Some s
  from_list None s c = absurd (omega (arith, c.1))
  from_list (Some x) s c = ap Some (one_from x s c)

  -- the constructor of a slot with a marked name is that of its class
  own_slot : (s : ℕ) (slot : PlainSlot) → slice_get P.slots s ≡ Some slot → is_marked slot.name ≡ true
      → (c : ℕ) × (k : PlainClass) × (slice_get P.classes c ≡ Some k) × (maker_slot P c ≡ Some s)
  own_slot s slot e b =
      let f = formed.slots s slot e in
      let i = ((formed.methods slot.first f.method f.stands).slots s).0 f.of in
      let name : f.method.name ≡ slot.name = i.name ∙ ap (λ (z : PlainSlot). z.name) (same_Some _ _ (sym i.stands ∙ e)) in
      let maker = marked_maker P formed slot.first f.method f.stands (ap is_marked name ∙ b) in
      let c = f.method.owner in
      let there = own-own_method P c (maker_name maker.class.name) slot.first
      (record { method = f.method; stands = f.stands; owner = refl; instance = i.instance; name = maker.name }) in
      let o = own_method-own P c (maker_name maker.class.name) there.0 there.1 in
      let same : there.0 ≡ slot.first = formed.method_names there.0 slot.first o.method f.method o.stands f.stands o.owner (o.name ∙ sym maker.name) in
      let of : maker_of P c ≡ Some slot.first =
      ap (option_and_then (λ (k : PlainClass). own_method P c (maker_name k.name))) maker.stands ∙ there.1 ∙ ap Some same in
      (c, maker.class, maker.stands, ap (option_and_then (slot_of_method P)) of ∙ ap (option_and_then (λ (k : PlainMethod). k.slot)) f.stands ∙ f.of)

  pub slot_filled : (s : ℕ) (slot : PlainSlot) → slice_get P.slots s ≡ Some slot → Contains (filled_slots P) s
  slot_filled s slot e =
      ⊎_elim
      (λ b.
      let z = own_slot s slot e b in
      Contains-append_right others makers s (each_has class_slot 0 P.classes z.0 z.1 s z.2 z.0 (omega arith) (in_list (maker_slot P z.0) s z.3)))
      (λ b.
      Contains-append_left others makers s
      (each_has other_slot 0 P.slots s slot s e s (omega arith) (when_has (not (is_marked slot.name)) (s ∷ []) s (ap not b) (first s []))))
      (cases_Bool (is_marked slot.name))

  -- ---- once

  abbrev Same : ℕ → ℕ → Type 0
  Same x y = x ≡ y

  -- the constructor of a slot that a class has
  maker_there : (c s : ℕ) → maker_slot P c ≡ Some s → (m : ℕ) × MakerAt P c m s
  maker_there c s e = go (maker_of P c) refl
    where
      go : (o : Option ℕ) → maker_of P c ≡ o → (m : ℕ) × MakerAt P c m s
      go None h = absurd (cc (sym (ap (option_and_then (slot_of_method P)) h) ∙ e))
      go (Some m) h = (m, maker_at P formed c m s h e)

  slot_named : (m s : ℕ) (k : PlainMethod) (slot : PlainSlot) → slice_get P.methods m ≡ Some k → k.slot ≡ Some s → slice_get P.slots s ≡ Some slot
      → k.name ≡ slot.name
  slot_named m s k slot e of at =
      let i = ((formed.methods m k e).slots s).0 of in i.name ∙ ap (λ (z : PlainSlot). z.name) (same_Some _ _ (sym i.stands ∙ at))

  one_class : (c d s : ℕ) → maker_slot P c ≡ Some s → maker_slot P d ≡ Some s → c ≡ d
  one_class c d s a b =
      let x = maker_there c s a in
      let y = maker_there d s b in
      let k = x.1 in
      let h = y.1 in
      let name : k.method.name ≡ h.method.name =
      slot_named x.0 s k.method k.slot k.stands k.slotted k.slot_stands ∙ sym (slot_named y.0 s h.method k.slot h.stands h.slotted k.slot_stands) in
      sym k.owner ∙ one_owner P formed k.method h.method k.is_maker h.is_maker name ∙ h.owner

  others_once : Once Same others
  others_once =
      each_once Same other_slot 0 P.slots (λ i j x e k. when_once Same (not (is_marked x.name)) (j ∷ []) (one_once Same j))
      (λ i j k l x y a b p q lt u v c d e.
      let z = one_from k a (when_from (not (is_marked x.name)) (k ∷ []) a c).1 in
      let w = one_from l b (when_from (not (is_marked y.name)) (l ∷ []) b d).1 in
      omega (arith, z, w, e, u, v, lt))

  list_once : (o : Option ℕ) → Once Same (as_list o)
  list_once None = tt
  list_once (Some s) = one_once Same s

  makers_once : Once Same makers
  makers_once =
      each_once Same class_slot 0 P.classes (λ i j x e k. list_once (maker_slot P j))
      (λ i j k l x y a b p q lt u v c d e.
      let z = one_class k l b (from_list (maker_slot P k) a c ∙ ap Some e) (from_list (maker_slot P l) b d) in
      omega (arith, z, u, v, lt))

  pub slots_once : Once Same (filled_slots P)
  slots_once =
      append_once Same others makers others_once makers_once
      (λ a b c d e.
      let z = each_from_zero other_slot P.slots a c in
      let w = when_from (not (is_marked z.1.name)) (z.0 ∷ []) a z.3 in
      let y = each_from_zero class_slot P.classes b d in
      let m = maker_there y.0 b (from_list (maker_slot P y.0) b y.3) in
      let at : slice_get P.slots b ≡ Some z.1 = ap (slice_get P.slots) (sym e ∙ sym (one_from z.0 a w.1)) ∙ z.2 in
      let name = slot_named m.0 b m.1.method z.1 m.1.stands m.1.slotted at in
      false≢true (sym (not-true (is_marked z.1.name) w.0) ∙ ap is_marked (sym name) ∙ ap is_marked m.1.is_maker.name))
