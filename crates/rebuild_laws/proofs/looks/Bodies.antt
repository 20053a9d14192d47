-- An object runs the body that it needs, and a super call the nearest one above: no filler, head or other body is found.
use Rattle.std.proofs.Common.{◌≡◌, ◌≢◌, ℕ, ◌&&◌, ◌||◌, eqb, List, Some, refl, sym, ap, ◌∙◌, subst, ⊎_elim}
use Rattle.std.specs.Prelude.{Bool, true, false, not, slice_get, option_and_then}
use Rattle.std.specs.Option.{option_map_or, is_some}
use Rattle.std.proofs.lemmas.Bool.{false≢true, and_from, and_parts, eqb-true, eq-eqb}
use Rattle.std.proofs.lemmas.Option.{same_Some}
use Rattle.kaba_base.specs.declared.ClassId.{ClassId}
use Rattle.java_core.specs.Programs.{Plain, PlainMethod, PlainSlot}
use Rattle.java_core.specs.Classes.{IsSubclass, IsProperSubclass, nearest_of, own_method, own_body, has_slot, is_slot, lookup, super_method, has_body, slot_of_method, slot_of}
use Rattle.java_core.proofs.Positions.{position-passes, passes-position}
use Rattle.java_core.proofs.Subclasses.{proper-subclass, subclass-then, nearest-nearest_of}
use Rattle.java_core.proofs.Upwards.{IsOnChain, along}
use Rattle.java_core.proofs.Offered.{IsOwn, own_method-own, own-own_method, slot_of-offered}
use Rattle.java_core.proofs.SearchOrder.{slot_is as slot_says}
use Rattle.kaba_order.specs.Orders.{is_le, is_live}
use Rattle.fact_model.specs.declared.facts.Facts.{Facts}
use Rattle.hier_model.specs.Hierarchies.{Hierarchy, is_class_node, offers_slot}
use Rattle.flow_rules.specs.declared.items.ColumnItem.TheVariants as column
use Rattle.rebuild_model.specs.Members.{is_made_at, offers_body, is_headed, is_filled, StandsAt}
use Rattle.rebuild_laws.specs.looks.Known.{KnownOfBoth, Offers, sides}
use Rattle.rebuild_laws.proofs.looks.Along.{OneOnWay, nearest_on_way, nearest_strictly}
use Rattle.rebuild_laws.proofs.looks.Nodes.{subclass_of, le_of, stands_once, offers_own, class_node, member_class}
use Rattle.rebuild_laws.proofs.looks.Slots.{same_name, OffersSlot, offers_item, asked_body}
use Rattle.rebuild_laws.proofs.looks.Methods.{Sort, a_body, a_head, a_filler}
use Rattle.rebuild_laws.proofs.looks.Declared.{IsNewBody, new_body, of_slot}

-- a method of a slot that a class itself declares
pub record HasOwn (W : Plain) (c q g : ℕ) : Type 0 where
  pub method : PlainMethod
  pub stands : slice_get W.methods g ≡ Some method
  pub owner : method.owner ≡ c
  pub slot : method.slot ≡ Some q

abbrev pub own_from : (W : Plain) (c q g : ℕ) (k : PlainMethod) → slice_get W.methods g ≡ Some k → has_slot c q k ≡ true → HasOwn W c q g
own_from W c q g k e h = let parts = and_parts (eqb k.owner c) (is_slot k.slot q) h in
    record { method = k; stands = e; owner = eqb-true k.owner c parts.0; slot = slot_says k.slot q parts.1 }

pub has_own : (W : Plain) (c q g : ℕ) (o : HasOwn W c q g) → has_slot c q o.method ≡ true
has_own W c q g o = and_from (eqb o.method.owner c) (is_slot o.method.slot q) (eq-eqb o.method.owner c o.owner) (ap (λ z. is_slot z q) o.slot ∙ eq-eqb q q refl)

pub no_head : (a b c : Bool) → (not a || (not b && not c)) ≡ true → a ≡ true → c ≡ true → ⊥
no_head true true c h e f = false≢true h
no_head true false true h e f = false≢true h
no_head true false false h e f = false≢true f
no_head false b c h e f = false≢true e

module _ {P : Plain} {F : Facts} {H : Hierarchy} {W : Plain} (K : KnownOfBoth P F H W) where
  open sides K use {places as T, renaming as R}

  -- the new body of an old method is one
  pub one_body : (m a b g h : ℕ) → IsNewBody K m a g → IsNewBody K m b h → g ≡ h
  one_body m a b g h x y =
      K.new.method_names g h x.method y.method x.stands y.stands
      (x.is.at.owner_is ∙ ap T.type_of (stands_once K x.is.at.node y.is.at.node (column.Def m) x.is.at.stands y.is.at.stands) ∙ sym y.is.at.owner_is)
      (x.is.name ∙ sym y.is.name)

  -- the body of a slot that a class itself has
  record IsOwnBody (c q g : ℕ) : Type 0 where
    own : HasOwn W c q g
    body : is_some own.method.body ≡ true

  own_is : (c q g : ℕ) → own_body W c q ≡ Some g → IsOwnBody c q g
  own_is c q g h =
      let k = position-passes (λ m. has_slot c q m && is_some m.body) W.methods g h in
      let parts = and_parts (has_slot c q k.0) (is_some k.0.body) k.2 in
      record { own = own_from W c q g k.0 k.1 parts.0; body = parts.1 }

  -- methods of one slot have one name
  pub slot_named : (q g h : ℕ) (k l : PlainMethod) → slice_get W.methods g ≡ Some k → slice_get W.methods h ≡ Some l
      → k.slot ≡ Some q → l.slot ≡ Some q → k.name ≡ l.name
  slot_named q g h k l a b d e =
      let x = ((K.new.methods g k a).slots q).0 d in
      let y = ((K.new.methods h l b).slots q).0 e in
      x.name ∙ ap (λ (z : PlainSlot). z.name) (same_Some _ _ (sym x.stands ∙ y.stands)) ∙ sym y.name

  is_own : (c q g : ℕ) → IsOwnBody c q g → own_body W c q ≡ Some g
  is_own c q g o =
      let passes = and_from (has_slot c q o.own.method) (is_some o.own.method.body) (has_own W c q g o.own) o.body in
      let there = passes-position (λ m. has_slot c q m && is_some m.body) W.methods g o.own.method o.own.stands passes in
      let other = (own_is c q there.0 there.1).own in
      there.1 ∙ ap Some (K.new.method_names there.0 g other.method o.own.method other.stands o.own.stands (other.owner ∙ sym o.own.owner)
      (slot_named q there.0 g other.method o.own.method other.stands o.own.stands other.slot o.own.slot))

  own_named : (c g : ℕ) (x : List ℕ) → IsOwn W c x g → own_method W c x ≡ Some g
  own_named c g x o =
      let there = own-own_method W c x g o in
      let other = own_method-own W c x there.0 there.1 in
      there.1 ∙ ap Some (K.new.method_names there.0 g other.method o.method other.stands o.stands (other.owner ∙ sym o.owner) (other.name ∙ sym o.name))

  -- the node n offers the body of the old method d
  module _ (n d s : ℕ) (of : slot_of_method P d ≡ Some s) (o : Offers K n (column.Def d)) where
    abbrev pub number : ℕ
    number = (new_body K d o.node o.stands).0

    abbrev body : IsNewBody K d o.node (new_body K d o.node o.stands).0
    body = (new_body K d o.node o.stands).1

    live : is_live H.order n ≡ true
    live = K.order.lower_lives n o.node o.above

    at_live : is_live H.order o.node ≡ true
    at_live = K.order.upper_lives n o.node o.above

    offered : OffersSlot K n s
    offered = offers_item K n s (column.Def d) refl of o

    pub is_bodied : is_some body.method.body ≡ true
    is_bodied = ap is_some body.is.code.new_code

    pub bodied_there : has_body W number ≡ true
    bodied_there = ap (λ z. option_map_or (λ (k : PlainMethod). is_some k.body) z false) body.stands ∙ is_bodied

    -- what of the slot stands at a node between is the body, where no other body is
    module _ (j : ℕ) (high : is_le H.order j o.node ≡ true) (only : (k : ℕ) → slot_of_method P k ≡ Some s → StandsAt P F H W T (column.Def k) j → k ≡ d) where
      offered_there : offers_body F H j s ≡ true
      offered_there = asked_body K j s (record { method = d; of = of; offers = record { node = o.node; stands = o.stands; above = high } })

      no_filler : is_filled F H j s ≡ true → ⊥
      no_filler f =
          let parts = and_parts (is_made_at F H j) (offers_slot F H j s && not (offers_body F H j s)) f in
          false≢true (sym (ap not offered_there) ∙ (and_parts (offers_slot F H j s) (not (offers_body F H j s)) parts.1).1)

      no_head_there : is_headed F H j s ≡ true → ⊥
      no_head_there h =
          no_head (is_class_node F H j) (is_made_at F H j) (offers_body F H j s) h
          (class_node K j (column.Def d) refl (record { node = o.node; stands = o.stands; above = high })) offered_there

      by_sort : (y : ℕ) (new : PlainMethod) → slice_get W.methods y ≡ Some new → Sort K j s new → y ≡ number
      by_sort y new at (a_body m b st e) =
          one_body d b.at.node o.node y number
          (subst (λ z. IsNewBody K z b.at.node y) (only m e st) (record { method = new; stands = at; is = b; owner = b.at.owner_is })) body
      by_sort y new at (a_head h none) = absurd (no_head_there h)
      by_sort y new at (a_filler f b) = absurd (no_filler f)

    on_way : (only : (k j : ℕ) → slot_of_method P k ≡ Some s → StandsAt P F H W T (column.Def k) j → is_le H.order n j ≡ true
        → is_le H.order j o.node ≡ true → k ≡ d)
        → (y : ℕ) (new : PlainMethod) → slice_get W.methods y ≡ Some new → new.is_static ≡ false → new.name ≡ R.method_name d
        → IsSubclass W (T.type_of n) new.owner → IsSubclass W new.owner (T.type_of o.node) → y ≡ number
    on_way only y new at instance named down up =
        let x = of_slot K n s d y new offered of at instance named down live in
        let high = le_of K x.0.node o.node x.0.live at_live (subst (λ z. IsSubclass W z (T.type_of o.node)) x.0.owner up) in
        by_sort x.0.node high (λ k e st. only k x.0.node e st x.2 high) y new at (subst (λ z. Sort K x.0.node z new) x.1 x.0.sort)

    pub chain : IsOnChain W (T.type_of n) (T.type_of o.node)
    chain = along W K.new (member_class K o.node at_live
        (class_node K o.node (column.Def d) refl (offers_own K o.node (column.Def d) o.stands))) (subclass_of K n o.node o.above)

    -- an object of the node runs the body, where no other one that it offers is nearer
    module _ (nearest : (k j : ℕ) → slot_of_method P k ≡ Some s → StandsAt P F H W T (column.Def k) j → is_le H.order n j ≡ true
        → is_le H.order j o.node ≡ true → k ≡ d) where
      pub finds_body : (q : ℕ) → body.method.slot ≡ Some q → lookup W (T.type_of n) q ≡ Some number
      unfolding lookup
      finds_body q slot =
          let own = is_own (T.type_of o.node) q number
          (record { own = record { method = body.method; stands = body.stands; owner = body.owner; slot = slot }; body = is_bodied }) in
          nearest-nearest_of W (λ k. own_body W k q) K.new.acyclic (nearest_on_way W (λ k. own_body W k q) chain own one)
        where
          one : OneOnWay W (λ k. own_body W k q) (T.type_of n) (T.type_of o.node) number
          one e y down up h =
              let own = (own_is e q y h).own in
              let in_slot = ((K.new.methods y own.method own.stands).slots q).0 own.slot in
              let named = slot_named q y number own.method body.method own.stands body.stands own.slot slot ∙ body.is.name in
              on_way nearest y own.method own.stands in_slot.instance named (subst (λ z. IsSubclass W (T.type_of n) z) (sym own.owner) down)
              (subst (λ z. IsSubclass W z (T.type_of o.node)) (sym own.owner) up)

      -- so also for the slot that a call on a node above finds by the name of a method of the slot
      pub runs_body : (v m q : ℕ) → is_le H.order n v ≡ true → slot_of_method P m ≡ Some s → slot_of W (T.type_of v) (R.method_name m) ≡ Some q
          → lookup W (T.type_of n) q ≡ Some number
      runs_body v m q up e h = finds_body q (slot_is v m q up e h)
        where
          slot_is : (v m q : ℕ) → is_le H.order n v ≡ true → slot_of_method P m ≡ Some s → slot_of W (T.type_of v) (R.method_name m) ≡ Some q
              → body.method.slot ≡ Some q
          slot_is v m q up e h =
              let x = slot_of-offered W K.new (T.type_of v) (R.method_name m) q h in
              let down : IsSubclass W (T.type_of n) body.method.owner =
              subst (λ z. IsSubclass W (T.type_of n) z) (sym body.owner) (subclass_of K n o.node o.above) in
              let over : IsSubclass W (T.type_of n) x.method.owner = subclass-then W (subclass_of K n v up) x.above in
              ⊎_elim
              (λ same. ap (λ (z : PlainMethod). z.slot) (same_Some _ _ (sym body.stands ∙ ap (slice_get W.methods) same ∙ x.stands)) ∙ x.slot)
              (λ slots. slots.1 ∙ x.slot)
              (K.new.one_slot (T.type_of n) number x.number body.method x.method body.stands x.stands down over
              (body.is.name ∙ same_name K d m s of e ∙ sym x.name))

    -- a super call at the node finds the body, where it stands strictly above and no other one is between
    module _ (other : n ≢ o.node) (between : (k j : ℕ) → slot_of_method P k ≡ Some s → StandsAt P F H W T (column.Def k) j
        → is_le H.order n j ≡ true → n ≢ j → is_le H.order j o.node ≡ true → k ≡ d) where
      pub finds_super : super_method W (T.type_of n) (R.method_name d) ≡ Some number
      unfolding super_method
      finds_super =
          let own = own_named (T.type_of o.node) number (R.method_name d)
          (record { method = body.method; stands = body.stands; owner = body.owner; instance = body.is.at.instance; name = body.is.name }) in
          let apart : T.type_of n ≢ T.type_of o.node = λ e. other (K.rebuilt.types.nodes_once n o.node live at_live e) in
          let x = nearest_strictly W (λ k. own_method W k (R.method_name d)) chain apart own way in
          ap (option_and_then (λ (p : ClassId). nearest_of W (λ k. own_method W k (R.method_name d)) p.0)) x.above
          ∙ nearest-nearest_of W (λ k. own_method W k (R.method_name d)) K.new.acyclic x.nearest
        where
          way : (e y : ℕ) → IsProperSubclass W (T.type_of n) e → IsSubclass W e (T.type_of o.node) → own_method W e (R.method_name d) ≡ Some y → y ≡ number
          way e y down up h =
              let own = own_method-own W e (R.method_name d) y h in
              let under = subst (λ z. IsSubclass W (T.type_of n) z) (sym own.owner) (proper-subclass W down) in
              let x = of_slot K n s d y own.method offered of own.stands own.instance own.name under live in
              let owner : e ≡ T.type_of x.0.node = sym own.owner ∙ x.0.owner in
              let high = le_of K x.0.node o.node x.0.live at_live (subst (λ z. IsSubclass W z (T.type_of o.node)) owner up) in
              let strict : n ≢ x.0.node =
              λ same. K.new.acyclic (T.type_of n) (subst (λ z. IsProperSubclass W (T.type_of n) z) (owner ∙ ap T.type_of (sym same)) down) in
              by_sort x.0.node high (λ k f st. between k x.0.node f st x.2 strict high) y own.method own.stands
              (subst (λ z. Sort K x.0.node z own.method) x.1 x.0.sort)
