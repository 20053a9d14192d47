-- A class of which objects can be made has a body for each slot that it offers: a body or a filler, and no head stands below it.
use Rattle.std.proofs.Common.{◌≡◌, ℕ, ◌&&◌, ◌||◌, Option, Some, None, refl, sym, ap, ◌∙◌, subst, ⊎_elim}
use Rattle.std.specs.Prelude.{Bool, true, false, not, slice_get}
use Rattle.std.specs.Option.{option_map_or, is_some}
use Rattle.std.proofs.lemmas.Bool.{false≢true, and_from, and_parts, cases_Bool}
use Rattle.std.proofs.lemmas.Option.{same_Some}
use Rattle.java_core.specs.Programs.{Plain, PlainClass, PlainMethod}
use Rattle.java_core.specs.Classes.{IsSubclass, same_class, nearest_declaration, own_declaration, has_slot, has_body, is_concrete}
use Rattle.java_core.specs.Found.{at_class}
use Rattle.java_core.specs.Typing.{Offers, HasBodies}
use Rattle.java_core.proofs.Positions.{position-passes, passes-position}
use Rattle.java_core.proofs.Subclasses.{below-subclass, nearest-nearest_of}
use Rattle.kaba_order.specs.Orders.{is_le, is_live}
use Rattle.fact_model.specs.declared.facts.Facts.{Facts}
use Rattle.hier_model.specs.Hierarchies.{Hierarchy, is_class_node, offers_slot}
use Rattle.flow_rules.specs.declared.items.ColumnItem.TheVariants as column
use Rattle.rebuild_model.specs.Members.{is_made_at, offers_body, is_headed}
use Rattle.rebuild_laws.specs.looks.Known.{KnownOfBoth}
use Rattle.java_core.proofs.Upwards.{above_object, along}
use Rattle.rebuild_laws.proofs.looks.Along.{nearest_below}
use Rattle.rebuild_laws.proofs.looks.Nodes.{subclass_of, le_of, no_holder, no_makers, offers_own, class_node, made_class, member_class}
use Rattle.rebuild_laws.proofs.looks.Slots.{method_of_slot, same_name, OffersSlot, slot_below, asked_slot, OffersBody, body_asked, asked_body}
use Rattle.rebuild_laws.proofs.looks.Methods.{Sort, a_body, a_head, a_filler, IsNewMethod, new_method}
use Rattle.rebuild_laws.proofs.looks.Declared.{new_body, of_slot}
use Rattle.rebuild_laws.proofs.looks.Bodies.{HasOwn, own_from, has_own, slot_named, no_head}

no_head_made : (a b c : Bool) → (not a || (not b && not c)) ≡ true → a ≡ true → b ≡ true → ⊥
no_head_made true true c h e f = false≢true h
no_head_made true false c h e f = false≢true f
no_head_made false b c h e f = false≢true e

no_not : (b : Bool) → not (not b) ≡ true → b ≡ true
no_not true h = refl
no_not false h = absurd (false≢true h)

module _ {P : Plain} {F : Facts} {H : Hierarchy} {W : Plain} (K : KnownOfBoth P F H W) where
  open K.rebuilt use {places as T}

  own_is : (c q g : ℕ) → own_declaration W c q ≡ Some g → HasOwn W c q g
  own_is c q g h = let k = position-passes (λ m. has_slot c q m) W.methods g h in own_from W c q g k.0 k.1 k.2

  is_own : (c q g : ℕ) → HasOwn W c q g → (y : ℕ) × (own_declaration W c q ≡ Some y)
  is_own c q g o = passes-position (λ m. has_slot c q m) W.methods g o.method o.stands (has_own W c q g o)

  is_bodied : (g : ℕ) (k : PlainMethod) → slice_get W.methods g ≡ Some k → is_some k.body ≡ true → has_body W g ≡ true
  is_bodied g k e h = ap (λ z. option_map_or (λ (k : PlainMethod). is_some k.body) z false) e ∙ h

  by_sort : (g k s : ℕ) (new : PlainMethod) → slice_get W.methods g ≡ Some new → Sort K k s new → (is_headed F H k s ≡ true → ⊥) → has_body W g ≡ true
  by_sort g k s new e (a_body m b st of) headless = is_bodied g new e (ap is_some b.code.new_code)
  by_sort g k s new e (a_head h none) headless = absurd (headless h)
  by_sort g k s new e (a_filler f b) headless = is_bodied g new e b

  -- the type of the node n offers the slot q by the method m
  module _ (n q m : ℕ) (live : is_live H.order n ≡ true) (made : is_made_at F H n ≡ true) (o : Offers W (T.type_of n) q m) where
    abbrev up : IsSubclass W (T.type_of n) o.method.owner
    up = below-subclass W (T.type_of n) o.method.owner o.above

    instance : o.method.is_static ≡ false
    instance = (((K.new.methods m o.method o.stands).slots q).0 o.slot).instance

    x : IsNewMethod K o.method
    x = new_method K m o.method o.stands instance

    offered : OffersSlot K n x.slot
    offered = slot_below K n x.node x.slot (le_of K n x.node live x.live (subst (λ z. IsSubclass W (T.type_of n) z) x.owner up)) x.offered

    -- another method of the slot, at or above, is of the same old slot
    record IsOther (y : ℕ) : Type 0 where
      method : PlainMethod
      stands : slice_get W.methods y ≡ Some method
      is : IsNewMethod K method
      slot : is.slot ≡ x.slot
      low : is_le H.order n is.node ≡ true

    other : (y e : ℕ) → HasOwn W e q y → IsSubclass W (T.type_of n) e → IsOther y
    other y e own down =
        let in_slot = ((K.new.methods y own.method own.stands).slots q).0 own.slot in
        let named = slot_named K q y m own.method o.method own.stands o.stands own.slot o.slot ∙ x.name in
        let z = of_slot K n x.slot x.method y own.method offered x.of own.stands in_slot.instance named
        (subst (λ z. IsSubclass W (T.type_of n) z) (sym own.owner) down) live in
        record { method = own.method; stands = own.stands; is = z.0; slot = z.1; low = z.2 }

    -- a new method of the old slot, at or above, is of the slot
    in_slot : (g : ℕ) (new : PlainMethod) → slice_get W.methods g ≡ Some new → new.name ≡ o.method.name → IsSubclass W (T.type_of n) new.owner
        → new.slot ≡ Some q
    in_slot g new at named above =
        ⊎_elim
        (λ same. ap (λ (z : PlainMethod). z.slot) (same_Some _ _ (sym at ∙ ap (slice_get W.methods) same ∙ o.stands)) ∙ o.slot)
        (λ slots. slots.1 ∙ o.slot)
        (K.new.one_slot (T.type_of n) g m new o.method at o.stands above up named)

    abbrev HasBody : Type 0
    HasBody = (d : ℕ) × (nearest_declaration W (T.type_of n) q ≡ Some d) × (has_body W d ≡ true)

    -- where a body is offered, the nearest declaration stands at or below it
    with_body : OffersBody K n x.slot → HasBody
    unfolding nearest_declaration
    with_body b =
        let j = b.offers.node in
        let g = new_body K b.method j b.offers.stands in
        let above = subst (λ z. IsSubclass W (T.type_of n) z) (sym g.1.owner) (subclass_of K n j b.offers.above) in
        let slot = in_slot g.0 g.1.method g.1.stands (g.1.is.name ∙ same_name K b.method x.method x.slot b.of x.of ∙ sym x.name) above in
        let there = is_own (T.type_of j) q g.0 (record { method = g.1.method; stands = g.1.stands; owner = g.1.owner; slot = slot }) in
        let class = class_node K j (column.Def b.method) refl (offers_own K j (column.Def b.method) b.offers.stands) in
        let chain = along W K.new (member_class K j (K.order.upper_lives n j b.offers.above) class) (subclass_of K n j b.offers.above) in
        let near = nearest_below W (λ k. own_declaration W k q) chain there.1 in
        let own = own_is near.holder q near.number near.found in
        let y = other near.number near.holder own near.above in
        let owner : near.holder ≡ T.type_of y.is.node = sym own.owner ∙ ap (λ (z : PlainMethod). z.owner) (same_Some _ _ (sym own.stands ∙ y.stands))
        ∙ y.is.owner in
        let high = le_of K y.is.node j y.is.live (K.order.upper_lives n j b.offers.above) (subst (λ z. IsSubclass W z (T.type_of j)) owner near.below) in
        let body : OffersBody K y.is.node y.is.slot =
        record { method = b.method; of = b.of ∙ ap Some (sym y.slot); offers = record { node = j; stands = b.offers.stands; above = high } } in
        let headless = λ (h : is_headed F H y.is.node y.is.slot ≡ true). no_head (is_class_node F H y.is.node) (is_made_at F H y.is.node)
        (offers_body F H y.is.node y.is.slot) h (class_node K y.is.node (column.Def b.method) refl body.offers) (asked_body K y.is.node y.is.slot body) in (
          near.number,
          nearest-nearest_of W
              (λ k. own_declaration W k q) K.new.acyclic near.nearest,
          by_sort near.number y.is.node y.is.slot y.method y.stands y.is.sort headless,
        )

    -- and else a filler stands in the class itself
    with_filler : offers_body F H n x.slot ≡ false → HasBody
    unfolding nearest_declaration
    with_filler none =
        let filled = and_from (is_made_at F H n) (offers_slot F H n x.slot && not (offers_body F H n x.slot)) made
        (and_from (offers_slot F H n x.slot) (not (offers_body F H n x.slot)) (asked_slot K n x.slot offered) (ap not none)) in
        let old = method_of_slot P x.method x.slot x.of in
        let g = K.rebuilt.members.each_filler x.method n x.slot old.method live old.stands old.slot filled in
        let slot = in_slot g.0 g.1 g.2 (g.3.name ∙ sym x.name) (subst (λ z. IsSubclass W (T.type_of n) z) (sym g.3.owner) same_class) in
        let there = is_own (T.type_of n) q g.0 (record { method = g.1; stands = g.2; owner = g.3.owner; slot = slot }) in
        let own = own_is (T.type_of n) q there.0 there.1 in
        let y = other there.0 (T.type_of n) own same_class in
        let owner : T.type_of n ≡ T.type_of y.is.node = sym own.owner ∙ ap (λ (z : PlainMethod). z.owner) (same_Some _ _ (sym own.stands ∙ y.stands))
        ∙ y.is.owner in
        let node : n ≡ y.is.node = K.rebuilt.types.nodes_once n y.is.node live y.is.live owner in
        let headless = λ (h : is_headed F H y.is.node y.is.slot ≡ true). no_head_made (is_class_node F H n) (is_made_at F H n) (offers_body F H n y.is.slot)
        (subst (λ z. is_headed F H z y.is.slot ≡ true) (sym node) h) (made_class K n live made) made in (
          there.0,
          nearest-nearest_of W (λ k. own_declaration W k q) K.new.acyclic
              (at_class there.1),
          by_sort there.0 y.is.node y.is.slot y.method y.stands y.is.sort headless,
        )

    has_one : HasBody
    has_one = ⊎_elim (λ b. with_body (body_asked K n x.slot b)) with_filler (cases_Bool (offers_body F H n x.slot))

  -- a concrete node type is that of a node with objects
  made_there : (n : ℕ) → is_live H.order n ≡ true → is_concrete W (T.type_of n) ≡ true → is_made_at F H n ≡ true
  made_there n live h =
      let t = K.rebuilt.types.nodes n live in
      let both = and_parts (not t.class.is_interface) (not t.class.is_abstract)
      (sym (ap (λ z. option_map_or (λ (k : PlainClass). not k.is_interface && not k.is_abstract) z false) t.stands) ∙ h) in
      let class = no_not (is_class_node F H n) (sym (ap not t.kind) ∙ both.0) in
      no_not (is_made_at F H n) (sym (ap not (t.abstract class)) ∙ both.1)

  -- an instance method of a slot has a node's type, below which no holder stands, and is none of Object
  of_alone : (c q m : ℕ) → ((n : ℕ) → is_live H.order n ≡ true → IsSubclass W c (T.type_of n) → ⊥) → Offers W c q m → ⊥
  of_alone c q m none o =
      let instance = (((K.new.methods m o.method o.stands).slots q).0 o.slot).instance in
      let x = new_method K m o.method o.stands instance in
      none x.node x.live (subst (λ z. IsSubclass W c z) x.owner (below-subclass W c o.method.owner o.above))

  of_object : (c q m : ℕ) → c ≡ 0 → Offers W c q m → ⊥
  of_object c q m e o = (K.new.methods m o.method o.stands).no_object (above_object W K.new e (below-subclass W c o.method.owner o.above))

  pub concrete_bodies : (c : ℕ) → is_concrete W c ≡ true → HasBodies W c
  unfolding HasBodies
  concrete_bodies c h q m o = go (slice_get W.classes c) refl h
    where
      go : (k : Option PlainClass) → slice_get W.classes c ≡ k → is_concrete W c ≡ true → (d : ℕ) × (nearest_declaration W c q ≡ Some d) × (has_body W d ≡ true)
      go None e h = absurd (false≢true (sym (ap (λ z. option_map_or (λ (k : PlainClass). not k.is_interface && not k.is_abstract) z false) e) ∙ h))
      go (Some k) e h =
          ⊎_elim
          (λ zero. absurd (of_object c q m zero o))
          (λ more. ⊎_elim
          (λ n. subst (λ z. (d : ℕ) × (nearest_declaration W z q ≡ Some d) × (has_body W d ≡ true)) (sym n.2)
          (has_one n.0 q m n.1 (made_there n.0 n.1 (subst (λ z. is_concrete W z ≡ true) n.2 h)) (subst (λ z. Offers W z q m) n.2 o)))
          (λ rest. ⊎_elim
          (λ d. absurd (of_alone (T.holder_of d.0) q m (λ n live. no_holder K d.0 n d.1 live) (subst (λ z. Offers W z q m) d.2 o)))
          (λ d. absurd (of_alone T.makers q m (λ n live. no_makers K n d.0 live) (subst (λ z. Offers W z q m) d.1 o)))
          rest)
          more)
          (K.rebuilt.types.all c k e)
