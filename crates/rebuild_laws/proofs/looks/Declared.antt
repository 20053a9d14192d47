-- A node that offers a slot finds a declaration under its new name, and the slot of it has the types of the old slot's rows.
use Rattle.std.proofs.Common.{◌≡◌, ℕ, ◌⊎◌, ◌&&◌, ◌||◌, Some, refl, sym, ap, ◌∙◌, subst, ⊎_elim, inl, inr}
use Rattle.std.specs.Prelude.{Bool, true, false, not, slice_get, option_and_then}
use Rattle.std.specs.Option.{option_map}
use Rattle.std.proofs.lemmas.Bool.{false≢true, and_from, cases_Bool}
use Rattle.std.proofs.lemmas.Option.{same_Some}
use Rattle.java_core.specs.Programs.{Plain, PlainMethod, PlainSlot}
use Rattle.java_core.specs.Classes.{IsSubclass, declaration_of, slot_of_method, slot_of}
use Rattle.java_core.specs.Types.{signature_of_slot}
use Rattle.java_core.proofs.Offered.{declaration-above, own_method-own, offered-declared}
use Rattle.kaba_order.specs.Orders.{is_le, is_live}
use Rattle.fact_model.specs.declared.facts.Facts.{Facts}
use Rattle.hier_model.specs.Hierarchies.{Hierarchy, is_class_node, offers_slot}
use Rattle.flow_rules.specs.declared.items.RowItem.TheVariants as row
use Rattle.flow_rules.specs.declared.items.ColumnItem.{ColumnItem}
use Rattle.flow_rules.specs.declared.items.ColumnItem.TheVariants as column
use Rattle.rebuild_model.specs.Renaming.{retyped_if}
use Rattle.rebuild_model.specs.Makes.{slot_types}
use Rattle.rebuild_model.specs.Members.{is_made_at, offers_body, is_headed, StandsAt, IsBody, IsOfSlot}
use Rattle.rebuild_laws.specs.looks.Known.{KnownOfBoth, Offers, sides}
use Rattle.rebuild_laws.proofs.looks.Nodes.{subclass_of, le_of, stands_once, stands_live, offers_own}
use Rattle.rebuild_laws.proofs.looks.Slots.{HasSlot, method_of_slot, IsMethodItem, a_declaration, a_body, same_name, OffersSlot, offers_item, slot_below, slots_apart, slot_item, asked_slot, OffersBody, body_asked}
use Rattle.rebuild_laws.proofs.looks.Methods.{IsNewMethod, new_method}

not_headed : (a b c : Bool) → (not a || (not b && not c)) ≡ false → (b ≡ true) ⊎ (c ≡ true)
not_headed true true c h = inl refl
not_headed true false true h = inr refl
not_headed true false false h = absurd (false≢true (sym h))
not_headed false b c h = absurd (false≢true (sym h))

module _ {P : Plain} {F : Facts} {H : Hierarchy} {W : Plain} (K : KnownOfBoth P F H W) where
  open sides K use {places as T, renaming as R}

  -- a new method that is the body of the old method m, at a node
  pub record IsNewBody (m n g : ℕ) : Type 0 where
    pub method : PlainMethod
    pub stands : slice_get W.methods g ≡ Some method
    pub is : IsBody P F H W T m method
    pub owner : method.owner ≡ T.type_of n

  pub new_body : (m n : ℕ) → StandsAt P F H W T (column.Def m) n → (g : ℕ) × IsNewBody m n g
  new_body m n s =
      let x = K.rebuilt.members.each_body m n s in (
        x.0,
        record {
          method = x.1;
          stands = x.2;
          is = x.3;
          owner = x.3.at.owner_is
              ∙ ap T.type_of (stands_once K x.3.at.node n (column.Def m) x.3.at.stands s);
        },
      )

  -- a method of the new name stands at or above the type of a node
  pub record IsDeclared (n m : ℕ) : Type 0 where
    pub number : ℕ
    pub method : PlainMethod
    pub stands : slice_get W.methods number ≡ Some method
    pub instance : method.is_static ≡ false
    pub name : method.name ≡ R.method_name m
    pub above : IsSubclass W (T.type_of n) method.owner

  up_to : (n j c : ℕ) → is_le H.order n j ≡ true → c ≡ T.type_of j → IsSubclass W (T.type_of n) c
  up_to n j c h e = subst (λ z. IsSubclass W (T.type_of n) z) (sym e) (subclass_of K n j h)

  by_body : (n j m s : ℕ) → is_le H.order n j ≡ true → slot_of_method P m ≡ Some s → OffersBody K j s → IsDeclared n m
  by_body n j m s h e o =
      let x = new_body o.method o.offers.node o.offers.stands in
      record {
        number = x.0;
        method = x.1.method;
        stands = x.1.stands;
        instance = x.1.is.at.instance;
        name = x.1.is.name ∙ same_name K o.method m s o.of e;
        above = up_to n o.offers.node x.1.method.owner (K.order.transitive n j o.offers.node h o.offers.above) x.1.owner;
      }

  module _ (n at m k s : ℕ) (up : is_le H.order n at ≡ true) (e : slot_of_method P m ≡ Some s) (old : HasSlot P k s) where
    of_k : slot_of_method P k ≡ Some s
    of_k = ap (option_and_then (λ (z : PlainMethod). z.slot)) old.stands ∙ old.slot

    by_slot : (g : ℕ) (new : PlainMethod) → slice_get W.methods g ≡ Some new → IsOfSlot P F H W T at k new → IsDeclared n m
    by_slot g new there o = record {
      number = g;
      method = new;
      stands = there;
      instance = o.instance;
      name = o.name ∙ same_name K k m s of_k e;
      above = up_to n at new.owner up o.owner;
    }

    by_head : StandsAt P F H W T (column.Dcl k) at → is_headed F H at s ≡ true → IsDeclared n m
    by_head stands headed =
        let x = K.rebuilt.members.each_head k at s old.method stands old.stands old.slot headed in
        by_slot x.0 x.1 x.2 x.4

    by_filler : StandsAt P F H W T (column.Dcl k) at → is_made_at F H at ≡ true → offers_body F H at s ≡ false → IsDeclared n m
    by_filler stands made none =
        let offered = asked_slot K at s (offers_item K at s (column.Dcl k) refl of_k (offers_own K at (column.Dcl k) stands)) in
        let filled = and_from (is_made_at F H at) (offers_slot F H at s && not (offers_body F H at s)) made
        (and_from (offers_slot F H at s) (not (offers_body F H at s)) offered (ap not none)) in
        let x = K.rebuilt.members.each_filler k at s old.method (stands_live K at (column.Dcl k) stands) old.stands old.slot filled in
        by_slot x.0 x.1 x.2 x.3

    by_declaration : StandsAt P F H W T (column.Dcl k) at → IsDeclared n m
    by_declaration stands =
        ⊎_elim (λ b. by_body n at m s up e (body_asked K at s b)) (λ none. ⊎_elim (λ headed. by_head stands headed)
        (λ no. by_filler stands (⊎_elim (λ made. made) (λ b. absurd (false≢true (sym none ∙ b)))
        (not_headed (is_class_node F H at) (is_made_at F H at) (offers_body F H at s) no)) none)
        (cases_Bool (is_headed F H at s)))
        (cases_Bool (offers_body F H at s))

  -- each offered slot is declared at the node or above it
  pub declared : (n s m : ℕ) → OffersSlot K n s → slot_of_method P m ≡ Some s → IsDeclared n m
  declared n s m o e =
      let i = slot_item K n s o in
      by_item i.0 i.1 i.2 i.3 i.4
    where
      by_item : (i : ColumnItem) (k : ℕ) → IsMethodItem i k → slot_of_method P k ≡ Some s → Offers K n i → IsDeclared n m
      by_item _ k a_declaration h x = by_declaration n x.node m k s x.above e (method_of_slot P k s h) x.stands
      by_item _ k a_body h x = by_body n n m s (K.order.reflexive n (K.order.lower_lives n x.node x.above)) e (record { method = k; of = h; offers = x })

  -- an instance method at or above the type of a node, of the new name of a slot that the node offers, is of this slot
  pub of_slot : (n s m g : ℕ) (new : PlainMethod) → OffersSlot K n s → slot_of_method P m ≡ Some s → slice_get W.methods g ≡ Some new → new.is_static ≡ false
      → new.name ≡ R.method_name m → IsSubclass W (T.type_of n) new.owner → is_live H.order n ≡ true
      → (x : IsNewMethod K new) × (x.slot ≡ s) × (is_le H.order n x.node ≡ true)
  of_slot n s m g new o e at instance named up live =
      let x = new_method K g new at instance in
      let low = le_of K n x.node live x.live (subst (λ z. IsSubclass W (T.type_of n) z) x.owner up) in
      (x, slots_apart K n x.slot s x.method m (slot_below K n x.node x.slot low x.offered) o x.of e (sym x.name ∙ named), low)

  -- what is found for the name
  pub record IsFound (n s m d : ℕ) : Type 0 where
    pub method : PlainMethod
    pub found : declaration_of W (T.type_of n) (R.method_name m) ≡ Some d
    pub stands : slice_get W.methods d ≡ Some method
    pub instance : method.is_static ≡ false
    pub name : method.name ≡ R.method_name m
    pub above : IsSubclass W (T.type_of n) method.owner
    pub is : IsNewMethod K method
    pub slot : is.slot ≡ s

  module _ (n s m : ℕ) (live : is_live H.order n ≡ true) (o : OffersSlot K n s) (e : slot_of_method P m ≡ Some s) where
    pub finds_declaration : (d : ℕ) × IsFound n s m d
    finds_declaration =
        let x = declared n s m o e in
        let slot = (K.new.methods x.number x.method x.stands).slotted x.instance in
        let there = offered-declared W K.new (T.type_of n) (R.method_name m) slot.0
        (record { number = x.number; method = x.method; stands = x.stands; instance = x.instance; name = x.name; above = x.above; slot = slot.1 }) in
        let a = declaration-above W (T.type_of n) (R.method_name m) there.0 there.1 in
        let k = own_method-own W a.holder (R.method_name m) there.0 a.found in
        let up = subst (λ b. IsSubclass W (T.type_of n) b) (sym k.owner) a.above in
        let y = of_slot n s m there.0 k.method o e k.stands k.instance k.name up live in
        (there.0, record { method = k.method; found = there.1; stands = k.stands; instance = k.instance; name = k.name; above = up; is = y.0; slot = y.1 })

    -- and its slot has the types of the old slot's rows
    pub record IsSlotFound (signature : PlainSlot) (q : ℕ) : Type 0 where
      pub found : slot_of W (T.type_of n) (R.method_name m) ≡ Some q
      pub types : signature_of_slot W q ≡ Some
          (record { params = slot_types R s signature.params; result = retyped_if (R.row_type (row.Return s)) signature.result })

    pub finds_slot : (signature : PlainSlot) → slice_get P.slots s ≡ Some signature → (q : ℕ) × IsSlotFound signature q
    finds_slot signature stands =
        let d = finds_declaration.0 in
        let x = finds_declaration.1 in
        let f = K.new.methods d x.method x.stands in
        let q = f.slotted x.instance in
        let in_slot = (f.slots q.0).0 q.1 in
        let same : x.is.signature ≡ signature = same_Some _ _ (sym x.is.slot_stands ∙ ap (slice_get P.slots) x.slot ∙ stands) in
        let params = sym in_slot.params ∙ x.is.types.params ∙ ap (λ z. slot_types R z x.is.signature.params) x.slot
        ∙ ap (λ (z : PlainSlot). slot_types R s z.params) same in
        let result = sym in_slot.result ∙ x.is.types.result ∙ ap (λ z. retyped_if (R.row_type (row.Return z)) x.is.signature.result) x.slot
        ∙ ap (λ (z : PlainSlot). retyped_if (R.row_type (row.Return s)) z.result) same in (
          q.0,
          record {
            found = ap (option_and_then (slot_of_method W)) x.found ∙ ap (option_and_then (λ (z : PlainMethod). z.slot)) x.stands ∙ q.1;
            types = ap (option_map (λ (z : PlainSlot). record { params = z.params; result = z.result })) in_slot.stands
                ∙ ap (λ z. Some (record { params = z; result = in_slot.slot.result })) params
                ∙ ap (λ z. Some (record { params = slot_types R s signature.params; result = z })) result;
          },
        )
