-- What an instance method of a program that rebuilds another is: of a slot, with the types of the slot, at a node that offers it.
use Rattle.std.proofs.Common.{◌≡◌, ℕ, ◌+◌, ◌≤◌, ◌&&◌, List, [], ◌∷◌, Some, None, refl, sym, ap, ◌∙◌, ⊎_elim, arith}
use Rattle.std.specs.Option.{is_some}
use Rattle.std.specs.Prelude.{true, false, not, length, slice_get, nat_lt, option_and_then}
use Rattle.std.proofs.lemmas.Bool.{and_parts, lt-ltb}
use Rattle.java_core.specs.Programs.{Plain, PlainLocal, PlainMethod, PlainSlot}
use Rattle.java_core.specs.Classes.{slot_of_method}
use Rattle.java_core.specs.Formed.{IsInSlot}
use Rattle.java_core.specs.Types.{types_of}
use Rattle.kaba_order.specs.Orders.{is_live}
use Rattle.fact_model.specs.declared.facts.Facts.{Facts}
use Rattle.hier_model.specs.Hierarchies.{Hierarchy, offers_slot}
use Rattle.flow_rules.specs.declared.items.RowItem.TheVariants as row
use Rattle.flow_rules.specs.declared.items.ColumnItem.TheVariants as column
use Rattle.flow_rules.specs.Ordered.{each}
use Rattle.flow_rules.specs.Operands.{variable_row, variable_in, result_in}
use Rattle.rebuild_model.specs.Renaming.{Renaming, retyped, retyped_if}
use Rattle.rebuild_model.specs.Makes.{slot_types}
use Rattle.rebuild_model.specs.Members.{is_made_at, offers_body, is_headed, is_filled, new_types, HasTypes, HasSlotTypes, StandsAt, IsBody, IsOfSlot, IsHead, IsFiller}
use Rattle.rebuild_laws.specs.looks.Known.{KnownOfBoth, sides}
use Rattle.rebuild_laws.proofs.looks.Nodes.{stands_live, offers_own}
use Rattle.rebuild_laws.proofs.looks.Slots.{OffersSlot, offers_item, slot_asked}

-- the parameters of a method of a slot have the types of the slot's rows
module _ (R : Renaming) (m s : ℕ) (old : PlainMethod) (slot : old.slot ≡ Some s) where
  param_types : (n : ℕ) (vs : List PlainLocal) → n + length vs ≤ length old.params
      → new_types R m old n vs ≡ each (λ i t. retyped (R.row_type (row.Param s i)) t ∷ []) n (types_of vs)
  param_types n [] h = refl
  param_types n (v ∷ vs) h =
      let lt : nat_lt n (length old.params) ≡ true = lt-ltb n (length old.params) (omega (arith, h)) in
      let head : variable_row m old n ≡ row.Param s n = ap (λ z. variable_in z (nat_lt n (length old.params)) m n) slot
      ∙ ap (λ z. variable_in (Some s) z m n) lt in
      ap (λ z. retyped (R.row_type z) v.ty ∷ new_types R m old (n + 1) vs) head
      ∙ ap (λ z. retyped (R.row_type (row.Param s n)) v.ty ∷ z) (param_types (n + 1) vs (omega (arith, h)))

  pub body_types : (P : Plain) (new : PlainMethod) → HasTypes R m old new → (in_slot : IsInSlot P s old) → HasSlotTypes R s in_slot.slot new
  body_types P new t in_slot = record {
    params = t.params ∙ param_types 0 old.params (omega arith) ∙ ap (slot_types R s) in_slot.params;
    result = t.result ∙ ap (λ z. retyped_if (R.row_type (result_in z m)) old.result) slot ∙ ap (retyped_if (R.row_type (row.Return s))) in_slot.result;
  }

module _ {P : Plain} {F : Facts} {H : Hierarchy} {W : Plain} (K : KnownOfBoth P F H W) where
  open sides K use {places as T, renaming as R}

  -- why it stands at the node: as the body of an old method, as a head, or as a filler
  pub data Sort (n s : ℕ) (new : PlainMethod) : Type 0 where
    a_body : (m : ℕ) → IsBody P F H W T m new → StandsAt P F H W T (column.Def m) n → slot_of_method P m ≡ Some s → Sort n s new
    a_head : is_headed F H n s ≡ true → new.body ≡ None → Sort n s new
    a_filler : is_filled F H n s ≡ true → is_some new.body ≡ true → Sort n s new

  pub record IsNewMethod (new : PlainMethod) : Type 0 where
    pub node : ℕ
    pub live : is_live H.order node ≡ true
    pub owner : new.owner ≡ T.type_of node
    -- an old method of the slot
    pub method : ℕ
    pub slot : ℕ
    pub of : slot_of_method P method ≡ Some slot
    pub name : new.name ≡ R.method_name method
    pub signature : PlainSlot
    pub slot_stands : slice_get P.slots slot ≡ Some signature
    pub types : HasSlotTypes R slot signature new
    pub offered : OffersSlot K node slot
    pub sort : Sort node slot new

  from_body : (m : ℕ) (new : PlainMethod) → IsBody P F H W T m new → IsNewMethod new
  from_body m new b =
      let s = K.columns.slotted (column.Def m) b.at.stands.number b.at.stands.numbered refl in
      let slot : b.old.slot ≡ Some s.0 = sym (ap (option_and_then (λ (k : PlainMethod). k.slot)) b.old_stands) ∙ s.1 in
      let in_slot = ((K.old.methods m b.old b.old_stands).slots s.0).0 slot in
      record {
        node = b.at.node;
        live = stands_live K b.at.node (column.Def m) b.at.stands;
        owner = b.at.owner_is;
        method = m;
        slot = s.0;
        of = s.1;
        name = b.name;
        signature = in_slot.slot;
        slot_stands = in_slot.stands;
        types = body_types R m s.0 b.old slot P new b.types in_slot;
        offered = offers_item K b.at.node s.0 (column.Def m) refl s.1 (offers_own K b.at.node (column.Def m) b.at.stands);
        sort = a_body m b b.at.stands s.1;
      }

  from_slot : (n m : ℕ) (new : PlainMethod) (o : IsOfSlot P F H W T n m new) → is_live H.order n ≡ true → OffersSlot K n o.was.slot
      → Sort n o.was.slot new → IsNewMethod new
  from_slot n m new o live offered sort = record {
    node = n;
    live = live;
    owner = o.owner;
    method = m;
    slot = o.was.slot;
    of = ap (option_and_then (λ (k : PlainMethod). k.slot)) o.was.old_stands ∙ o.was.of_slot;
    name = o.name;
    signature = o.was.signature;
    slot_stands = o.was.slot_stands;
    types = o.types;
    offered = offered;
    sort = sort;
  }

  from_head : (n m : ℕ) (new : PlainMethod) → IsHead P F H W T n m new → IsNewMethod new
  from_head n m new h =
      let of : slot_of_method P m ≡ Some h.of.was.slot = ap (option_and_then (λ (k : PlainMethod). k.slot)) h.of.was.old_stands ∙ h.of.was.of_slot in
      from_slot n m new h.of (stands_live K n (column.Dcl m) h.stands)
      (offers_item K n h.of.was.slot (column.Dcl m) refl of (offers_own K n (column.Dcl m) h.stands)) (a_head h.headed h.bodyless)

  from_filler : (n m : ℕ) (new : PlainMethod) → IsFiller P F H W T n m new → IsNewMethod new
  from_filler n m new f =
      let parts = and_parts (is_made_at F H n) (offers_slot F H n f.of.was.slot && not (offers_body F H n f.of.was.slot)) f.filled in
      from_slot n m new f.of f.live (slot_asked K n f.of.was.slot
      (and_parts (offers_slot F H n f.of.was.slot) (not (offers_body F H n f.of.was.slot)) parts.1).0) (a_filler f.filled f.bodied)

  pub new_method : (g : ℕ) (new : PlainMethod) → slice_get W.methods g ≡ Some new → new.is_static ≡ false → IsNewMethod new
  new_method g new at instance =
      ⊎_elim (λ b. from_body b.0 new b.1) (λ h. ⊎_elim (λ x. from_head h.0 h.1 new x) (λ x. from_filler h.0 h.1 new x) h.2)
      (K.rebuilt.members.methods g new at instance)
