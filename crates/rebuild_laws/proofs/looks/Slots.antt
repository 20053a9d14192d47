-- The slots and bodies that nodes offer, and that a node offers no two slots of one name.
use Rattle.std.proofs.Common.{◌≡◌, ℕ, ◌<◌, ◌&&◌, [], Option, Some, None, refl, sym, ap, ◌∙◌}
use Rattle.std.specs.Prelude.{true, length, slice_get, option_and_then}
use Rattle.std.specs.Option.{option_map_or}
use Rattle.std.proofs.lemmas.Bool.{false≢true, and_from, and_parts, eq-eqb}
use Rattle.kaba_base.specs.declared.NodeId.{NodeId}
use Rattle.java_core.specs.Programs.{Plain, PlainMethod}
use Rattle.java_core.specs.Classes.{slot_of_method}
use Rattle.kaba_order.specs.Orders.{is_le}
use Rattle.fact_model.specs.Items.{column_kind, column_slot}
use Rattle.fact_model.specs.Classes.{is_def, is_slot}
use Rattle.fact_model.specs.declared.facts.Facts.{Facts}
use Rattle.fact_model.proofs.ClassLemmas.{slot_says}
use Rattle.hier_model.specs.Hierarchies.{Hierarchy, place_of_column, member_name, is_above, is_offered, offers_slot, is_method}
use Rattle.hier_model.proofs.AnyLemmas.{any_below_some, any_below_has}
use Rattle.flow_rules.specs.declared.items.ColumnItem.{ColumnItem}
use Rattle.flow_rules.specs.declared.items.ColumnItem.TheVariants as column
use Rattle.flow_rules.specs.Facts.{numbers, kind_of, slot_in}
use Rattle.rebuild_model.specs.Renaming.{renaming_of}
use Rattle.rebuild_model.specs.Members.{offers_body}
use Rattle.rebuild_laws.specs.looks.Known.{KnownOfBoth, Offers, sides}
use Rattle.rebuild_laws.proofs.looks.Nodes.{is_offered_at, offers_at}

pub slot_test : (o : Option ℕ) (x : ℕ) → o ≡ Some x → is_slot o x ≡ true
slot_test o x h = ap (λ z. is_slot z x) h ∙ eq-eqb x x refl

-- the old method of a slot
pub record HasSlot (P : Plain) (m s : ℕ) : Type 0 where
  pub method : PlainMethod
  pub stands : slice_get P.methods m ≡ Some method
  pub slot : method.slot ≡ Some s

pub method_of_slot : (P : Plain) (m s : ℕ) → slot_of_method P m ≡ Some s → HasSlot P m s
method_of_slot P m s h = go (slice_get P.methods m) refl h
  where
    go : (o : Option PlainMethod) → slice_get P.methods m ≡ o → option_and_then (λ (k : PlainMethod). k.slot) o ≡ Some s → HasSlot P m s
    go None e h = absurd (cc h)
    go (Some k) e h = record { method = k; stands = e; slot = h }

-- a column of a slot is one of a method
pub data IsMethodItem : ColumnItem → ℕ → Type 0 where
  a_declaration : {m : ℕ} → IsMethodItem (column.Dcl m) m
  a_body : {m : ℕ} → IsMethodItem (column.Def m) m

module _ {P : Plain} {F : Facts} {H : Hierarchy} {W : Plain} (K : KnownOfBoth P F H W) where
  open sides K use {renaming as R}

  -- the new name of a method is that of each column of its slot
  pub slot_name : (m s c : ℕ) → slot_of_method P m ≡ Some s → is_method (column_kind F c) ≡ true → column_slot F c ≡ Some s → R.method_name m ≡ member_name H c
  unfolding renaming_of
  slot_name m s c e k x =
      let d = K.columns.declared m s e in
      ap (λ o. option_map_or (member_name H) o []) d.1
      ∙ K.names d.0 c s (ap is_method (K.columns.kind (column.Dcl m) d.0 d.1)) k (K.columns.slot (column.Dcl m) d.0 d.1 ∙ e) x

  -- methods of one slot have one name
  pub same_name : (m k s : ℕ) → slot_of_method P m ≡ Some s → slot_of_method P k ≡ Some s → R.method_name m ≡ R.method_name k
  same_name m k s e h =
      let d = K.columns.declared k s h in
      let method = ap is_method (K.columns.kind (column.Dcl k) d.0 d.1) in
      let slot = K.columns.slot (column.Dcl k) d.0 d.1 ∙ h in
      slot_name m s d.0 e method slot ∙ sym (slot_name k s d.0 h method slot)

  -- a node offers a slot: it offers a declaration or a body of it
  pub record OffersSlot (n s : ℕ) : Type 0 where
    pub column : ℕ
    pub below : column < length F.columns.items
    pub method : is_method (column_kind F column) ≡ true
    pub slot : column_slot F column ≡ Some s
    pub offered : is_offered H n column ≡ true

  pub offers_item : (n s : ℕ) (i : ColumnItem) → is_method (kind_of i) ≡ true → slot_in P i ≡ Some s → Offers K n i → OffersSlot n s
  offers_item n s i k e o = record {
    column = o.stands.number;
    below = K.columns.below i o.stands.number o.stands.numbered;
    method = ap is_method (K.columns.kind i o.stands.number o.stands.numbered) ∙ k;
    slot = K.columns.slot i o.stands.number o.stands.numbered ∙ e;
    offered = is_offered_at K n i o.stands.number o.stands.numbered o;
  }

  offered_below : (n m c : ℕ) → is_le H.order n m ≡ true → is_offered H m c ≡ true → is_offered H n c ≡ true
  offered_below n m c h o = go (place_of_column H c) o
    where
      go : (p : Option NodeId) → is_above H.order m p ≡ true → is_above H.order n p ≡ true
      go None k = absurd (false≢true k)
      go (Some p) k = K.order.transitive n m p.0 h k

  pub slot_below : (n m s : ℕ) → is_le H.order n m ≡ true → OffersSlot m s → OffersSlot n s
  slot_below n m s h o = record { column = o.column; below = o.below; method = o.method; slot = o.slot; offered = offered_below n m o.column h o.offered }

  -- two slots of one name that a node offers are one
  pub slots_apart : (n s t m k : ℕ) → OffersSlot n s → OffersSlot n t → slot_of_method P m ≡ Some s → slot_of_method P k ≡ Some t
      → R.method_name m ≡ R.method_name k → s ≡ t
  slots_apart n s t m k a b e h same =
      K.apart.slots n a.column b.column s t a.method b.method a.slot b.slot a.offered b.offered
      (sym (slot_name m s a.column e a.method a.slot) ∙ same ∙ slot_name k t b.column h b.method b.slot)

  method_item : (i : ColumnItem) (s : ℕ) → slot_in P i ≡ Some s → (m : ℕ) × IsMethodItem i m × (slot_of_method P m ≡ Some s) × (is_method (kind_of i) ≡ true)
  method_item (column.Fld f) s h = absurd (cc h)
  method_item (column.Dcl m) s h = (m, a_declaration, h, refl)
  method_item (column.Def m) s h = (m, a_body, h, refl)
  method_item (column.Is c) s h = absurd (cc h)

  pub slot_item : (n s : ℕ) → OffersSlot n s → (i : ColumnItem) × (m : ℕ) × IsMethodItem i m × (slot_of_method P m ≡ Some s) × Offers K n i
  slot_item n s o =
      let i = K.columns.item o.column o.below in
      let m = method_item i.0 s (sym (K.columns.slot i.0 o.column i.1) ∙ o.slot) in
      (i.0, m.0, m.1, m.2, offers_at K n i.0 o.column i.1 o.offered)

  -- the tests of the hierarchy
  pub slot_asked : (n s : ℕ) → offers_slot F H n s ≡ true → OffersSlot n s
  slot_asked n s h =
      let c = any_below_some (λ c. is_slot (column_slot F c) s && is_offered H n c) (length F.columns.items) h in
      let both = and_parts (is_slot (column_slot F c.0) s) (is_offered H n c.0) c.2 in
      let slot = slot_says (column_slot F c.0) s both.0 in
      let i = K.columns.item c.0 c.1 in
      let m = method_item i.0 s (sym (K.columns.slot i.0 c.0 i.1) ∙ slot) in
      record { column = c.0; below = c.1; method = ap is_method (K.columns.kind i.0 c.0 i.1) ∙ m.3; slot = slot; offered = both.1 }

  pub asked_slot : (n s : ℕ) → OffersSlot n s → offers_slot F H n s ≡ true
  asked_slot n s o =
      any_below_has (λ c. is_slot (column_slot F c) s && is_offered H n c) (length F.columns.items) o.column o.below
      (and_from (is_slot (column_slot F o.column) s) (is_offered H n o.column) (slot_test (column_slot F o.column) s o.slot) o.offered)

  -- a node offers a body of a slot
  pub record OffersBody (n s : ℕ) : Type 0 where
    pub method : ℕ
    pub of : slot_of_method P method ≡ Some s
    pub offers : Offers K n (column.Def method)

  pub body_asked : (n s : ℕ) → offers_body F H n s ≡ true → OffersBody n s
  body_asked n s h =
      let c = any_below_some (λ c. is_def (column_kind F c) && (is_slot (column_slot F c) s && is_offered H n c)) (length F.columns.items) h in
      let outer = and_parts (is_def (column_kind F c.0)) (is_slot (column_slot F c.0) s && is_offered H n c.0) c.2 in
      let both = and_parts (is_slot (column_slot F c.0) s) (is_offered H n c.0) outer.1 in
      let i = K.columns.item c.0 c.1 in
      body i.0 c.0 i.1 (sym (ap is_def (K.columns.kind i.0 c.0 i.1)) ∙ outer.0)
      (sym (K.columns.slot i.0 c.0 i.1) ∙ slot_says (column_slot F c.0) s both.0) both.1
    where
      body : (i : ColumnItem) (c : ℕ) → (numbers P).column i ≡ Some c → is_def (kind_of i) ≡ true → slot_in P i ≡ Some s
          → is_offered H n c ≡ true → OffersBody n s
      body (column.Fld f) c e k x o = absurd (false≢true k)
      body (column.Dcl m) c e k x o = absurd (false≢true k)
      body (column.Def m) c e k x o = record { method = m; of = x; offers = offers_at K n (column.Def m) c e o }
      body (column.Is a) c e k x o = absurd (false≢true k)

  pub asked_body : (n s : ℕ) → OffersBody n s → offers_body F H n s ≡ true
  asked_body n s o =
      let c = o.offers.stands.number in
      let e = o.offers.stands.numbered in
      any_below_has (λ c. is_def (column_kind F c) && (is_slot (column_slot F c) s && is_offered H n c)) (length F.columns.items) c
      (K.columns.below (column.Def o.method) c e)
      (and_from (is_def (column_kind F c)) (is_slot (column_slot F c) s && is_offered H n c)
      (ap is_def (K.columns.kind (column.Def o.method) c e))
      (and_from (is_slot (column_slot F c) s) (is_offered H n c)
      (slot_test (column_slot F c) s (K.columns.slot (column.Def o.method) c e ∙ o.of)) (is_offered_at K n (column.Def o.method) c e o.offers)))
