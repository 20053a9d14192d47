-- Slots, fields and bodies of a program's facts, and their names.
use Rattle.std.proofs.Common.{◌≡◌, ℕ, [], Some, None, length, refl, sym, ap, ◌∙◌, subst, ⊎_elim}
use Rattle.std.specs.Prelude.{◌<◌, false, slice_get}
use Rattle.std.specs.Option.{option_map_or, option_and_then}
use Rattle.std.proofs.lemmas.Option.{same_Some}
use Rattle.java_core.specs.Programs.{Plain, PlainMethod}
use Rattle.java_core.specs.Classes.{IsSubclass}
use Rattle.java_core.specs.Formed.{IsFormed, IsInSlot}
use Rattle.fact_model.specs.Items.{column_at as info_at, column_class, column_kind, column_slot}
use Rattle.fact_model.specs.Classes.{IsBelow}
use Rattle.fact_model.specs.InOrder.{name_of, AreMembersInOrder}
use Rattle.fact_model.specs.declared.facts.ColumnInfo.{ColumnInfo}
use Rattle.fact_model.specs.declared.facts.Facts.{Facts}
use Rattle.fact_model.specs.declared.facts.ColKind.{ColKind}
use Rattle.fact_model.specs.declared.facts.ColKind.TheVariants as kind
use Rattle.flow_rules.specs.declared.items.ColumnItem.{ColumnItem}
use Rattle.flow_rules.specs.declared.items.ColumnItem.TheVariants as column
use Rattle.flow_rules.specs.Numbered.{column_number}
use Rattle.flow_rules.specs.Facts.{column_info, kind_of, owner_of, slot_in, name_in, column_name, IsFactsOf}
use Rattle.flow_laws.proofs.order.Columns.{Stands, for_field, for_declaration, for_body, for_mark, HasItem, item_of, slot_below}
use Rattle.flow_laws.proofs.order.Classes.{below_subclass}
use Rattle.flow_laws.proofs.order.Fixed.{column_named, column_same}
use Rattle.flow_laws.proofs.order.Names.{method_word}

module _ (P : Plain) (formed : IsFormed P) where
  -- an instance method of the program, of a slot
  pub record IsMember (i : ColumnItem) (x : ℕ) : Type 0 where
    pub number : ℕ
    pub method : PlainMethod
    pub stands : slice_get P.methods number ≡ Some method
    pub slot : method.slot ≡ Some x
    pub in_slot : IsInSlot P x method
    pub owner : owner_of P i ≡ method.owner
    pub name : name_in P i ≡ column_name P method

  method_member : (i : ColumnItem) (m x : ℕ) (k : PlainMethod) → slice_get P.methods m ≡ Some k
      → slot_in P i ≡ option_and_then (λ k. k.slot) (slice_get P.methods m) → owner_of P i ≡ option_map_or (λ k. k.owner) (slice_get P.methods m) 0
      → name_in P i ≡ option_map_or (column_name P) (slice_get P.methods m) [] → slot_in P i ≡ Some x → IsMember i x
  method_member i m x k e s o n h =
      let a : k.slot ≡ Some x = sym (ap (λ y. option_and_then (λ k. k.slot) y) e) ∙ sym s ∙ h in
      record {
        number = m;
        method = k;
        stands = e;
        slot = a;
        in_slot = ((formed.methods m k e).slots x).0 a;
        owner = o ∙ ap (λ y. option_map_or (λ k. k.owner) y 0) e;
        name = n ∙ ap (λ y. option_map_or (column_name P) y []) e;
      }

  pub member_of : (i : ColumnItem) (x : ℕ) → Stands P i → slot_in P i ≡ Some x → IsMember i x
  member_of _ x (for_declaration m k e s) h = method_member (column.Dcl m) m x k e refl refl refl h
  member_of _ x (for_body m k e s b) h = method_member (column.Def m) m x k e refl refl refl h
  member_of _ x (for_field f k e s) h = absurd (cc)
  member_of _ x (for_mark c) h = absurd (cc)

  two_fields : (i j : ColumnItem) → Stands P i → Stands P j → kind_of i ≡ kind.Fld → kind_of j ≡ kind.Fld → owner_of P i ≡ owner_of P j
      → name_in P i ≡ name_in P j → i ≡ j
  two_fields _ _ (for_field f h e s) (for_field g k d t) a b o n =
      ap (λ z. column.Fld z)
      (formed.field_names f g h k e d
      (sym (ap (λ z. option_map_or (λ k. k.owner) z 0) e) ∙ o ∙ ap (λ z. option_map_or (λ k. k.owner) z 0) d)
      (sym (ap (λ z. option_map_or (λ k. k.name) z []) e) ∙ n ∙ ap (λ z. option_map_or (λ k. k.name) z []) d))
  two_fields _ _ (for_field f h e s) (for_declaration m k d t) a b o n = absurd (cc)
  two_fields _ _ (for_field f h e s) (for_body m k d t c) a b o n = absurd (cc)
  two_fields _ _ (for_field f h e s) (for_mark c) a b o n = absurd (cc)
  two_fields _ _ (for_declaration m k d t) z a b o n = absurd (cc)
  two_fields _ _ (for_body m k d t c) z a b o n = absurd (cc)
  two_fields _ _ (for_mark c) z a b o n = absurd (cc)

  field_slot : (i : ColumnItem) → Stands P i → kind_of i ≡ kind.Fld → slot_in P i ≡ None
  field_slot _ (for_field f h e s) a = refl
  field_slot _ (for_declaration m k d t) a = absurd (cc)
  field_slot _ (for_body m k d t c) a = absurd (cc)
  field_slot _ (for_mark c) a = absurd (cc)

  slot_has : (m : ℕ) (k : PlainMethod) → slice_get P.methods m ≡ Some k → k.is_static ≡ false → (s : ℕ) × (slot_in P (column.Def m) ≡ Some s)
  slot_has m k e s =
      let w = (formed.methods m k e).slotted s in
      (w.0, ap (λ y. option_and_then (λ k. k.slot) y) e ∙ w.1)

  same_method : (i j : ColumnItem) (x : ℕ) (a : IsMember i x) (b : IsMember j x) → owner_of P i ≡ owner_of P j → a.number ≡ b.number
  same_method i j x a b o =
      formed.method_names a.number b.number a.method b.method a.stands b.stands (sym a.owner ∙ o ∙ b.owner)
      (a.in_slot.name ∙ ap (λ z. z.name) (same_Some _ _ (sym a.in_slot.stands ∙ b.in_slot.stands)) ∙ sym b.in_slot.name)

  two_bodies : (i j : ColumnItem) → Stands P i → Stands P j → kind_of i ≡ kind.Def → kind_of j ≡ kind.Def → owner_of P i ≡ owner_of P j
      → slot_in P i ≡ slot_in P j → i ≡ j
  unfolding method_member
  two_bodies _ _ (for_body m h e s p) (for_body n k d t q) a b o l =
      let w = slot_has m h e s in
      ap (λ z. column.Def z)
      (same_method (column.Def m) (column.Def n) w.0 (method_member (column.Def m) m w.0 h e refl refl refl w.1)
      (method_member (column.Def n) n w.0 k d refl refl refl (sym l ∙ w.1)) o)
  two_bodies _ _ (for_body m h e s p) (for_declaration n k d t) a b o l = absurd (cc)
  two_bodies _ _ (for_body m h e s p) (for_field f k d t) a b o l = absurd (cc)
  two_bodies _ _ (for_body m h e s p) (for_mark c) a b o l = absurd (cc)
  two_bodies _ _ (for_declaration m k d t) z a b o l = absurd (cc)
  two_bodies _ _ (for_field f k d t) z a b o l = absurd (cc)
  two_bodies _ _ (for_mark c) z a b o l = absurd (cc)

  module _ (F : Facts) (facts : IsFactsOf P F) where
    pub same_column : (c d : ℕ) (a : HasItem P F facts c) (b : HasItem P F facts d) → a.item ≡ b.item → c ≡ d
    same_column c d a b e = same_Some c d (sym a.number ∙ ap (column_number P) e ∙ b.number)

    -- what two columns have alike, their items have
    alike : {A : Type 0} (f : ColumnInfo → A) (c d : ℕ) (a : HasItem P F facts c) (b : HasItem P F facts d) → f (info_at F c) ≡ f (info_at F d)
        → f (column_info P a.item) ≡ f (column_info P b.item)
    alike f c d a b e = sym (ap f a.info) ∙ e ∙ ap f b.info

    -- two columns of one kind are one, where their items are one that have the class and one thing more alike
    same_of : {A : Type 0} (f : ColumnInfo → A) (K : ColKind) → ((i j : ColumnItem) → Stands P i → Stands P j → kind_of i ≡ K → kind_of j ≡ K
        → owner_of P i ≡ owner_of P j → f (column_info P i) ≡ f (column_info P j) → i ≡ j)
        → (c d : ℕ) → c < length F.columns.items → d < length F.columns.items → column_kind F c ≡ K → column_kind F d ≡ K
        → column_class F c ≡ column_class F d → f (info_at F c) ≡ f (info_at F d) → c ≡ d
    same_of f K one c d p q h k o n =
        let a = item_of P F facts c p in
        let b = item_of P F facts d q in
        same_column c d a b
        (one a.item b.item a.stands b.stands (sym (ap (λ i. i.kind) a.info) ∙ h) (sym (ap (λ i. i.kind) b.info) ∙ k)
        (alike (λ i. i.class.0) c d a b o) (alike f c d a b n))

    no_slots : (c : ℕ) → c < length F.columns.items → column_kind F c ≡ kind.Fld → column_slot F c ≡ None
    no_slots c p h =
        let a = item_of P F facts c p in
        ap (λ i. i.slot) a.info ∙ field_slot a.item a.stands (sym (ap (λ i. i.kind) a.info) ∙ h)

    -- the member of a column of a slot
    pub record HasMember (c x : ℕ) : Type 0 where
      pub at : HasItem P F facts c
      pub member : IsMember at.item x
      pub name : name_of F c ≡ column_name P member.method
      pub owner : column_class F c ≡ member.method.owner

    pub slot_member : (c x : ℕ) → column_slot F c ≡ Some x → HasMember c x
    slot_member c x h =
        let a = item_of P F facts c (slot_below P F facts c x h) in
        let b = member_of a.item x a.stands (sym (ap (λ i. i.slot) a.info) ∙ h) in
        record { at = a; member = b; name = ap (λ i. i.name) a.info ∙ b.name; owner = ap (λ i. i.class.0) a.info ∙ b.owner }

    names : (c d x : ℕ) → column_slot F c ≡ Some x → column_slot F d ≡ Some x → name_of F c ≡ name_of F d
    names c d x h k =
        let a = slot_member c x h in
        let b = slot_member d x k in
        a.name
        ∙ column_same P formed a.member.number b.member.number a.member.method b.member.method a.member.stands b.member.stands
        (a.member.in_slot.name ∙ ap (λ z. z.name) (same_Some _ _ (sym a.member.in_slot.stands ∙ b.member.in_slot.stands)) ∙ sym b.member.in_slot.name)
        ∙ sym b.name

    slots : (a c d x y : ℕ) → column_slot F c ≡ Some x → column_slot F d ≡ Some y → IsBelow F a (column_class F c) → IsBelow F a (column_class F d)
        → name_of F c ≡ name_of F d → x ≡ y
    slots a c d x y h k s t n =
        let p = slot_member c x h in
        let q = slot_member d y k in
        let u = p.member.method in
        let v = q.member.method in
        ⊎_elim
        (λ e. same_Some x y (sym p.member.slot ∙ ap (λ z. z.slot) (same_Some u v (sym p.member.stands ∙ ap (slice_get P.methods) e ∙ q.member.stands))
        ∙ q.member.slot))
        (λ e. same_Some x y (sym p.member.slot ∙ e.1 ∙ q.member.slot))
        (formed.one_slot a p.member.number q.member.number u v p.member.stands q.member.stands
        (subst (λ z. IsSubclass P a z) p.owner (below_subclass P F facts s))
        (subst (λ z. IsSubclass P a z) q.owner (below_subclass P F facts t))
        (column_named P formed (method_word P formed) p.member.number q.member.number u v p.member.stands q.member.stands (sym p.name ∙ n ∙ q.name)))

    pub members_in_order : AreMembersInOrder F
    members_in_order = record {
      slots = slots;
      fields = same_of (λ i. i.name) kind.Fld two_fields;
      bodies = same_of (λ i. i.slot) kind.Def two_bodies;
      no_slots = no_slots;
      names = names;
    }
