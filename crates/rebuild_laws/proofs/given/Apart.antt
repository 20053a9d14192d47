-- Where no name is broken, no node offers two fields or two slots of one name.
use Rattle.std.proofs.Common.{◌≡◌, ◌≢◌, ℕ, ◌<◌, ◌&&◌, ◌||◌, Option, Some, None, refl, sym, ap, ◌∙◌, ⊎_elim}
use Rattle.std.specs.Prelude.{true, false, not, length}
use Rattle.std.specs.Str.{bytes_eq}
use Rattle.std.proofs.lemmas.Bool.{false≢true, and_from, or_left, or_right, ne_eqb, cases_eq, cases_order}
use Rattle.std.proofs.lemmas.Slice.Eq.{bytes_eq-Decides}
use Rattle.kaba_base.specs.declared.NodeId.{NodeId}
use Rattle.kaba_bits.specs.Sets.{first_below}
use Rattle.kaba_bits.proofs.FirstLemmas.{first_below_None, when-None}
use Rattle.kaba_bits.proofs.SetLemmas.{bit-below}
use Rattle.kaba_order.specs.Orders.{IsPartialOrder}
use Rattle.fact_model.specs.Items.{column_kind, column_slot}
use Rattle.fact_model.specs.declared.facts.Facts.{Facts}
use Rattle.fact_model.specs.declared.facts.ColKind.{ColKind}
use Rattle.fact_model.specs.declared.facts.ColKind.TheVariants.{Fld, Dcl, Def, Is}
use Rattle.fact_model.specs.declared.sets.PointsTo.{PointsTo}
use Rattle.hier_model.specs.Hierarchies.{Hierarchy, place_of_column, member_name, is_above, is_offered, any_below, is_method}
use Rattle.hier_model.specs.Names.{is_field}
use Rattle.hier_model.proofs.AnyLemmas.{any_below_none}
use Rattle.hier_rules.specs.declared.broken.Rule.TheVariants.{B8}
use Rattle.hier_rules.specs.Asked.{are_two_slots}
use Rattle.hier_rules.specs.Instances.{of_column}
use Rattle.hier_rules.specs.Names.{method_slot, clash, is_confused, confused}
use Rattle.hier_rules.specs.First.{first_broken}
use Rattle.fact_model.proofs.RangeLemmas.{column-below}
use Rattle.rebuild_laws.specs.looks.Known.{AreNamesApart}
use Rattle.hier_laws.proofs.Unbroken.{none_broken}

slot_there : (k : ColKind) (o : Option ℕ) → is_method k ≡ true → method_slot k o ≡ o
slot_there Dcl o h = refl
slot_there Def o h = refl
slot_there Fld o h = absurd (false≢true h)
slot_there Is o h = absurd (false≢true h)

method_kind : (k : ColKind) → is_method k ≡ true → k ≢ Is
method_kind Dcl h e = false≢true (sym (ap is_method e) ∙ h)
method_kind Def h e = false≢true (sym (ap is_method e) ∙ h)
method_kind Fld h e = absurd (false≢true h)
method_kind Is h e = absurd (false≢true h)

module _ (F : Facts) (pt : PointsTo) (H : Hierarchy) (order : IsPartialOrder H.order) (none : first_broken F pt H ≡ None) where
  node_below : (n c : ℕ) → is_offered H n c ≡ true → n < length H.order.live
  node_below n c h = go (place_of_column H c) h
    where
      go : (p : Option NodeId) → is_above H.order n p ≡ true → n < length H.order.live
      go None k = absurd (false≢true k)
      go (Some p) k = bit-below H.order.live n (order.lower_lives n p.0 k)

  no_clash : (n c d : ℕ) → c < d → d < length F.columns.items → is_offered H n c ≡ true → is_offered H n d ≡ true → clash F H c d ≡ true → ⊥
  no_clash n c d lt ld a b h =
      let one = first_below_None (λ n. first_below (length F.columns.items) (confused F H n)) (length H.order.live) n
      (none_broken F pt H none).names.apart (node_below n c a) in
      let two = first_below_None (confused F H n) (length F.columns.items) d one ld in
      let no : is_confused F H n d ≡ false = when-None (is_confused F H n d) (of_column B8 n d) two in
      let rest : any_below d (λ c. is_offered H n c && clash F H c d) ≡ false = sym (ap (λ z. z && any_below d (λ c. is_offered H n c && clash F H c d)) b)
      ∙ no in
      false≢true (sym (any_below_none (λ c. is_offered H n c && clash F H c d) d c rest lt) ∙ and_from (is_offered H n c) (clash F H c d) a h)

  field_clash : (c d : ℕ) → column_kind F c ≡ Fld → column_kind F d ≡ Fld → member_name H c ≡ member_name H d → clash F H c d ≡ true
  field_clash c d k l same =
      and_from (bytes_eq (member_name H c) (member_name H d))
      ((is_field (column_kind F c) && is_field (column_kind F d)) || are_two_slots (method_slot (column_kind F c) (column_slot F c))
      (method_slot (column_kind F d) (column_slot F d)))
      ((bytes_eq-Decides (member_name H c) (member_name H d)).1 same)
      (or_left (is_field (column_kind F c) && is_field (column_kind F d))
      (are_two_slots (method_slot (column_kind F c) (column_slot F c)) (method_slot (column_kind F d) (column_slot F d)))
      (and_from (is_field (column_kind F c)) (is_field (column_kind F d)) (ap is_field k) (ap is_field l)))

  slot_clash : (c d x y : ℕ) → is_method (column_kind F c) ≡ true → is_method (column_kind F d) ≡ true → column_slot F c ≡ Some x
      → column_slot F d ≡ Some y → x ≢ y → member_name H c ≡ member_name H d → clash F H c d ≡ true
  slot_clash c d x y k l a b other same =
      let two : are_two_slots (method_slot (column_kind F c) (column_slot F c)) (method_slot (column_kind F d) (column_slot F d)) ≡ true =
      ap (λ z. are_two_slots z (method_slot (column_kind F d) (column_slot F d))) (slot_there (column_kind F c) (column_slot F c) k ∙ a)
      ∙ ap (λ z. are_two_slots (Some x) z) (slot_there (column_kind F d) (column_slot F d) l ∙ b)
      ∙ ap not (ne_eqb x y other) in
      and_from (bytes_eq (member_name H c) (member_name H d))
      ((is_field (column_kind F c) && is_field (column_kind F d)) || are_two_slots (method_slot (column_kind F c) (column_slot F c))
      (method_slot (column_kind F d) (column_slot F d)))
      ((bytes_eq-Decides (member_name H c) (member_name H d)).1 same)
      (or_right (is_field (column_kind F c) && is_field (column_kind F d))
      (are_two_slots (method_slot (column_kind F c) (column_slot F c)) (method_slot (column_kind F d) (column_slot F d))) two)

  pub names_apart : AreNamesApart F H
  names_apart = record {
    fields = λ n c d k l a b same.
        ⊎_elim
        (λ e. e)
        (λ o. absurd (⊎_elim
        (λ lt. no_clash n c d lt (column-below F d Fld l (λ x. cc x)) a b (field_clash c d k l same))
        (λ gt. no_clash n d c gt (column-below F c Fld k (λ x. cc x)) b a (field_clash d c l k (sym same)))
        o))
        (cases_order c d);
    slots = λ n c d x y k l e f a b same.
        ⊎_elim
        (λ one. one)
        (λ other. absurd (⊎_elim
        (λ one. other (some_one x y (sym e ∙ ap (column_slot F) one ∙ f)))
        (λ o. ⊎_elim
        (λ lt. no_clash n c d lt (column-below F d (column_kind F d) refl (method_kind (column_kind F d) l)) a b (slot_clash c d x y k l e f other same))
        (λ gt. no_clash n d c gt (column-below F c (column_kind F c) refl (method_kind (column_kind F c) k)) b a
        (slot_clash d c y x l k f e (λ z. other (sym z)) (sym same)))
        o)
        (cases_order c d)))
        (cases_eq x y);
  }
    where
      some_one : (a b : ℕ) → Some a ≡ Some b → a ≡ b
      some_one a b h = cc
