-- All that the look-ups rest on is known of the worked programs, and the object runs its body: so that what is proved of all programs is not of none.
use Rattle.std.proofs.Common.{◌≡◌, ℕ, zero, suc, ◌<◌, Some, None, refl, sym, ◌∙◌, subst, arith}
use Rattle.std.specs.Prelude.{true, codes}
use Rattle.std.proofs.lemmas.Bool.{false≢true}
use Rattle.std.proofs.lemmas.Option.{same_Some}
use Rattle.kaba_base.specs.declared.NodeId.{NodeId}
use Rattle.java_core.specs.Classes.{slot_of_method, slot_of, lookup, declaration_of, search_order, member_field, field_of}
use Rattle.kaba_bits.specs.Sets.{HasWidth}
use Rattle.kaba_order.specs.Orders.{is_le, is_live, IsPartialOrder}
use Rattle.fact_model.specs.Items.{column_kind, column_slot}
use Rattle.fact_model.specs.declared.facts.Facts.{Facts}
use Rattle.fact_model.specs.declared.facts.ColKind.TheVariants.{Fld}
use Rattle.hier_model.specs.Hierarchies.{place_of_column, member_name, is_method}
use Rattle.flow_rules.specs.declared.items.ColumnItem.{ColumnItem}
use Rattle.flow_rules.specs.declared.items.ColumnItem.TheVariants as column
use Rattle.flow_rules.specs.Numbered.{columns_of, column_number}
use Rattle.flow_rules.specs.Operands.{type_in}
use Rattle.flow_rules.specs.Parts.{parts_of}
use Rattle.flow_rules.specs.Facts.{numbers, kind_of, slot_in}
use Rattle.rebuild_model.specs.Members.{StandsAt}
use Rattle.rebuild_model.proofs.Worked.{old, new, hierarchy}
use Rattle.rebuild_model.proofs.WorkedRebuilds.{facts, column_f, column_m, column_body, no_field, no_declaration, no_body, name_m, rebuilds}
use Rattle.rebuild_laws.specs.looks.Known.{AreItemColumns, KnownOfBoth, Offers}
use Rattle.rebuild_laws.proofs.looks.FormedOld as of_old
use Rattle.rebuild_laws.proofs.looks.FormedNew as of_new
use Rattle.rebuild_laws.proofs.looks.Bodies.{number, runs_body}

-- the three columns
data IsColumn : ColumnItem → ℕ → Type 0 where
  of_field : IsColumn (column.Fld 0) 0
  of_declaration : IsColumn (column.Dcl 0) 1
  of_body : IsColumn (column.Def 0) 2

no_mark : (c : _) → (numbers old).column (column.Is c) ≡ None
unfolding numbers columns_of column_number parts_of type_in field_of member_field declaration_of search_order
no_mark c = refl

column_is : (i : ColumnItem) (c : ℕ) → (numbers old).column i ≡ Some c → IsColumn i c
column_is (column.Fld zero) c e = subst (λ z. IsColumn (column.Fld 0) z) (same_Some _ _ (sym column_f ∙ e)) of_field
column_is (column.Fld (suc f)) c e = absurd (cc (sym (no_field f) ∙ e))
column_is (column.Dcl zero) c e = subst (λ z. IsColumn (column.Dcl 0) z) (same_Some _ _ (sym column_m ∙ e)) of_declaration
column_is (column.Dcl (suc f)) c e = absurd (cc (sym (no_declaration f) ∙ e))
column_is (column.Def zero) c e = subst (λ z. IsColumn (column.Def 0) z) (same_Some _ _ (sym column_body ∙ e)) of_body
column_is (column.Def (suc f)) c e = absurd (cc (sym (no_body f) ∙ e))
column_is (column.Is a) c e = absurd (cc (sym (no_mark a) ∙ e))

abbrev item_at : ℕ → ColumnItem
item_at zero = column.Fld 0
item_at (suc zero) = column.Dcl 0
item_at (suc (suc c)) = column.Def 0

item_is : {i : ColumnItem} {c : ℕ} → IsColumn i c → item_at c ≡ i
item_is of_field = refl
item_is of_declaration = refl
item_is of_body = refl

some_none : {A : Type 0} (s : A) → None ≡ Some s → ⊥
some_none s e = cc e

module _ (others : Facts) where
  abbrev F : Facts
  F = facts others

  is_below : {i : ColumnItem} {c : ℕ} → IsColumn i c → c < 3
  is_below of_field = omega arith
  is_below of_declaration = omega arith
  is_below of_body = omega arith

  has_kind : {i : ColumnItem} {c : ℕ} → IsColumn i c → column_kind F c ≡ kind_of i
  has_kind of_field = refl
  has_kind of_declaration = refl
  has_kind of_body = refl

  has_slot : {i : ColumnItem} {c : ℕ} → IsColumn i c → column_slot F c ≡ slot_in old i
  has_slot of_field = refl
  has_slot of_declaration = refl
  has_slot of_body = refl

  slotted : {i : ColumnItem} {c : ℕ} → IsColumn i c → is_method (kind_of i) ≡ true → (s : ℕ) × (slot_in old i ≡ Some s)
  slotted of_field h = absurd (false≢true h)
  slotted of_declaration h = (0, refl)
  slotted of_body h = (0, refl)

  item : (c : ℕ) → c < 3 → (i : ColumnItem) × ((numbers old).column i ≡ Some c)
  item zero lt = (column.Fld 0, column_f)
  item (suc zero) lt = (column.Dcl 0, column_m)
  item (suc (suc zero)) lt = (column.Def 0, column_body)
  item (suc (suc (suc c))) lt = absurd (omega (arith, lt))

  declared : (m s : ℕ) → slot_of_method old m ≡ Some s → (c : ℕ) × ((numbers old).column (column.Dcl m) ≡ Some c)
  declared zero s h = (1, column_m)
  declared (suc zero) s h = absurd (some_none s h)
  declared (suc (suc m)) s h = absurd (some_none s h)

  columns : AreItemColumns old F
  columns = record {
    below = λ i c e. is_below (column_is i c e);
    kind = λ i c e. has_kind (column_is i c e);
    slot = λ i c e. has_slot (column_is i c e);
    one = λ i j c e d. sym (item_is (column_is i c e)) ∙ item_is (column_is j c d);
    item = item;
    slotted = λ i c e h. slotted (column_is i c e) h;
    declared = declared;
  }

  -- the order of the two nodes
  data IsPair : ℕ → ℕ → Type 0 where
    both_0 : IsPair 0 0
    one_0 : IsPair 1 0
    both_1 : IsPair 1 1

  pair : (a b : ℕ) → is_le hierarchy.order a b ≡ true → IsPair a b
  pair zero zero h = both_0
  pair zero (suc zero) h = absurd (false≢true h)
  pair zero (suc (suc b)) h = absurd (false≢true h)
  pair (suc zero) zero h = one_0
  pair (suc zero) (suc zero) h = both_1
  pair (suc zero) (suc (suc b)) h = absurd (false≢true h)
  pair (suc (suc a)) b h = absurd (false≢true h)

  lower_lives : {a b : ℕ} → IsPair a b → is_live hierarchy.order a ≡ true
  lower_lives both_0 = refl
  lower_lives one_0 = refl
  lower_lives both_1 = refl

  upper_lives : {a b : ℕ} → IsPair a b → is_live hierarchy.order b ≡ true
  upper_lives both_0 = refl
  upper_lives one_0 = refl
  upper_lives both_1 = refl

  reflexive : (a : ℕ) → is_live hierarchy.order a ≡ true → is_le hierarchy.order a a ≡ true
  reflexive zero h = refl
  reflexive (suc zero) h = refl
  reflexive (suc (suc a)) h = absurd (false≢true h)

  antisymmetric : (a b : ℕ) → is_le hierarchy.order a b ≡ true → is_le hierarchy.order b a ≡ true → a ≡ b
  antisymmetric zero zero h k = refl
  antisymmetric zero (suc zero) h k = absurd (false≢true h)
  antisymmetric zero (suc (suc b)) h k = absurd (false≢true h)
  antisymmetric (suc zero) zero h k = absurd (false≢true k)
  antisymmetric (suc zero) (suc zero) h k = refl
  antisymmetric (suc zero) (suc (suc b)) h k = absurd (false≢true h)
  antisymmetric (suc (suc a)) b h k = absurd (false≢true h)

  transitive : (a b c : ℕ) → is_le hierarchy.order a b ≡ true → is_le hierarchy.order b c ≡ true → is_le hierarchy.order a c ≡ true
  transitive zero zero c h k = k
  transitive zero (suc zero) c h k = absurd (false≢true h)
  transitive zero (suc (suc b)) c h k = absurd (false≢true h)
  transitive (suc zero) zero zero h k = refl
  transitive (suc zero) zero (suc zero) h k = absurd (false≢true k)
  transitive (suc zero) zero (suc (suc c)) h k = absurd (false≢true k)
  transitive (suc zero) (suc zero) c h k = k
  transitive (suc zero) (suc (suc b)) c h k = absurd (false≢true h)
  transitive (suc (suc a)) b c h k = absurd (false≢true h)

  order : IsPartialOrder hierarchy.order
  order = record {
    count = refl;
    widths = width;
    lower_lives = λ a b h. lower_lives (pair a b h);
    upper_lives = λ a b h. upper_lives (pair a b h);
    reflexive = reflexive;
    antisymmetric = antisymmetric;
    transitive = transitive;
  }
    where
      width : HasWidth 2 hierarchy.order.le
      width zero lt = refl
      width (suc zero) lt = refl
      width (suc (suc a)) lt = absurd (omega (arith, lt))

  placed : (c : ℕ) (p : NodeId) → place_of_column hierarchy c ≡ Some p → is_live hierarchy.order p.0 ≡ true
  placed zero p e = subst (λ (z : NodeId). is_live hierarchy.order z.0 ≡ true) (same_Some _ _ e) refl
  placed (suc zero) p e = subst (λ (z : NodeId). is_live hierarchy.order z.0 ≡ true) (same_Some _ _ e) refl
  placed (suc (suc zero)) p e = subst (λ (z : NodeId). is_live hierarchy.order z.0 ≡ true) (same_Some _ _ e) refl
  placed (suc (suc (suc c))) p e = absurd (some_none p e)

  -- a column of a slot is one of m, and a field is f
  of_m : (c x : ℕ) → column_slot F c ≡ Some x → (0 ≡ x) × (member_name hierarchy c ≡ codes "m")
  of_m zero x e = absurd (some_none x e)
  of_m (suc zero) x e = (same_Some _ _ e, refl)
  of_m (suc (suc zero)) x e = (same_Some _ _ e, refl)
  of_m (suc (suc (suc c))) x e = absurd (some_none x e)

  of_f : (c : ℕ) → column_kind F c ≡ Fld → 0 ≡ c
  of_f zero e = refl
  of_f (suc zero) e = absurd (cc e)
  of_f (suc (suc zero)) e = absurd (cc e)
  of_f (suc (suc (suc c))) e = absurd (cc e)

  pub worked_known : KnownOfBoth old (facts others) hierarchy new
  worked_known = record {
    old = of_old.formed;
    new = of_new.formed;
    rebuilt = rebuilds others;
    columns = columns;
    order = order;
    placed = placed;
    names = λ c d x k l e f. (of_m c x e).1 ∙ sym (of_m d x f).1;
    apart = record {
      fields = λ n c d k l a b same. sym (of_f c k) ∙ of_f d l;
      slots = λ n c d x y k l e f a b same. sym (of_m c x e).0 ∙ (of_m d y f).0;
    };
  }

  -- the object of node 1, called by the type of node 0, runs the body of m: by the theorem, and as the look-up computes
  offers_body : Offers worked_known 1 (column.Def 0)
  unfolding worked_known rebuilds
  offers_body = record { node = 1; stands = record { number = 2; numbered = column_body; place = record { 0 = 1 }; placed = refl; at = refl }; above = refl }

  the_only : (k j : ℕ) → slot_of_method old k ≡ Some 0 → StandsAt old (facts others) hierarchy new worked_known.rebuilt.places (column.Def k) j
      → is_le hierarchy.order 1 j ≡ true
      → is_le hierarchy.order j offers_body.node ≡ true → k ≡ 0
  the_only zero j e s h k = refl
  the_only (suc zero) j e s h k = absurd (cc e)
  the_only (suc (suc m)) j e s h k = absurd (cc e)

  slot_found : slot_of new 1 (codes "m") ≡ Some 0
  unfolding declaration_of search_order
  slot_found = refl

  runs_the_body : lookup new 2 0 ≡ Some (number worked_known 1 0 0 refl offers_body)
  unfolding worked_known rebuilds
  runs_the_body =
      runs_body worked_known 1 0 0 refl offers_body the_only 0 0 0 refl refl (subst (λ x. slot_of new 1 x ≡ Some 0) name_m slot_found)

  computed : lookup new 2 0 ≡ Some 1
  unfolding lookup
  computed = refl

  same_body : number worked_known 1 0 0 refl offers_body ≡ 1
  same_body = same_Some _ _ (sym runs_the_body ∙ computed)
