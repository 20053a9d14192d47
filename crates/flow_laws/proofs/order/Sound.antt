-- What the operands of a typed body are: the row of each has the class of its type, and its flow point has the type itself.
use Rattle.std.proofs.Common.{◌≡◌, ℕ, List, [], ◌∷◌, Option, Some, None, length, refl, sym, ap, ◌∙◌, arith, ⊎_elim}
use Rattle.std.specs.Prelude.{◌<◌, ◌==◌, if◌then◌else◌, nat_lt, Bool, true, false, Contains, slice_get, option_and_then, ◌||◌}
use Rattle.std.specs.Option.{option_map, is_some}
use Rattle.std.proofs.lemmas.Option.{same_Some}
use Rattle.std.proofs.lemmas.Bool.{false≢true, eqb-true, eq-eqb}
use Rattle.kaba_base.specs.declared.Place.{Place}
use Rattle.kaba_base.proofs.ListLemmas.{contains_cases}
use Rattle.java_core.specs.Trees.{Ex, this, local, static_field, own_field, field, index, call, static_call, super_call, create, create_array, cast}
use Rattle.java_core.specs.Programs.{Plain, PlainMethod}
use Rattle.java_core.specs.Typing.{IsTyped, t_index}
use Rattle.java_core.specs.Formed.{IsFormed}
use Rattle.fact_model.specs.declared.facts.Facts.{Facts}
use Rattle.flow_rules.specs.declared.items.ObjectType.{ObjectType}
use Rattle.flow_rules.specs.declared.items.Operand.{Operand}
use Rattle.flow_rules.specs.declared.items.RowItem.{RowItem}
use Rattle.flow_rules.specs.declared.items.RowItem.TheVariants as row
use Rattle.flow_rules.specs.declared.items.PointItem.{PointItem}
use Rattle.flow_rules.specs.declared.items.PointItem.TheVariants as point
use Rattle.flow_rules.specs.declared.items.Row.{Row}
use Rattle.flow_rules.specs.Operands.{object_if, class_object, object_field, call_slot, super_slot, variable_in}
use Rattle.flow_rules.specs.Types.{field_object, variable_object}
use Rattle.flow_rules.specs.Parts.{Part, a_load, a_creation, is_accessed, parts_of}
use Rattle.flow_rules.specs.Lists.{is_this}
use Rattle.flow_rules.specs.Numbered.{rows_of}
use Rattle.flow_rules.specs.Facts.{IsFactsOf}
use Rattle.flow_rules.proofs.Listed.{first, more}
use Rattle.flow_laws.proofs.cover.Each.{left, right, here}
use Rattle.flow_laws.proofs.cover.Walked.{walked}
use Rattle.flow_laws.proofs.order.Labels.{label_in, part_label, label_apart}
use Rattle.flow_laws.proofs.order.Points.{given_by}
use Rattle.flow_laws.proofs.order.Rows.{own_of}
use Rattle.flow_laws.proofs.order.Tests.{label_given}
use Rattle.flow_laws.proofs.order.Classed.{Typing, own_typing, operand_typing, many_dims, as_object}
use Rattle.java_core.specs.Makers.{maker_of, maker_slot}

abbrev pub part_type : Part → Option ObjectType
part_type p = option_and_then (λ o. o.ty) (given_by p)

abbrev is_label : Option ℕ → ℕ → Bool
is_label None l = false
is_label (Some n) l = n == l

-- the type of the first part of a label
abbrev pub type_among : List Part → ℕ → Option ObjectType
type_among [] l = None
type_among (p ∷ ps) l = if is_label (part_label p) l then part_type p else type_among ps l

label_is : (o : Option ℕ) (l : ℕ) → is_label o l ≡ true → o ≡ Some l
label_is None l e = absurd (false≢true e)
label_is (Some n) l e = ap Some (eqb-true n l e)

type_found : (ps : List Part) (p : Part) (l : ℕ) → ((q : Part) → Contains ps q → part_label q ≡ Some l → q ≡ p) → Contains ps p
    → part_label p ≡ Some l → type_among ps l ≡ part_type p
type_found [] p l one c e = absurd (omega (arith, c.1))
type_found (q ∷ ps) p l one c e = go (is_label (part_label q) l) refl (λ d. type_found ps p l (λ r z h. one r (more r q ps z) h) d e)
  where
    go : (b : Bool) → is_label (part_label q) l ≡ b → (Contains ps p → type_among ps l ≡ part_type p)
        → (if is_label (part_label q) l then part_type q else type_among ps l) ≡ part_type p
    go true d r = ap (λ b. if b then part_type q else type_among ps l) d ∙ ap part_type (one q (first q ps) (label_is (part_label q) l d))
    go false d r =
        ap (λ b. if b then part_type q else type_among ps l) d
        ∙ ⊎_elim (λ s. absurd (false≢true (sym d ∙ ap (λ o. is_label o l) (ap part_label s ∙ e) ∙ eq-eqb l l refl))) (λ z. r z) (contains_cases q ps p c)

-- rows of neither a `this` nor a creation
abbrev pub is_apart : RowItem → Bool
is_apart (row.This m) = false
is_apart (row.New n) = false
is_apart _ = true

pub variable_apart : (s : Option ℕ) (b : Bool) (m i : ℕ) → is_apart (variable_in s b m i) ≡ true
variable_apart None b m i = refl
variable_apart (Some s) true m i = refl
variable_apart (Some s) false m i = refl

-- why a row is not taken for that of a `this` or of an object site: it is apart, or has brackets; or it is one
pub data Standing (o : Operand) (x : Row) : Type 0 where
  apart : is_apart x.item ≡ true → Standing o x
  deep : 0 < x.ty.dim → Standing o x
  itself : is_this o.point ≡ true → Standing o x
  made : is_some o.created ≡ true → Standing o x

module _ (P : Plain) where
  -- the type of what a flow point holds
  abbrev pub item_type : PointItem → Option ObjectType
  item_type (point.Static f) = field_object P f
  item_type (point.This m) = option_and_then (λ k. class_object k.owner) (slice_get P.methods m)
  item_type (point.Local m i) = option_and_then (λ k. variable_object k i) (slice_get P.methods m)
  item_type (point.Result m) = option_and_then (λ k. object_if k.result) (slice_get P.methods m)
  item_type (point.Expr m l) = option_and_then (λ k. type_among (parts_of P m k) l) (slice_get P.methods m)

module _ (P : Plain) (formed : IsFormed P) (typed : IsTyped P) (F : Facts) (facts : IsFactsOf P F) (m : ℕ)
    (k : PlainMethod) (stands : slice_get P.methods m ≡ Some k) where
  open walked P m k use {type, operand as at, operands, tree, Stands, IsTyped as Typed}

  abbrev IsTypingOf : Option RowItem → Option ObjectType → Type 0
  IsTypingOf i t = Typing P formed typed F facts m k stands i t

  unfoldable pub IsOwn : Operand → Type 0
  IsOwn o = (j : RowItem) (r : ℕ) (x : Row) → o.row ≡ Some j → slice_get (rows_of P) r ≡ Some x → x.item ≡ j → Standing o x

  -- a creation of a number
  pub record IsMade (o : Operand) (n : ℕ) : Type 0 where
    pub row_is : o.row ≡ Some (row.New n)
    pub place : Place
    pub used : Bool
    pub slot : Option ℕ
    pub declaration : Option ℕ
    pub arguments : List Operand
    pub part : Contains (parts_of P m k) (a_creation place used o slot declaration arguments)

  pub record IsSound (o : Operand) : Type 0 where
    pub classed : IsTypingOf o.row o.ty
    pub pointed : (i : PointItem) → o.point ≡ Some i → item_type P i ≡ o.ty
    pub own : IsOwn o
    pub created : (n : ℕ) → o.created ≡ Some n → IsMade o n
    pub self : is_this o.point ≡ true → o.row ≡ Some (row.This m)

  -- the type at the point of a part
  form_type : (p : Part) (o : Operand) (l : ℕ) → Contains (parts_of P m k) p → given_by p ≡ Some o → o.point ≡ Some (point.Expr m l)
      → item_type P (point.Expr m l) ≡ o.ty
  form_type p o l c g e =
      let h : part_label p ≡ Some l = label_given p o g ∙ ap label_in e in
      ap (option_and_then (λ k. type_among (parts_of P m k) l)) stands ∙ type_found (parts_of P m k) p l (λ q d y. label_apart P m k q p l d c y h) c
      h ∙ ap (option_and_then (λ o. o.ty)) g

  -- what is no row, no point and no creation
  nothing_own : (o : Operand) → o.row ≡ None → IsOwn o
  unfolding IsOwn
  nothing_own o a j r x b c d = absurd (let z = sym a ∙ b in cc)

  pub none_sound : (o : Operand) → o.row ≡ None → o.point ≡ None → o.created ≡ None → IsSound o
  unfolding Typing
  none_sound o a b c = record {
    classed = λ j r x d e f. absurd (let z = sym a ∙ d in cc);
    pointed = λ i e. absurd (let z = sym b ∙ e in cc);
    own = nothing_own o a;
    created = λ n e. absurd (let z = sym c ∙ e in cc);
    self = λ e. absurd (false≢true (ap is_this (sym b) ∙ e));
  }

  apart_own : (f : ℕ → RowItem) (q : Option ℕ) (o : Operand) → o.row ≡ option_map f q → ((n : ℕ) → is_apart (f n) ≡ true) → IsOwn o
  unfolding IsOwn
  apart_own f None o a h j r x b c d = absurd (let z = sym a ∙ b in cc)
  apart_own f (Some n) o a h j r x b c d = apart (ap is_apart (d ∙ same_Some j (f n) (sym b ∙ a)) ∙ h n)

  no_creation : (o : Operand) → o.created ≡ None → (n : ℕ) → o.created ≡ Some n → IsMade o n
  no_creation o c n e = absurd (let z = sym c ∙ e in cc)

  made_own : (o : Operand) → is_some o.created ≡ true → IsOwn o
  unfolding IsOwn
  made_own o e j r x a b c = made e

  self_own : (o : Operand) → is_this o.point ≡ true → IsOwn o
  unfolding IsOwn
  self_own o e j r x a b c = itself e

  -- a form with a label
  form_sound : (p : Part) (o : Operand) (l : ℕ) → Contains (parts_of P m k) p → given_by p ≡ Some o → o.point ≡ Some (point.Expr m l)
      → IsTypingOf o.row o.ty → IsOwn o → ((n : ℕ) → o.created ≡ Some n → IsMade o n) → IsSound o
  form_sound p o l c g e t w h = record {
    classed = t;
    pointed = λ i d. ap (item_type P) (same_Some i (point.Expr m l) (sym d ∙ e)) ∙ form_type p o l c g e;
    own = w;
    created = h;
    self = λ d. absurd (false≢true (ap is_this (sym e) ∙ d));
  }

  abbrev typing_at : (u : Bool) (e : Ex) → Typed e → Stands (tree u e) → IsTypingOf (at e).row (at e).ty
  typing_at u e a w = operand_typing P formed typed F facts m k stands u e a w

  deep_own : (u : Bool) (e d : Ex) → Typed e → Stands (tree u e) → ((t : ObjectType) → type e ≡ Some t → 0 < t.dim)
      → (at d).row ≡ (at e).row → IsOwn (at d)
  unfolding IsOwn Typing
  deep_own u e d a w h s j r x b c y = let z = typing_at u e a w j r x (sym s ∙ b) c y in deep (omega (arith, z.dim, h z.type z.stated))

  -- an operand of a typed form
  pub sound : (u : Bool) (e : Ex) → Typed e → Stands (tree u e) → IsSound (at e)
  sound u (this t) a w = record {
    classed = typing_at u (this t) a w;
    pointed = λ i d. ap (item_type P) (same_Some i (point.This m) (sym d)) ∙ ap (option_and_then (λ k. class_object k.owner)) stands
        ∙ as_object P formed typed F facts m k stands (this t);
    own = self_own (at (this t)) refl;
    created = no_creation (at (this t)) refl;
    self = λ d. refl;
  }
  sound u (local t v) a w = record {
    classed = typing_at u (local t v) a w;
    pointed = λ i d. ap (item_type P) (same_Some i (point.Local m v) (sym d)) ∙ ap (option_and_then (λ k. variable_object k v)) stands
        ∙ as_object P formed typed F facts m k stands (local t v);
    own = apart_own (λ i. variable_in k.slot (nat_lt i (length k.params)) m i) (Some v) (at (local t v)) refl
        (λ i. variable_apart k.slot (nat_lt i (length k.params)) m i);
    created = no_creation (at (local t v)) refl;
    self = λ d. absurd (false≢true d);
  }
  sound u (static_field t f) a w = record {
    classed = typing_at u (static_field t f) a w;
    pointed = λ i d. ap (item_type P) (same_Some i (point.Static f) (sym d)) ∙ as_object P formed typed F facts m k stands (static_field t f);
    own = apart_own row.Field (Some f) (at (static_field t f)) refl (λ i. refl);
    created = no_creation (at (static_field t f)) refl;
    self = λ d. absurd (false≢true d);
  }
  sound u (own_field t f) a w = form_sound _ (at (own_field t f)) _ (here _ [] w) refl refl (typing_at u (own_field t f) a w)
      (apart_own row.Field (Some f) (at (own_field t f)) refl (λ i. refl)) (no_creation (at (own_field t f)) refl)
  sound u (field t e x) a w =
      form_sound (a_load t.place (at e) (object_field P (type e) x) (at (field t e x))) (at (field t e x)) _
      (here _ [] (right (tree (is_accessed e) e) _ w))
      refl refl
      (typing_at u (field t e x) a w) (apart_own row.Field (object_field P (type e) x) (at (field t e x)) refl (λ i. refl))
      (no_creation (at (field t e x)) refl)
  sound u (index t e i) (t_index a b c d) w =
      form_sound _ (at (index t e i)) _
      (here _ _ (right (tree true e) _ w)) refl refl
      (typing_at u (index t e i) (t_index a b c d) w)
      (deep_own true e (index t e i) a (left (tree true e) _ w)
      (many_dims P formed typed F facts m k stands e b) refl) (no_creation (at (index t e i)) refl)
  sound u (call t e x es) a w =
      form_sound _ (at (call t e x es)) _ (here _ _ (right (tree true e) _ w)) refl refl
      (typing_at u (call t e x es) a w) (apart_own row.Return (call_slot P (type e) x) (at (call t e x es)) refl (λ i. refl))
      (no_creation (at (call t e x es)) refl)
  sound u (static_call t d es) a w = form_sound _ (at (static_call t d es)) _ (here _ _ w) refl refl (typing_at u (static_call t d es) a w)
      (apart_own row.Result (Some d) (at (static_call t d es)) refl (λ i. refl)) (no_creation (at (static_call t d es)) refl)
  sound u (super_call t x es) a w = form_sound _ (at (super_call t x es)) _ (here _ _ w) refl refl (typing_at u (super_call t x es) a w)
      (apart_own row.Return (super_slot P k.owner x) (at (super_call t x es)) refl (λ i. refl)) (no_creation (at (super_call t x es)) refl)
  sound u (create t i c es) a w = form_sound _ (at (create t i c es)) _ (here _ _ w) refl refl (typing_at u (create t i c es) a w)
      (made_own _ refl) (λ j d. record {
        row_is = ap (λ z. Some (row.New z)) (same_Some i j d);
        place = t.place;
        used = u || is_some (maker_of P c);
        slot = maker_slot P c;
        declaration = maker_of P c;
        arguments = operands es;
        part = here _ _ w;
      })
  sound u (create_array t i v e) a w = form_sound _ (at (create_array t i v e)) _ (here _ _ w) refl refl
      (typing_at u (create_array t i v e) a w) (made_own _ refl)
      (λ j d. record {
        row_is = ap (λ z. Some (row.New z)) (same_Some i j d);
        place = t.place;
        used = u;
        slot = None;
        declaration = None;
        arguments = [];
        part = here _ _ w;
      })
  sound u (cast t i v e) a w = form_sound _ (at (cast t i v e)) _ (here _ _ w) refl refl (typing_at u (cast t i v e) a w)
      (apart_own row.Cast (Some i) (at (cast t i v e)) refl (λ i. refl)) (no_creation (at (cast t i v e)) refl)
  sound u e a w = none_sound _ refl refl refl

  -- what an `instanceof` gives
  pub test_sound : (p : Part) (o : Operand) (n l : ℕ) → Contains (parts_of P m k) p → own_of p ≡ Some o → given_by p ≡ Some o
      → o.row ≡ Some (row.Test n) → o.point ≡ Some (point.Expr m l) → o.created ≡ None → IsSound o
  test_sound p o n l c e g a b d = form_sound p o l c g b (own_typing P formed typed F facts m k stands p o c e)
      (apart_own row.Test (Some n) o a (λ i. refl)) (no_creation o d)
