-- A node that offers a field finds it under its new name, and nothing else.
use Rattle.std.proofs.Common.{◌≡◌, ℕ, ◌&&◌, eqb, List, [], Some, refl, sym, ap, ◌∙◌, subst, ⊎_elim}
use Rattle.std.specs.Prelude.{true, false, slice_get, is_some}
use Rattle.std.specs.Option.{option_map_or}
use Rattle.std.specs.Str.{bytes_eq}
use Rattle.std.specs.List.{list_any}
use Rattle.std.proofs.lemmas.Bool.{and_from, and_parts, or_left, or_right, eqb-true, eq-eqb, cases_Bool}
use Rattle.std.proofs.lemmas.List.Folds.{list_any-from_Any}
use Rattle.std.proofs.lemmas.Option.{same_Some, slice_get_within, get_or_from_slice_get}
use Rattle.std.proofs.lemmas.Slice.Eq.{bytes_eq-Decides}
use Rattle.java_core.specs.Programs.{Plain, PlainField, PlainMethod}
use Rattle.java_core.specs.Classes.{IsSubclass, is_field_of, own_field_of, field_of, when_instance, member_field}
use Rattle.java_core.proofs.Positions.{position-passes, passes-position}
use Rattle.java_core.proofs.Subclasses.{nearest-nearest_of}
use Rattle.kaba_order.specs.Orders.{is_le, is_live}
use Rattle.fact_model.specs.declared.facts.Facts.{Facts}
use Rattle.hier_model.specs.Hierarchies.{Hierarchy, member_name}
use Rattle.flow_rules.specs.declared.items.ColumnItem.TheVariants as column
use Rattle.flow_rules.specs.Facts.{numbers, is_holder}
use Rattle.rebuild_model.specs.Renaming.{renaming_of}
use Rattle.rebuild_model.specs.Members.{StandsAt, IsField}
use Rattle.rebuild_laws.specs.looks.Known.{KnownOfBoth, Offers, sides}
use Rattle.java_core.proofs.Upwards.{along}
use Rattle.rebuild_laws.proofs.looks.Along.{OneOnWay, nearest_on_way}
use Rattle.java_meaning.specs.Languages.{index_of}
use Rattle.java_meaning.proofs.Layouts.{members}
use Rattle.rebuild_laws.proofs.looks.Nodes.{subclass_of, below_is, class_node, member_class, le_of, is_offered_at, offers_own, offers_below, stands_live, stands_once, no_holder}

-- a static member's class has a holder
pub field_holder : (P : Plain) (f : ℕ) (k : PlainField) → slice_get P.fields f ≡ Some k → k.is_static ≡ true → is_holder P k.owner ≡ true
field_holder P f k e s =
    or_left (list_any (λ (f : PlainField). f.is_static && eqb f.owner k.owner) P.fields)
    (list_any (λ (m : PlainMethod). m.is_static && eqb m.owner k.owner) P.methods)
    (list_any-from_Any (λ (f : PlainField). f.is_static && eqb f.owner k.owner) P.fields
    (f, k, slice_get_within P.fields f k e, get_or_from_slice_get P.fields f k k e, and_from k.is_static (eqb k.owner k.owner) s (eq-eqb k.owner k.owner refl)))

pub method_holder : (P : Plain) (m : ℕ) (k : PlainMethod) → slice_get P.methods m ≡ Some k → k.is_static ≡ true → is_holder P k.owner ≡ true
method_holder P m k e s =
    or_right (list_any (λ (f : PlainField). f.is_static && eqb f.owner k.owner) P.fields)
    (list_any (λ (m : PlainMethod). m.is_static && eqb m.owner k.owner) P.methods)
    (list_any-from_Any (λ (m : PlainMethod). m.is_static && eqb m.owner k.owner) P.methods (
      m,
      k,
      slice_get_within P.methods m k e,
      get_or_from_slice_get P.methods m k k e,
      and_from k.is_static (eqb k.owner k.owner) s
          (eq-eqb k.owner k.owner refl),
    ))

module _ {P : Plain} {F : Facts} {H : Hierarchy} {W : Plain} (K : KnownOfBoth P F H W) where
  open sides K use {places as T, renaming as R}

  -- the field's new name is that of its column
  pub field_name_is : (f c : ℕ) → (numbers P).column (column.Fld f) ≡ Some c → R.field_name f ≡ member_name H c
  unfolding renaming_of
  field_name_is f c e = ap (λ o. option_map_or (member_name H) o []) e

  -- a new field that is the old field f
  pub record IsNewField (f g : ℕ) : Type 0 where
    pub field : PlainField
    pub stands : slice_get W.fields g ≡ Some field
    pub is : IsField P F H W T f field

  pub new_field : (f n : ℕ) → StandsAt P F H W T (column.Fld f) n → (g : ℕ) × IsNewField f g
  new_field f n s = let x = K.rebuilt.members.each_field f n s in (x.0, record { field = x.1; stands = x.2; is = x.3 })

  -- it is one
  pub one_field : (f g h : ℕ) → IsNewField f g → IsNewField f h → g ≡ h
  one_field f g h a b =
      K.new.field_names g h a.field b.field a.stands b.stands
      (a.is.at.owner_is ∙ ap T.type_of (stands_once K a.is.at.node b.is.at.node (column.Fld f) a.is.at.stands b.is.at.stands) ∙ sym b.is.at.owner_is)
      (a.is.name ∙ sym b.is.name)

  -- what a node offers has different names
  pub fields_apart : (e f n : ℕ) → Offers K n (column.Fld e) → Offers K n (column.Fld f) → R.field_name e ≡ R.field_name f → e ≡ f
  fields_apart e f n a b same =
      let c = a.stands.number in
      let d = b.stands.number in
      let one = K.apart.fields n c d (K.columns.kind (column.Fld e) c a.stands.numbered) (K.columns.kind (column.Fld f) d b.stands.numbered)
      (is_offered_at K n (column.Fld e) c a.stands.numbered a) (is_offered_at K n (column.Fld f) d b.stands.numbered b)
      (sym (field_name_is e c a.stands.numbered) ∙ same ∙ field_name_is f d b.stands.numbered) in
      number_of (K.columns.one (column.Fld e) (column.Fld f) d (a.stands.numbered ∙ ap Some one) b.stands.numbered)
    where
      number_of : column.Fld e ≡ column.Fld f → e ≡ f
      number_of h = cc

  -- and comes from one
  pub one_old_field : (e f g : ℕ) → IsNewField e g → IsNewField f g → e ≡ f
  one_old_field e f g a b =
      let s = a.is.at.stands in
      let t = b.is.at.stands in
      let same : a.field ≡ b.field = same_Some _ _ (sym a.stands ∙ b.stands) in
      let owner : T.type_of a.is.at.node ≡ T.type_of b.is.at.node = sym a.is.at.owner_is ∙ ap (λ (z : PlainField). z.owner) same ∙ b.is.at.owner_is in
      let node = K.rebuilt.types.nodes_once a.is.at.node b.is.at.node (stands_live K a.is.at.node (column.Fld e) s)
      (stands_live K b.is.at.node (column.Fld f) t) owner in
      fields_apart e f b.is.at.node (offers_own K b.is.at.node (column.Fld e) (subst (λ z. StandsAt P F H W T (column.Fld e) z) node s))
      (offers_own K b.is.at.node (column.Fld f) t) (sym a.is.name ∙ ap (λ (z : PlainField). z.name) same ∙ b.is.name)

  holder_is : (c : ℕ) → R.holder_of c ≡ T.holder_of c
  unfolding renaming_of
  holder_is c = refl

  -- the field of a name that a class itself has
  record IsOwn (c g : ℕ) (x : List ℕ) : Type 0 where
    field : PlainField
    stands : slice_get W.fields g ≡ Some field
    owner : field.owner ≡ c
    name : field.name ≡ x

  own_is : (c g : ℕ) (x : List ℕ) → own_field_of W c x ≡ Some g → IsOwn c g x
  own_is c g x h =
      let k = position-passes (λ z. is_field_of c x z) W.fields g h in
      let parts = and_parts (eqb k.0.owner c) (bytes_eq k.0.name x) k.2 in
      record { field = k.0; stands = k.1; owner = eqb-true k.0.owner c parts.0; name = (bytes_eq-Decides k.0.name x).0 parts.1 }

  is_own : (c g : ℕ) (x : List ℕ) → IsOwn c g x → own_field_of W c x ≡ Some g
  is_own c g x o =
      let there = passes-position (λ z. is_field_of c x z) W.fields g o.field o.stands
      (and_from (eqb o.field.owner c) (bytes_eq o.field.name x) (eq-eqb o.field.owner c o.owner) ((bytes_eq-Decides o.field.name x).1 o.name)) in
      let other = own_is c there.0 x there.1 in
      there.1 ∙ ap Some (K.new.field_names there.0 g other.field o.field other.stands o.stands (other.owner ∙ sym o.owner) (other.name ∙ sym o.name))

  static_is : (g : ℕ) (k : PlainField) → slice_get W.fields g ≡ Some k → k.is_static ≡ false → when_instance W (Some g) ≡ Some g
  static_is g k e s = rw (e, s) refl

  module _ (f n : ℕ) (o : Offers K n (column.Fld f)) where
    abbrev there : ℕ
    there = (new_field f o.node o.stands).0

    abbrev name : List ℕ
    name = R.field_name f

    live : is_live H.order n ≡ true
    live = K.order.lower_lives n o.node o.above

    at_live : is_live H.order o.node ≡ true
    at_live = K.order.upper_lives n o.node o.above

    -- a static field stands in a holder, and no holder is on the way
    no_static : (e y : ℕ) (k : PlainField) → slice_get W.fields y ≡ Some k → k.owner ≡ e → k.is_static ≡ true → IsSubclass W e (T.type_of o.node) → ⊥
    no_static e y k at owner static up =
        let z = K.rebuilt.statics.fields y k at static in
        let s = z.1.same in
        let same : s.new ≡ k = same_Some _ _ (sym s.new_stands ∙ at) in
        let holder : T.holder_of s.old.owner ≡ e = sym (holder_is s.old.owner) ∙ sym s.owner ∙ ap (λ (z : PlainField). z.owner) same ∙ owner in
        no_holder K s.old.owner o.node (field_holder P z.0 s.old s.old_stands s.old_static) at_live
        (subst (λ z. IsSubclass W z (T.type_of o.node)) (sym holder) up)

    -- an instance field of the name is the field
    is_it : (e y : ℕ) (k : PlainField) → slice_get W.fields y ≡ Some k → k.owner ≡ e → k.name ≡ name → k.is_static ≡ false
        → IsSubclass W (T.type_of n) e → y ≡ there
    is_it e y k at owner named instance down =
        let z = K.rebuilt.members.fields y k at instance in
        let h = z.1 in
        let low : is_le H.order n h.at.node ≡ true =
        le_of K n h.at.node live (stands_live K h.at.node (column.Fld z.0) h.at.stands) (subst (λ z. IsSubclass W (T.type_of n) z) (sym owner
        ∙ h.at.owner_is) down) in
        let one : z.0 ≡ f = fields_apart z.0 f n
        (offers_below K n h.at.node (column.Fld z.0) low (offers_own K h.at.node (column.Fld z.0) h.at.stands)) o (sym h.name ∙ named) in
        one_field f y there (subst (λ z. IsNewField z y) one (record { field = k; stands = at; is = h })) (new_field f o.node o.stands).1

    one_on_way : OneOnWay W (λ k. own_field_of W k name) (T.type_of n) (T.type_of o.node) there
    one_on_way e y down up h =
        let own = own_is e y name h in
        ⊎_elim (λ s. absurd (no_static e y own.field own.stands own.owner s up)) (λ s. is_it e y own.field own.stands own.owner own.name s down)
        (cases_Bool own.field.is_static)

    pub finds_field : member_field W (T.type_of n) name ≡ Some there
    unfolding member_field field_of
    finds_field =
        let it = (new_field f o.node o.stands).1 in
        let at : T.type_of it.is.at.node ≡ T.type_of o.node = ap T.type_of (stands_once K it.is.at.node o.node (column.Fld f) it.is.at.stands o.stands) in
        let class = member_class K o.node at_live (class_node K o.node (column.Fld f) refl (offers_own K o.node (column.Fld f) o.stands)) in
        let own = is_own (T.type_of o.node) there name (record { field = it.field; stands = it.stands; owner = it.is.at.owner_is ∙ at; name = it.is.name }) in
        let near = nearest_on_way W (λ k. own_field_of W k name) (along W K.new class (subclass_of K n o.node o.above)) own one_on_way in
        ap (when_instance W) (nearest-nearest_of W (λ k. own_field_of W k name) K.new.acyclic near) ∙ static_is there it.field it.stands it.is.at.instance

    -- each object below has a place for it
    pub has_place : (m : ℕ) → is_le H.order m n ≡ true → is_some (index_of W (T.type_of m) there) ≡ true
    has_place m h = members W K.new (T.type_of m) (T.type_of n) name there (below_is K m n (K.order.lower_lives m n h) live ∙ h) finds_field
