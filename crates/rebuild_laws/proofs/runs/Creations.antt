-- Creations make objects with the same values in the fields that they keep, and arrays of the same elements.
use Rattle.std.proofs.Common.{◌≡◌, ℕ, ◌<◌, Option, Some, None, length, refl, sym, ap, ◌∙◌, subst}
use Rattle.std.specs.Prelude.{Bool, true, false, ◌==◌, List, slice_get, Contains}
use Rattle.std.specs.Option.{option_map, option_map_or, is_some}
use Rattle.std.specs.Str.{bytes_eq}
use Rattle.std.proofs.lemmas.Option.{same_Some, slice_get_within}
use Rattle.std.proofs.lemmas.Bool.{and_from, and_parts, eq-eqb, eqb-true}
use Rattle.std.proofs.lemmas.Slice.Eq.{bytes_eq-Decides}
use Rattle.kaba_base.specs.declared.Place.{Place}
use Rattle.kaba_bits.specs.Sets.{bit, row as bits}
use Rattle.java_core.specs.declared.Ty.{Ty}
use Rattle.java_core.specs.declared.TyBase.{TyBase}
use Rattle.java_core.specs.declared.TyBase.TheVariants.{Int, Boolean, Char, Str, Class}
use Rattle.java_core.specs.Programs.{Plain, PlainField, PlainMethod}
use Rattle.java_core.specs.Classes.{below, is_field_of, own_field_of, field_of, member_field}
use Rattle.java_core.proofs.Positions.{passes-position, position-passes}
use Rattle.java_core.proofs.Subclasses.{subclass-below, nearest-here}
use Rattle.java_meaning.specs.Moment.{Kind, an_array, Body}
use Rattle.java_meaning.specs.Values.{default_of}
use Rattle.java_meaning.specs.Languages.{index_of, fresh_of, language_of}
use Rattle.java_meaning.proofs.Holds.{some_there}
use Rattle.java_meaning.proofs.Layouts.{members, fresh}
use Rattle.fact_model.specs.Items.{site_row, site_class, row_class, column_class}
use Rattle.fact_model.specs.declared.facts.Facts.{Facts}
use Rattle.fact_model.specs.declared.sets.PointsTo.{PointsTo}
use Rattle.fact_model.specs.declared.sets.Table.{Table}
use Rattle.fact_model.proofs.OrderLemmas.{column-above}
use Rattle.hier_model.specs.Hierarchies.{Hierarchy, place_of_row}
use Rattle.flow_rules.specs.declared.items.ObjectType.{ObjectType}
use Rattle.flow_rules.specs.declared.items.Operand.{Operand}
use Rattle.flow_rules.specs.declared.items.ColumnItem.{ColumnItem}
use Rattle.flow_rules.specs.declared.items.ColumnItem.TheVariants as column
use Rattle.flow_rules.specs.declared.items.RowItem.TheVariants as row
use Rattle.flow_rules.specs.Operands.{object_of, object_in}
use Rattle.flow_rules.specs.Parts.{a_creation, parts_of}
use Rattle.flow_rules.specs.Numbered.{row_number, site_number, sites_of}
use Rattle.flow_rules.specs.Facts.{numbers, site_info}
use Rattle.flow_laws.specs.cover.Covers.{solved}
use Rattle.flow_laws.specs.cover.Slotted.{HaveSlots}
use Rattle.flow_laws.proofs.cover.Kinded.{site_type, IsCreation, IsKindedPart}
use Rattle.flow_laws.proofs.cover.Covered.{method_parts}
use Rattle.flow_laws.proofs.cover.Unique.{creation_type}
use Rattle.flow_laws.proofs.order.Classes.{below_subclass}
use Rattle.flow_laws.proofs.order.Columns.{Stands, for_field, for_declaration, for_body, for_mark, column_stands, numbered_column}
use Rattle.flow_rules.proofs.NumberedItems.{numbered_columns, numbered_sites}
use Rattle.flow_laws.proofs.order.Sites.{site_types, site_part, created_row}
use Rattle.flow_rules.proofs.Listed.{at_map}
use Rattle.rebuild_model.specs.Renaming.{retyped}
use Rattle.rebuild_laws.specs.looks.Known.{KnownOfBoth, Offers, sides}
use Rattle.rebuild_laws.proofs.looks.Fields as fields
use Rattle.rebuild_laws.proofs.looks.Fields.{has_place}
use Rattle.rebuild_laws.proofs.types.Served.{IsRowOf, row_of_class, row_class_is}
use Rattle.rebuild_laws.specs.twins.Twins.{value_at}
use Rattle.rebuild_laws.proofs.twins.Shapes.{same_default}
use Rattle.rebuild_laws.proofs.twins.States.{at_place}
use Rattle.rebuild_laws.proofs.runs.Ties.{type_at, type_over, CreationTied}
use Rattle.rebuild_laws.proofs.runs.Sited.{IsGiven, MadeAs, has, has_in, new_field, new_field_is, node_of, has_offered, some_test}
use Rattle.rebuild_laws.proofs.runs.Shapes.{shape_kept}

type_of_class : (v : Ty) (x : ObjectType) → object_of v ≡ Some x → v ≡ type_at x
type_of_class v x e = go v.base v.dim e
  where
    go : (b : TyBase) (d : ℕ) → object_in b d ≡ Some x → record { base = b; dim = d } ≡ type_at x
    go (Class c) d h = ap type_at (same_Some (record { class = c; dim = d }) x h)
    go Int d h = absurd (cc)
    go Boolean d h = absurd (cc)
    go Char d h = absurd (cc)
    go Str d h = absurd (cc)

retyped_free : (k : Option ℕ) (v : Ty) → object_of v ≡ None → retyped k v ≡ v
retyped_free None v e = refl
retyped_free (Some w) v e = go v.base v.dim e
  where
    go : (b : TyBase) (d : ℕ) → object_in b d ≡ None → retyped (Some w) (record { base = b; dim = d }) ≡ record { base = b; dim = d }
    go Int d h = refl
    go Boolean d h = refl
    go Char d h = refl
    go Str d h = refl
    go (Class c) d h = absurd (cc)

module _ {P : Plain} {F : Facts} {H : Hierarchy} {W : Plain} (K : KnownOfBoth P F H W) (pt : PointsTo) (t : Table) (X : IsGiven P F H pt t) where
  open X use {ready, table}
  open ready use {typed, facts, in_range as A, in_order as O, sets as S, table as B, unbroken as none, hierarchy}
  open sides K use {places as T, renaming as R}

  abbrev node : ℕ → ℕ
  node s = node_of K t s

  -- an instance field of a class itself is its member
  own_member : (f : ℕ) (k : PlainField) → slice_get P.fields f ≡ Some k → k.is_static ≡ false → member_field P k.owner k.name ≡ Some f
  unfolding member_field field_of
  own_member f k e s =
      let there = passes-position (λ z. is_field_of k.owner k.name z) P.fields f k e
      (and_from (k.owner == k.owner) (bytes_eq k.name k.name) (eq-eqb k.owner k.owner refl) ((bytes_eq-Decides k.name k.name).1 refl)) in
      let other = position-passes (λ z. is_field_of k.owner k.name z) P.fields there.0 there.1 in
      let parts = and_parts (other.0.owner == k.owner) (bytes_eq other.0.name k.name) other.2 in
      let same = K.old.field_names there.0 f other.0 k other.1 e (eqb-true other.0.owner k.owner parts.0) ((bytes_eq-Decides other.0.name k.name).0 parts.1) in
      rw (nearest-here P (λ c. own_field_of P c k.name) (length P.classes) k.owner f (there.1 ∙ ap (λ z. Some z) same), e, s) refl

  field_stands : (i : ColumnItem) → Stands P i → (f : ℕ) → i ≡ column.Fld f → (k : PlainField) × (slice_get P.fields f ≡ Some k) × (k.is_static ≡ false)
  field_stands _ (for_field g k e s) f h = let same : g ≡ f = cc in (k, ap (λ z. slice_get P.fields z) (sym same) ∙ e, s)
  field_stands _ (for_declaration m k e s) f h = absurd (cc)
  field_stands _ (for_body m k e s b) f h = absurd (cc)
  field_stands _ (for_mark c) f h = absurd (cc)

  instance : (f : ℕ) (k : PlainField) (c : ℕ) → (numbers P).column (column.Fld f) ≡ Some c → slice_get P.fields f ≡ Some k → k.is_static ≡ false
  unfolding numbers
  instance f k c e at =
      let x = (numbered_columns P).at (column.Fld f) c e in
      let y = field_stands x.0.item (column_stands P c x.0 x.1) f x.2 in
      ap (λ z. z.is_static) (same_Some k y.0 (sym at ∙ y.1)) ∙ y.2

  -- an object has each field that the row of its site has
  field_there : (s f : ℕ) → s < length F.sites.items → has_in K t s f ≡ true → (o : Offers K (node s) (column.Fld f))
      → is_some (index_of P (site_class F s) f) ≡ true
  unfolding numbers
  field_there s f ls h o =
      let c = some_test ((numbers P).column (column.Fld f)) (λ c. bit (bits t.rows.items (site_row F s)) c) h in
      let x = fields.new_field K f o.node o.stands in
      let k = x.1.is.old in
      let info = numbered_column P F facts (column.Fld f) c.0 c.1 in
      let above = column-above F A O (site_row F s) c.0 ((B.entries (site_row F s) c.0).0 c.2) in
      let owner : column_class F c.0 ≡ k.owner = ap (λ z. z.class.0) info.1
      ∙ ap (λ z. option_map_or (λ (z : PlainField). z.owner) z 0) x.1.is.old_stands in
      let le = subclass-below P K.old.acyclic (below_subclass P F facts above) in
      members P K.old (site_class F s) k.owner k.name f
      (ap (λ z. below P z k.owner) (site_types P K.old typed F facts s ls) ∙ ap (λ z. below P (row_class F (site_row F s)) z) (sym owner) ∙ le)
      (own_member f k x.1.is.old_stands (instance f k c.0 c.1 x.1.is.old_stands))

  -- a new object has one value in each field that it keeps
  first_values : (s f : ℕ) → s < length F.sites.items → has_in K t s f ≡ true
      → value_at (language_of P) (site_class F s) f (fresh_of P (site_class F s)) ≡ value_at (language_of W) (T.type_of (node s)) (new_field K t f)
      (fresh_of W (T.type_of (node s)))
  first_values s f ls h =
      let o = has_offered K t pt A O S B table none s f h in
      let x = fields.new_field K f o.node o.stands in
      let live = K.order.lower_lives (node s) o.node o.above in
      let i = some_there (index_of P (site_class F s) f) (field_there s f ls h o) in
      let j = some_there (index_of W (T.type_of (node s)) x.0) (has_place K f (node s) o (node s) (K.order.reflexive (node s) live)) in
      let a = fresh P (site_class F s) f i.0 i.1 in
      let b = fresh W (T.type_of (node s)) x.0 j.0 j.1 in
      let old : a.0 ≡ x.1.is.old.ty = same_Some a.0 x.1.is.old.ty (sym a.1 ∙ ap (option_map (λ (z : PlainField). z.ty)) x.1.is.old_stands) in
      let new : b.0 ≡ x.1.field.ty = same_Some b.0 x.1.field.ty (sym b.1 ∙ ap (option_map (λ (z : PlainField). z.ty)) x.1.stands) in
      at_place (language_of P) (site_class F s) f i.0 (fresh_of P (site_class F s)) (default_of a.0) i.1 a.2
      ∙ ap (λ z. Some (default_of z)) old
      ∙ ap (λ z. Some z) (same_default x.1.is.old.ty (retyped (R.row_type (row.Field f)) x.1.is.old.ty) (shape_kept (R.row_type (row.Field f)) x.1.is.old.ty))
      ∙ ap (λ z. Some (default_of z)) (sym (new ∙ x.1.is.type))
      ∙ sym (ap (λ z. value_at (language_of W) (T.type_of (node s)) z (fresh_of W (T.type_of (node s)))) (new_field_is K t f (node s) o)
      ∙ at_place (language_of W) (T.type_of (node s)) x.0 j.0 (fresh_of W (T.type_of (node s))) (default_of b.0) j.1 b.2)

  module _ (new_static : ℕ → ℕ) (Pair : Body → Body → Type 0) (m : ℕ) (k : PlainMethod) (stands : slice_get P.methods m ≡ Some k) (slots : HaveSlots P) where
    abbrev Made : Option ℕ → Kind → Kind → Type 0
    Made o a b = MadeAs K t o a b

    pub created : (w : Place) (u : Bool) (o : Operand) (j d : Option ℕ) (args : List Operand) → Contains (parts_of P m k) (a_creation w u o j d args)
        → CreationTied P W F (solved pt) R (has K t) (new_field K t) new_static Made Pair o
    unfolding IsKindedPart numbers
    created w u o j d args i =
        let kind : IsCreation P F u o = (method_parts P F K.old typed slots facts m k stands (a_creation w u o j d args) i).0 in
        let type : (n s : ℕ) → o.created ≡ Some n → site_number P n ≡ Some s
        → o.ty ≡ Some (site_type F s) = λ n s ec es. creation_type P F K.old facts m k stands w u o j d args n s i ec es in
        let row_is : (n r s : ℕ) → row_number P (row.New n) ≡ Some r → site_number P n ≡ Some s
        → site_row F s ≡ r = λ n r s er es. created_row P K.old typed F facts n r (record { 0 = s }) er es in
        record {
          object = λ n c y ec ey dim hc.
              let s = kind.sited n y ec ey in
              let is : y ≡ site_type F s.0 = same_Some y (site_type F s.0) (sym ey ∙ type n s.0 ec s.1) in
              let a = row_of_class K (Some (row.New n)) c hc in
              let class_is : T.type_of (node s.0) ≡ c = ap (λ z. T.type_of (place_of_row H z)) (row_is n a.number s.0 (numbered_new n c a) s.1) ∙ a.class in
              record {
                made = record {
                  sited = λ z ez.
                      let one : s.0 ≡ z = same_Some s.0 z (sym s.1 ∙ ez) in (
                        ap (λ d. record { base = Class y.class; dim = d }) (sym dim) ∙ ap type_at is ∙ ap (λ v. type_at (site_type F v)) one,
                        ap (λ d. record { base = Class (record { 0 = c }); dim = d }) (sym dim ∙ ap (λ v. v.dim) is)
                            ∙ ap (λ v. type_over v (site_type F s.0)) (sym class_is) ∙ ap (λ v. type_over (T.type_of (node v)) (site_type F v)) one,
                      );
                  free = λ e. absurd (let z = sym e ∙ s.1 in cc);
                };
                values = λ f h. values_of n y c s.0 s.1 is class_is f h;
              };
          array = λ n v ec ey deep. record {
            made = record {
              sited = λ s es.
                  let is = type_of_class v (site_type F s) (sym ey ∙ type n s ec es) in (is, array_over n s v is es);
              free = λ e. let none = no_site n v (λ y q. let s = kind.sited n y ec (ey ∙ q) in absurd (let z = sym e ∙ s.1 in cc)) in
                  (none, ap an_array (retyped_free (R.row_type (row.New n)) v none));
            };
            shape = shape_kept (R.row_type (row.New n)) v;
          };
        }
      where
        numbered_new : (n c : ℕ) (a : IsRowOf K (Some (row.New n)) c) → row_number P (row.New n) ≡ Some a.number
        numbered_new n c a = ap (row_number P) (same_Some (row.New n) a.item a.is) ∙ a.numbered

        site_below : (n s : ℕ) → site_number P n ≡ Some s → s < length F.sites.items
        site_below n s es =
            let x = (numbered_sites P).at n s es in slice_get_within F.sites.items s (site_info x.0)
            (subst (λ z. slice_get z s ≡ Some (site_info x.0)) (sym facts.sites) (at_map site_info (sites_of P) s x.0 x.1))

        values_of : (n : ℕ) (y : ObjectType) (c s : ℕ) → site_number P n ≡ Some s → y ≡ site_type F s → T.type_of (node s) ≡ c → (f : ℕ)
            → has K t (Some n) f ≡ true
            → value_at (language_of P) y.class.0 f (fresh_of P y.class.0) ≡ value_at (language_of W) c (new_field K t f) (fresh_of W c)
        values_of n y c s es is at f h =
            let ls = site_below n s es in
            let hs = sym (ap (λ z. option_map_or (λ s. has_in K t s f) z false) es) ∙ h in
            ap (λ z. value_at (language_of P) z.class.0 f (fresh_of P z.class.0)) is ∙ first_values s f ls hs
            ∙ ap (λ z. value_at (language_of W) z (new_field K t f) (fresh_of W z)) at

        array_over : (n s : ℕ) (v : Ty) → v ≡ type_at (site_type F s) → site_number P n ≡ Some s
            → retyped (R.row_type (row.New n)) v ≡ type_over (T.type_of (node s)) (site_type F s)
        array_over n s v is es =
            let x = (numbered_sites P).at n s es in
            let p = site_part P K.old typed s x.0 x.1 in
            let row_n : row_number P (row.New n) ≡ Some x.0.row = ap (λ z. row_number P (row.New z)) (sym x.2) ∙ p.row_number_is in
            let at = created_row P K.old typed F facts n x.0.row (record { 0 = s }) row_n es in
            ap (λ z. retyped z v) (row_class_is K (row.New n) x.0.row row_n) ∙ ap (λ z. retyped (Some (T.type_of (place_of_row H x.0.row))) z) is
            ∙ ap (λ z. type_over (T.type_of (place_of_row H z)) (site_type F s)) (sym at)

        no_site : (n : ℕ) (v : Ty) → ((y : ObjectType) → object_of v ≡ Some y → ⊥) → object_of v ≡ None
        no_site n v h = go (object_of v) refl
          where
            go : (z : Option ObjectType) → object_of v ≡ z → object_of v ≡ None
            go None e = e
            go (Some y) e = absurd (h y e)
