-- What the names of a body find: rows, holders and static members.
use Rattle.std.proofs.Common.{◌≡◌, ℕ, List, [], ◌∷◌, Option, Some, None, length, refl, sym, ap, ◌∙◌, subst}
use Rattle.std.specs.Prelude.{◌&&◌, not, eqb, Bool, true, false, slice_get, Contains, ◌==◌}
use Rattle.std.specs.Option.{option_map, option_map_or, is_some}
use Rattle.std.specs.List.{list_any}
use Rattle.std.specs.Str.{bytes_eq}
use Rattle.std.proofs.lemmas.Bool.{and_parts, eqb-true, or_from, not-true}
use Rattle.std.proofs.lemmas.Option.{same_Some, slice_get_within, get_or_from_slice_get}
use Rattle.std.proofs.lemmas.Slice.Eq.{bytes_eq-Decides}
use Rattle.kaba_base.specs.declared.Place.{Place}
use Rattle.kaba_base.specs.declared.ClassId.{ClassId}
use Rattle.java_tree.specs.Syntax.{Expression, NullLit, NameRef, Expressions, CallOn}
use Rattle.java_core.specs.declared.TyBase.TheVariants.{Class}
use Rattle.java_core.specs.Trees.{at_place, Ex, Exs, static_field, static_call}
use Rattle.java_core.specs.Programs.{Plain, PlainClass, PlainField, PlainMethod, PlainLocal}
use Rattle.java_core.specs.Classes.{own_field_of, is_field_of, field_of, nearest}
use Rattle.java_core.specs.Formed.{IsFormed, IsStaticField, IsStaticMethod, variables_of}
use Rattle.java_core.proofs.Positions.{position-passes}
use Rattle.java_core.proofs.Subclasses.{nearest-here}
use Rattle.kaba_order.specs.Orders.{is_live}
use Rattle.hier_model.specs.Hierarchies.{Hierarchy, place_of_row}
use Rattle.flow_rules.specs.declared.items.ObjectType.{ObjectType}
use Rattle.flow_rules.specs.declared.items.RowItem.{RowItem}
use Rattle.flow_rules.specs.declared.items.Row.{Row}
use Rattle.flow_rules.specs.Operands.{object_if, variable_row}
use Rattle.flow_rules.specs.Types.{variable_object}
use Rattle.flow_rules.specs.Parts.{Part, parts_of}
use Rattle.flow_rules.specs.Numbered.{row_if, form_rows, row_number, sites_of}
use Rattle.flow_rules.specs.Facts.{is_holder, numbers, PlainMakers, makers_of}
use Rattle.flow_rules.proofs.Listed.{one, contains_at}
use Rattle.flow_laws.proofs.cover.HasNumbers.{form_row}
use Rattle.flow_laws.proofs.cover.HasRows.{variable_row_of}
use Rattle.flow_laws.proofs.cover.Found.{nearest_some}
use Rattle.name_rules.specs.declared.parts.Bound.{Bound}
use Rattle.name_rules.specs.declared.parts.Here.{Here}
use Rattle.name_rules.specs.Meanings.{in_scope}
use Rattle.name_rules.specs.Resolves.{ResolvesTo, AllResolve}
use Rattle.write_model.specs.Names.{nowhere, by_number, class_name, makers_name}
use Rattle.write_model.specs.Bodies.{is_named, is_in_scope, is_simple, static_field_tree, static_call_tree, static_field_name, static_call_name}
use Rattle.rebuild_model.specs.Renaming.{Places, Renaming, renaming_of, make_name}
use Rattle.rebuild_model.specs.Matches as copy
use Rattle.rebuild_laws.proofs.looks.Fields.{field_holder, method_holder}
use Rattle.write_laws.specs.bodies.Known.{KnowsNames}
use Rattle.write_laws.proofs.bodies.Scopes.{Scoped}
use Rattle.write_laws.proofs.bodies.Inverse.{no_variable, at_static, at_class_field, at_own_call, at_class_call}
use Rattle.flow_rules.specs.declared.items.Site.{Site}
use Rattle.rebuild_model.specs.Makes.{IsMake}
use Rattle.java_core.specs.Makers.{maker_of}
use Rattle.write_laws.proofs.rebuilds.Fixed.{holder_no_word, variable_word, makers_there}

none_any : (p : ℕ → Bool) (xs : List ℕ) → ((i : ℕ) → p i ≡ false) → list_any p xs ≡ false
none_any p [] h = refl
none_any p (x ∷ xs) h = or_from (p x) (list_any p xs) (h x) (none_any p xs h)

-- the nearest field of a class is its own, where it has one
pub own_nearest : (O : Plain) (c f : ℕ) (x : List ℕ) → own_field_of O c x ≡ Some f → field_of O c x ≡ Some f
unfolding field_of
own_nearest O c f x e = nearest-here O (λ k. own_field_of O k x) (length O.classes) c f e

-- a name that no field has is found in no class
no_field_of : (O : Plain) (c : ℕ) (x : List ℕ) → ((f : ℕ) (k : PlainField) → slice_get O.fields f ≡ Some k → k.name ≡ x → ⊥) → field_of O c x ≡ None
unfolding field_of
no_field_of O c x free = go (nearest O (λ k. own_field_of O k x) (length O.classes) c) refl
  where
    go : (o : Option ℕ) → nearest O (λ k. own_field_of O k x) (length O.classes) c ≡ o → o ≡ None
    go None e = refl
    go (Some f) e =
        let b = nearest_some O (λ k. own_field_of O k x) (length O.classes) c f e in
        let k = position-passes (λ z. is_field_of b.0 x z) O.fields f b.1 in
        absurd (free f k.0 k.1 ((bytes_eq-Decides k.0.name x).0 (and_parts (eqb k.0.owner b.0) (bytes_eq k.0.name x) k.2).1))

module _ (P : Plain) (H : Hierarchy) (T : Places) where
  abbrev by_node : Renaming
  by_node = renaming_of P H by_number

  abbrev R : Renaming
  R = renaming_of P H T

  -- the type of a row is that of its node
  pub row_type_is : (i : RowItem) → R.row_type i ≡ option_map T.type_of (by_node.row_type i)
  unfolding renaming_of
  row_type_is i = go ((numbers P).row i)
    where
      go : (o : Option ℕ) → option_map (λ r. T.type_of (place_of_row H r)) o ≡ option_map T.type_of (option_map (λ r. place_of_row H r) o)
      go None = refl
      go (Some r) = refl

  pub row_node : (i : RowItem) (r : ℕ) → row_number P i ≡ Some r → by_node.row_type i ≡ Some (place_of_row H r)
  unfolding renaming_of numbers
  row_node i r e = ap (option_map (λ r. place_of_row H r)) e

  pub field_name_is : (f : ℕ) → by_node.field_name f ≡ R.field_name f
  unfolding renaming_of
  field_name_is f = refl

  pub method_name_is : (f : ℕ) → by_node.method_name f ≡ R.method_name f
  unfolding renaming_of
  method_name_is f = refl

module _ (P : Plain) (H : Hierarchy) (U O : Plain) (T : Places) (K : KnowsNames P H U O T) (formed : IsFormed P) where
  -- an item's row stands at a live node
  pub record HasRow (i : RowItem) : Type 0 where
    pub node : ℕ
    pub is : (renaming_of P H by_number).row_type i ≡ Some node
    pub new : (renaming_of P H T).row_type i ≡ Some (T.type_of node)
    pub live : is_live H.order node ≡ true

  has_row : (i : RowItem) (r : ℕ) → row_number P i ≡ Some r → HasRow i
  unfolding numbers
  has_row i r e =
      let is = row_node P H T i r e in
      record { node = place_of_row H r; is = is; new = row_type_is P H T i ∙ ap (option_map T.type_of) is; live = K.row_live i r e }

  module _ (m : ℕ) (k : PlainMethod) (stands : slice_get P.methods m ≡ Some k) where
    -- the row of a creation, a cast or an `instanceof`
    pub form_has : (p : Part) (q : Place) (i : RowItem) (o : Option ObjectType) (t : ObjectType) → Contains (parts_of P m k) p → o ≡ Some t
        → ((x : Row) → Contains (row_if i q o) x → Contains (form_rows p) x) → HasRow i
    form_has p q i o t c e h =
        let x : Row = record { item = i; place = q; ty = t } in
        let r = form_row P m k stands p c x (h x (subst (λ z. Contains (row_if i q z) x) (sym e) (one x))) in
        has_row i r.0 r.1

    -- the row of a parameter or local of a class
    pub variable_has : (i : ℕ) (v : PlainLocal) (c : ClassId) → slice_get (variables_of k) i ≡ Some v → v.ty.base ≡ Class c → HasRow (variable_row m k i)
    variable_has i v c e b =
        let t : ObjectType = record { class = c; dim = v.ty.dim } in
        let there : variable_object k i ≡ Some t =
        ap (λ z. object_if (option_map (λ (l : PlainLocal). l.ty) z)) e ∙ ap (λ z. object_if (Some (record { base = z; dim = v.ty.dim }))) b in
        let r = variable_row_of P formed m k i t stands there in
        has_row (variable_row m k i) r.0 r.1

    -- no variable has the name of a class
    pub class_free : (c : ℕ) (h : PlainClass) (scope : List ℕ) → slice_get P.classes c ≡ Some h → is_in_scope k scope (class_name P c) ≡ false
    class_free c h scope e = none_any (is_named k (class_name P c)) scope (λ i. go i (slice_get (variables_of k) i) refl)
      where
        go : (i : ℕ) (o : Option PlainLocal) → slice_get (variables_of k) i ≡ o → option_map_or (λ v. bytes_eq v.name (class_name P c)) o false ≡ false
        go i None f = refl
        go i (Some v) f = same (bytes_eq v.name (class_name P c)) refl
          where
            same : (b : Bool) → bytes_eq v.name (class_name P c) ≡ b → b ≡ false
            same false g = refl
            same true g =
                let named = ap (λ z. option_map_or (λ (k : PlainClass). k.name) z []) e in
                absurd (((formed.methods m k stands).variables v
                (i, slice_get_within (variables_of k) i v f, get_or_from_slice_get (variables_of k) i v v f)).name.no_class c h e
                (sym named ∙ sym ((bytes_eq-Decides v.name (class_name P c)).0 g)))

    -- where the body stands, and what is in scope
    module _ (here : Here) (static : here.is_static ≡ k.is_static) (owner : k.is_static ≡ true → here.owner ≡ T.holder_of k.owner)
        (inner scope : List ℕ) (bs : List Bound) (s : Scoped k inner scope bs) where
      -- the name of a holder means its class, and no variable
      no_name : (c : ℕ) (h : PlainClass) → slice_get P.classes c ≡ Some h → is_holder P c ≡ true → (d : Ex)
          → ResolvesTo O here bs (NameRef (class_name P c) nowhere) d → ⊥
      no_name c h e holds d r =
          no_variable O here bs (class_name P c) nowhere d (s.absent (class_name P c) (class_free c h scope e))
          (no_field_of O here.owner (class_name P c) (λ f k ef. K.no_field c f k holds ef)) r

      -- nor does the name of the holder of the methods that make objects
      makers_free : (mk : PlainMakers) → makers_of P ≡ Some mk → (scope : List ℕ) → is_in_scope k scope (makers_name P) ≡ false
      makers_free mk me scope = none_any (is_named k (makers_name P)) scope (λ i. go i (slice_get (variables_of k) i) refl)
        where
          go : (i : ℕ) (o : Option PlainLocal) → slice_get (variables_of k) i ≡ o → option_map_or (λ v. bytes_eq v.name (makers_name P)) o false ≡ false
          go i None f = refl
          go i (Some v) f = same (bytes_eq v.name (makers_name P)) refl
            where
              same : (b : Bool) → bytes_eq v.name (makers_name P) ≡ b → b ≡ false
              same false g = refl
              same true g =
                  absurd (holder_no_word P formed mk me v.name (variable_word P formed m k v stands (contains_at (variables_of k) i v f))
                  (sym (ap (λ o. option_map_or (λ (z : PlainMakers). z.holder) o []) me) ∙ sym ((bytes_eq-Decides v.name (makers_name P)).0 g)))

      no_makers_name : (mk : PlainMakers) → makers_of P ≡ Some mk → (d : Ex) → ResolvesTo O here bs (NameRef (makers_name P) nowhere) d → ⊥
      no_makers_name mk me d r =
          no_variable O here bs (makers_name P) nowhere d (s.absent (makers_name P) (makers_free mk me scope))
          (no_field_of O here.owner (makers_name P) (λ f k ef. K.makers_no_field f k (ap is_some me) ef)) r

      -- the call of the method that makes the objects of a site
      pub make_met : (s m : ℕ) (x : Site) → slice_get (sites_of P) s ≡ Some x → (x.ty.dim == 0) ≡ true → maker_of P x.ty.class.0 ≡ Some m
          → (es : Expressions) (d : Ex) → ResolvesTo O here bs (CallOn (NameRef (makers_name P) nowhere) (make_name P x.number) es nowhere) d
          → (h : ℕ) × (xs : Exs) × IsMake P U (renaming_of P H T) x.number m h × AllResolve O here bs es xs × (d ≡ static_call (at_place nowhere) h xs)
      make_met s m x e object has es d r =
          let mk = makers_there P formed s (record { site = x; stands = e; object = object; maker = m; has = has }) in
          let z = at_class_call O here bs (makers_name P) (make_name P x.number) es nowhere nowhere T.makers d (K.makers (ap is_some mk.1))
          (no_makers_name mk.0 mk.1) r in
          (z.0, z.1, K.make s m z.0 x z.2.member e object has z.2.stands z.2.owner z.2.name, z.3, z.4)

      -- what is simply named
      pub record IsSimple (c : ℕ) (x : List ℕ) : Type 0 where
        pub static_here : here.is_static ≡ true
        pub at : here.owner ≡ T.holder_of c
        pub free : in_scope bs x ≡ None

      pub simple_is : (c : ℕ) (x : List ℕ) → is_simple k scope c x ≡ true → IsSimple c x
      simple_is c x e =
          let a = and_parts k.is_static (eqb k.owner c && not (is_in_scope k scope x)) e in
          let b = and_parts (eqb k.owner c) (not (is_in_scope k scope x)) a.1 in
          record {
            static_here = static ∙ a.0;
            at = owner a.0 ∙ ap T.holder_of (eqb-true k.owner c b.0);
            free =
                s.absent x (not-true (is_in_scope k scope x) b.1);
          }

      pub static_field_met : (f : ℕ) → IsStaticField P f → (d : Ex) → ResolvesTo O here bs (static_field_name P k scope f) d
          → (h : ℕ) × copy.IsStaticField P U (renaming_of P H T) f h × (d ≡ static_field (at_place nowhere) h)
      static_field_met f i d r = go (is_simple k scope g.owner g.name) refl (subst
          (λ z. ResolvesTo O here bs (option_map_or named z (NullLit nowhere)) d) i.stands r)
        where
          g : PlainField
          g = i.member

          named : PlainField → Expression
          named g = static_field_tree (is_simple k scope g.owner g.name) (class_name P g.owner) g.name

          go : (b : Bool) → is_simple k scope g.owner g.name ≡ b → ResolvesTo O here bs
              (static_field_tree (is_simple k scope g.owner g.name) (class_name P g.owner) g.name) d
              → (h : ℕ) × copy.IsStaticField P U (renaming_of P H T) f h × (d ≡ static_field (at_place nowhere) h)
          go true e r =
              let z = simple_is g.owner g.name e in
              let there = K.static_field f g i.stands i.kind in
              let w = at_static O here bs g.name nowhere d z.free z.static_here (subst
              (λ b. ResolvesTo O here bs (static_field_tree b (class_name P g.owner) g.name) d) e r) in
              let same = same_Some w.number there.0 (sym w.nearest.nearest ∙ ap (λ c. field_of O c g.name) z.at
              ∙ own_nearest O (T.holder_of g.owner) there.0 g.name there.1) in
              (there.0, there.2, w.is ∙ ap (static_field (at_place nowhere)) same)
          go false e r =
              let c = (formed.fields f g i.stands).holder in
              let holds = field_holder P f g i.stands i.kind in
              let there = K.static_field f g i.stands i.kind in
              let w = at_class_field O here bs (class_name P g.owner) g.name nowhere nowhere (T.holder_of g.owner) d (K.holder g.owner holds)
              (no_name g.owner c (formed.fields f g i.stands).stands holds) (subst
              (λ b. ResolvesTo O here bs (static_field_tree b (class_name P g.owner) g.name) d) e r) in
              (there.0, there.2, w.2 ∙ ap (static_field (at_place nowhere)) (same_Some w.0 there.0 (sym w.1.own ∙ there.1)))

      pub static_call_met : (f : ℕ) → IsStaticMethod P f → (es : Expressions) (d : Ex) → ResolvesTo O here bs (static_call_name P k scope f es) d
          → (h : ℕ) × (xs : Exs) × copy.IsStaticMethod P U (renaming_of P H T) f h × AllResolve O here bs es xs × (d ≡ static_call (at_place nowhere) h xs)
      static_call_met f i es d r = go (is_simple k scope g.owner g.name) refl (subst
          (λ z. ResolvesTo O here bs (option_map_or named z (NullLit nowhere)) d) i.stands r)
        where
          g : PlainMethod
          g = i.member

          named : PlainMethod → Expression
          named g = static_call_tree (is_simple k scope g.owner g.name) (class_name P g.owner) g.name es

          go : (b : Bool) → is_simple k scope g.owner g.name ≡ b → ResolvesTo O here bs
              (static_call_tree (is_simple k scope g.owner g.name) (class_name P g.owner) g.name es) d
              → (h : ℕ) × (xs : Exs) × copy.IsStaticMethod P U (renaming_of P H T) f h × AllResolve O here bs es xs ×
              (d ≡ static_call (at_place nowhere) h xs)
          go true e r =
              let z = simple_is g.owner g.name e in
              let w = at_own_call O here bs g.name es nowhere d z.static_here (subst
              (λ b. ResolvesTo O here bs (static_call_tree b (class_name P g.owner) g.name es) d) e r) in
              (w.number, w.args, K.static_method f w.number g w.member i.stands i.kind w.met.stands w.static (w.owner ∙ z.at) w.met.name, w.all, w.is)
          go false e r =
              let c = (formed.methods f g i.stands).holder in
              let holds = method_holder P f g i.stands i.kind in
              let w = at_class_call O here bs (class_name P g.owner) g.name es nowhere nowhere (T.holder_of g.owner) d (K.holder g.owner holds)
              (no_name g.owner c (formed.methods f g i.stands).stands holds) (subst
              (λ b. ResolvesTo O here bs (static_call_tree b (class_name P g.owner) g.name es) d) e r) in
              (w.0, w.1, K.static_method f w.0 g w.2.member i.stands i.kind w.2.stands w.2.static w.2.owner w.2.name, w.3, w.4)
