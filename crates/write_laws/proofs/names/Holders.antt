-- Static members are found in the written tree.
use Rattle.std.proofs.Common.{◌≡◌, ◌≢◌, ℕ, suc, ◌&&◌, true, false, List, [], ◌∷◌, Option, Some, None, Contains, refl, sym, ap, ◌∙◌, subst, arith, inl, inr, ⊎_elim}
use Rattle.std.specs.Prelude.{◌⊎◌, ◌==◌, slice_get, length}
use Rattle.std.specs.Option.{is_some, option_map_or}
use Rattle.std.specs.Str.{bytes_eq}
use Rattle.std.proofs.lemmas.Bool.{false≢true, and_from, and_parts, or_left, eqb-true, eq-eqb}
use Rattle.std.proofs.lemmas.Option.{same_Some}
use Rattle.std.proofs.lemmas.Slice.Eq.{bytes_eq-Decides}
use Rattle.java_tree.specs.Syntax.{MemberTree, FieldTree, MethodTree}
use Rattle.java_core.specs.Programs.{Plain, PlainClass, PlainField, PlainMethod}
use Rattle.java_core.specs.Classes.{field_of, own_field_of, is_field_of, supers_of, IsSubclass, same_class, through}
use Rattle.java_core.specs.Formed.{variables_of}
use Rattle.java_core.proofs.Subclasses.{nearest_of-nearest, nearest-here}
use Rattle.java_core.proofs.Positions.{position-passes}
use Rattle.java_core.proofs.Upwards.{nearest-own}
use Rattle.kaba_base.specs.declared.ClassId.{ClassId}
use Rattle.kaba_order.specs.Orders.{is_live}
use Rattle.name_rules.specs.declared.parts.Kind.TheVariants as kinds
use Rattle.fact_model.specs.declared.facts.Facts.{Facts}
use Rattle.fact_model.specs.declared.sets.PointsTo.{PointsTo}
use Rattle.hier_model.specs.Hierarchies.{Hierarchy, is_class_node}
use Rattle.flow_rules.specs.declared.items.RowItem.TheVariants as row
use Rattle.flow_rules.specs.Facts.{is_holder, PlainMakers}
use Rattle.flow_rules.proofs.Listed.{first, at_contains, contains_at, at_map, map_at, map_has, when_has, position_there, one_from}
use Rattle.name_rules.specs.declared.parts.Here.{Here}
use Rattle.name_rules.specs.Outline.{FieldAt, MethodAt, name_of, fields_in, methods_in, type_named, is_known, is_type_name, is_static, outline, field_outline, method_outline, fields_declared, methods_declared}
use Rattle.name_rules.specs.Meanings.{class_named, IsMet}
use Rattle.rebuild_model.specs.Renaming.{Renaming, renaming_of}
use Rattle.write_model.specs.Names.{nowhere, class_name, written_type, makers_name}
use Rattle.write_model.specs.Members.{head, body, holder_members, static_field_member, static_method_member, make_member, make_head, make_body, make_members}
use Rattle.write_model.proofs.NoMaker.{no_maker}
use Rattle.write_laws.proofs.rebuilds.Apart.{holder_class, no_holder}
use Rattle.write_laws.proofs.rebuilds.Outlined.{fields_each, methods_in_each, declared_has, member_field_has, member_method_has}
use Rattle.write_laws.proofs.rebuilds.Nodes.{node_tree, old_tree, tree_name, makers_tree}
use Rattle.write_laws.proofs.rebuilds.Members.{static_field_has, static_method_has, makes_has}
use Rattle.write_laws.specs.names.Stages.{HasHolder, FindsField, FindsMethod, FindsMake}
use Rattle.write_laws.proofs.names.Origins.{written, R, old_words, HasMethod, node_body, node_head, node_filler, interface_head, static_method, HasField, node_field, static_field, method_origin, field_origin, make_method}
use Rattle.write_laws.specs.names.Laws.{IsNamedProgram}
use Rattle.write_laws.proofs.names.Supers.{type_number, holder_named, supers_are, above_object, makers_named}
use Rattle.write_laws.proofs.names.Variables.{field_free, local_free}
use Rattle.rebuild_laws.proofs.looks.Fields.{field_holder, method_holder}
use Rattle.flow_rules.specs.declared.items.Site.{Site}
use Rattle.flow_rules.specs.Numbered.{sites_of}
use Rattle.java_core.specs.Makers.{maker_of}
use Rattle.flow_laws.proofs.cover.Makers.{own_maker}
use Rattle.write_laws.proofs.rebuilds.Fixed.{makers_there}

module _ {P : Plain} {F : Facts} {pt : PointsTo} {H : Hierarchy} (G : IsNamedProgram P F pt H) where
  open written P F H use {trees as T, types, program as O}

  abbrev R₀ : Renaming
  R₀ = R P F H

  -- a field of the outline is one of the tree
  field_at : (g : ℕ) (k : PlainField) → slice_get O.fields g ≡ Some k → (x : FieldAt) × Contains (fields_in T) x × (field_outline types x ≡ k)
  unfolding outline
  field_at g k e = let z = map_at (field_outline types) (fields_in T) g k e in (z.0, contains_at (fields_in T) g z.0 z.1, z.2)

  field_there : (x : FieldAt) → Contains (fields_in T) x → Contains O.fields (field_outline types x)
  unfolding outline
  field_there x c = map_has (field_outline types) (fields_in T) x c

  pub method_at : (g : ℕ) (k : PlainMethod) → slice_get O.methods g ≡ Some k → (x : MethodAt) × Contains (methods_in T) x × (method_outline types x ≡ k)
  unfolding outline
  method_at g k e = let z = map_at (method_outline types) (methods_in T) g k e in (z.0, contains_at (methods_in T) g z.0 z.1, z.2)

  pub method_there : (x : MethodAt) → Contains (methods_in T) x → (g : ℕ) × (slice_get O.methods g ≡ Some (method_outline types x))
  unfolding outline
  method_there x c = let z = at_contains (methods_in T) x c in (z.0, at_map (method_outline types) (methods_in T) z.0 x z.1)

  -- a holder and its number in the tree
  pub record IsHolder (c : ℕ) : Type 0 where
    pub class : PlainClass
    pub class_stands : slice_get P.classes c ≡ Some class
    pub holder : is_holder P c ≡ true
    pub index : ℕ
    pub stands : slice_get T index ≡ Some (old_tree P F H c class)
    pub named : class_named O (class_name P c) ≡ Some (suc index)
    pub type : is_type_name types (class_name P c) ≡ true

  pub holder_of : (c : ℕ) → is_holder P c ≡ true → IsHolder c
  holder_of c h =
      let k = holder_class P G.formed c h in
      let z = holder_named G c k.0 k.1 h in
      let name : class_name P c ≡ k.0.name = ap (λ o. option_map_or (λ (k : PlainClass). k.name) o []) k.1 in
      record {
        class = k.0;
        class_stands = k.1;
        holder = h;
        index = z.0;
        stands = z.1;
        named = ap (class_named O) name ∙ z.2;
        type = ap (is_type_name types) name
            ∙ or_left (is_some (type_named types k.0.name)) (is_known k.0.name) (ap is_some (type_number G z.0 (old_tree P F H c k.0) z.1));
      }

  -- no field is found under a type's name
  no_field : (c : ℕ) (x : List ℕ) → is_type_name types x ≡ true → field_of O c x ≡ None
  unfolding field_of
  no_field c x h = go (field_of O c x) refl
    where
      go : (o : Option ℕ) → field_of O c x ≡ o → field_of O c x ≡ None
      go None e = e
      go (Some f) e =
          let n = nearest-own O (λ k. own_field_of O k x) (nearest_of-nearest O (λ k. own_field_of O k x) {a = c} {d = f} e) in
          let p = position-passes (λ g. is_field_of n.0 x g) O.fields f n.1 in
          let y = field_at f p.0 p.1 in
          let name = (bytes_eq-Decides p.0.name x).0 (and_parts (p.0.owner == n.0) (bytes_eq p.0.name x) p.2).1 in
          absurd (false≢true (sym (field_free G y.0 y.1) ∙ ap (is_type_name types) (ap (λ (z : PlainField). z.name) y.2 ∙ name) ∙ h))

  pub has_holder : (m : ℕ) (k : PlainMethod) → slice_get P.methods m ≡ Some k → (here : Here) (c : ℕ) → IsHolder c → HasHolder P k O here c
  has_holder m k e here c h = record {
    number = suc h.index;
    named = h.named;
    no_field = no_field here.owner (class_name P c) h.type;
    no_variable = λ i v at same. false≢true (sym (local_free G m k v e (contains_at (variables_of k) i v at)) ∙ ap (is_type_name types) same ∙ h.type);
  }

  -- a number is not that of a node and of a holder
  node_not_holder : (n c i : ℕ) (k : PlainClass) → slice_get P.classes c ≡ Some k → is_holder P c ≡ true → is_live H.order n ≡ true
      → slice_get T i ≡ Some (node_tree P F H n) → slice_get T i ≡ Some (old_tree P F H c k) → ⊥
  node_not_holder n c i k e h live a b =
      no_holder F pt H G.unbroken P G.facts n c k live h e
      (sym (tree_name P F H (is_class_node F H n) n) ∙ ap name_of (same_Some _ _ (sym a ∙ b)))

  suc_same : (a b : ℕ) → suc a ≡ suc b → a ≡ b
  suc_same a b e = omega (arith, e)

  -- the fields and methods of a holder are static
  field_static : (c : ℕ) (h : IsHolder c) (x : FieldAt) → HasField P F H x → x.owner ≡ suc h.index → (field_outline types x).is_static ≡ true
  field_static c h _ (node_field n i d f k a e at o) same =
      absurd (node_not_holder n c h.index h.class h.class_stands h.holder a.live (ap (slice_get T) (sym (suc_same i h.index same)) ∙ a.stands) h.stands)
  field_static c h _ (static_field d i f k old a e s o) same = refl

  method_static : (c : ℕ) (h : IsHolder c) (x : MethodAt) → HasMethod P F H x → x.owner ≡ suc h.index → is_static x ≡ true
  method_static c h _ (node_body n i d m k a e at o) same =
      absurd (node_not_holder n c h.index h.class h.class_stands h.holder a.live (ap (slice_get T) (sym (suc_same i h.index same)) ∙ a.stands) h.stands)
  method_static c h _ (node_head n i t a d) same =
      absurd (node_not_holder n c h.index h.class h.class_stands h.holder a.live (ap (slice_get T) (sym (suc_same i h.index same)) ∙ a.stands) h.stands)
  method_static c h _ (node_filler n i s t a f d) same =
      absurd (node_not_holder n c h.index h.class h.class_stands h.holder a.live (ap (slice_get T) (sym (suc_same i h.index same)) ∙ a.stands) h.stands)
  method_static c h _ (interface_head n i t a d) same =
      absurd (node_not_holder n c h.index h.class h.class_stands h.holder a.live (ap (slice_get T) (sym (suc_same i h.index same)) ∙ a.stands) h.stands)
  method_static c h _ (static_method d i m k old a e s o) same = refl
  method_static c h _ (make_method i mk y t a) same = refl

  method_owner : (x : MethodAt) → HasMethod P F H x → x.owner ≢ 0
  method_owner _ (node_body n i d m k a e at o) same = absurd (omega (arith, same))
  method_owner _ (node_head n i t a d) same = absurd (omega (arith, same))
  method_owner _ (node_filler n i s t a f d) same = absurd (omega (arith, same))
  method_owner _ (interface_head n i t a d) same = absurd (omega (arith, same))
  method_owner _ (static_method d i m k old a e s o) same = absurd (omega (arith, same))
  method_owner _ (make_method i mk y t a) same = absurd (omega (arith, same))

  -- a static field is found in its holder
  own_field : (f : ℕ) (old : PlainField) → slice_get P.fields f ≡ Some old → old.is_static ≡ true → (h : IsHolder old.owner)
      → (g : ℕ) × (new : PlainField) × (own_field_of O (suc h.index) old.name ≡ Some g) × (slice_get O.fields g ≡ Some new) × (new.is_static ≡ true) ×
      (new.owner ≡ suc h.index)
  own_field f old e s h =
      let t : MemberTree = FieldTree (old_words P F H) (written_type P H (R₀.row_type (row.Field f)) old.ty) old.name nowhere in
      let x : FieldAt = record {
        owner = suc h.index;
        mods = old_words P F H;
        type = written_type P H (R₀.row_type (row.Field f)) old.ty;
        name = old.name;
        place = nowhere;
      } in
      let mine = and_from old.is_static (old.owner == old.owner) s (eq-eqb old.owner old.owner refl) in
      let y : Contains (static_field_member P R₀ H old.owner f old) t = when_has (old.is_static && (old.owner == old.owner)) (t ∷ []) t mine (first t []) in
      let d : Contains (fields_declared (suc h.index) (old_tree P F H old.owner h.class)) x =
      member_field_has (suc h.index) (holder_members P R₀ H old.owner) x t (static_field_has P R₀ H old.owner f old t e y) (first x []) in
      let c = field_there x (declared_has fields_declared 1 T (fields_each 1 T) x h.index (suc h.index) (old_tree P F H old.owner h.class) h.stands
      (omega arith) d) in
      let test = and_from (suc h.index == suc h.index) (bytes_eq old.name old.name) (eq-eqb (suc h.index) (suc h.index) refl)
      ((bytes_eq-Decides old.name old.name).1 refl) in
      let g = position_there (λ k. is_field_of (suc h.index) old.name k) O.fields (field_outline types x) c test in
      let p = position-passes (λ k. is_field_of (suc h.index) old.name k) O.fields g.0 g.1 in
      let owner = eqb-true p.0.owner (suc h.index) (and_parts (p.0.owner == suc h.index) (bytes_eq p.0.name old.name) p.2).0 in
      let w = field_at g.0 p.0 p.1 in (
        g.0,
        p.0,
        g.1,
        p.1,
        sym (ap (λ (z : PlainField). z.is_static) w.2) ∙ field_static old.owner h w.0 (field_origin P F H w.0 w.1)
            (ap (λ (z : PlainField). z.owner) w.2 ∙ owner),
        owner,
      )

  module _ (m : ℕ) (k : PlainMethod) (at : slice_get P.methods m ≡ Some k) (here : Here)
      (own : k.is_static ≡ true → class_named O (class_name P k.owner) ≡ Some here.owner) where
    -- a static method stands in its own holder
    here_is : k.is_static ≡ true → (h : IsHolder k.owner) → here.owner ≡ suc h.index
    here_is s h = same_Some _ _ (sym (own s) ∙ h.named)

    pub finds_field : (f : ℕ) (old : PlainField) → slice_get P.fields f ≡ Some old → old.is_static ≡ true → FindsField P k O here old
    unfolding field_of has_holder
    finds_field f old e s =
        let h = holder_of old.owner (field_holder P f old e s) in
        let z = own_field f old e s h in
        record {
          holder = has_holder m k at here old.owner h;
          field = z.0;
          found = record { member = z.1; own = z.2; stands = z.3; static = z.4 };
          near = λ st same.
              let i : here.owner ≡ suc h.index = same_Some _ _ (sym (own st) ∙ ap (λ c. class_named O (class_name P c)) same ∙ h.named) in (
                z.0,
                z.1,
                record {
                  nearest = nearest-here O (λ k. own_field_of O k old.name) (length O.classes) here.owner z.0
                      (ap (λ c. own_field_of O c old.name) i ∙ z.2);
                  stands = z.3;
                },
                z.4,
                z.5 ∙ sym i,
              );
        }

    pub finds_method : (d : ℕ) (old : PlainMethod) → slice_get P.methods d ≡ Some old → old.is_static ≡ true → FindsMethod P k O here old
    unfolding has_holder
    finds_method d old e s =
        let h = holder_of old.owner (method_holder P d old e s) in
        let t : MemberTree = MethodTree (head P R₀ H (old_words P F H) old.name d old) (body P R₀ H d old) nowhere in
        let x : MethodAt = record {
          owner = suc h.index;
          kind = kinds.Method;
          in_abstract = false;
          head = head P R₀ H (old_words P F H) old.name d old;
          up = None;
          body = body P R₀ H d old;
        } in
        let mine = and_from old.is_static (old.owner == old.owner) s (eq-eqb old.owner old.owner refl) in
        let y : Contains (static_method_member P R₀ H old.owner d old) t = when_has (old.is_static && (old.owner == old.owner)) (t ∷ []) t mine
        (first t []) in
        let c : Contains (methods_declared (suc h.index) (old_tree P F H old.owner h.class)) x =
        member_method_has (suc h.index) false (holder_members P R₀ H old.owner) x t (static_method_has P R₀ H old.owner d old t e y) (first x []) in
        let z = method_there x (declared_has methods_declared 1 T (methods_in_each T (no_maker P F H)) x h.index (suc h.index)
        (old_tree P F H old.owner h.class) h.stands (omega arith) c) in
        record {
          holder = has_holder m k at here old.owner h;
          method = z.0;
          found = record { member = method_outline types x; stands = z.1; owner = refl; name = refl; static = refl };
          near = λ st same.
              let i : here.owner ≡ suc h.index = same_Some _ _ (sym (own st) ∙ ap (λ c. class_named O (class_name P c)) same ∙ h.named) in
              (z.0, method_outline types x, record { stands = z.1; name = refl; above = subst (λ w. IsSubclass O here.owner w) i same_class });
        }

    -- the method that makes the objects of a site is found in its holder
    pub finds_make : (s j : ℕ) (z : Site) → slice_get (sites_of P) s ≡ Some z → (z.ty.dim == 0) ≡ true → maker_of P z.ty.class.0 ≡ Some j
        → FindsMake P k O here z.number
    unfolding renaming_of
    finds_make s j z e object has =
        let mk = makers_there P G.formed s (record { site = z; stands = e; object = object; maker = j; has = has }) in
        let h = makers_named G mk.0 mk.1 in
        let n = z.number in
        let c = z.ty.class.0 in
        let o = own_maker P c j has in
        let t : MemberTree = make_member P R₀ H n c j o.method in
        let x : MethodAt = record {
          owner = suc h.0;
          kind = kinds.Method;
          in_abstract = false;
          head = make_head P R₀ H n c j o.method;
          up = None;
          body = Some (make_body P R₀ H n c j o.method);
        } in
        let d : Contains (methods_declared (suc h.0) (makers_tree P F H mk.0)) x =
        member_method_has (suc h.0) false (make_members P R₀ H) x t (makes_has P R₀ H s j z o.method e object has o.stands) (first x []) in
        let g = method_there x (declared_has methods_declared 1 T (methods_in_each T (no_maker P F H)) x h.0 (suc h.0)
        (makers_tree P F H mk.0) h.1 (omega arith) d) in
        let name : makers_name P ≡ mk.0.holder = ap (λ o. option_map_or (λ (m : PlainMakers). m.holder) o []) mk.1 in
        let type : is_type_name types (makers_name P) ≡ true = ap (is_type_name types) name
        ∙ or_left (is_some (type_named types mk.0.holder)) (is_known mk.0.holder) (ap is_some (type_number G h.0 (makers_tree P F H mk.0) h.1)) in
        record {
          number = suc h.0;
          named = ap (class_named O) name ∙ h.2;
          no_field = no_field here.owner (makers_name P) type;
          no_variable = λ i v q same. false≢true (sym (local_free G m k v at (contains_at (variables_of k) i v q)) ∙ ap (is_type_name types) same ∙ type);
          method = g.0;
          found = record { member = method_outline types x; stands = g.1; owner = refl; name = refl; static = refl };
        }

    -- what is above a holder is itself or Object
    above_holder : (h : IsHolder k.owner) (x y : ℕ) → x ≡ suc h.index → IsSubclass O x y → (y ≡ suc h.index) ⊎ (y ≡ 0)
    above_holder h x _ e same_class = inl e
    above_holder h x y e (through {c = c} direct rest) =
        let d = subst (λ z. Contains z c) (ap (supers_of O) e ∙ supers_are G h.index (old_tree P F H k.owner h.class) h.stands) direct in
        inr (above_object G c.0 y rest (ap (λ (x : ClassId). x.0) (sym (one_from _ c d))))

    pub holder_met : k.is_static ≡ true → (x : List ℕ) (g : ℕ) (new : PlainMethod) → IsMet O here.owner x g new
        → (new.is_static ≡ true) × (new.owner ≡ here.owner)
    holder_met s x g new met =
        let h = holder_of k.owner (method_holder P m k at s) in
        let w = method_at g new met.stands in
        let o = method_origin P F H w.0 w.1 in
        let i = here_is s h in
        ⊎_elim
        (λ e. (sym (ap (λ (z : PlainMethod). z.is_static) w.2) ∙ method_static k.owner h w.0 o (ap (λ (z : PlainMethod). z.owner) w.2 ∙ e), e ∙ sym i))
        (λ zero. absurd (method_owner w.0 o (ap (λ (z : PlainMethod). z.owner) w.2 ∙ zero)))
        (above_holder h here.owner new.owner i met.above)
