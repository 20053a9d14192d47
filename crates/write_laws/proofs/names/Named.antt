-- Each type that a declaration of the tree names is there.
use Rattle.std.proofs.Common.{◌≡◌, ◌≢◌, ℕ, true, false, List, Option, Some, None, Contains, refl, sym, ap, ◌∙◌, subst, ◌∷◌, slice_get, []}
use Rattle.std.specs.Prelude.{codes}
use Rattle.std.specs.Option.{option_map}
use Rattle.std.proofs.lemmas.Bool.{false≢true}
use Rattle.std.proofs.lemmas.Option.{same_Some}
use Rattle.std.proofs.lemmas.Slice.Eq.{bytes_eq-Decides}
use Rattle.kaba_base.specs.declared.Place.{Place}
use Rattle.java_tree.specs.declared.Param.{Param}
use Rattle.java_tree.specs.declared.TypeName.{TypeName}
use Rattle.java_tree.specs.declared.TypeBase.TheVariants as base
use Rattle.java_tree.specs.Syntax.{HeadTree}
use Rattle.java_core.specs.declared.Ty.{Ty}
use Rattle.java_core.specs.declared.TyBase.{TyBase}
use Rattle.java_core.specs.declared.TyBase.TheVariants.{Int, Boolean, Char, Str, Class}
use Rattle.java_core.specs.Programs.{Plain, PlainMethod}
use Rattle.fact_model.specs.declared.facts.Facts.{Facts}
use Rattle.fact_model.specs.declared.sets.PointsTo.{PointsTo}
use Rattle.hier_model.specs.Hierarchies.{Hierarchy, place_of_row}
use Rattle.flow_rules.specs.declared.items.ObjectType.{ObjectType}
use Rattle.flow_rules.specs.declared.items.RowItem.{RowItem}
use Rattle.flow_rules.specs.declared.items.RowItem.TheVariants as row
use Rattle.flow_rules.specs.Operands.{object_of, object_in, object_if, variable_row, result_in}
use Rattle.flow_rules.specs.Numbered.{row_number}
use Rattle.flow_rules.specs.Facts.{numbers}
use Rattle.flow_rules.proofs.Listed.{at_contains, at_left}
use Rattle.name_rules.specs.Outline.{FieldAt, MethodAt, is_text_type, outline}
use Rattle.name_rules.specs.Meanings.{class_named}
use Rattle.name_rules.specs.Asked.{IsDeclared, of_field, of_param, of_result, Asks, by_super, by_type}
use Rattle.name_rules.specs.Conditions.{no_such_type}
use Rattle.rebuild_model.specs.Renaming.{renaming_of}
use Rattle.write_model.specs.Names.{row_name, written_base, written_type, modifier}
use Rattle.write_laws.proofs.rebuilds.Nodes.{tree}
use Rattle.write_laws.proofs.rebuilds.Retyped.{HasRow, row_live, field_row, variable_has_row, result_has_row}
use Rattle.write_laws.specs.names.Known.{IsKnownName, IsKnownType}
use Rattle.write_laws.proofs.names.Origins.{R, HasMethod, HasField, node_field, static_field, method_origin, field_origin, old_words, node_body, node_head, node_filler, interface_head, static_method, make_method}
use Rattle.write_laws.specs.names.Laws.{IsNamedProgram}
use Rattle.write_laws.proofs.names.Supers.{node_named, super_known}
use Rattle.write_laws.proofs.names.Variables.{head_of, param_of}
use Rattle.java_tree.specs.declared.Modifier.{Modifier}
use Rattle.write_model.specs.Members.{head}
use Rattle.write_laws.proofs.rebuilds.Members.{IsHeadTree}
use Rattle.java_core.specs.Types.{class_type}
use Rattle.write_laws.proofs.bodies.SiteRows.{site_row}
use Rattle.kaba_base.specs.declared.words.Keyword.TheVariants.{Public}

module _ {P : Plain} {F : Facts} {pt : PointsTo} {H : Hierarchy} (G : IsNamedProgram P F pt H) where
  abbrev O : Plain
  O = outline (tree P F H)

  row_is : (i : RowItem) (r : ℕ) → row_number P i ≡ Some r → (R P F H).row_type i ≡ Some (place_of_row H r)
  unfolding renaming_of numbers
  row_is i r e = ap (λ o. option_map (place_of_row H) o) e

  -- a class is written by the name of a type where its item has a row
  pub row_known : (i : RowItem) (c : ℕ) → HasRow P i → IsKnownName O (row_name P H ((R P F H).row_type i) c)
  row_known i c r e =
      let z = node_named G (place_of_row H r.0) (row_live P F G.facts H G.hierarchy i r.0 r.1) in
      absurd (cc (sym z.2 ∙ ap (λ o. class_named O (row_name P H o c)) (sym (row_is i r.0 r.1)) ∙ e))

  is_text : is_text_type (codes "String") ≡ true
  is_text = (bytes_eq-Decides (codes "String") (codes "String")).1 refl

  base_known : (i : RowItem) (b : TyBase) (d : ℕ) → ((t : ObjectType) → object_in b d ≡ Some t → HasRow P i) → (n : List ℕ)
      → written_base P H ((R P F H).row_type i) b ≡ base.Named n → is_text_type n ≡ false → class_named O n ≡ None → ⊥
  base_known i Int d f n e text none = absurd (cc e)
  base_known i Boolean d f n e text none = absurd (cc e)
  base_known i Char d f n e text none = absurd (cc e)
  base_known i Str d f n e text none = absurd (false≢true (sym text ∙ ap is_text_type (named_is (codes "String") n e) ∙ is_text))
    where
      named_is : (a b : List ℕ) → base.Named a ≡ base.Named b → b ≡ a
      named_is a b h = cc
  base_known i (Class c) d f n e text none =
      row_known i c.0 (f (record { class = c; dim = d }) refl) (ap (class_named O) (named_is (row_name P H ((R P F H).row_type i) c.0) n e) ∙ none)
    where
      named_is : (a b : List ℕ) → base.Named a ≡ base.Named b → a ≡ b
      named_is a b h = cc

  -- a type is known where its item has a row if it is of a class
  pub type_known : (i : RowItem) (t : Ty) → ((o : ObjectType) → object_of t ≡ Some o → HasRow P i)
      → IsKnownType O (written_type P H ((R P F H).row_type i) t)
  type_known i t f r (no_such_type {n = n} b text none) = base_known i t.base t.dim f n b text none

  field_known : (x : FieldAt) → HasField P F H x → IsKnownType O x.type
  field_known _ (node_field n i c f k a e at o) = type_known (row.Field f) k.ty (λ t h. field_row P G.formed f k o t h)
  field_known _ (static_field c i f k old a e s o) = type_known (row.Field f) old.ty (λ t h. field_row P G.formed f old e t h)

  param_known : (x : MethodAt) (q : Param) → HasMethod P F H x → Contains x.head.params q → IsKnownType O q.ty
  param_known x q m c =
      let t = head_of G x m in
      let z = at_contains x.head.params q c in
      let v = param_of G x.head t z.0 q z.1 in
      subst (IsKnownType O) (ap (λ (y : Param). y.ty) v.2)
      (type_known (variable_row t.number t.method z.0) v.0.ty
      (λ o h. variable_has_row P G.formed t.number t.method z.0 v.0 t.stands (at_left t.method.params t.method.locals z.0 v.0 v.1) o h))

  given_back : (m : ℕ) (k : PlainMethod) (u : TypeName) (o : Option Ty) → slice_get P.methods m ≡ Some k → k.result ≡ o
      → option_map (written_type P H ((R P F H).row_type (result_in k.slot m))) o ≡ Some u → IsKnownType O u
  given_back m k u None e p q = absurd (cc q)
  given_back m k u (Some y) e p q =
      subst (IsKnownType O) (same_Some (written_type P H ((R P F H).row_type (result_in k.slot m)) y) u q)
      (type_known (result_in k.slot m) y (λ o h. result_has_row P G.formed m k e o (ap (λ z. object_if z) p ∙ h)))

  of_head : (h : HeadTree) (u : TypeName) (mods : List Modifier) (name : List ℕ) (m : ℕ) (k : PlainMethod) → slice_get P.methods m ≡ Some k
      → head P (R P F H) H mods name m k ≡ h → h.type ≡ Some u → IsKnownType O u
  of_head h u mods name m k e is q = given_back m k u k.result e refl (ap (λ (y : HeadTree). y.type) is ∙ q)

  of_tree : (h : HeadTree) (u : TypeName) (mods : List Modifier) (s : ℕ) → IsHeadTree P (R P F H) F H mods s h → h.type ≡ Some u → IsKnownType O u
  of_tree h u mods s t q = of_head h u mods ((R P F H).method_name t.signature.first) t.signature.first t.first t.first_stands t.is q

  result_known : (x : MethodAt) (u : TypeName) → HasMethod P F H x → x.head.type ≡ Some u → IsKnownType O u
  result_known _ u (node_body n i c m k a e at o) q = of_head _ u (modifier Public ∷ []) ((R P F H).method_name m) m k o refl q
  result_known _ u (node_head n i h a t) q = of_tree h u _ t.slot t.tree q
  result_known _ u (node_filler n i s h a f t) q = of_tree h u _ s t q
  result_known _ u (interface_head n i h a t) q = of_tree h u _ t.slot t.tree q
  result_known _ u (static_method c i m k old a e s o) q = of_head _ u (old_words P F H) old.name m old e refl q
  result_known _ u (make_method i mk y t a) q =
      subst (IsKnownType O) (same_Some _ u q)
      (type_known (row.New t.site.number) (class_type t.site.ty.class.0) (λ o h. (t.site.row, site_row P t.number t.site t.stands)))

  declared_known : (u : TypeName) → IsDeclared (tree P F H) u → IsKnownType O u
  declared_known _ (of_field {f = f} c) = field_known f (field_origin P F H f c)
  declared_known _ (of_param {m = m} {q = q} c d) = param_known m q (method_origin P F H m c) d
  declared_known u (of_result {m = m} c e) = result_known m u (method_origin P F H m c) e

  -- each type that is asked for is there
  pub all_known : (n : List ℕ) (p : Place) → Asks (tree P F H) n p → class_named O n ≢ None
  all_known _ _ (by_super {i = i} s) e = super_known G i s e
  all_known n _ (by_type {u = u} d b text) e = declared_known u d _ (no_such_type b text e)
