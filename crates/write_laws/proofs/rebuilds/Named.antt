-- What the outline of the written program tells of names: those of nodes and of holders, and the static members.
use Rattle.std.proofs.Common.{◌≡◌, ◌≢◌, ℕ, suc, Bool, true, false, List, [], ◌∷◌, Some, refl, sym, ap, ◌∙◌}
use Rattle.std.specs.Prelude.{map, slice_get, codes, position, ◌==◌}
use Rattle.std.specs.Option.{option_map_or, is_some}
use Rattle.std.specs.Str.{bytes_eq}
use Rattle.std.proofs.lemmas.Bool.{and_parts, and_from, eqb-true, eq-eqb}
use Rattle.std.proofs.lemmas.Option.{same_Some}
use Rattle.std.proofs.lemmas.Slice.Eq.{bytes_eq-Decides}
use Rattle.kaba_order.specs.Orders.{is_live}
use Rattle.java_tree.specs.Syntax.{DeclTree}
use Rattle.java_core.specs.Programs.{Plain, PlainClass, PlainField, PlainMethod}
use Rattle.java_core.specs.Classes.{is_field_of, own_field_of}
use Rattle.java_core.proofs.Positions.{position-passes}
use Rattle.name_rules.specs.Outline.{name_of, is_text_type, types_in, class_outline, outline}
use Rattle.name_rules.specs.Meanings.{type_names, class_named}
use Rattle.name_rules.specs.Resolves.{heading_of}
use Rattle.fact_model.specs.declared.facts.Facts.{Facts}
use Rattle.fact_model.specs.declared.sets.PointsTo.{PointsTo}
use Rattle.hier_model.specs.Hierarchies.{Hierarchy, place_of_row, type_name}
use Rattle.flow_rules.specs.declared.items.RowItem.{RowItem}
use Rattle.flow_rules.specs.Facts.{numbers, is_holder, makers_of}
use Rattle.flow_rules.proofs.Listed.{map_at, contains_at, position_there}
use Rattle.rebuild_model.specs.Renaming.{renaming_of}
use Rattle.rebuild_model.specs.Matches.{IsStaticField, IsStaticMethod}
use Rattle.write_model.specs.Names.{class_name, makers_name}
use Rattle.write_model.specs.Written.{java_tree}
use Rattle.write_laws.proofs.rebuilds.Outlined.{class_there}
use Rattle.write_laws.proofs.rebuilds.Apart.{no_text, holder_class}
use Rattle.write_laws.proofs.rebuilds.Nodes.{node_named, holder_named, holder_there, old_tree, tree, makers_tree, makers_at, makers_named, makers_called, some_makers}
use Rattle.write_laws.proofs.rebuilds.Retyped.{row_live}
use Rattle.write_laws.proofs.rebuilds.Given.{Given, T}
use Rattle.write_laws.proofs.rebuilds.Fields.{each_static_field}

pub names_are : (types : List (List ℕ)) (ds : List DeclTree) → map (λ (k : PlainClass). k.name) (map (class_outline types) ds) ≡ map name_of ds
names_are types [] = refl
names_are types (d ∷ ds) = ap (λ z. name_of d ∷ z) (names_are types ds)

outline_types : (ds : List DeclTree) → type_names (outline ds) ≡ types_in ds
unfolding outline
outline_types ds = ap (λ z. codes "Object" ∷ z) (names_are (types_in ds) ds)

module _ {P : Plain} {F : Facts} {pt : PointsTo} {H : Hierarchy} {V : Plain} (G : Given P F pt H V) where
  abbrev O : Plain
  O = outline (java_tree P F H)

  pub named_row : (i : RowItem) (r : ℕ) → (numbers P).row i ≡ Some r → is_live H.order (place_of_row H r) ≡ true
  unfolding numbers
  named_row i r e = row_live P F G.facts H G.hierarchy i r e

  pub named_node : (n : ℕ) → is_live H.order n ≡ true → class_named O (type_name H n) ≡ Some ((T G).type_of n)
  named_node n h = ap (λ z. position (λ m. bytes_eq m (type_name H n)) z) (outline_types (java_tree P F H)) ∙ node_named P F H V G.resolves G.new n h

  pub node_no_text : (n : ℕ) → is_live H.order n ≡ true → is_text_type (type_name H n) ≡ false
  node_no_text n h = no_text F pt H G.unbroken n h

  pub named_holder : (c : ℕ) → is_holder P c ≡ true → class_named O (class_name P c) ≡ Some ((T G).holder_of c)
  named_holder c h =
      let k = holder_class P G.formed c h in
      ap (λ z. position (λ m. bytes_eq m (class_name P c)) z) (outline_types (java_tree P F H)) ∙ holder_named P F H V G.resolves G.new c k.0 k.1 h

  -- the fields of the outline are those of the program
  field_at : (f : ℕ) (k : PlainField) → slice_get O.fields f ≡ Some k → slice_get V.fields f ≡ Some k
  field_at f k e = ap (λ w. slice_get w f) G.resolves.fields ∙ e

  holder_name : (c : ℕ) (k : PlainClass) → slice_get P.classes c ≡ Some k → class_name P c ≡ k.name
  holder_name c k e = ap (λ o. option_map_or (λ (k : PlainClass). k.name) o []) e

  pub no_field_holder : (c f : ℕ) (k : PlainField) → is_holder P c ≡ true → slice_get O.fields f ≡ Some k → k.name ≢ class_name P c
  no_field_holder c f k h e same =
      let old = holder_there P F H G.formed c h in
      let class = class_there (tree P F H) V G.resolves G.new old.2 (old_tree P F H c old.0) old.3 in
      (G.new.fields f k (field_at f k e)).name.no_class (suc old.2)
      (class_outline (types_in (java_tree P F H)) (old_tree P F H c old.0)) class (sym (same ∙ holder_name c old.0 old.1))

  one_static : (c g : ℕ) (new : PlainField) → slice_get V.fields g ≡ Some new → new.owner ≡ c → own_field_of O c new.name ≡ Some g
  one_static c g new e ow =
      let p : PlainField → Bool = is_field_of c new.name in
      let passes : p new ≡ true = and_from (new.owner == c) (bytes_eq new.name new.name) (eq-eqb new.owner c ow)
      ((bytes_eq-Decides new.name new.name).1 refl) in
      let z = position_there p O.fields new (contains_at O.fields g new (sym (ap (λ w. slice_get w g) G.resolves.fields) ∙ e)) passes in
      let w = position-passes p O.fields z.0 z.1 in
      let q = and_parts (w.0.owner == c) (bytes_eq w.0.name new.name) w.2 in
      z.1 ∙ ap Some (G.new.field_names z.0 g w.0 new (field_at z.0 w.0 w.1) e (eqb-true w.0.owner c q.0 ∙ sym ow)
      ((bytes_eq-Decides w.0.name new.name).0 q.1))

  pub named_static_field : (f : ℕ) (old : PlainField) → slice_get P.fields f ≡ Some old → old.is_static ≡ true
      → (g : ℕ) × (own_field_of O ((T G).holder_of old.owner) old.name ≡ Some g) × IsStaticField P V (renaming_of P H (T G)) f g
  unfolding renaming_of
  named_static_field f old e h =
      let z = each_static_field G f old e h in
      let s = z.1.same in
      let same : s.old ≡ old = same_Some _ _ (sym s.old_stands ∙ e) in
      let ow : s.new.owner ≡ (T G).holder_of old.owner = s.owner ∙ ap (λ (y : PlainField). (T G).holder_of y.owner) same in
      let name : s.new.name ≡ old.name = s.name ∙ ap (λ (y : PlainField). y.name) same in (
        z.0,
        ap (own_field_of O ((T G).holder_of old.owner)) (sym name) ∙ one_static ((T G).holder_of old.owner) z.0 s.new s.new_stands ow,
        s,
      )

  pub named_static_method : (m g : ℕ) (old new : PlainMethod) → slice_get P.methods m ≡ Some old → old.is_static ≡ true → slice_get O.methods g ≡ Some new
      → new.is_static ≡ true → new.owner ≡ (T G).holder_of old.owner → new.name ≡ old.name → IsStaticMethod P V (renaming_of P H (T G)) m g
  unfolding renaming_of
  named_static_method m g old new e h d st ow name =
      let z = map_at heading_of V.methods g new (ap (λ w. slice_get w g) G.resolves.headings ∙ d) in
      record {
        old = old;
        new = z.0;
        old_stands = e;
        new_stands = z.1;
        old_static = h;
        new_static = ap (λ (y : PlainMethod). y.is_static) z.2 ∙ st;
        owner = ap (λ (y : PlainMethod). y.owner) z.2 ∙ ow;
        name = ap (λ (y : PlainMethod). y.name) z.2 ∙ name;
      }

  -- the holder of the methods that make objects
  pub named_makers : is_some (makers_of P) ≡ true → class_named O (makers_name P) ≡ Some (T G).makers
  named_makers h =
      let m = some_makers P F H V G.resolves G.new h in
      ap (λ z. position (λ m. bytes_eq m (makers_name P)) z) (outline_types (java_tree P F H)) ∙ makers_named P F H V G.resolves G.new m.0 m.1

  pub no_field_makers : (f : ℕ) (k : PlainField) → is_some (makers_of P) ≡ true → slice_get O.fields f ≡ Some k → k.name ≢ makers_name P
  no_field_makers f k h e same =
      let m = some_makers P F H V G.resolves G.new h in
      let at = makers_at P F H m.0 m.1 in
      let class = class_there (tree P F H) V G.resolves G.new at.0 (makers_tree P F H m.0) at.1 in
      (G.new.fields f k (field_at f k e)).name.no_class (suc at.0)
      (class_outline (types_in (java_tree P F H)) (makers_tree P F H m.0)) class (sym (same ∙ makers_called P F H V G.resolves G.new m.0 m.1))
