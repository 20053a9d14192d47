-- No field, parameter or local has the name of a type, and the parameters of a method have one each.
use Rattle.std.proofs.Common.{◌≡◌, ◌≢◌, ℕ, zero, suc, ◌+◌, ◌<◌, ◌&&◌, ◌||◌, true, false, List, [], ◌∷◌, ◌++◌, Option, Some, None, Contains, refl, sym, ap, ◌∙◌, subst, arith, ⊎_elim}
use Rattle.std.specs.Prelude.{map, slice_get, codes, length}
use Rattle.std.specs.Option.{is_some, option_map_or}
use Rattle.std.specs.List.{list_any, flat_map}
use Rattle.std.specs.Str.{bytes_eq}
use Rattle.std.proofs.lemmas.Bool.{false≢true, and_from, or_parts, cases_Bool}
use Rattle.std.proofs.lemmas.Option.{same_Some}
use Rattle.std.proofs.lemmas.List.{map-append}
use Rattle.std.proofs.lemmas.List.Elements.{Contains-append_left, Contains-append_right}
use Rattle.std.proofs.lemmas.Slice.Eq.{bytes_eq-Decides}
use Rattle.std.proofs.lemmas.Map.Keys.{any_passes_from_place}
use Rattle.kaba_bits.specs.Sets.{first_below}
use Rattle.kaba_bits.proofs.FirstLemmas.{first_below_None, when-None}
use Rattle.kaba_bits.proofs.SetLemmas.{bit-below}
use Rattle.kaba_order.specs.Orders.{is_live}
use Rattle.java_tree.specs.declared.Modifier.{Modifier}
use Rattle.java_tree.specs.declared.Param.{Param}
use Rattle.java_tree.specs.Syntax.{HeadTree, DeclTree}
use Rattle.java_core.specs.Programs.{Plain, PlainClass, PlainField, PlainLocal, PlainMethod}
use Rattle.java_core.specs.Formed.{HasNoTwice, IsVariableName, variables_of}
use Rattle.java_core.proofs.Positions.{position-passes}
use Rattle.fact_model.specs.Items.{column_kind}
use Rattle.fact_model.specs.declared.facts.Facts.{Facts}
use Rattle.fact_model.specs.declared.sets.PointsTo.{PointsTo}
use Rattle.hier_model.specs.Hierarchies.{Hierarchy, type_name, member_name, stands_at, is_class_node}
use Rattle.hier_model.specs.Names.{is_field}
use Rattle.hier_model.proofs.AnyLemmas.{any_below_none}
use Rattle.hier_rules.specs.declared.broken.Rule.TheVariants.{B8}
use Rattle.hier_rules.specs.Instances.{of_column}
use Rattle.hier_rules.specs.Names.{known_names, is_named, is_type, is_makers_holder, is_holder_name, is_reserved, is_taken_name, taken_field, is_makers_local}
use Rattle.flow_rules.specs.declared.items.ColumnItem.{ColumnItem}
use Rattle.flow_rules.specs.declared.items.ColumnItem.TheVariants as column
use Rattle.flow_rules.specs.Numbered.{columns_of}
use Rattle.flow_rules.specs.Facts.{numbers, is_holder, all_variables, variable_names, PlainMakers, makers_of}
use Rattle.flow_rules.specs.Ordered.{each}
use Rattle.flow_rules.proofs.Listed.{at_contains, contains_at, at_map, map_at, map_has, flat_has}
use Rattle.flow_rules.proofs.NumberedItems.{numbered_columns}
use Rattle.flow_laws.proofs.order.Classes.{class_at, class_there}
use Rattle.name_rules.specs.Outline.{FieldAt, MethodAt, fields_in, methods_in, name_of, types_in, type_named, is_known, is_type_name}
use Rattle.rebuild_model.specs.Renaming.{renaming_of}
use Rattle.rebuild_laws.proofs.given.Given.{columns as columns_are}
use Rattle.write_model.specs.Members.{param}
use Rattle.write_laws.proofs.rebuilds.Apart.{taken_parts, makers_holder_seen, no_makers_local}
use Rattle.write_laws.proofs.rebuilds.Nodes.{items, tree, tree_name, Declares, a_node, a_holder, declares, a_makers}
use Rattle.write_laws.proofs.rebuilds.Members.{IsHeadTree}
use Rattle.write_laws.proofs.names.Origins.{R, HasMethod, node_body, node_head, node_filler, interface_head, static_method, HasField, node_field, static_field, method_origin, field_origin, make_method}
use Rattle.write_laws.specs.names.Laws.{IsNamedProgram}
use Rattle.hier_laws.proofs.Unbroken.{none_broken}
use Rattle.write_laws.proofs.rebuilds.Fixed.{holder_no_word, holder_no_local, local_new, local_no_class}
use Rattle.flow_laws.proofs.order.Names.{variable}

-- what each gives one of, place by place
pub each_at : {A B : Type 0} (g : ℕ → A → B) (n : ℕ) (xs : List A) (i : ℕ) (b : B) → slice_get (each (λ i x. g i x ∷ []) n xs) i ≡ Some b
    → (j : ℕ) × (x : A) × (slice_get xs i ≡ Some x) × (g j x ≡ b) × (j ≡ n + i)
each_at g n [] i b e = absurd (cc e)
each_at g n (x ∷ xs) zero b e = (n, x, refl, same_Some (g n x) b e, omega arith)
each_at g n (x ∷ xs) (suc i) b e = let z = each_at g (n + 1) xs i b e in (z.0, z.1, z.2, z.3, (let d = z.4 in omega (arith, d)))

module _ {P : Plain} {F : Facts} {pt : PointsTo} {H : Hierarchy} (G : IsNamedProgram P F pt H) where
  abbrev types : List (List ℕ)
  types = types_in (tree P F H)

  -- a name that is neither that of a node nor of a holder nor known is no type's
  not_type : (x : List ℕ) → x ≢ codes "Object" → is_known x ≡ false → ((n : ℕ) → is_live H.order n ≡ true → type_name H n ≢ x)
      → ((c : ℕ) (k : PlainClass) → slice_get P.classes c ≡ Some k → is_holder P c ≡ true → k.name ≢ x)
      → ((m : PlainMakers) → makers_of P ≡ Some m → m.holder ≢ x) → is_type_name types x ≡ false
  not_type x object known node holder makers = go (type_named types x) refl
    where
      declared : (d : DeclTree) → Declares P F H d → name_of d ≢ x
      declared _ (a_node n live) e = node n live (sym (tree_name P F H (is_class_node F H n) n) ∙ e)
      declared _ (a_holder c k at h) e = holder c k at h e
      declared _ (a_makers m h) e = makers m h e

      at : (i : ℕ) (m : List ℕ) → slice_get types i ≡ Some m → m ≢ x
      at zero m e same = object (sym same ∙ sym (same_Some (codes "Object") m e))
      at (suc i) m e same =
          let z = map_at name_of (tree P F H) i m e in
          declared z.0 (declares P F H i z.0 z.1) (z.2 ∙ same)

      go : (o : Option ℕ) → type_named types x ≡ o → (is_some (type_named types x) || is_known x) ≡ false
      go None e = ap (λ z. is_some z || is_known x) e ∙ known
      go (Some i) e = let z = position-passes (λ m. bytes_eq m x) types i e in absurd (at i z.0 z.1 ((bytes_eq-Decides z.0 x).0 z.2))

  unequal : (a x : List ℕ) → x ≢ a → bytes_eq a x ≡ false
  unequal a x h = ⊎_elim (λ e. absurd (h (sym ((bytes_eq-Decides a x).0 e)))) (λ f. f) (cases_Bool (bytes_eq a x))

  unknown : (x : List ℕ) → x ≢ codes "String" → x ≢ codes "System" → is_known x ≡ false
  unknown x a b = ap (λ w. w || bytes_eq (codes "System") x) (unequal (codes "String") x a) ∙ unequal (codes "System") x b

  -- ---- variables

  -- a variable's name in the text is no type's
  pub variable_free : (x : List ℕ) → IsVariableName P x → Contains (all_variables P) x → is_type_name types x ≡ false
  variable_free x v c =
      let o = G.formed.object in
      not_type x (λ e. v.no_class 0 o.object o.first (o.name ∙ sym e)) (unknown x v.no_string v.no_system)
      (λ n live e. false≢true (sym (or_parts (list_any (λ v. bytes_eq v (type_name H n)) F.vars.items) (is_makers_local F.makers (type_name H n))
      (taken_parts F pt H G.unbroken n live).1).0
      ∙ any_name F.vars.items (type_name H n) (subst (Contains F.vars.items) (sym e) ((G.words.vars x).1 c))))
      (λ c k at h e. v.no_class c k at e)
      (λ m h. holder_no_word P G.formed m h x (variable P G.formed x c))
    where
      any_name : (xs : List (List ℕ)) (y : List ℕ) → Contains xs y → list_any (λ v. bytes_eq v y) xs ≡ true
      any_name xs y d = let z = at_contains xs y d in any_passes_from_place (λ v. bytes_eq v y) xs z.0 y z.1 ((bytes_eq-Decides y y).1 refl)

  field_variable : (f : ℕ) (k : PlainField) → slice_get P.fields f ≡ Some k → Contains (all_variables P) k.name
  field_variable f k e =
      Contains-append_left (map (λ (f : PlainField). f.name) P.fields) (flat_map variable_names P.methods) k.name
      (map_has (λ (f : PlainField). f.name) P.fields k (contains_at P.fields f k e))

  method_variable : (m : ℕ) (k : PlainMethod) (v : PlainLocal) → slice_get P.methods m ≡ Some k → Contains (variables_of k) v
      → Contains (all_variables P) v.name
  method_variable m k v e c =
      let mine : Contains (map (λ (v : PlainLocal). v.name) k.params ++ map (λ (v : PlainLocal). v.name) k.locals) v.name =
      subst (λ z. Contains z v.name) (map-append (λ (v : PlainLocal). v.name) k.params k.locals)
      (map_has (λ (v : PlainLocal). v.name) (variables_of k) v c) in
      Contains-append_right (map (λ (f : PlainField). f.name) P.fields) (flat_map variable_names P.methods) v.name
      (flat_has variable_names P.methods k v.name (contains_at P.methods m k e) mine)

  pub local_free : (m : ℕ) (k : PlainMethod) (v : PlainLocal) → slice_get P.methods m ≡ Some k → Contains (variables_of k) v
      → is_type_name types v.name ≡ false
  local_free m k v e c = variable_free v.name (((G.formed.methods m k e).variables v c).name) (method_variable m k v e c)

  -- nor is that of the local in the methods that make objects
  pub made_free : (m : PlainMakers) → makers_of P ≡ Some m → is_type_name types m.local ≡ false
  made_free m e =
      let new = local_new P G.formed m e in
      not_type m.local new.0 (unknown m.local new.1 new.2)
      (λ n live same. no_makers_local F pt H G.unbroken P G.facts m e n live same)
      (λ c k at h same. local_no_class P G.formed m e c k at (sym same))
      (λ w h same. holder_no_local P G.formed m e (ap (λ (z : PlainMakers). z.holder) (same_Some m w (sym e ∙ h)) ∙ same))

  -- ---- fields

  not_taken : (n c : ℕ) → is_live H.order n ≡ true → c < length F.columns.items → stands_at H n c ≡ true → is_field (column_kind F c) ≡ true
      → is_taken_name F H c ≡ false
  not_taken n c live lt at kind =
      let one = first_below_None (λ n. first_below (length F.columns.items) (taken_field F H n)) (length H.order.live) n
      (none_broken F pt H G.unbroken).names.fields
      (bit-below H.order.live n live) in
      let two = first_below_None (taken_field F H n) (length F.columns.items) c one lt in
      let no = when-None (stands_at H n c && is_field (column_kind F c) && is_taken_name F H c) (of_column B8 n c) two in
      sym (ap (λ z. z && is_field (column_kind F c) && is_taken_name F H c) at ∙ ap (λ z. z && is_taken_name F H c) kind) ∙ no

  pub column_number : (c : ℕ) (i : ColumnItem) → slice_get (items P F H) c ≡ Some i → (numbers P).column i ≡ Some c
  unfolding numbers
  column_number c i e = let z = map_at (λ c. c.item) (columns_of P) c i e in ap (λ j. (numbers P).column j) (sym z.2)
      ∙ (numbered_columns P).back c z.0 z.1

  pub field_name_is : (c f : ℕ) → (numbers P).column (column.Fld f) ≡ Some c → (R P F H).field_name f ≡ member_name H c
  unfolding renaming_of
  field_name_is c f e = ap (λ o. option_map_or (member_name H) o []) e

  node_field_free : (n c f : ℕ) → is_live H.order n ≡ true → slice_get (items P F H) c ≡ Some (column.Fld f) → stands_at H n c ≡ true
      → is_type_name types ((R P F H).field_name f) ≡ false
  node_field_free n c f live e at =
      let number = column_number c (column.Fld f) e in
      let columns = columns_are P G.formed F G.facts in
      let parts = or_parts (is_type F H (member_name H c)) (is_reserved F (member_name H c))
      (not_taken n c live (columns.below (column.Fld f) c number) at (ap is_field (columns.kind (column.Fld f) c number))) in
      subst (λ x. is_type_name types x ≡ false) (sym (field_name_is c f number)) (free_name (member_name H c) parts.0 parts.1)
    where
      free_name : (x : List ℕ) → is_type F H x ≡ false → is_reserved F x ≡ false → is_type_name types x ≡ false
      free_name x no_type no_reserved =
          let r = or_parts (is_holder_name F x) (list_any (λ k. bytes_eq k x) known_names) no_reserved in
          let holders = or_parts (list_any (λ k. k.holder && bytes_eq k.name x) F.classes.items) (is_makers_holder F.makers x) r.0 in
          let a = or_parts (bytes_eq (codes "Object") x) (list_any (λ k. bytes_eq k x) (codes "String" ∷ codes "System" ∷ [])) r.1 in
          let b = or_parts (bytes_eq (codes "String") x) (list_any (λ k. bytes_eq k x) (codes "System" ∷ [])) a.1 in
          let s = or_parts (bytes_eq (codes "System") x) false b.1 in
          not_type x (λ e. false≢true (sym a.0 ∙ (bytes_eq-Decides (codes "Object") x).1 (sym e)))
          (ap (λ z. z || bytes_eq (codes "System") x) b.0 ∙ s.0)
          (λ n live e. false≢true (sym (any_below_none (is_named H x) (length H.order.live) n no_type (bit-below H.order.live n live))
          ∙ and_from (is_live H.order n) (bytes_eq (type_name H n) x) live ((bytes_eq-Decides (type_name H n) x).1 e)))
          (λ c k at h e.
          let i = class_there P F G.facts c k at in
          let z = class_at P F G.facts c i.0 i.1 in
          let name : i.0.name ≡ x = z.name ∙ ap (λ (y : PlainClass). y.name) (same_Some _ _ (sym z.stands ∙ at)) ∙ e in
          false≢true (sym holders.0 ∙ any_passes_from_place (λ k. k.holder && bytes_eq k.name x) F.classes.items c i.0 i.1
          (and_from i.0.holder (bytes_eq i.0.name x) (z.holder ∙ h) ((bytes_eq-Decides i.0.name x).1 name))))
          (λ m h e. false≢true (sym holders.1 ∙ makers_holder_seen F pt H G.unbroken P G.facts m h x e))

  field_is_free : (x : FieldAt) → HasField P F H x → is_type_name types x.name ≡ false
  field_is_free _ (node_field n i c f k a e at o) = node_field_free n c f a.live e at
  field_is_free _ (static_field c i f k old a e s o) = variable_free old.name (G.formed.fields f old e).name (field_variable f old e)

  -- no field has the name of a type
  pub field_free : (x : FieldAt) → Contains (fields_in (tree P F H)) x → is_type_name types x.name ≡ false
  field_free x c = field_is_free x (field_origin P F H x c)

  -- ---- parameters

  -- the method whose parameters a head has
  pub record HasHead (h : HeadTree) : Type 0 where
    pub number : ℕ
    pub method : PlainMethod
    pub stands : slice_get P.methods number ≡ Some method
    pub params : each (λ i v. param P (R P F H) H number method i v ∷ []) 0 method.params ≡ h.params

  head_tree : (mods : List Modifier) (s : ℕ) (h : HeadTree) → IsHeadTree P (R P F H) F H mods s h → HasHead h
  head_tree mods s h t = record {
    number = t.signature.first;
    method = t.first;
    stands = t.first_stands;
    params = ap (λ (y : HeadTree). y.params) t.is;
  }

  pub head_of : (x : MethodAt) → HasMethod P F H x → HasHead x.head
  head_of _ (node_body n i c m k a e at o) = record { number = m; method = k; stands = o; params = refl }
  head_of _ (node_head n i h a t) = head_tree _ t.slot h t.tree
  head_of _ (node_filler n i s h a f t) = head_tree _ s h t
  head_of _ (interface_head n i h a t) = head_tree _ t.slot h t.tree
  head_of _ (static_method c i m k old a e s o) = record { number = m; method = old; stands = e; params = refl }
  head_of _ (make_method i mk y t a) = record { number = t.maker; method = t.method; stands = t.method_stands; params = refl }

  -- a parameter is that of the method
  pub param_of : (h : HeadTree) (t : HasHead h) (i : ℕ) (q : Param) → slice_get h.params i ≡ Some q
      → (v : PlainLocal) × (slice_get t.method.params i ≡ Some v) × (param P (R P F H) H t.number t.method i v ≡ q)
  param_of h t i q e =
      let z = each_at (λ i v. param P (R P F H) H t.number t.method i v) 0 t.method.params i q (ap (λ y. slice_get y i) t.params ∙ e) in
      (z.1, z.2, ap (λ j. param P (R P F H) H t.number t.method j z.1) (let d = z.4 in omega (arith, d)) ∙ z.3)

  pub param_free : (x : MethodAt) (q : Param) → Contains (methods_in (tree P F H)) x → Contains x.head.params q → is_type_name types q.name ≡ false
  param_free x q c d =
      let t = head_of x (method_origin P F H x c) in
      let z = at_contains x.head.params q d in
      let v = param_of x.head t z.0 q z.1 in
      subst (λ y. is_type_name types y ≡ false) (ap (λ (y : Param). y.name) v.2)
      (local_free t.number t.method v.0 t.stands (Contains-append_left t.method.params t.method.locals v.0 (contains_at t.method.params z.0 v.0 v.1)))

  -- the parameters of a method have a name each
  pub param_once : (x : MethodAt) (i j : ℕ) (a b : Param) → Contains (methods_in (tree P F H)) x → slice_get x.head.params i ≡ Some a
      → slice_get x.head.params j ≡ Some b → i < j → a.name ≡ b.name → ⊥
  unfolding HasNoTwice
  param_once x i j a b c p q lt e =
      let t = head_of x (method_origin P F H x c) in
      let v = param_of x.head t i a p in
      let w = param_of x.head t j b q in
      let name : v.0.name ≡ w.0.name = ap (λ (y : Param). y.name) v.2 ∙ e ∙ sym (ap (λ (y : Param). y.name) w.2) in
      let same : i ≡ j = (G.formed.methods t.number t.method t.stands).params i j w.0.name
      (at_map (λ (v : PlainLocal). v.name) t.method.params i v.0 v.1 ∙ ap Some name) (at_map (λ (v : PlainLocal). v.name) t.method.params j w.0 w.1) in
      omega (arith, same, lt)
