-- The declarations of the written tree have the parts that the grammar gives.
use Rattle.std.proofs.Common.{◌≡◌, ℕ, zero, ◌&&◌, Bool, true, false, List, [], ◌∷◌, Option, Some, None, Contains, refl, sym, ap, ◌∙◌, subst, arith}
use Rattle.std.specs.Prelude.{◌==◌, not, map, slice_get, length, option_and_then}
use Rattle.std.specs.Option.{is_some, option_map}
use Rattle.std.proofs.lemmas.Bool.{false≢true, and_parts, eq-eqb}
use Rattle.std.proofs.lemmas.List.Elements.{Contains-append_left}
use Rattle.kaba_base.specs.declared.words.Keyword.TheVariants.{Public, Abstract, Static}
use Rattle.kaba_base.specs.declared.NodeId.{NodeId}
use Rattle.kaba_order.specs.Orders.{is_live, IsPartialOrder}
use Rattle.java_lex.specs.Writable.{IsName}
use Rattle.java_tree.specs.declared.Modifier.{Modifier}
use Rattle.java_tree.specs.Syntax.{HeadTree, MemberTree, DeclTree}
use Rattle.java_tree.specs.Formed.{a_small, Each, IsFormedExpression, AreFormedStmts, IsFormedMod, IsFormedId, IsFormedParam, IsFormedHead, IsFormedResult, IsFormedBody, IsFormedMember, IsFormedParent, IsFormedDecl, IsFormedTree}
use Rattle.java_core.specs.declared.Ty.{Ty}
use Rattle.java_core.specs.declared.TyBase.{TyBase}
use Rattle.java_core.specs.declared.TyBase.TheVariants.{Int, Boolean, Char}
use Rattle.java_core.specs.Trees.{Sts}
use Rattle.java_core.specs.Programs.{Plain, PlainMethod}
use Rattle.java_core.specs.Classes.{slot_of_method}
use Rattle.java_core.specs.Types.{env_of}
use Rattle.java_core.specs.Typing.{IsTypedMethod, TypedSts}
use Rattle.java_core.specs.Formed.{IsKnownResult}
use Rattle.fact_model.specs.Items.{column_kind, column_slot}
use Rattle.fact_model.specs.Classes.{is_slot}
use Rattle.fact_model.specs.declared.facts.ColumnInfo.{ColumnInfo}
use Rattle.fact_model.specs.declared.facts.ColKind.{ColKind}
use Rattle.fact_model.specs.declared.facts.ColKind.TheVariants as kind
use Rattle.fact_model.proofs.ClassLemmas.{slot_says as slot_is}
use Rattle.hier_model.specs.Hierarchies.{Hierarchy, place_of_column, is_at, is_above, stands_at, is_offered, is_method, offers_slot, is_class_node}
use Rattle.hier_model.proofs.AnyLemmas.{any_below_some}
use Rattle.hier_rules.specs.Names.{is_member}
use Rattle.flow_rules.specs.declared.items.ColumnItem.{ColumnItem}
use Rattle.flow_rules.specs.declared.items.ColumnItem.TheVariants as column
use Rattle.flow_rules.specs.declared.items.RowItem.TheVariants as row
use Rattle.flow_rules.specs.Ordered.{each}
use Rattle.flow_rules.specs.Operands.{variable_row, result_in}
use Rattle.flow_rules.specs.Numbered.{columns_of}
use Rattle.flow_rules.specs.Facts.{numbers, kind_of, slot_in}
use Rattle.flow_rules.proofs.Listed.{first, more, at_contains, contains_at, index_at, map_at, map_from, each_from_zero, when_from, one_from}
use Rattle.flow_rules.proofs.NumberedItems.{numbered_columns}
use Rattle.rebuild_model.specs.Members.{is_made_at, offers_body, is_filled}
use Rattle.write_model.specs.Names.{modifier, written_type}
use Rattle.write_model.specs.Bodies.{written_sts}
use Rattle.write_model.specs.Members.{is_declaration, value_of_none, filling, parameters, param, head, body, holder_members, class_members, interface_heads, make_members}
use Rattle.write_model.specs.Supers.{is_cover, nodes_that, superclass, type_id, extended}
use Rattle.write_model.specs.Written.{class_modifiers, type_tree}
use Rattle.write_laws.proofs.rebuilds.Members.{IsHeadTree, IsHeadAt, IsMember, a_field, a_body, a_head, a_filler, class_from, interface_from, IsStatic, a_static_field, a_static_method, holder_from}
use Rattle.write_laws.proofs.rebuilds.Nodes.{items, tree, Declares, a_node, a_holder, declares, a_makers}
use Rattle.write_laws.proofs.rebuilds.Order.{superclass_from, cover_from, among_from}
use Rattle.write_laws.proofs.given.Given.{Given, words}
use Rattle.write_laws.proofs.given.Written.{method_member}
use Rattle.write_laws.proofs.given.Names.{columns, type_named, member_named, field_name_is, method_name_is}
use Rattle.write_laws.proofs.given.Types.{class_named, base_formed, static_named}
use Rattle.write_laws.proofs.given.Bodies.{body_formed}
use Rattle.write_laws.proofs.given.Makes.{makers_named, made_formed}

each_of : {A : Type 0} (P : A → Type 0) (xs : List A) → ((x : A) → Contains xs x → P x) → Each P xs
each_of P [] k = tt
each_of P (x ∷ xs) k = (k x (first x xs), each_of P xs (λ y c. k y (more y x xs c)))

declared_method : (k : ColKind) → is_declaration k ≡ true → is_method k ≡ true
declared_method kind.Dcl h = refl
declared_method kind.Fld h = h
declared_method kind.Def h = refl
declared_method kind.Is h = h

slot_method : (P : Plain) (i : ColumnItem) (s : ℕ) → slot_in P i ≡ Some s → is_method (kind_of i) ≡ true
slot_method P (column.Dcl m) s h = refl
slot_method P (column.Def m) s h = refl
slot_method P (column.Fld m) s h = absurd (cc h)
slot_method P (column.Is m) s h = absurd (cc h)

-- what fills in for a body
default_formed : (b : TyBase) (d : ℕ) → IsFormedExpression (value_of_none b d)
default_formed Int zero = a_small (record { value = 0; is = refl; small = omega arith })
default_formed Boolean zero = tt
default_formed Char zero = (tt, refl, a_small (record { value = 0; is = refl; small = omega arith }))
default_formed _ _ = tt

filling_formed : (o : Option Ty) → AreFormedStmts (filling o)
filling_formed None = tt
filling_formed (Some t) = (default_formed t.base t.dim, tt)

made_modifiers : (b : Bool) → Each IsFormedMod (class_modifiers b)
made_modifiers true = tt
made_modifiers false = (refl, tt)

-- what a node offers stands somewhere
offered_at : (H : Hierarchy) (n c : ℕ) → is_offered H n c ≡ true → (p : ℕ) × (stands_at H p c ≡ true)
offered_at H n c h = go (place_of_column H c) h
  where
    go : (o : Option NodeId) → is_above H.order n o ≡ true → (p : ℕ) × (is_at p o ≡ true)
    go None e = absurd (false≢true e)
    go (Some p) e = (p.0, eq-eqb p.0 p.0 refl)

module _ (C : Given) where
  open C use {program as P, facts as F, hierarchy as H}
  open words C use {renaming as R}

  abbrev order : IsPartialOrder H.order
  order = C.ready.hierarchy.sized.order

  typed_body : (m : ℕ) (k : PlainMethod) → slice_get P.methods m ≡ Some k → (xs : Sts) → k.body ≡ Some xs → TypedSts P (env_of m k) xs
  unfolding IsTypedMethod
  typed_body m k e xs b = C.ready.typed.methods m k e xs b

  -- ---- bodies and heads

  method_body : (m : ℕ) (k : PlainMethod) → slice_get P.methods m ≡ Some k → IsFormedBody (body P R H m k)
  method_body m k e = go k.body refl
    where
      go : (o : Option Sts) → k.body ≡ o → IsFormedBody (option_map (written_sts P R H m k (parameters 0 k.params)) o)
      go None b = tt
      go (Some xs) b =
          body_formed C (record { number = m; method = k; stands = e; bodied = ap is_some b }) xs (parameters 0 k.params) b
          (typed_body m k e xs b) ((C.ready.formed.methods m k e).code xs b)

  params_formed : (m : ℕ) (k : PlainMethod) → slice_get P.methods m ≡ Some k
      → Each IsFormedParam (each (λ i v. param P R H m k i v ∷ []) 0 k.params)
  params_formed m k e =
      each_of IsFormedParam (each (λ i v. param P R H m k i v ∷ []) 0 k.params)
      (λ x c.
      let z = each_from_zero (λ i v. param P R H m k i v ∷ []) k.params x c in
      let w = (C.ready.formed.methods m k e).variables z.1 (Contains-append_left k.params k.locals z.1 (contains_at k.params z.0 z.1 z.2)) in
      subst IsFormedParam (one_from (param P R H m k z.0 z.1) x z.3)
      (base_formed C (variable_row m k z.0) z.1.ty.base w.type, w.name.name))

  result_formed : (m : ℕ) (k : PlainMethod) (o : Option Ty) → IsKnownResult P o
      → IsFormedResult (option_map (written_type P H (R.row_type (result_in k.slot m))) o)
  result_formed m k None h = tt
  result_formed m k (Some t) h = base_formed C (result_in k.slot m) t.base h

  head_formed : (mods : List Modifier) (x : List ℕ) (m : ℕ) (k : PlainMethod) → slice_get P.methods m ≡ Some k → Each IsFormedMod mods → IsName x
      → IsFormedHead (head P R H mods x m k)
  head_formed mods x m k e a n = (a, result_formed m k k.result (C.ready.formed.methods m k e).result, n, params_formed m k e)

  -- a head or a filler has the name of its slot, of which a column stands at the node or above
  slot_named : (mods : List Modifier) (n c s : ℕ) (d : HeadTree) → stands_at H n c ≡ true → is_method (column_kind F c) ≡ true
      → column_slot F c ≡ Some s → Each IsFormedMod mods → IsHeadTree P R F H mods s d → IsFormedHead d
  slot_named mods n c s d at kind of a t =
      let w = C.ready.formed.slots s t.signature t.slot_stands in
      let slot : slot_of_method P t.signature.first ≡ Some s = ap (option_and_then (λ (y : PlainMethod). y.slot)) w.stands ∙ w.of in
      subst IsFormedHead t.is
      (head_formed mods (R.method_name t.signature.first) t.signature.first t.first t.first_stands a
      (subst IsName (sym (method_name_is C t.signature.first s c slot kind of))
      (member_named C n c at (method_member (column_kind F c) kind))))

  head_at : (mods : List Modifier) (n : ℕ) (d : HeadTree) → Each IsFormedMod mods → IsHeadAt P R F H mods n d → IsFormedHead d
  head_at mods n d a t =
      let none : ColumnInfo = record { kind = kind.Is; class = record { 0 = 0 }; slot = None; name = []; label = [] } in
      let info = index_at F.columns.items t.number none t.info t.info_stands in
      slot_named mods n t.number t.slot d t.at (ap (λ (i : ColumnInfo). is_method i.kind) info ∙ declared_method t.info.kind t.declared)
      (ap (λ (i : ColumnInfo). i.slot) info ∙ t.of_slot) a t.tree

  -- ---- members

  item_number : (c : ℕ) (i : ColumnItem) → slice_get (items P F H) c ≡ Some i → (numbers P).column i ≡ Some c
  unfolding numbers
  item_number c i e =
      let z = map_at (λ c. c.item) (columns_of P) c i e in
      ap (λ j. (numbers P).column j) (sym z.2) ∙ (numbered_columns P).back c z.0 z.1

  filled_head : (n s : ℕ) (mods : List Modifier) (d : HeadTree) → is_filled F H n s ≡ true → Each IsFormedMod mods → IsHeadTree P R F H mods s d
      → IsFormedHead d
  filled_head n s mods d f a t =
      let w = and_parts (is_made_at F H n) (offers_slot F H n s && not (offers_body F H n s)) f in
      let v = and_parts (offers_slot F H n s) (not (offers_body F H n s)) w.1 in
      let c = any_below_some (λ c. is_slot (column_slot F c) s && is_offered H n c) (length F.columns.items) v.0 in
      let u = and_parts (is_slot (column_slot F c.0) s) (is_offered H n c.0) c.2 in
      let i = (columns C).item c.0 c.1 in
      let slot = slot_is (column_slot F c.0) s u.0 in
      let method = ap is_method ((columns C).kind i.0 c.0 i.1) ∙ slot_method P i.0 s (sym ((columns C).slot i.0 c.0 i.1) ∙ slot) in
      let p = offered_at H n c.0 u.1 in
      slot_named mods p.0 c.0 s d p.1 method slot a t

  member_formed : (n : ℕ) (x : MemberTree) → IsMember P R F H (items P F H) n x → IsFormedMember x
  member_formed n _ (a_field c f k d at o) =
      let number = item_number c (column.Fld f) d in (
        tt,
        base_formed C (row.Field f) k.ty.base (C.ready.formed.fields f k o).type,
        subst IsName (sym (field_name_is C f c number))
            (member_named C n c at (ap is_member ((columns C).kind (column.Fld f) c number))),
      )
  member_formed n _ (a_body c m k d at o) =
      let number = item_number c (column.Def m) d in
      let kind = ap is_method ((columns C).kind (column.Def m) c number) in
      let s = (columns C).slotted (column.Def m) c number refl in
      let of = (columns C).slot (column.Def m) c number ∙ s.1 in
      let name = subst IsName (sym (method_name_is C m s.0 c s.1 kind of))
      (member_named C n c at (method_member (column_kind F c) kind)) in
      (head_formed (modifier Public ∷ []) (R.method_name m) m k o (refl, tt) name, method_body m k o)
  member_formed n _ (a_head d t) = (head_at (modifier Public ∷ modifier Abstract ∷ []) n d (refl, (refl, tt)) t, tt)
  member_formed n _ (a_filler s d f t) = (filled_head n s (modifier Public ∷ []) d f (refl, tt) t, filling_formed t.signature.result)

  abbrev old_words : List Modifier
  old_words = modifier Public ∷ modifier Static ∷ []

  static_formed : (c : ℕ) (x : MemberTree) → IsStatic P R H c x → IsFormedMember x
  static_formed c x (a_static_field f k _ e b d) =
      let w = C.ready.formed.fields f k e in
      subst IsFormedMember (one_from _ x (when_from (k.is_static && (k.owner == c)) _ x d).1)
      ((refl, (refl, tt)), base_formed C (row.Field f) k.ty.base w.type, w.name.name)
  static_formed c x (a_static_method m k _ e b d) =
      subst IsFormedMember (one_from _ x (when_from (k.is_static && (k.owner == c)) _ x d).1)
      (head_formed old_words k.name m k e (refl, (refl, tt)) (static_named C m k e (and_parts k.is_static (k.owner == c) b).0), method_body m k e)

  -- ---- declarations

  parent_formed : (n : ℕ) → IsFormedParent (extended F H n)
  parent_formed n = go (superclass F H n) refl
    where
      go : (o : Option ℕ) → superclass F H n ≡ o → IsFormedParent (option_map (type_id F H) o)
      go None e = tt
      go (Some a) e = type_named C a (order.upper_lives n a (superclass_from F H order C.sets C.ready.unbroken n a e).above)

  among_formed : (n : ℕ) (p : ℕ → Bool) → ((a : ℕ) → p a ≡ true → is_cover H.order n a ≡ true)
      → Each IsFormedId (map (type_id F H) (nodes_that H.order p))
  among_formed n p covers =
      each_of IsFormedId (map (type_id F H) (nodes_that H.order p))
      (λ x c.
      let z = map_from (type_id F H) (nodes_that H.order p) x c in
      let up = cover_from F H order C.sets C.ready.unbroken n z.0
      (covers z.0 (among_from F H order C.sets C.ready.unbroken p z.0 z.1)) in
      subst IsFormedId z.2 (type_named C z.0 (order.upper_lives n z.0 up.above)))

  type_formed : (b : Bool) (n : ℕ) → is_live H.order n ≡ true → IsFormedDecl (type_tree P R F H (items P F H) b n)
  type_formed true n live = (
    made_modifiers (is_made_at F H n),
    type_named C n live,
    parent_formed n,
    among_formed n (λ a. is_cover H.order n a && not (is_class_node F H a))
        (λ a h. (and_parts (is_cover H.order n a) (not (is_class_node F H a)) h).0),
    each_of IsFormedMember (class_members P R F H (items P F H) n) (λ x c. member_formed n x (class_from P R F H (items P F H) n x c)),
  )
  type_formed false n live = (
    tt,
    type_named C n live,
    among_formed n (λ a. is_cover H.order n a) (λ a h. h),
    each_of IsFormedHead (interface_heads P R F H n) (λ x c. head_at [] n x tt (interface_from P R F H n x c)),
  )

  declared_formed : (d : DeclTree) → Declares P F H d → IsFormedDecl d
  declared_formed _ (a_node n live) = type_formed (is_class_node F H n) n live
  declared_formed _ (a_holder c k e h) = (
    tt,
    class_named C c k e,
    tt,
    tt,
    each_of IsFormedMember (holder_members P R H c) (λ x d. static_formed c x (holder_from P R H c x d)),
  )
  declared_formed _ (a_makers w e) = (
    tt,
    (makers_named C w e).0,
    tt,
    tt,
    each_of IsFormedMember (make_members P R H) (λ x d. made_formed C params_formed x d),
  )

  pub tree_formed : IsFormedTree (tree P F H)
  tree_formed = each_of IsFormedDecl (tree P F H) (λ d c. let z = at_contains (tree P F H) d c in declared_formed d (declares P F H z.0 d z.1))
