-- The methods of the written program: bodies, heads and fillers of the nodes.
use Rattle.std.proofs.Common.{◌≡◌, ℕ, zero, suc, ◌<◌, ◌&&◌, ◌||◌, Bool, true, false, List, [], ◌∷◌, Option, Some, None, Contains, refl, sym, ap, ◌∙◌, subst, arith, inl, inr, ⊎_elim}
use Rattle.std.specs.Prelude.{◌⊎◌, ◌==◌, not, length, slice_get, option_and_then}
use Rattle.std.specs.Option.{is_some}
use Rattle.std.proofs.lemmas.Bool.{false≢true, and_parts, and_from, or_right, eqb-true, eq-eqb, cases_Bool}
use Rattle.std.proofs.lemmas.Option.{same_Some, slice_get_within}
use Rattle.kaba_base.specs.declared.words.Keyword.TheVariants.{Public}
use Rattle.kaba_order.specs.Orders.{is_live, is_le}
use Rattle.java_tree.specs.declared.Modifier.{Modifier}
use Rattle.java_tree.specs.Syntax.{HeadTree, MemberTree, MethodTree, Statements}
use Rattle.java_core.specs.Trees.{Sts}
use Rattle.java_core.specs.Programs.{Plain, PlainMethod, PlainSlot}
use Rattle.java_core.specs.Classes.{slot_of_method}
use Rattle.name_rules.specs.declared.parts.Kind.TheVariants as kinds
use Rattle.name_rules.specs.Outline.{MethodAt, methods_declared, method_member, has_word, is_static_word, is_abstract_word}
use Rattle.fact_model.specs.Items.{site_at, site_row, column_kind, column_slot}
use Rattle.fact_model.specs.Classes.{is_slot}
use Rattle.fact_model.specs.declared.facts.Facts.{Facts}
use Rattle.fact_model.specs.declared.facts.ColumnInfo.{ColumnInfo}
use Rattle.fact_model.specs.declared.facts.ColKind.TheVariants as kind
use Rattle.fact_model.specs.declared.sets.PointsTo.{PointsTo}
use Rattle.fact_model.proofs.ClassLemmas.{slot_says as slot_is}
use Rattle.hier_model.specs.Hierarchies.{Hierarchy, place_of_row, stands_at, any_below, offers_slot, has_class_member, has_object, is_class_node, is_method, member_name}
use Rattle.hier_model.proofs.AnyLemmas.{any_below_some, any_below_has}
use Rattle.flow_rules.specs.declared.items.ColumnItem.{ColumnItem}
use Rattle.flow_rules.specs.declared.items.ColumnItem.TheVariants as column
use Rattle.flow_rules.specs.Facts.{numbers, kind_of, column_info}
use Rattle.flow_rules.proofs.Listed.{first, map_from, map_has, below_at, index_at}
use Rattle.flow_rules.proofs.NumberedItems.{numbered_columns}
use Rattle.flow_laws.proofs.order.Columns.{Stands as IsOfText, for_field, for_declaration, for_body, for_mark, column_stands}
use Rattle.rebuild_model.specs.Renaming.{Renaming, renaming_of, column_name}
use Rattle.rebuild_model.specs.Members.{is_made_at, offers_body, is_headed, is_filled, IsBody, IsOfSlot, IsHead, IsFiller}
use Rattle.write_model.specs.Names.{nowhere, modifier}
use Rattle.write_model.specs.Members.{is_declaration, filling, head, body, class_members, interface_heads, is_first_there}
use Rattle.write_model.specs.Written.{class_modifiers, type_tree, java_tree}
use Rattle.write_model.proofs.NoMaker.{no_maker}
use Rattle.write_laws.proofs.rebuilds.Outlined.{IsResolved, method_there, member_method_from, member_method_has}
use Rattle.write_laws.proofs.rebuilds.Nodes.{by_node, items, tree, node_tree, node_at, node_number}
use Rattle.write_laws.proofs.rebuilds.Members.{IsMember, IsHeadTree, IsHeadAt, class_from, interface_from, body_has, head_has, filler_has, interface_has, in_class, as_filler}
use Rattle.write_laws.proofs.rebuilds.Given.{Given, T, Stands, columns, at_from, column_there, class_there}
use Rattle.write_laws.proofs.rebuilds.Resolved.{BodiesMatch, owner_is, name_is, static_is, bodyless, bodied, types_are, slot_types_are, code_is}

-- the least number of those that pass a test
pub least_below : (p : ℕ → Bool) (n : ℕ) → any_below n p ≡ true → (k : ℕ) × (k < n) × (p k ≡ true) × (any_below k p ≡ false)
least_below p zero h = absurd (false≢true h)
least_below p (suc n) h =
    ⊎_elim (λ t. let z = least_below p n t in (z.0, omega (arith, z.1), z.2, z.3)) (λ f. (n, omega arith, sym (ap (λ b. b || p n) f) ∙ h, f))
    (cases_Bool (any_below n p))

-- the declaration of a method in the class of a node
abbrev pub as_method : ℕ → Bool → HeadTree → Option Statements → MethodAt
as_method i a h b = record { owner = suc i; kind = kinds.Method; in_abstract = a; head = h; up = None; body = b }

-- and in an interface
abbrev pub as_head : ℕ → HeadTree → MethodAt
as_head i h = record { owner = suc i; kind = kinds.Head; in_abstract = true; head = h; up = None; body = None }

-- the renaming of the written tree, and which of its methods are resolved to which
pub record Read : Type 1 where
  pub renaming : Renaming
  pub Resolved : MethodAt → ℕ → Type 0

abbrev pub read : {P : Plain} {F : Facts} {pt : PointsTo} {H : Hierarchy} {V : Plain} → Given P F pt H V → Read
read {P} {F} {pt} {H} {V} G = record {
  renaming = by_node P F H;
  Resolved = λ m g. IsResolved (java_tree P F H) V G.resolves G.new m g;
}

module _ {P : Plain} {F : Facts} {pt : PointsTo} {H : Hierarchy} {V : Plain} (G : Given P F pt H V) where
  open read G use {renaming as R₀, Resolved as Rs}

  abbrev pub IsOldBody : ℕ → PlainMethod → Type 0
  IsOldBody m k = IsBody P F H V (T G) m k

  abbrev pub IsMemberOf : ℕ → ℕ → PlainMethod → Type 0
  IsMemberOf n m k = IsOfSlot P F H V (T G) n m k

  abbrev pub IsOldHead : ℕ → ℕ → PlainMethod → Type 0
  IsOldHead n m k = IsHead P F H V (T G) n m k

  abbrev pub IsOldFiller : ℕ → ℕ → PlainMethod → Type 0
  IsOldFiller n m k = IsFiller P F H V (T G) n m k

  -- ---- names of a slot

  pub method_slot : (m s : ℕ) (k : PlainMethod) → slice_get P.methods m ≡ Some k → k.slot ≡ Some s → slot_of_method P m ≡ Some s
  method_slot m s k e h = ap (option_and_then (λ (z : PlainMethod). z.slot)) e ∙ h

  pub declared_name : (m s : ℕ) → slot_of_method P m ≡ Some s → (c : ℕ) × (R₀.method_name m ≡ member_name H c) × (is_method (column_kind F c) ≡ true) ×
      (column_slot F c ≡ Some s)
  unfolding renaming_of
  declared_name m s h =
      let C = columns G in
      let c = C.declared m s h in
      (c.0, ap (column_name H) c.1, ap is_method (C.kind (column.Dcl m) c.0 c.1), C.slot (column.Dcl m) c.0 c.1 ∙ h)

  pub one_name : (m d s : ℕ) → slot_of_method P m ≡ Some s → slot_of_method P d ≡ Some s → R₀.method_name m ≡ R₀.method_name d
  one_name m d s h k =
      let a = declared_name m s h in
      let b = declared_name d s k in
      a.1 ∙ G.hierarchy.names a.0 b.0 s a.2 b.2 a.3 b.3 ∙ sym b.1

  -- ---- what a declaration of a node resolves to

  -- a body
  pub node_body : (match : BodiesMatch G) (n i m g : ℕ) (a : Bool) (old : PlainMethod) (xs : Sts)
      → slice_get (tree P F H) i ≡ Some (node_tree P F H n) → Stands G (column.Def m) n
      → slice_get P.methods m ≡ Some old → old.is_static ≡ false → old.body ≡ Some xs
      → (r : Rs (as_method i a (head P R₀ H (modifier Public ∷ []) (R₀.method_name m) m old) (body P R₀ H m old)) g) → IsOldBody m r.method
  unfolding renaming_of
  node_body match n i m g a old xs e s o st b r =
      let at : MethodAt = as_method i a (head P R₀ H (modifier Public ∷ []) (R₀.method_name m) m old) (body P R₀ H m old) in
      record {
        old = old;
        old_stands = o;
        at = record {
          node = n;
          stands = s;
          instance = static_is G at g r;
          owner_is = owner_is G at g r ∙ sym (node_number P F H V G.resolves G.new n i e);
        };
        name = name_is G at g r;
        types = types_are G at g r (modifier Public ∷ []) (R₀.method_name m) m old o refl;
        code = code_is G at g r match (modifier Public ∷ []) (R₀.method_name m) m old xs o b refl refl (sym st) (λ h. absurd (false≢true (sym st ∙ h)));
      }

  -- a head or a filler
  pub node_member : (n i m s g : ℕ) (mods : List Modifier) (at : MethodAt) (old : PlainMethod) → slice_get (tree P F H) i ≡ Some (node_tree P F H n)
      → at.owner ≡ suc i
      → has_word is_static_word mods ≡ false → IsHeadTree P R₀ F H mods s at.head → slice_get P.methods m ≡ Some old → old.slot ≡ Some s → (r : Rs at g)
      → IsMemberOf n m r.method
  unfolding renaming_of
  node_member n i m s g mods at old e ow st t o os r =
      let z = G.formed.slots s t.signature t.slot_stands in
      let one : z.method ≡ t.first = same_Some _ _ (sym z.stands ∙ t.first_stands) in
      let of : t.first.slot ≡ Some s = ap (λ (y : PlainMethod). y.slot) (sym one) ∙ z.of in
      let sig = ((G.formed.methods t.signature.first t.first t.first_stands).slots s).0 of in
      let same : sig.slot ≡ t.signature = same_Some _ _ (sym sig.stands ∙ t.slot_stands) in
      record {
        was = record { old = old; old_stands = o; slot = s; of_slot = os; signature = t.signature; slot_stands = t.slot_stands };
        instance = static_is G at g r ∙ ap (λ (h : HeadTree). has_word is_static_word h.mods) (sym t.is) ∙ st;
        owner = owner_is G at g r ∙ ow ∙ sym (node_number P F H V G.resolves G.new n i e);
        name = name_is G at g r ∙ ap (λ (h : HeadTree). h.name) (sym t.is)
            ∙ one_name t.signature.first m s (method_slot t.signature.first s t.first t.first_stands of) (method_slot m s old o os);
        types = slot_types_are G at g r mods (R₀.method_name t.signature.first) t.signature.first s t.first t.signature t.first_stands (sym t.is) of
            (sig.params ∙ ap (λ (y : PlainSlot). y.params) same) (sig.result ∙ ap (λ (y : PlainSlot). y.result) same);
      }

  -- the declaration that a column is
  declaration_item : (i : ColumnItem) → is_declaration (kind_of i) ≡ true → (m : ℕ) × (i ≡ column.Dcl m)
  declaration_item (column.Dcl m) h = (m, refl)
  declaration_item (column.Fld m) h = absurd (false≢true h)
  declaration_item (column.Def m) h = absurd (false≢true h)
  declaration_item (column.Is m) h = absurd (false≢true h)

  slotted_method : (m s : ℕ) → slot_of_method P m ≡ Some s → (k : PlainMethod) × (slice_get P.methods m ≡ Some k) × (k.slot ≡ Some s)
  slotted_method m s h = go (slice_get P.methods m) refl h
    where
      go : (o : Option PlainMethod) → slice_get P.methods m ≡ o → option_and_then (λ (z : PlainMethod). z.slot) o ≡ Some s
          → (k : PlainMethod) × (slice_get P.methods m ≡ Some k) × (k.slot ≡ Some s)
      go None e d = absurd (cc d)
      go (Some k) e d = (k, e, d)

  -- the old method of a head's column, which stands at the node
  pub record IsDeclaredAt (n s : ℕ) : Type 0 where
    pub number : ℕ
    pub old : PlainMethod
    pub old_stands : slice_get P.methods number ≡ Some old
    pub of_slot : old.slot ≡ Some s
    pub stands : Stands G (column.Dcl number) n

  declared_at : (mods : List Modifier) (n : ℕ) (h : HeadTree) (t : IsHeadAt P R₀ F H mods n h) → IsDeclaredAt n t.slot
  declared_at mods n h t =
      let C = columns G in
      let i = C.item t.number (slice_get_within F.columns.items t.number t.info t.info_stands) in
      let info = index_at F.columns.items t.number (record { kind = kind.Is; class = record { 0 = 0 }; slot = None; name = []; label = [] }) t.info
      t.info_stands in
      let k : kind_of i.0 ≡ t.info.kind = sym (C.kind i.0 t.number i.1) ∙ ap (λ (z : ColumnInfo). z.kind) info in
      let m = declaration_item i.0 (ap is_declaration k ∙ t.declared) in
      let at : (numbers P).column (column.Dcl m.0) ≡ Some t.number = ap (λ j. (numbers P).column j) (sym m.1) ∙ i.1 in
      let slot : slot_of_method P m.0 ≡ Some t.slot = sym (C.slot (column.Dcl m.0) t.number at) ∙ ap (λ (z : ColumnInfo). z.slot) info ∙ t.of_slot in
      let old = slotted_method m.0 t.slot slot in
      let p = at_from G n _ t.at in
      record {
        number = m.0;
        old = old.0;
        old_stands = old.1;
        of_slot = old.2;
        stands = record { number = t.number; numbered = at; place = p.0; placed = p.1; at = p.2 };
      }

  pub node_head : (n i g : ℕ) (mods : List Modifier) (at : MethodAt) → slice_get (tree P F H) i ≡ Some (node_tree P F H n) → at.owner ≡ suc i
      → at.body ≡ None → has_word is_static_word mods ≡ false
      → IsHeadAt P R₀ F H mods n at.head → (r : Rs at g) → (m : ℕ) × IsOldHead n m r.method
  unfolding node_member
  node_head n i g mods at e ow b st t r =
      let d = declared_at mods n at.head t in (
        d.number,
        record {
          of = node_member n i d.number t.slot g mods at d.old e ow st t.tree d.old_stands d.of_slot r;
          stands = d.stands;
          headed = t.headed;
          bodyless = bodyless G at g r b;
        },
      )

  pub first_method : (s : ℕ) (h : HeadTree) (mods : List Modifier) → (t : IsHeadTree P R₀ F H mods s h) → t.first.slot ≡ Some s
  first_method s h mods t =
      let z = G.formed.slots s t.signature t.slot_stands in
      ap (λ (y : PlainMethod). y.slot) (same_Some _ _ (sym t.first_stands ∙ z.stands)) ∙ z.of

  pub node_filler : (n i s g : ℕ) (at : MethodAt) (ss : Statements) → is_live H.order n ≡ true → slice_get (tree P F H) i ≡ Some (node_tree P F H n)
      → at.owner ≡ suc i → at.body ≡ Some ss
      → is_filled F H n s ≡ true → (t : IsHeadTree P R₀ F H (as_filler P R₀ F H) s at.head) → (r : Rs at g)
      → IsOldFiller n t.signature.first r.method
  unfolding node_member
  node_filler n i s g at ss live e ow b h t r = record {
    of = node_member n i t.signature.first s g (as_filler P R₀ F H) at t.first e ow refl t t.first_stands (first_method s at.head (as_filler P R₀ F H) t) r;
    live = live;
    filled = h;
    bodied = bodied G at g r ss b;
  }

  -- ---- what the columns and slots of a node give

  abbrev pub is_abstract : ℕ → Bool
  is_abstract n = has_word is_abstract_word (class_modifiers (is_made_at F H n))

  -- a method that the type of a node declares is of one of its members, or one of the heads of an interface
  pub in_type : (b : Bool) (n i : ℕ) (x : MethodAt) → Contains (methods_declared (suc i) (type_tree P R₀ F H (items P F H) b n)) x
      → ((m : MemberTree) × IsMember P R₀ F H (items P F H) n m × Contains (method_member (suc i) (is_abstract n) m) x)
      ⊎ ((h : HeadTree) × IsHeadAt P R₀ F H [] n h × (as_head i h ≡ x))
  in_type true n i x h =
      let z = member_method_from (suc i) (is_abstract n) (class_members P R₀ F H (items P F H) n) x h in
      inl (z.0, class_from P R₀ F H (items P F H) n z.0 z.1, z.2)
  in_type false n i x h =
      let z = map_from (λ h. as_head i h) (interface_heads P R₀ F H n) x h in
      inr (z.0, interface_from P R₀ F H n z.0 z.1, z.2)

  -- a method of a class node's members
  class_method : (n i : ℕ) (h : HeadTree) (b : Option Statements) → slice_get (tree P F H) i ≡ Some (node_tree P F H n) → is_class_node F H n ≡ true
      → Contains (class_members P R₀ F H (items P F H) n) (MethodTree h b nowhere) → (g : ℕ) × Rs (as_method i (is_abstract n) h b) g
  class_method n i h b e c m =
      let x : MethodAt = as_method i (is_abstract n) h b in
      let d : Contains (methods_declared (suc i) (node_tree P F H n)) x =
      subst (λ z. Contains (methods_declared (suc i) (type_tree P R₀ F H (items P F H) z n)) x) (sym c)
      (member_method_has (suc i) (is_abstract n) (class_members P R₀ F H (items P F H) n) x (MethodTree h b nowhere) m (first x [])) in
      method_there (tree P F H) V G.resolves G.new (no_maker P F H) i (node_tree P F H n) x e d

  interface_method : (n i : ℕ) (h : HeadTree) → slice_get (tree P F H) i ≡ Some (node_tree P F H n) → is_class_node F H n ≡ false
      → Contains (interface_heads P R₀ F H n) h → (g : ℕ) × Rs (as_head i h) g
  interface_method n i h e c m =
      let x : MethodAt = as_head i h in
      let d : Contains (methods_declared (suc i) (node_tree P F H n)) x =
      subst (λ z. Contains (methods_declared (suc i) (type_tree P R₀ F H (items P F H) z n)) x) (sym c)
      (map_has (λ h. as_head i h) (interface_heads P R₀ F H n) h m) in
      method_there (tree P F H) V G.resolves G.new (no_maker P F H) i (node_tree P F H n) x e d

  -- the old method of a body's column
  pub record IsOldMethod (m : ℕ) : Type 0 where
    pub old : PlainMethod
    pub stands : slice_get P.methods m ≡ Some old
    pub instance : old.is_static ≡ false
    pub code : Sts
    pub body : old.body ≡ Some code

  some_code : (o : Option Sts) → is_some o ≡ true → (xs : Sts) × (o ≡ Some xs)
  some_code None h = absurd (false≢true h)
  some_code (Some xs) h = (xs, refl)

  text_body : (m : ℕ) (i : ColumnItem) → IsOfText P i → i ≡ column.Def m → IsOldMethod m
  text_body m _ (for_body d k e h b) q =
      let same : d ≡ m = cc q in
      let c = some_code k.body b in
      record { old = k; stands = ap (slice_get P.methods) (sym same) ∙ e; instance = h; code = c.0; body = c.1 }
  text_body m _ (for_field g k e h) q = absurd (cc q)
  text_body m _ (for_declaration d k e h) q = absurd (cc q)
  text_body m _ (for_mark c) q = absurd (cc q)

  pub old_method : (m n : ℕ) → Stands G (column.Def m) n → IsOldMethod m
  unfolding numbers
  old_method m n s =
      let x = (numbered_columns P).at (column.Def m) s.number s.numbered in
      text_body m x.0.item (column_stands P s.number x.0 x.1) x.2

  pub each_body : BodiesMatch G → (m n : ℕ) → Stands G (column.Def m) n → (g : ℕ) × (new : PlainMethod) × (slice_get V.methods g ≡ Some new) × IsOldBody m new
  each_body match m n s =
      let c = column_there G (column.Def m) n s in
      let o = old_method m n s in
      let z = node_at P F H n c.live in
      let h = head P R₀ H (modifier Public ∷ []) (R₀.method_name m) m o.old in
      let r = class_method n z.0 h (body P R₀ H m o.old) z.1 (class_there G (column.Def m) n s refl)
      (body_has P R₀ F H (items P F H) n c.number m (column_info P (column.Def m)) o.old c.info c.at c.item o.stands) in
      (r.0, r.1.method, r.1.stands, node_body match n z.0 m r.0 (is_abstract n) o.old o.code z.1 s o.stands o.instance o.body r.1)

  -- the first column at a node that declares a slot
  pub record IsFirstColumn (n s : ℕ) : Type 0 where
    pub number : ℕ
    pub info : ColumnInfo
    pub info_stands : slice_get F.columns.items number ≡ Some info
    pub at : stands_at H n number ≡ true
    pub declared : is_declaration info.kind ≡ true
    pub of_slot : info.slot ≡ Some s
    pub first : is_first_there F H n number s ≡ true

  first_column : (m n s : ℕ) → Stands G (column.Dcl m) n → slot_of_method P m ≡ Some s → IsFirstColumn n s
  first_column m n s st slot =
      let C = columns G in
      let c = column_there G (column.Dcl m) n st in
      let p : ℕ → Bool = λ d. is_declaration (column_kind F d) && (is_slot (column_slot F d) s && stands_at H n d) in
      let here : p c.number ≡ true = and_from (is_declaration (column_kind F c.number)) (is_slot (column_slot F c.number) s && stands_at H n c.number)
      (ap is_declaration (C.kind (column.Dcl m) c.number c.numbered))
      (and_from (is_slot (column_slot F c.number) s) (stands_at H n c.number)
      (ap (λ o. is_slot o s) (C.slot (column.Dcl m) c.number c.numbered ∙ slot) ∙ eq-eqb s s refl) c.at) in
      let z = least_below p (suc c.number) (or_right (any_below c.number p) (p c.number) here) in
      let a = and_parts (is_declaration (column_kind F z.0)) (is_slot (column_slot F z.0) s && stands_at H n z.0) z.2 in
      let b = and_parts (is_slot (column_slot F z.0) s) (stands_at H n z.0) a.1 in
      let lt = slice_get_within F.columns.items c.number (column_info P (column.Dcl m)) c.info in
      let k = below_at F.columns.items z.0 (omega (arith, z.1, lt)) in
      let info = index_at F.columns.items z.0 (record { kind = kind.Is; class = record { 0 = 0 }; slot = None; name = []; label = [] }) k.0 k.1 in
      record {
        number = z.0;
        info = k.0;
        info_stands = k.1;
        at = b.1;
        declared = ap (λ (y : ColumnInfo). is_declaration y.kind) (sym info) ∙ a.0;
        of_slot = ap (λ (y : ColumnInfo). y.slot) (sym info) ∙ slot_is (column_slot F z.0) s b.0;
        first = ap not z.3;
      }

  -- a slot has its first method
  slot_parts : (s m : ℕ) (old : PlainMethod) → slice_get P.methods m ≡ Some old → old.slot ≡ Some s
      → (slot : PlainSlot) × (slice_get P.slots s ≡ Some slot) × (k : PlainMethod) × (slice_get P.methods slot.first ≡ Some k)
  slot_parts s m old e h =
      let z = ((G.formed.methods m old e).slots s).0 h in
      let f = G.formed.slots s z.slot z.stands in
      (z.slot, z.stands, f.method, f.stands)

  pub each_head : (m n s : ℕ) (old : PlainMethod) → Stands G (column.Dcl m) n → slice_get P.methods m ≡ Some old → old.slot ≡ Some s → is_headed F H n s ≡ true
      → (g : ℕ) × (new : PlainMethod) × (slice_get V.methods g ≡ Some new) × (new.body ≡ None) × IsMemberOf n m new
  each_head m n s old st o os h =
      let live = (column_there G (column.Dcl m) n st).live in
      let c = first_column m n s st (method_slot m s old o os) in
      let q = slot_parts s m old o os in
      let z = node_at P F H n live in
      ⊎_elim
      (λ class.
      let t = head P R₀ H (in_class P R₀ F H) (R₀.method_name q.0.first) q.0.first q.2 in
      let r = class_method n z.0 t None z.1 class (head_has P R₀ F H
      (items P F H) n c.number s c.info q.0 q.2 c.info_stands c.at c.declared c.of_slot h c.first q.1 q.3) in
      let at : MethodAt = as_method z.0 (is_abstract n) t None in (
        r.0,
        r.1.method,
        r.1.stands,
        bodyless G at r.0 r.1 refl,
        node_member n z.0 m s r.0 (in_class P R₀ F H) at old z.1 refl refl
            (record { signature = q.0; slot_stands = q.1; first = q.2; first_stands = q.3; is = refl }) o os r.1,
      ))
      (λ face.
      let t = head P R₀ H [] (R₀.method_name q.0.first) q.0.first q.2 in
      let r = interface_method n z.0 t z.1 face (interface_has P R₀ F H n c.number s c.info q.0 q.2 c.info_stands c.at c.declared c.of_slot h c.first q.1
      q.3) in
      let at : MethodAt = as_head z.0 t in (
        r.0,
        r.1.method,
        r.1.stands,
        bodyless G at r.0 r.1 refl,
        node_member n z.0 m s r.0 [] at old z.1 refl refl (record { signature = q.0; slot_stands = q.1; first = q.2; first_stands = q.3; is = refl }) o os r.1,
      ))
      (cases_Bool (is_class_node F H n))

  made_class : (n : ℕ) → is_live H.order n ≡ true → is_made_at F H n ≡ true → is_class_node F H n ≡ true
  made_class n live h =
      let s = any_below_some (λ s. ((site_at F s).dim == 0) && (place_of_row H (site_row F s) == n)) (length F.sites.items) h in
      let both = and_parts ((site_at F s.0).dim == 0) (place_of_row H (site_row F s.0) == n) s.2 in
      or_right (has_class_member F H n) (has_object F H n)
      (any_below_has (λ s. ((site_at F s).dim == 0) && is_le H.order n (place_of_row H (site_row F s))) (length F.sites.items) s.0 s.1
      (and_from ((site_at F s.0).dim == 0) (is_le H.order n (place_of_row H (site_row F s.0))) both.0
      (subst (λ z. is_le H.order n z ≡ true) (sym (eqb-true (place_of_row H (site_row F s.0)) n both.1)) (G.hierarchy.sized.order.reflexive n live))))

  pub each_filler : (m n s : ℕ) (old : PlainMethod) → is_live H.order n ≡ true → slice_get P.methods m ≡ Some old → old.slot ≡ Some s → is_filled F H n s ≡ true
      → (g : ℕ) × (new : PlainMethod) × (slice_get V.methods g ≡ Some new) × IsMemberOf n m new
  each_filler m n s old live o os h =
      let q = slot_parts s m old o os in
      let z = node_at P F H n live in
      let class = made_class n live (and_parts (is_made_at F H n) (offers_slot F H n s && not (offers_body F H n s)) h).0 in
      let t = head P R₀ H (as_filler P R₀ F H) (R₀.method_name q.0.first) q.0.first q.2 in
      let r = class_method n z.0 t (Some (filling q.0.result)) z.1 class (filler_has P R₀ F H G.formed (items P F H) n s q.0 q.2 q.1 q.3 h) in
      let at : MethodAt = as_method z.0 (is_abstract n) t (Some (filling q.0.result)) in (
        r.0,
        r.1.method,
        r.1.stands,
        node_member n z.0 m s r.0 (as_filler P R₀ F H) at old z.1 refl refl
            (record { signature = q.0; slot_stands = q.1; first = q.2; first_stands = q.3; is = refl }) o os r.1,
      )
