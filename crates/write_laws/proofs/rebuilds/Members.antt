-- What the types of nodes and the holders of the written tree have as members, member by member.
use Rattle.std.proofs.Common.{◌≡◌, ℕ, suc, ◌&&◌, true, List, [], ◌∷◌, Option, Some, None, Contains, refl, sym, ap, ◌∙◌, subst, arith, ⊎_elim}
use Rattle.std.specs.Prelude.{map, slice_get, ◌==◌}
use Rattle.std.specs.Option.{option_map_or}
use Rattle.std.specs.List.{flat_map}
use Rattle.std.proofs.lemmas.Bool.{and_from, and_parts}
use Rattle.std.proofs.lemmas.List.Elements.{Contains-append_left, Contains-append_right, Contains-append_cases}
use Rattle.kaba_base.specs.declared.words.Keyword.TheVariants.{Public, Abstract}
use Rattle.java_tree.specs.declared.Modifier.{Modifier}
use Rattle.java_tree.specs.Syntax.{HeadTree, MemberTree, MethodTree}
use Rattle.java_core.specs.Programs.{Plain, PlainField, PlainMethod, PlainSlot}
use Rattle.fact_model.specs.declared.facts.Facts.{Facts}
use Rattle.fact_model.specs.declared.facts.ColumnInfo.{ColumnInfo}
use Rattle.hier_model.specs.Hierarchies.{Hierarchy, stands_at}
use Rattle.flow_rules.specs.declared.items.ColumnItem.{ColumnItem}
use Rattle.flow_rules.specs.declared.items.ColumnItem.TheVariants as column
use Rattle.flow_rules.specs.Ordered.{each, when}
use Rattle.flow_rules.proofs.Listed.{first, each_has, each_from_zero, when_has, when_from, one_from, map_has, map_from, flat_has, flat_from}
use Rattle.flow_rules.specs.declared.items.Site.{Site}
use Rattle.flow_rules.specs.Numbered.{sites_of}
use Rattle.java_core.specs.Makers.{maker_of}
use Rattle.java_core.specs.Formed.{IsFormed}
use Rattle.rebuild_model.specs.Renaming.{Renaming}
use Rattle.rebuild_model.specs.Members.{is_headed, is_filled}
use Rattle.write_model.specs.Names.{nowhere, modifier}
use Rattle.write_model.specs.Members.{is_declaration, filling, filled_slots, make_member, maker_member, site_member, make_members, head, first_head, slot_head, field_member, body_member, bodyless, is_first_there, heads_of_slot, column_heads, own_member, column_members, filler, slot_filler, class_members, interface_heads, static_field_member, static_method_member, holder_members}
use Rattle.name_rules.specs.Outline.{FieldAt, fields_of, field_member as declared_field}
use Rattle.write_laws.proofs.rebuilds.Outlined.{member_field_from}
use Rattle.write_laws.proofs.rebuilds.FilledSlots.{slot_filled}

option_from : {A B : Type 0} (g : A → B) (o : Option A) (x : B) → Contains (option_map_or (λ k. g k ∷ []) o []) x → (k : A) × (o ≡ Some k) × (g k ≡ x)
option_from g None x c = absurd (omega (arith, c.1))
option_from g (Some k) x c = (k, refl, one_from (g k) x c)

pub flat_option_from : {A B : Type 0} (g : A → List B) (o : Option A) (x : B) → Contains (option_map_or g o []) x → (k : A) × (o ≡ Some k) × Contains (g k) x
flat_option_from g None x c = absurd (omega (arith, c.1))
flat_option_from g (Some k) x c = (k, refl, c)

module _ (P : Plain) (R : Renaming) (F : Facts) (H : Hierarchy) where
  -- the head of the first method of a slot, as it is written
  pub record IsHeadTree (mods : List Modifier) (s : ℕ) (h : HeadTree) : Type 0 where
    pub signature : PlainSlot
    pub slot_stands : slice_get P.slots s ≡ Some signature
    pub first : PlainMethod
    pub first_stands : slice_get P.methods signature.first ≡ Some first
    pub is : head P R H mods (R.method_name signature.first) signature.first first ≡ h

  pub first_head_from : (mods : List Modifier) (s : ℕ) (slot : PlainSlot) (h : HeadTree) → slice_get P.slots s ≡ Some slot
      → Contains (first_head P R H mods slot) h → IsHeadTree mods s h
  first_head_from mods s slot h e c =
      let z = option_from (λ k. head P R H mods (R.method_name slot.first) slot.first k) (slice_get P.methods slot.first) h c in
      record { signature = slot; slot_stands = e; first = z.0; first_stands = z.1; is = z.2 }

  pub first_head_has : (mods : List Modifier) (slot : PlainSlot) (k : PlainMethod) → slice_get P.methods slot.first ≡ Some k
      → Contains (first_head P R H mods slot) (head P R H mods (R.method_name slot.first) slot.first k)
  first_head_has mods slot k e =
      let h = head P R H mods (R.method_name slot.first) slot.first k in
      subst (λ o. Contains (option_map_or (λ k. head P R H mods (R.method_name slot.first) slot.first k ∷ []) o []) h) (sym e) (first h [])

  -- a head that a column gives at a node
  pub record IsHeadAt (mods : List Modifier) (n : ℕ) (h : HeadTree) : Type 0 where
    pub number : ℕ
    pub info : ColumnInfo
    pub info_stands : slice_get F.columns.items number ≡ Some info
    pub declared : is_declaration info.kind ≡ true
    pub slot : ℕ
    pub of_slot : info.slot ≡ Some slot
    pub at : stands_at H n number ≡ true
    pub headed : is_headed F H n slot ≡ true
    pub tree : IsHeadTree mods slot h

  heads_from : (mods : List Modifier) (n c : ℕ) (k : ColumnInfo) (h : HeadTree) → slice_get F.columns.items c ≡ Some k → stands_at H n c ≡ true
      → Contains (column_heads P R F H mods n c k) h
      → IsHeadAt mods n h
  heads_from mods n c k h e at d = let z = when_from (is_declaration k.kind) (heads_of_slot P R F H mods n c k.slot) h d in go k.slot refl z.0 z.1
    where
      go : (o : Option ℕ) → k.slot ≡ o → is_declaration k.kind ≡ true → Contains (heads_of_slot P R F H mods n c o) h → IsHeadAt mods n h
      go None p q c = absurd (omega (arith, c.1))
      go (Some x) p q d =
          let z = when_from (is_headed F H n x && is_first_there F H n c x) (slot_head P R H mods x) h d in
          let w = and_parts (is_headed F H n x) (is_first_there F H n c x) z.0 in
          let y = flat_option_from (first_head P R H mods) (slice_get P.slots x) h z.1 in
          let tree = first_head_from mods x y.0 h y.1 y.2 in
          record { number = c; info = k; info_stands = e; declared = q; slot = x; of_slot = p; at = at; headed = w.0; tree = tree }

  heads_has : (mods : List Modifier) (n c s : ℕ) (k : ColumnInfo) (slot : PlainSlot) (m : PlainMethod) → is_declaration k.kind ≡ true → k.slot ≡ Some s
      → is_headed F H n s ≡ true
      → is_first_there F H n c s ≡ true → slice_get P.slots s ≡ Some slot → slice_get P.methods slot.first ≡ Some m
      → Contains (column_heads P R F H mods n c k) (head P R H mods (R.method_name slot.first) slot.first m)
  heads_has mods n c s k slot m d o h f e g =
      let t = head P R H mods (R.method_name slot.first) slot.first m in
      when_has (is_declaration k.kind) (heads_of_slot P R F H mods n c k.slot) t d
      (subst (λ z. Contains (heads_of_slot P R F H mods n c z) t) (sym o)
      (when_has (is_headed F H n s && is_first_there F H n c s) (slot_head P R H mods s) t (and_from (is_headed F H n s) (is_first_there F H n c s) h f)
      (subst (λ z. Contains (option_map_or (first_head P R H mods) z []) t) (sym e) (first_head_has mods slot m g))))

  abbrev pub in_class : List Modifier
  in_class = modifier Public ∷ modifier Abstract ∷ []

  abbrev pub as_filler : List Modifier
  as_filler = modifier Public ∷ []

  -- a member of the class of a node
  pub data IsMember (items : List ColumnItem) (n : ℕ) : MemberTree → Type 0 where
    a_field : (c f : ℕ) (k : PlainField) → slice_get items c ≡ Some (column.Fld f) → stands_at H n c ≡ true → slice_get P.fields f ≡ Some k
        → IsMember items n (field_member P R H f k)
    a_body : (c m : ℕ) (k : PlainMethod) → slice_get items c ≡ Some (column.Def m) → stands_at H n c ≡ true → slice_get P.methods m ≡ Some k
        → IsMember items n (body_member P R H m k)
    a_head : (h : HeadTree) → IsHeadAt in_class n h → IsMember items n (bodyless h)
    a_filler : (s : ℕ) (h : HeadTree) → is_filled F H n s ≡ true → (t : IsHeadTree as_filler s h)
        → IsMember items n (MethodTree h (Some (filling t.signature.result)) nowhere)

  own_from : (items : List ColumnItem) (n c : ℕ) (o : Option ColumnItem) (x : MemberTree) → slice_get items c ≡ o → stands_at H n c ≡ true
      → Contains (own_member P R F H o) x → IsMember items n x
  own_from items n c (Some (column.Fld f)) x e at d =
      let z = option_from (λ k. field_member P R H f k) (slice_get P.fields f) x d in subst (IsMember items n) z.2 (a_field c f z.0 e at z.1)
  own_from items n c (Some (column.Def m)) x e at d =
      let z = option_from (λ k. body_member P R H m k) (slice_get P.methods m) x d in subst (IsMember items n) z.2 (a_body c m z.0 e at z.1)
  own_from items n c (Some (column.Dcl m)) x e at d = absurd (omega (arith, d.1))
  own_from items n c (Some (column.Is k)) x e at d = absurd (omega (arith, d.1))
  own_from items n c None x e at d = absurd (omega (arith, d.1))

  column_from : (items : List ColumnItem) (n c : ℕ) (k : ColumnInfo) (x : MemberTree) → slice_get F.columns.items c ≡ Some k → stands_at H n c ≡ true
      → Contains (column_members P R F H items n c k) x → IsMember items n x
  column_from items n c k x e at d =
      ⊎_elim
      (λ y. let z = map_from bodyless (column_heads P R F H in_class n c k) x y in subst (IsMember items n) z.2
      (a_head z.0 (heads_from in_class n c k z.0 e at z.1)))
      (λ y. own_from items n c (slice_get items c) x refl at y)
      (Contains-append_cases (map bodyless (column_heads P R F H in_class n c k)) (own_member P R F H (slice_get items c)) x d)

  filler_from : (items : List ColumnItem) (n s : ℕ) (slot : PlainSlot) (x : MemberTree) → slice_get P.slots s ≡ Some slot
      → Contains (filler P R F H n s slot) x → IsMember items n x
  unfolding first_head_from
  filler_from items n s slot x e d =
      let z = when_from (is_filled F H n s) (map (λ h. MethodTree h (Some (filling slot.result)) nowhere) (first_head P R H as_filler slot)) x d in
      let y = map_from (λ h. MethodTree h (Some (filling slot.result)) nowhere) (first_head P R H as_filler slot) x z.1 in
      subst (IsMember items n) y.2 (a_filler s y.0 z.0 (first_head_from as_filler s slot y.0 e y.1))

  abbrev columns : List ColumnItem → ℕ → List MemberTree
  columns items n = each (λ c k. when (stands_at H n c) (column_members P R F H items n c k)) 0 F.columns.items

  abbrev fillers : ℕ → List MemberTree
  fillers n = flat_map (slot_filler P R F H n) (filled_slots P)

  pub class_from : (items : List ColumnItem) (n : ℕ) (x : MemberTree) → Contains (class_members P R F H items n) x → IsMember items n x
  class_from items n x c =
      ⊎_elim
      (λ d. let z = each_from_zero (λ c k. when (stands_at H n c) (column_members P R F H items n c k)) F.columns.items x d in
      let w = when_from (stands_at H n z.0) (column_members P R F H items n z.0 z.1) x z.3 in column_from items n z.0 z.1 x z.2 w.0 w.1)
      (λ d. let z = flat_from (slot_filler P R F H n) (filled_slots P) x d in
      let w = flat_option_from (filler P R F H n z.0) (slice_get P.slots z.0) x z.2 in filler_from items n z.0 w.0 x w.1 w.2)
      (Contains-append_cases (columns items n) (fillers n) x c)

  column_has : (items : List ColumnItem) (n c : ℕ) (k : ColumnInfo) (x : MemberTree) → slice_get F.columns.items c ≡ Some k → stands_at H n c ≡ true
      → Contains (column_members P R F H items n c k) x
      → Contains (class_members P R F H items n) x
  column_has items n c k x e at d =
      Contains-append_left (columns items n) (fillers n) x
      (each_has (λ c k. when (stands_at H n c) (column_members P R F H items n c k)) 0 F.columns.items c k x e c (omega arith)
      (when_has (stands_at H n c) (column_members P R F H items n c k) x at d))

  own_has : (items : List ColumnItem) (n c : ℕ) (k : ColumnInfo) (o : ColumnItem) (x : MemberTree) → slice_get F.columns.items c ≡ Some k
      → stands_at H n c ≡ true → slice_get items c ≡ Some o
      → Contains (own_member P R F H (Some o)) x → Contains (class_members P R F H items n) x
  own_has items n c k o x e at i d =
      column_has items n c k x e at
      (Contains-append_right (map bodyless (column_heads P R F H in_class n c k)) (own_member P R F H (slice_get items c)) x
      (subst (λ z. Contains (own_member P R F H z) x) (sym i) d))

  -- the member of an item
  item_has : {A : Type 0} (xs : List A) (member : ℕ → A → MemberTree) (items : List ColumnItem) (n c f : ℕ) (o : ColumnItem) (k : ColumnInfo) (g : A)
      → slice_get F.columns.items c ≡ Some k → stands_at H n c ≡ true → slice_get items c ≡ Some o
      → own_member P R F H (Some o) ≡ option_map_or (λ k. member f k ∷ []) (slice_get xs f) [] → slice_get xs f ≡ Some g
      → Contains (class_members P R F H items n) (member f g)
  item_has xs member items n c f o k g e at i own d =
      own_has items n c k o (member f g) e at i
      (subst (λ l. Contains l (member f g)) (sym (own ∙ ap (λ o. option_map_or (λ k. member f k ∷ []) o []) d)) (first (member f g) []))

  pub field_has : (items : List ColumnItem) (n c f : ℕ) (k : ColumnInfo) (g : PlainField) → slice_get F.columns.items c ≡ Some k → stands_at H n c ≡ true
      → slice_get items c ≡ Some (column.Fld f)
      → slice_get P.fields f ≡ Some g → Contains (class_members P R F H items n) (field_member P R H f g)
  field_has items n c f k g e at i d = item_has P.fields (field_member P R H) items n c f (column.Fld f) k g e at i refl d

  pub body_has : (items : List ColumnItem) (n c m : ℕ) (k : ColumnInfo) (g : PlainMethod) → slice_get F.columns.items c ≡ Some k → stands_at H n c ≡ true
      → slice_get items c ≡ Some (column.Def m)
      → slice_get P.methods m ≡ Some g → Contains (class_members P R F H items n) (body_member P R H m g)
  body_has items n c m k g e at i d = item_has P.methods (body_member P R H) items n c m (column.Def m) k g e at i refl d

  pub head_has : (items : List ColumnItem) (n c s : ℕ) (k : ColumnInfo) (slot : PlainSlot) (m : PlainMethod) → slice_get F.columns.items c ≡ Some k
      → stands_at H n c ≡ true
      → is_declaration k.kind ≡ true → k.slot ≡ Some s → is_headed F H n s ≡ true → is_first_there F H n c s ≡ true → slice_get P.slots s ≡ Some slot
      → slice_get P.methods slot.first ≡ Some m
      → Contains (class_members P R F H items n) (bodyless (head P R H in_class (R.method_name slot.first) slot.first m))
  head_has items n c s k slot m e at d o h f p q =
      let t = head P R H in_class (R.method_name slot.first) slot.first m in
      column_has items n c k (bodyless t) e at
      (Contains-append_left (map bodyless (column_heads P R F H in_class n c k)) (own_member P R F H (slice_get items c)) (bodyless t)
      (map_has bodyless (column_heads P R F H in_class n c k) t (heads_has in_class n c s k slot m d o h f p q)))

  pub filler_has : IsFormed P → (items : List ColumnItem) (n s : ℕ) (slot : PlainSlot) (m : PlainMethod) → slice_get P.slots s ≡ Some slot
      → slice_get P.methods slot.first ≡ Some m → is_filled F H n s ≡ true
      → Contains (class_members P R F H items n) (MethodTree (head P R H as_filler (R.method_name slot.first) slot.first m)
      (Some (filling slot.result)) nowhere)
  filler_has formed items n s slot m e d h =
      let t = head P R H as_filler (R.method_name slot.first) slot.first m in
      let x = MethodTree t (Some (filling slot.result)) nowhere in
      Contains-append_right (columns items n) (fillers n) x
      (flat_has (slot_filler P R F H n) (filled_slots P) s x (slot_filled P formed s slot e)
      (subst (λ o. Contains (option_map_or (filler P R F H n s) o []) x) (sym e)
      (when_has (is_filled F H n s) (map (λ h. MethodTree h (Some (filling slot.result)) nowhere) (first_head P R H as_filler slot)) x h
      (map_has (λ h. MethodTree h (Some (filling slot.result)) nowhere) (first_head P R H as_filler slot) t (first_head_has as_filler slot m d)))))

  -- the heads of an interface
  pub interface_from : (n : ℕ) (h : HeadTree) → Contains (interface_heads P R F H n) h → IsHeadAt [] n h
  interface_from n h c =
      let z = each_from_zero (λ c k. when (stands_at H n c) (column_heads P R F H [] n c k)) F.columns.items h c in
      let w = when_from (stands_at H n z.0) (column_heads P R F H [] n z.0 z.1) h z.3 in
      heads_from [] n z.0 z.1 h z.2 w.0 w.1

  pub interface_has : (n c s : ℕ) (k : ColumnInfo) (slot : PlainSlot) (m : PlainMethod) → slice_get F.columns.items c ≡ Some k → stands_at H n c ≡ true
      → is_declaration k.kind ≡ true → k.slot ≡ Some s → is_headed F H n s ≡ true → is_first_there F H n c s ≡ true → slice_get P.slots s ≡ Some slot
      → slice_get P.methods slot.first ≡ Some m
      → Contains (interface_heads P R F H n) (head P R H [] (R.method_name slot.first) slot.first m)
  interface_has n c s k slot m e at d o h f p q =
      let t = head P R H [] (R.method_name slot.first) slot.first m in
      each_has (λ c k. when (stands_at H n c) (column_heads P R F H [] n c k)) 0 F.columns.items c k t e c (omega arith)
      (when_has (stands_at H n c) (column_heads P R F H [] n c k) t at (heads_has [] n c s k slot m d o h f p q))

module _ (P : Plain) (R : Renaming) (H : Hierarchy) where
  -- a member of a holder
  pub data IsStatic (c : ℕ) : MemberTree → Type 0 where
    a_static_field : (f : ℕ) (k : PlainField) (x : MemberTree) → slice_get P.fields f ≡ Some k → (k.is_static && (k.owner == c)) ≡ true
        → Contains (static_field_member P R H c f k) x → IsStatic c x
    a_static_method : (m : ℕ) (k : PlainMethod) (x : MemberTree) → slice_get P.methods m ≡ Some k → (k.is_static && (k.owner == c)) ≡ true
        → Contains (static_method_member P R H c m k) x → IsStatic c x

  pub holder_from : (c : ℕ) (x : MemberTree) → Contains (holder_members P R H c) x → IsStatic c x
  holder_from c x h =
      ⊎_elim
      (λ d. let z = each_from_zero (static_field_member P R H c) P.fields x d in a_static_field z.0 z.1 x z.2
      (when_from (z.1.is_static && (z.1.owner == c)) _ x z.3).0 z.3)
      (λ d. let z = each_from_zero (static_method_member P R H c) P.methods x d in a_static_method z.0 z.1 x z.2
      (when_from (z.1.is_static && (z.1.owner == c)) _ x z.3).0 z.3)
      (Contains-append_cases (each (static_field_member P R H c) 0 P.fields) (each (static_method_member P R H c) 0 P.methods) x h)

  pub static_field_has : (c f : ℕ) (k : PlainField) (x : MemberTree) → slice_get P.fields f ≡ Some k → Contains (static_field_member P R H c f k) x
      → Contains (holder_members P R H c) x
  static_field_has c f k x e h =
      Contains-append_left (each (static_field_member P R H c) 0 P.fields) (each (static_method_member P R H c) 0 P.methods) x
      (each_has (static_field_member P R H c) 0 P.fields f k x e f (omega arith) h)

  pub static_method_has : (c m : ℕ) (k : PlainMethod) (x : MemberTree) → slice_get P.methods m ≡ Some k → Contains (static_method_member P R H c m k) x
      → Contains (holder_members P R H c) x
  static_method_has c m k x e h =
      Contains-append_right (each (static_field_member P R H c) 0 P.fields) (each (static_method_member P R H c) 0 P.methods) x
      (each_has (static_method_member P R H c) 0 P.methods m k x e m (omega arith) h)

  -- a method that makes the objects of a site
  pub record IsSiteTree (n : ℕ) (z : Site) (x : MemberTree) : Type 0 where
    pub stands : slice_get (sites_of P) n ≡ Some z
    pub object : (z.ty.dim == 0) ≡ true
    pub maker : ℕ
    pub has : maker_of P z.ty.class.0 ≡ Some maker
    pub method : PlainMethod
    pub method_stands : slice_get P.methods maker ≡ Some method
    pub is : make_member P R H z.number z.ty.class.0 maker method ≡ x

  pub site_from : (s : ℕ) (z : Site) (x : MemberTree) → slice_get (sites_of P) s ≡ Some z → Contains (site_member P R H s z) x → IsSiteTree s z x
  site_from s z x e c =
      let w = when_from (z.ty.dim == 0) (option_map_or (maker_member P R H z.number z.ty.class.0) (maker_of P z.ty.class.0) []) x c in
      let m = flat_option_from (maker_member P R H z.number z.ty.class.0) (maker_of P z.ty.class.0) x w.1 in
      let k = option_from (λ k. make_member P R H z.number z.ty.class.0 m.0 k) (slice_get P.methods m.0) x m.2 in
      record { stands = e; object = w.0; maker = m.0; has = m.1; method = k.0; method_stands = k.1; is = k.2 }

  -- one of a site
  pub record IsMakeTree (x : MemberTree) : Type 0 where
    pub number : ℕ
    pub site : Site
    pub stands : slice_get (sites_of P) number ≡ Some site
    pub object : (site.ty.dim == 0) ≡ true
    pub maker : ℕ
    pub has : maker_of P site.ty.class.0 ≡ Some maker
    pub method : PlainMethod
    pub method_stands : slice_get P.methods maker ≡ Some method
    pub is : make_member P R H site.number site.ty.class.0 maker method ≡ x

  pub makes_from : (x : MemberTree) → Contains (make_members P R H) x → IsMakeTree x
  makes_from x c =
      let z = each_from_zero (site_member P R H) (sites_of P) x c in
      let t = site_from z.0 z.1 x z.2 z.3 in
      record {
        number = z.0;
        site = z.1;
        stands = z.2;
        object = t.object;
        maker = t.maker;
        has = t.has;
        method = t.method;
        method_stands = t.method_stands;
        is = t.is;
      }

  pub makes_has : (s m : ℕ) (z : Site) (k : PlainMethod) → slice_get (sites_of P) s ≡ Some z → (z.ty.dim == 0) ≡ true
      → maker_of P z.ty.class.0 ≡ Some m → slice_get P.methods m ≡ Some k
      → Contains (make_members P R H) (make_member P R H z.number z.ty.class.0 m k)
  makes_has s m z k e object has at =
      let x = make_member P R H z.number z.ty.class.0 m k in
      each_has (site_member P R H) 0 (sites_of P) s z x e s (omega arith)
      (when_has (z.ty.dim == 0) (option_map_or (maker_member P R H z.number z.ty.class.0) (maker_of P z.ty.class.0) []) x object
      (subst (λ o. Contains (option_map_or (maker_member P R H z.number z.ty.class.0) o []) x) (sym has)
      (subst (λ o. Contains (option_map_or (λ k. make_member P R H z.number z.ty.class.0 m k ∷ []) o []) x) (sym at) (first x []))))

  -- and their holder has no field
  pub no_field_made : (i : ℕ) (x : FieldAt) → Contains (fields_of (suc i) (make_members P R H)) x → ⊥
  no_field_made i x h =
      let z = member_field_from (suc i) (make_members P R H) x h in
      let t = makes_from z.0 z.1 in
      let c = subst (λ v. Contains (declared_field (suc i) v) x) (sym t.is) z.2 in
      omega (arith, c.1)
