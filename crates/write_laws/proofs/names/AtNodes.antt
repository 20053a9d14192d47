-- The members that the columns and the fillers give the type of a node are apart.
use Rattle.std.proofs.Common.{◌≡◌, ℕ, ◌+◌, ◌<◌, ◌&&◌, ◌||◌, Bool, true, false, List, [], ◌∷◌, Option, Some, None, Contains, refl, sym, ap, ◌∙◌, subst, arith, inl, inr, ⊎_elim}
use Rattle.std.specs.Prelude.{◌⊎◌, nat_lt, not, map, slice_get, length, option_and_then}
use Rattle.std.specs.Option.{option_map_or}
use Rattle.std.proofs.lemmas.Bool.{false≢true, and_from, and_parts, eq-eqb, lt-ltb, not-true}
use Rattle.std.proofs.lemmas.List.Elements.{Contains-append_cases}
use Rattle.java_tree.specs.declared.Modifier.{Modifier}
use Rattle.java_tree.specs.Syntax.{HeadTree, MemberTree, FieldTree, MethodTree, MakerTree, Statements}
use Rattle.java_core.specs.Programs.{Plain, PlainField, PlainMethod, PlainSlot}
use Rattle.java_core.specs.Classes.{slot_of_method}
use Rattle.kaba_order.specs.Orders.{is_live}
use Rattle.kaba_bits.specs.Sets.{first_below}
use Rattle.kaba_bits.proofs.FirstLemmas.{first_below_None, when-None}
use Rattle.kaba_bits.proofs.SetLemmas.{bit-below}
use Rattle.fact_model.specs.Items.{column_kind, column_slot}
use Rattle.fact_model.specs.Classes.{is_def, is_slot}
use Rattle.fact_model.specs.declared.facts.Facts.{Facts}
use Rattle.fact_model.specs.declared.facts.ColumnInfo.{ColumnInfo}
use Rattle.fact_model.specs.declared.facts.ColKind.{ColKind}
use Rattle.fact_model.specs.declared.facts.ColKind.TheVariants as kind
use Rattle.fact_model.specs.declared.sets.PointsTo.{PointsTo}
use Rattle.fact_model.proofs.ClassLemmas.{slot_says as slot_is}
use Rattle.hier_model.specs.Hierarchies.{Hierarchy, stands_at, is_offered, is_method, offers_slot, member_name, is_class_node}
use Rattle.hier_model.proofs.AnyLemmas.{any_below_some, any_below_has}
use Rattle.hier_model.specs.Edits.{is_one_slot}
use Rattle.hier_rules.specs.declared.broken.Rule.TheVariants.{B6}
use Rattle.hier_rules.specs.Instances.{of_column}
use Rattle.hier_rules.specs.Obligations.{is_body_at, two_bodies}
use Rattle.flow_rules.specs.declared.items.ColumnItem.{ColumnItem}
use Rattle.flow_rules.specs.declared.items.ColumnItem.TheVariants as column
use Rattle.flow_rules.specs.Ordered.{each, when}
use Rattle.flow_rules.specs.Facts.{slot_in, kind_of}
use Rattle.flow_rules.proofs.Listed.{index_at, map_from, when_from, each_from_zero, one_from, flat_from}
use Rattle.rebuild_laws.specs.looks.Known.{AreItemColumns}
use Rattle.rebuild_laws.proofs.given.Given.{columns as columns_are}
use Rattle.rebuild_laws.proofs.given.Apart.{names_apart}
use Rattle.rebuild_model.specs.Members.{is_made_at, offers_body, is_headed, is_filled}
use Rattle.write_model.specs.Names.{nowhere}
use Rattle.write_model.specs.Members.{is_declaration, filling, head, first_head, slot_head, field_member, body_member, bodyless, is_first_there, heads_of_slot, column_heads, own_member, column_members, filler, class_members, interface_heads, slot_filler, filled_slots}
use Rattle.write_laws.proofs.rebuilds.Nodes.{items}
use Rattle.write_laws.proofs.rebuilds.Members.{IsHeadTree, first_head_from, in_class, as_filler, flat_option_from}
use Rattle.write_laws.proofs.names.Origins.{R}
use Rattle.write_laws.specs.names.Laws.{IsNamedProgram}
use Rattle.write_laws.proofs.names.Variables.{column_number, field_name_is}
use Rattle.write_laws.proofs.names.Instances.{OffersSlot, one_slot, offered_there, name_is, body_offers}
use Rattle.write_laws.proofs.names.Once.{Once, append_once, each_once, one_once, when_once, map_once, flat_once}
use Rattle.write_laws.proofs.names.Declared.{SameMember, SameHead}
use Rattle.hier_laws.proofs.Unbroken.{none_broken}
use Rattle.std.specs.List.{flat_map}
use Rattle.write_laws.proofs.rebuilds.FilledSlots.{slots_once}

pub option_once : {A B : Type 0} (agree : B → B → Type 0) (g : A → List B) (o : Option A) → ((k : A) → Once agree (g k)) → Once agree (option_map_or g o [])
option_once agree g None h = tt
option_once agree g (Some k) h = h k

pub all_once : {A B : Type 0} (agree : B → B → Type 0) (f : ℕ → A → List B) (xs : List A)
    → ((i : ℕ) (x : A) → slice_get xs i ≡ Some x → Once agree (f i x))
    → ((i j : ℕ) (x y : A) (a b : B) → slice_get xs i ≡ Some x → slice_get xs j ≡ Some y → i < j → Contains (f i x) a → Contains (f j y) b → agree a b → ⊥)
    → Once agree (each f 0 xs)
all_once agree f xs one apart =
    each_once agree f 0 xs
    (λ i j x e h. subst (λ z. Once agree (f z x)) (back i j h) (one i x e))
    (λ i j k l x y a b p q lt u v c d. apart i j x y a b p q lt
    (subst (λ z. Contains (f z x) a) (sym (back i k u)) c) (subst (λ z. Contains (f z y) b) (sym (back j l v)) d))
  where
    back : (i j : ℕ) → j ≡ 0 + i → i ≡ j
    back i j h = omega (arith, h)

headed_parts : (c made bodied : Bool) → c ≡ true → (not c || (not made && not bodied)) ≡ true → (made ≡ false) × (bodied ≡ false)
headed_parts true false false e h = (refl, refl)
headed_parts true false true e h = absurd (false≢true h)
headed_parts true true bodied e h = absurd (false≢true h)
headed_parts false made bodied e h = absurd (false≢true e)

pub declaration_kind : (k : ColKind) → is_declaration k ≡ true → k ≡ kind.Dcl
declaration_kind kind.Dcl h = refl
declaration_kind kind.Fld h = absurd (false≢true h)
declaration_kind kind.Def h = absurd (false≢true h)
declaration_kind kind.Is h = absurd (false≢true h)

method_item : (P : Plain) (i : ColumnItem) (s : ℕ) → slot_in P i ≡ Some s → is_method (kind_of i) ≡ true
method_item P (column.Dcl m) s h = refl
method_item P (column.Def m) s h = refl
method_item P (column.Fld m) s h = absurd (cc h)
method_item P (column.Is m) s h = absurd (cc h)

module _ {P : Plain} {F : Facts} {pt : PointsTo} {H : Hierarchy} (G : IsNamedProgram P F pt H) where
  columns : AreItemColumns P F
  columns = columns_are P G.formed F G.facts

  abbrev Offers : ℕ → ℕ → List ℕ → Type 0
  Offers n s x = OffersSlot G n s x

  pub slot_first : (s : ℕ) (sig : PlainSlot) → slice_get P.slots s ≡ Some sig → slot_of_method P sig.first ≡ Some s
  slot_first s sig e = let z = G.formed.slots s sig e in ap (option_and_then (λ (y : PlainMethod). y.slot)) z.stands ∙ z.of

  -- a head at a node
  pub record HeadAt (n c : ℕ) (h : HeadTree) : Type 0 where
    pub kind : column_kind F c ≡ kind.Dcl
    pub slot : ℕ
    pub of_slot : column_slot F c ≡ Some slot
    pub at : stands_at H n c ≡ true
    pub headed : is_headed F H n slot ≡ true
    pub leading : is_first_there F H n c slot ≡ true
    pub offers : Offers n slot h.name

  heads_in : (mods : List Modifier) (n c : ℕ) (k : ColumnInfo) (h : HeadTree) → is_live H.order n ≡ true → slice_get F.columns.items c ≡ Some k
      → stands_at H n c ≡ true → Contains (column_heads P (R P F H) F H mods n c k) h → HeadAt n c h
  heads_in mods n c k h live e at d =
      let z = when_from (is_declaration k.kind) (heads_of_slot P (R P F H) F H mods n c k.slot) h d in go k.slot refl z.0 z.1
    where
      go : (o : Option ℕ) → k.slot ≡ o → is_declaration k.kind ≡ true → Contains (heads_of_slot P (R P F H) F H mods n c o) h → HeadAt n c h
      go None p q x = absurd (let l = x.1 in omega (arith, l))
      go (Some s) p q x =
          let z = when_from (is_headed F H n s && is_first_there F H n c s) (slot_head P (R P F H) H mods s) h x in
          let w = and_parts (is_headed F H n s) (is_first_there F H n c s) z.0 in
          let y = flat_option_from (first_head P (R P F H) H mods) (slice_get P.slots s) h z.1 in
          let t : IsHeadTree P (R P F H) F H mods s h = first_head_from P (R P F H) F H mods s y.0 h y.1 y.2 in
          let info = index_at F.columns.items c (record { kind = kind.Is; class = record { 0 = 0 }; slot = None; name = []; label = [] }) k e in
          let kinded : column_kind F c ≡ kind.Dcl = ap (λ (i : ColumnInfo). i.kind) info ∙ declaration_kind k.kind q in
          let slotted : column_slot F c ≡ Some s = ap (λ (i : ColumnInfo). i.slot) info ∙ p in
          let offers : Offers n s h.name = record {
            number = c;
            kind = ap is_method kinded;
            slot = slotted;
            offered = offered_there G n c live at;
            name = ap (λ (i : HeadTree). i.name) (sym t.is)
                ∙ name_is G t.signature.first s c (slot_first s t.signature t.slot_stands) (ap is_method kinded) slotted;
          } in
          record { kind = kinded; slot = s; of_slot = slotted; at = at; headed = w.0; leading = w.1; offers = offers }

  heads_once : (mods : List Modifier) (n c : ℕ) (k : ColumnInfo) → Once SameHead (column_heads P (R P F H) F H mods n c k)
  heads_once mods n c k = when_once SameHead (is_declaration k.kind) _ (go k.slot)
    where
      go : (o : Option ℕ) → Once SameHead (heads_of_slot P (R P F H) F H mods n c o)
      go None = tt
      go (Some s) =
          when_once SameHead (is_headed F H n s && is_first_there F H n c s) _
          (option_once SameHead (first_head P (R P F H) H mods) (slice_get P.slots s)
          (λ sig. option_once SameHead (λ k. head P (R P F H) H mods ((R P F H).method_name sig.first) sig.first k ∷ []) (slice_get P.methods sig.first)
          (λ k. one_once SameHead (head P (R P F H) H mods ((R P F H).method_name sig.first) sig.first k))))

  -- two columns give no two heads of one name
  two_heads : (n c d : ℕ) (h k : HeadTree) → c < d → HeadAt n c h → HeadAt n d k → h.name ≡ k.name → ⊥
  two_heads n c d h k lt a b e =
      let same = one_slot G n a.slot b.slot k.name (subst (Offers n a.slot) e a.offers) b.offers in
      let slot : is_slot (column_slot F c) b.slot ≡ true = ap (λ o. is_slot o b.slot) (a.of_slot ∙ ap Some same) ∙ eq-eqb b.slot b.slot refl in
      false≢true (sym (not-true _ b.leading)
      ∙ any_below_has (λ e. is_declaration (column_kind F e) && (is_slot (column_slot F e) b.slot && stands_at H n e)) d c lt
      (and_from (is_declaration (column_kind F c)) (is_slot (column_slot F c) b.slot && stands_at H n c) (ap is_declaration a.kind)
      (and_from (is_slot (column_slot F c) b.slot) (stands_at H n c) slot a.at)))

  pub interface_once : (n : ℕ) → is_live H.order n ≡ true → Once SameHead (interface_heads P (R P F H) F H n)
  interface_once n live =
      all_once SameHead (λ c k. when (stands_at H n c) (column_heads P (R P F H) F H [] n c k)) F.columns.items
      (λ c k e. when_once SameHead (stands_at H n c) _ (heads_once [] n c k))
      (λ c d k l a b p q lt x y e.
      let u = when_from (stands_at H n c) _ a x in let v = when_from (stands_at H n d) _ b y in
      two_heads n c d a b lt (heads_in [] n c k a live p u.0 u.1) (heads_in [] n d l b live q v.0 v.1) e)

  -- ---- fields and bodies

  pub data OwnAt (n c : ℕ) : MemberTree → Type 0 where
    field_at : (f : ℕ) (k : PlainField) → column_kind F c ≡ kind.Fld → stands_at H n c ≡ true → (R P F H).field_name f ≡ member_name H c
        → OwnAt n c (field_member P (R P F H) H f k)
    body_at : (m s : ℕ) (k : PlainMethod) → column_kind F c ≡ kind.Def → column_slot F c ≡ Some s → stands_at H n c ≡ true → c < length F.columns.items
        → Offers n s ((R P F H).method_name m)
        → OwnAt n c (body_member P (R P F H) H m k)

  own_in : (n c : ℕ) (o : Option ColumnItem) (x : MemberTree) → is_live H.order n ≡ true → slice_get (items P F H) c ≡ o → stands_at H n c ≡ true
      → Contains (own_member P (R P F H) F H o) x → OwnAt n c x
  own_in n c (Some (column.Fld f)) x live e at d =
      let z = flat_option_from (λ k. field_member P (R P F H) H f k ∷ []) (slice_get P.fields f) x d in
      let number = column_number G c (column.Fld f) e in
      subst (OwnAt n c) (one_from _ x z.2) (field_at f z.0 (columns.kind (column.Fld f) c number) at (field_name_is G c f number))
  own_in n c (Some (column.Def m)) x live e at d =
      let z = flat_option_from (λ k. body_member P (R P F H) H m k ∷ []) (slice_get P.methods m) x d in
      let number = column_number G c (column.Def m) e in
      let slot = columns.slotted (column.Def m) c number refl in
      subst (OwnAt n c) (one_from _ x z.2)
      (body_at m slot.0 z.0 (columns.kind (column.Def m) c number) (columns.slot (column.Def m) c number ∙ slot.1) at
      (columns.below (column.Def m) c number) (body_offers G n c m slot.0 live e at slot.1))
  own_in n c (Some (column.Dcl m)) x live e at d = absurd (let l = d.1 in omega (arith, l))
  own_in n c (Some (column.Is k)) x live e at d = absurd (let l = d.1 in omega (arith, l))
  own_in n c None x live e at d = absurd (let l = d.1 in omega (arith, l))

  own_once : (o : Option ColumnItem) → Once SameMember (own_member P (R P F H) F H o)
  own_once (Some (column.Fld f)) =
      option_once SameMember (λ k. field_member P (R P F H) H f k ∷ []) (slice_get P.fields f)
      (λ k. one_once SameMember (field_member P (R P F H) H f k))
  own_once (Some (column.Def m)) =
      option_once SameMember (λ k. body_member P (R P F H) H m k ∷ []) (slice_get P.methods m)
      (λ k. one_once SameMember (body_member P (R P F H) H m k))
  own_once (Some (column.Dcl m)) = tt
  own_once (Some (column.Is k)) = tt
  own_once None = tt

  -- no node has two bodies of one slot
  two_at : (n c d s : ℕ) → is_live H.order n ≡ true → c < d → d < length F.columns.items → column_kind F c ≡ kind.Def → column_kind F d ≡ kind.Def
      → column_slot F c ≡ Some s → column_slot F d ≡ Some s → stands_at H n c ≡ true → stands_at H n d ≡ true → ⊥
  two_at n c d s live lt below k l a b u v =
      let one = first_below_None (λ n. first_below (length F.columns.items) (λ c. first_below (length F.columns.items) (two_bodies F H n c)))
      (length H.order.live) n (none_broken F pt H G.unbroken).bodies (bit-below H.order.live n live) in
      let two = first_below_None (λ c. first_below (length F.columns.items) (two_bodies F H n c)) (length F.columns.items) c one
      (let m = below in omega (arith, lt, m)) in
      let three = first_below_None (two_bodies F H n c) (length F.columns.items) d two below in
      let first : is_body_at F H n c ≡ true = and_from (stands_at H n c) (is_def (column_kind F c)) u (ap is_def k) in
      let second : is_body_at F H n d ≡ true = and_from (stands_at H n d) (is_def (column_kind F d)) v (ap is_def l) in
      let same : is_one_slot (column_slot F c) (column_slot F d) ≡ true = ap (λ o. is_one_slot o (column_slot F d)) a ∙ ap (λ o. is_one_slot (Some s) o) b
      ∙ eq-eqb s s refl in
      false≢true (sym (when-None (is_body_at F H n c && (is_body_at F H n d && nat_lt c d && is_one_slot (column_slot F c) (column_slot F d)))
      (of_column B6 n d) three)
      ∙ and_from (is_body_at F H n c) (is_body_at F H n d && nat_lt c d && is_one_slot (column_slot F c) (column_slot F d)) first
      (and_from (is_body_at F H n d && nat_lt c d) (is_one_slot (column_slot F c) (column_slot F d))
      (and_from (is_body_at F H n d) (nat_lt c d) second (lt-ltb c d lt)) same))

  two_own : (n c d : ℕ) (x y : MemberTree) → is_live H.order n ≡ true → c < d → OwnAt n c x → OwnAt n d y → SameMember x y → ⊥
  two_own n c d _ _ live lt (field_at f k kd at name) (field_at g l ld there other) e =
      let same = (names_apart F pt H G.hierarchy.sized.order G.unbroken).fields n c d kd ld (offered_there G n c live at)
      (offered_there G n d live there) (sym name ∙ e ∙ other) in
      omega (arith, lt, same)
  two_own n c d _ _ live lt (field_at f k kd at name) (body_at m s l ld sl there below off) e = e
  two_own n c d _ _ live lt (body_at m s k kd sl at below off) (field_at g l ld there other) e = e
  two_own n c d _ _ live lt (body_at m s k kd sl at below off) (body_at g t l ld tl there under oft) e =
      let same = one_slot G n s t ((R P F H).method_name g) (subst (Offers n s) e off) oft in
      two_at n c d t live lt under kd ld (sl ∙ ap Some same) tl at there

  -- a body at a node is offered there
  body_offered : (n c s : ℕ) → is_live H.order n ≡ true → column_kind F c ≡ kind.Def → column_slot F c ≡ Some s → stands_at H n c ≡ true
      → c < length F.columns.items → offers_body F H n s ≡ true
  body_offered n c s live k e at below =
      any_below_has (λ c. is_def (column_kind F c) && (is_slot (column_slot F c) s && is_offered H n c)) (length F.columns.items) c below
      (and_from (is_def (column_kind F c)) (is_slot (column_slot F c) s && is_offered H n c) (ap is_def k)
      (and_from (is_slot (column_slot F c) s) (is_offered H n c) (ap (λ o. is_slot o s) e ∙ eq-eqb s s refl) (offered_there G n c live at)))

  head_is_bodyless : (n c : ℕ) (h : HeadTree) → is_class_node F H n ≡ true → (a : HeadAt n c h)
      → (is_made_at F H n ≡ false) × (offers_body F H n a.slot ≡ false)
  head_is_bodyless n c h class a = headed_parts (is_class_node F H n) (is_made_at F H n) (offers_body F H n a.slot) class a.headed

  -- a head is of no field's and of no body's name
  head_own : (n c d : ℕ) (h : HeadTree) (x : MemberTree) → is_live H.order n ≡ true → is_class_node F H n ≡ true → HeadAt n c h → OwnAt n d x
      → SameMember (bodyless h) x → ⊥
  head_own n c d h _ live class a (field_at f k kd at name) e = e
  head_own n c d h _ live class a (body_at m s k kd sl at below off) e =
      let same = one_slot G n a.slot s ((R P F H).method_name m) (subst (Offers n a.slot) e a.offers) off in
      false≢true (sym (head_is_bodyless n c h class a).1 ∙ ap (offers_body F H n) same ∙ body_offered n d s live kd sl at below)

  turned : (x y : MemberTree) → SameMember x y → SameMember y x
  turned (FieldTree m t x p) (FieldTree n u y q) e = sym e
  turned (MethodTree h b p) (MethodTree k c q) e = sym e
  turned (FieldTree m t x p) (MethodTree k c q) e = e
  turned (MethodTree h b p) (FieldTree n u y q) e = e
  turned (FieldTree m t x p) (MakerTree k n qs u ss q) e = e
  turned (MethodTree h b p) (MakerTree k n qs u ss q) e = sym e
  turned (MakerTree m n qs u ss p) (FieldTree k t x q) e = e
  turned (MakerTree m n qs u ss p) (MethodTree k c q) e = sym e
  turned (MakerTree m n qs u ss p) (MakerTree k x rs v ts q) e = sym e

  -- what a column gives a class
  abbrev AtColumn : ℕ → ℕ → MemberTree → Type 0
  AtColumn n c x = ((h : HeadTree) × HeadAt n c h × (bodyless h ≡ x)) ⊎ OwnAt n c x

  at_column : (n c : ℕ) (k : ColumnInfo) (x : MemberTree) → is_live H.order n ≡ true → slice_get F.columns.items c ≡ Some k → stands_at H n c ≡ true
      → Contains (column_members P (R P F H) F H (items P F H) n c k) x → AtColumn n c x
  at_column n c k x live e at d =
      ⊎_elim
      (λ y. let z = map_from bodyless (column_heads P (R P F H) F H (in_class P (R P F H) F H) n c k) x y in
      inl (z.0, heads_in (in_class P (R P F H) F H) n c k z.0 live e at z.1, z.2))
      (λ y. inr (own_in n c (slice_get (items P F H) c) x live refl at y))
      (Contains-append_cases (map bodyless (column_heads P (R P F H) F H (in_class P (R P F H) F H) n c k))
      (own_member P (R P F H) F H (slice_get (items P F H) c)) x d)

  two_columns : (n c d : ℕ) (x y : MemberTree) → is_live H.order n ≡ true → is_class_node F H n ≡ true → c < d → AtColumn n c x → AtColumn n d y
      → SameMember x y → ⊥
  two_columns n c d x y live class lt (inl a) (inl b) e =
      two_heads n c d a.0 b.0 lt a.1 b.1 (subst (λ z. SameMember (bodyless a.0) z) (sym b.2) (subst (λ z. SameMember z y) (sym a.2) e))
  two_columns n c d x y live class lt (inl a) (inr b) e = head_own n c d a.0 y live class a.1 b (subst (λ z. SameMember z y) (sym a.2) e)
  two_columns n c d x y live class lt (inr a) (inl b) e =
      head_own n d c b.0 x live class b.1 a (subst (λ z. SameMember z x) (sym b.2) (turned x y e))
  two_columns n c d x y live class lt (inr a) (inr b) e = two_own n c d x y live lt a b e

  one_column : (n c : ℕ) (k : ColumnInfo) → is_live H.order n ≡ true → is_class_node F H n ≡ true → slice_get F.columns.items c ≡ Some k
      → Once SameMember (when (stands_at H n c) (column_members P (R P F H) F H (items P F H) n c k))
  one_column n c k live class e = go (stands_at H n c) refl
    where
      go : (b : Bool) → stands_at H n c ≡ b → Once SameMember (when b (column_members P (R P F H) F H (items P F H) n c k))
      go false at = tt
      go true at =
          append_once SameMember (map bodyless (column_heads P (R P F H) F H (in_class P (R P F H) F H) n c k))
          (own_member P (R P F H) F H (slice_get (items P F H) c))
          (map_once SameMember bodyless (column_heads P (R P F H) F H (in_class P (R P F H) F H) n c k)
          (heads_once (in_class P (R P F H) F H) n c k))
          (own_once (slice_get (items P F H) c))
          (λ x y a b s.
          let z = map_from bodyless (column_heads P (R P F H) F H (in_class P (R P F H) F H) n c k) x a in
          head_own n c c z.0 y live class (heads_in (in_class P (R P F H) F H) n c k z.0 live e at z.1)
          (own_in n c (slice_get (items P F H) c) y live refl at b) (subst (λ w. SameMember w y) (sym z.2) s))

  -- ---- fillers

  pub record FillerAt (n s : ℕ) (x : MemberTree) : Type 0 where
    pub filled : is_filled F H n s ≡ true
    pub head : HeadTree
    pub body : Statements
    pub is : MethodTree head (Some body) nowhere ≡ x
    pub offers : Offers n s head.name

  pub filler_offers : (n s : ℕ) (x : List ℕ) (sig : PlainSlot) → is_filled F H n s ≡ true → slice_get P.slots s ≡ Some sig
      → x ≡ (R P F H).method_name sig.first → Offers n s x
  filler_offers n s x sig h e name =
      let w = and_parts (is_made_at F H n) (offers_slot F H n s && not (offers_body F H n s)) h in
      let v = and_parts (offers_slot F H n s) (not (offers_body F H n s)) w.1 in
      let c = any_below_some (λ c. is_slot (column_slot F c) s && is_offered H n c) (length F.columns.items) v.0 in
      let u = and_parts (is_slot (column_slot F c.0) s) (is_offered H n c.0) c.2 in
      let slot = slot_is (column_slot F c.0) s u.0 in
      let i = columns.item c.0 c.1 in
      let method = ap is_method (columns.kind i.0 c.0 i.1) ∙ method_item P i.0 s (sym (columns.slot i.0 c.0 i.1) ∙ slot) in
      record {
        number = c.0;
        kind = method;
        slot = slot;
        offered = u.1;
        name = name ∙ name_is G sig.first s c.0 (slot_first s sig e) method slot;
      }

  filler_in : (n s : ℕ) (sig : PlainSlot) (x : MemberTree) → slice_get P.slots s ≡ Some sig → Contains (filler P (R P F H) F H n s sig) x → FillerAt n s x
  filler_in n s sig x e d =
      let z = when_from (is_filled F H n s)
      (map (λ h. MethodTree h (Some (filling sig.result)) nowhere) (first_head P (R P F H) H (as_filler P (R P F H) F H) sig)) x d in
      let y = map_from (λ h. MethodTree h (Some (filling sig.result)) nowhere) (first_head P (R P F H) H (as_filler P (R P F H) F H) sig) x z.1 in
      let o = flat_option_from (λ k. head P (R P F H) H (as_filler P (R P F H) F H) ((R P F H).method_name sig.first) sig.first k ∷ [])
      (slice_get P.methods sig.first) y.0 y.1 in
      record {
        filled = z.0;
        head = y.0;
        body = filling sig.result;
        is = y.2;
        offers = filler_offers n s y.0.name sig z.0 e (ap (λ (i : HeadTree). i.name) (sym (one_from _ y.0 o.2)));
      }

  filler_once : (n s : ℕ) (sig : PlainSlot) → Once SameMember (filler P (R P F H) F H n s sig)
  filler_once n s sig =
      when_once SameMember (is_filled F H n s) _
      (map_once SameMember (λ h. MethodTree h (Some (filling sig.result)) nowhere) (first_head P (R P F H) H (as_filler P (R P F H) F H) sig)
      (option_once SameHead (λ k. head P (R P F H) H (as_filler P (R P F H) F H) ((R P F H).method_name sig.first) sig.first k ∷ [])
      (slice_get P.methods sig.first)
      (λ k. one_once SameHead (head P (R P F H) H (as_filler P (R P F H) F H) ((R P F H).method_name sig.first) sig.first k))))

  two_fillers : (n s t : ℕ) (x y : MemberTree) → (s ≡ t → ⊥) → FillerAt n s x → FillerAt n t y → SameMember x y → ⊥
  two_fillers n s t x y other a b e =
      other (one_slot G n s t b.head.name
      (subst (Offers n s) (subst (λ z. SameMember (MethodTree a.head (Some a.body) nowhere) z) (sym b.is) (subst (λ z. SameMember z y) (sym a.is) e)) a.offers)
      b.offers)

  slot_in_from : (n s : ℕ) (x : MemberTree) → Contains (slot_filler P (R P F H) F H n s) x → FillerAt n s x
  slot_in_from n s x d =
      let z = flat_option_from (filler P (R P F H) F H n s) (slice_get P.slots s) x d in
      filler_in n s z.0 x z.1 z.2

  own_filler : (n c s : ℕ) (h : HeadTree) (b : Statements) (x : MemberTree) → is_live H.order n ≡ true → offers_body F H n s ≡ false → Offers n s h.name
      → OwnAt n c x → SameMember x (MethodTree h (Some b) nowhere) → ⊥
  own_filler n c s h b _ live none o (field_at f k kd at name) e = e
  own_filler n c s h b _ live none o (body_at m t k kd sl at below off) e =
      let same = one_slot G n s t ((R P F H).method_name m) (subst (Offers n s) (sym e) o) off in
      false≢true (sym none ∙ ap (offers_body F H n) same ∙ body_offered n c t live kd sl at below)

  column_filler : (n c s : ℕ) (x y : MemberTree) → is_live H.order n ≡ true → is_class_node F H n ≡ true → AtColumn n c x → FillerAt n s y
      → SameMember x y → ⊥
  column_filler n c s x y live class (inl a) b e =
      false≢true (sym (head_is_bodyless n c a.0 class a.1).0
      ∙ (and_parts (is_made_at F H n) (offers_slot F H n s && not (offers_body F H n s)) b.filled).0)
  column_filler n c s x y live class (inr a) b e =
      let w = and_parts (is_made_at F H n) (offers_slot F H n s && not (offers_body F H n s)) b.filled in
      let v = and_parts (offers_slot F H n s) (not (offers_body F H n s)) w.1 in
      own_filler n c s b.head b.body x live (not-true _ v.1) b.offers a (subst (λ z. SameMember x z) (sym b.is) e)

  pub class_once : (n : ℕ) → is_live H.order n ≡ true → is_class_node F H n ≡ true
      → Once SameMember (class_members P (R P F H) F H (items P F H) n)
  class_once n live class =
      append_once SameMember (each f 0 F.columns.items) (flat_map (slot_filler P (R P F H) F H n) (filled_slots P))
      (all_once SameMember f F.columns.items
      (λ c k e. one_column n c k live class e)
      (λ c d k l a b p q lt x y e. two_columns n c d a b live class lt (found c k a p x) (found d l b q y) e))
      (flat_once SameMember (λ s t. s ≡ t) (slot_filler P (R P F H) F H n) (filled_slots P) (slots_once P G.formed)
      (λ s. option_once SameMember (filler P (R P F H) F H n s) (slice_get P.slots s) (filler_once n s))
      (λ s t a b other x y e. two_fillers n s t a b other (slot_in_from n s a x) (slot_in_from n t b y) e))
      (λ a b x y e.
      let u = each_from_zero f F.columns.items a x in
      let v = flat_from (slot_filler P (R P F H) F H n) (filled_slots P) b y in
      column_filler n u.0 v.0 a b live class (found u.0 u.1 a u.2 u.3) (slot_in_from n v.0 b v.2) e)
    where
      f : ℕ → ColumnInfo → List MemberTree
      f c k = when (stands_at H n c) (column_members P (R P F H) F H (items P F H) n c k)

      found : (c : ℕ) (k : ColumnInfo) (x : MemberTree) → slice_get F.columns.items c ≡ Some k → Contains (f c k) x → AtColumn n c x
      found c k x e d =
          let z = when_from (stands_at H n c) (column_members P (R P F H) F H (items P F H) n c k) x d in at_column n c k x live e z.0 z.1
