-- The methods of one name at and above a type of the written tree are of one slot.
use Rattle.std.proofs.Common.{◌≡◌, ℕ, zero, suc, ◌+◌, ◌<◌, Bool, true, false, List, [], ◌∷◌, ◌++◌, Option, Some, None, Contains, refl, sym, ap, ◌∙◌, subst, arith, inl, inr, ⊎_elim}
use Rattle.std.specs.Prelude.{◌⊎◌, nat_lt, map, slice_get, length, option_and_then}
use Rattle.std.specs.Option.{option_map, option_map_or, option_to_list}
use Rattle.std.proofs.lemmas.Bool.{false≢true, lt-ltb}
use Rattle.std.proofs.lemmas.Option.{same_Some, slice_get_within}
use Rattle.kaba_base.specs.declared.ClassId.{ClassId}
use Rattle.kaba_base.specs.declared.NodeId.{NodeId}
use Rattle.java_tree.specs.declared.Modifier.{Modifier}
use Rattle.java_tree.specs.declared.TypeName.{TypeName}
use Rattle.java_tree.specs.Syntax.{HeadTree, DeclTree}
use Rattle.java_core.specs.declared.Ty.{Ty}
use Rattle.java_core.specs.Programs.{Plain, PlainClass, PlainLocal, PlainMethod, PlainSlot}
use Rattle.java_core.specs.Classes.{supers_of, IsSubclass, same_class, through}
use Rattle.java_core.specs.Types.{types_of}
use Rattle.kaba_order.specs.Orders.{is_live, is_le}
use Rattle.fact_model.specs.Items.{column_kind, column_slot}
use Rattle.fact_model.specs.declared.facts.Facts.{Facts}
use Rattle.fact_model.specs.declared.facts.ColumnInfo.{ColumnInfo}
use Rattle.fact_model.specs.declared.facts.ColKind.TheVariants as kind
use Rattle.fact_model.specs.declared.sets.PointsTo.{PointsTo}
use Rattle.hier_model.specs.Hierarchies.{Hierarchy, place_of_column, is_above, is_method, is_class_node}
use Rattle.flow_rules.specs.declared.items.RowItem.{RowItem}
use Rattle.flow_rules.specs.declared.items.RowItem.TheVariants as row
use Rattle.flow_rules.specs.declared.items.ColumnItem.TheVariants as column
use Rattle.flow_rules.specs.Operands.{variable_row, variable_in, result_in}
use Rattle.flow_rules.specs.Ordered.{each}
use Rattle.flow_rules.proofs.Listed.{map_at, contains_at, one_from, index_at}
use Rattle.rebuild_laws.specs.looks.Known.{AreItemColumns}
use Rattle.rebuild_laws.proofs.given.Given.{columns as columns_are}
use Rattle.name_rules.specs.Outline.{MethodAt, methods_in, method_outline, param_outline, type_meant, class_outline, name_of, outline, is_static, is_static_word, has_word}
use Rattle.name_rules.specs.Conditions.{AreOneSlot}
use Rattle.write_model.specs.Names.{written_type}
use Rattle.write_model.specs.Members.{param, head}
use Rattle.write_laws.proofs.rebuilds.Apart.{no_holder, no_makers}
use Rattle.write_laws.proofs.rebuilds.Nodes.{node_tree, old_tree, tree_name, Declares, a_node, a_holder, declares, makers_tree, a_makers}
use Rattle.write_laws.proofs.rebuilds.Members.{IsHeadTree, IsHeadAt}
use Rattle.write_laws.proofs.names.Origins.{written, R, IsNodeAt, HasMethod, node_body, node_head, node_filler, interface_head, static_method, method_origin, make_method}
use Rattle.write_laws.specs.names.Laws.{IsNamedProgram}
use Rattle.write_laws.proofs.names.Variables.{column_number}
use Rattle.write_laws.proofs.names.Supers.{IsNumber, above_object, above_node, same_node, supers_are}
use Rattle.write_laws.proofs.names.Instances.{OffersSlot, one_slot, offered_there, name_is, body_offers}
use Rattle.write_laws.proofs.names.AtNodes.{slot_first, filler_offers, declaration_kind}
use Rattle.write_laws.proofs.names.Separate.{methods_are_apart}
use Rattle.flow_rules.specs.Facts.{PlainMakers, makers_of, is_holder}

module _ {P : Plain} {F : Facts} {pt : PointsTo} {H : Hierarchy} (G : IsNamedProgram P F pt H) where
  open written P F H use {trees as T, types, program as O}

  -- ---- the types of a method of a slot

  abbrev meant : RowItem → Ty → Ty
  meant i t = type_meant types (written_type P H ((R P F H).row_type i) t)

  abbrev slot_params : ℕ → ℕ → List Ty → List Ty
  slot_params s n ts = each (λ i t. meant (row.Param s i) t ∷ []) n ts

  abbrev written_params : ℕ → PlainMethod → ℕ → List PlainLocal → List Ty
  written_params m k n vs = types_of (map (param_outline types) (each (λ i v. param P (R P F H) H m k i v ∷ []) n vs))

  slot_param : (m s j : ℕ) (k : PlainMethod) → k.slot ≡ Some s → j < length k.params → variable_row m k j ≡ row.Param s j
  slot_param m s j k e h = ap (λ z. variable_in z (nat_lt j (length k.params)) m j) e ∙ ap (λ b. variable_in (Some s) b m j) (lt-ltb j (length k.params) h)

  params_from_slot : (m s : ℕ) (k : PlainMethod) (n : ℕ) (vs : List PlainLocal)
      → ((i j : ℕ) (v : PlainLocal) → j ≡ n + i → slice_get vs i ≡ Some v → variable_row m k j ≡ row.Param s j)
      → written_params m k n vs ≡ slot_params s n (types_of vs)
  params_from_slot m s k n [] f = refl
  params_from_slot m s k n (v ∷ vs) f =
      ap (λ i. meant i v.ty ∷ written_params m k (n + 1) vs) (f 0 n v (omega arith) refl)
      ∙ ap (λ z. meant (row.Param s n) v.ty ∷ z) (params_from_slot m s k (n + 1) vs (λ i j w e d. f (suc i) j w (omega (arith, e)) d))

  -- what is written of a method of a slot has the slot's types
  pub record HasTypes (s : ℕ) (h : HeadTree) : Type 0 where
    pub signature : PlainSlot
    pub stands : slice_get P.slots s ≡ Some signature
    pub params : types_of (map (param_outline types) h.params) ≡ slot_params s 0 signature.params
    pub result : option_map (type_meant types) h.type ≡ option_map (meant (row.Return s)) signature.result

  -- a method of a slot, in the type of a node
  pub record IsOfSlot (x : MethodAt) : Type 0 where
    pub node : ℕ
    pub slot : ℕ
    pub at : IsNumber G x.owner node
    pub offers : OffersSlot G node slot x.head.name
    pub instance : is_static x ≡ false
    pub types : HasTypes slot x.head

  two_maps : (f : Ty → TypeName) (g : Ty → Ty) (o : Option Ty) → ((t : Ty) → type_meant types (f t) ≡ g t)
      → option_map (type_meant types) (option_map f o) ≡ option_map g o
  two_maps f g None h = refl
  two_maps f g (Some t) h = ap Some (h t)

  head_types : (mods : List Modifier) (name : List ℕ) (m s : ℕ) (k : PlainMethod) → slice_get P.methods m ≡ Some k → k.slot ≡ Some s
      → HasTypes s (head P (R P F H) H mods name m k)
  head_types mods name m s k e d =
      let sig = ((G.formed.methods m k e).slots s).0 d in
      record {
        signature = sig.slot;
        stands = sig.stands;
        params = params_from_slot m s k 0 k.params (λ i j v u h. slot_param m s j k d (let lt = slice_get_within k.params i v h in omega (arith, u, lt)))
            ∙ ap (slot_params s 0) sig.params;
        result = two_maps (written_type P H ((R P F H).row_type (result_in k.slot m))) (meant (row.Return s)) k.result
            (λ t. ap (λ o. meant (result_in o m) t) d)
            ∙ ap (option_map (meant (row.Return s))) sig.result;
      }

  first_types : (mods : List Modifier) (s : ℕ) (h : HeadTree) → IsHeadTree P (R P F H) F H mods s h → HasTypes s h
  first_types mods s h t =
      let z = G.formed.slots s t.signature t.slot_stands in
      let one : z.method ≡ t.first = same_Some _ _ (sym z.stands ∙ t.first_stands) in
      subst (HasTypes s) t.is
      (head_types mods ((R P F H).method_name t.signature.first) t.signature.first s t.first t.first_stands
      (ap (λ (y : PlainMethod). y.slot) (sym one) ∙ z.of))

  -- ---- what each method of the tree is

  columns : AreItemColumns P F
  columns = columns_are P G.formed F G.facts

  head_offers : (mods : List Modifier) (n : ℕ) (h : HeadTree) → is_live H.order n ≡ true → (a : IsHeadAt P (R P F H) F H mods n h)
      → OffersSlot G n a.slot h.name
  head_offers mods n h live a =
      let info = index_at F.columns.items a.number (record { kind = kind.Is; class = record { 0 = 0 }; slot = None; name = []; label = [] }) a.info
      a.info_stands in
      let method : is_method (column_kind F a.number) ≡ true = ap (λ (i : ColumnInfo). is_method i.kind) info
      ∙ ap is_method (declaration_kind a.info.kind a.declared) in
      let slotted : column_slot F a.number ≡ Some a.slot = ap (λ (i : ColumnInfo). i.slot) info ∙ a.of_slot in
      record {
        number = a.number;
        kind = method;
        slot = slotted;
        offered = offered_there G n a.number live a.at;
        name = ap (λ (i : HeadTree). i.name) (sym a.tree.is) ∙ name_is G a.tree.signature.first a.slot a.number
            (slot_first G a.slot a.tree.signature a.tree.slot_stands) method slotted;
      }

  numbered : (b : Bool) (n i : ℕ) → IsNodeAt P F H b n i → IsNumber G (suc i) n
  numbered b n i a = record { number = i; is = refl; stands = a.stands; live = a.live }

  -- the declaration of a holder
  data IsAside : DeclTree → Type 0 where
    of_class : (c : ℕ) (k : PlainClass) → slice_get P.classes c ≡ Some k → is_holder P c ≡ true → IsAside (old_tree P F H c k)
    of_makers : (m : PlainMakers) → makers_of P ≡ Some m → IsAside (makers_tree P F H m)

  abbrev IsOld : MethodAt → Type 0
  IsOld x = (i : ℕ) × (d : DeclTree) × IsAside d × (slice_get T i ≡ Some d) × (x.owner ≡ suc i)

  of_types : (x : MethodAt) (n s : ℕ) → IsNumber G x.owner n → OffersSlot G n s x.head.name → is_static x ≡ false → HasTypes s x.head → IsOfSlot x
  of_types x n s at offers instance t = record { node = n; slot = s; at = at; offers = offers; instance = instance; types = t }

  found : (x : MethodAt) → HasMethod P F H x → IsOfSlot x ⊎ IsOld x
  found x (node_body n i c m k a e at o) =
      let number = column_number G c (column.Def m) e in
      let s = columns.slotted (column.Def m) c number refl in
      inl (of_types _ n s.0 (numbered true n i a) (body_offers G n c m s.0 a.live e at s.1) refl
      (head_types _ ((R P F H).method_name m) m s.0 k o (sym (ap (option_and_then (λ (z : PlainMethod). z.slot)) o) ∙ s.1)))
  found x (node_head n i h a d) = inl (of_types _ n d.slot (numbered true n i a) (head_offers _ n h a.live d)
      (ap (λ (y : HeadTree). has_word is_static_word y.mods) (sym d.tree.is)) (first_types _ d.slot h d.tree))
  found x (node_filler n i s h a f d) = inl (of_types _ n s (numbered true n i a)
      (filler_offers G n s h.name d.signature f d.slot_stands (ap (λ (y : HeadTree). y.name) (sym d.is)))
      (ap (λ (y : HeadTree). has_word is_static_word y.mods) (sym d.is)) (first_types _ s h d))
  found x (interface_head n i h a d) = inl (of_types _ n d.slot (numbered false n i a) (head_offers _ n h a.live d)
      (ap (λ (y : HeadTree). has_word is_static_word y.mods) (sym d.tree.is)) (first_types _ d.slot h d.tree))
  found x (static_method c i m k old a e s o) = inr (i, old_tree P F H c k, of_class c k a.class_stands a.holder, a.stands, refl)
  found x (make_method i mk y t a) = inr (i, makers_tree P F H mk, of_makers mk a.has, a.stands, refl)

  -- ---- at and above a type

  owner_there : (x : MethodAt) → IsOfSlot x ⊎ IsOld x → (i : ℕ) × (d : DeclTree) × (x.owner ≡ suc i) × (slice_get T i ≡ Some d)
  owner_there x (inl s) = (s.at.number, node_tree P F H s.node, s.at.is, s.at.stands)
  owner_there x (inr o) = (o.0, o.1, o.4, o.3)

  class_from : (i : ℕ) (w : PlainClass) → slice_get O.classes (suc i) ≡ Some w → (d : DeclTree) × (slice_get T i ≡ Some d)
  unfolding outline
  class_from i w e = let z = map_at (class_outline types) T i w e in (z.0, z.1)

  not_zero : (y j : ℕ) → y ≡ suc j → y ≡ 0 → ⊥
  not_zero y j e z = omega (arith, e, z)

  -- what is at or below a type of the tree is one
  there : (c y j : ℕ) (d : DeclTree) → IsSubclass O c y → y ≡ suc j → slice_get T j ≡ Some d → (i : ℕ) × (e : DeclTree) × (c ≡ suc i) ×
      (slice_get T i ≡ Some e)
  there c _ j d same_class e h = (j, d, e, h)
  there c y j d (through {c = k} a b) e h = by_number c refl
    where
      by_class : (i : ℕ) (o : Option PlainClass) → c ≡ suc i → slice_get O.classes (suc i) ≡ o → (i : ℕ) × (e : DeclTree) × (c ≡ suc i) ×
          (slice_get T i ≡ Some e)
      by_class i None p q =
          let z = subst (λ z. Contains z k)
          (ap (supers_of O) p
          ∙ ap (λ o. option_to_list (option_and_then (λ (k : PlainClass). k.parent) o) ++ option_map_or (λ (k : PlainClass). k.faces) o []) q) a in
          absurd (let l = z.1 in omega (arith, l))
      by_class i (Some w) p q = let z = class_from i w q in (i, z.0, p, z.1)

      by_number : (n : ℕ) → c ≡ n → (i : ℕ) × (e : DeclTree) × (c ≡ suc i) × (slice_get T i ≡ Some e)
      by_number zero p = absurd (not_zero y j e (above_object G c y (through a b) p))
      by_number (suc i) p = by_class i (slice_get O.classes (suc i)) p refl

  -- above a holder is Object alone
  above_holder : (c y i : ℕ) (d : DeclTree) → IsAside d → IsSubclass O c y → c ≡ suc i → slice_get T i ≡ Some d → (y ≡ 0 → ⊥) → y ≡ c
  above_holder c _ i d aside same_class e t n = refl
  above_holder c y i _ (of_class h k f g) (through {c = w} a b) e t n =
      let d = subst (λ z. Contains z w) (ap (supers_of O) e ∙ supers_are G i (old_tree P F H h k) t) a in
      absurd (n (above_object G w.0 y b (ap (λ (x : ClassId). x.0) (sym (one_from _ w d)))))
  above_holder c y i _ (of_makers m f) (through {c = w} a b) e t n =
      let d = subst (λ z. Contains z w) (ap (supers_of O) e ∙ supers_are G i (makers_tree P F H m) t) a in
      absurd (n (above_object G w.0 y b (ap (λ (x : ClassId). x.0) (sym (one_from _ w d)))))

  lifted : (n m s : ℕ) (x : List ℕ) → is_le H.order n m ≡ true → OffersSlot G m s x → OffersSlot G n s x
  lifted n m s x le o = record { number = o.number; kind = o.kind; slot = o.slot; offered = go (place_of_column H o.number) o.offered; name = o.name }
    where
      go : (p : Option NodeId) → is_above H.order m p ≡ true → is_above H.order n p ≡ true
      go None h = absurd (false≢true h)
      go (Some p) h = G.hierarchy.sized.order.transitive n m p.0 le h

  no_aside : (m : ℕ) (d : DeclTree) → is_live H.order m ≡ true → IsAside d → node_tree P F H m ≡ d → ⊥
  no_aside m _ live (of_class c k f g) e =
      no_holder F pt H G.unbroken P G.facts m c k live g f (sym (tree_name P F H (is_class_node F H m) m) ∙ ap name_of e)
  no_aside m _ live (of_makers w f) e =
      no_makers F pt H G.unbroken P G.facts w f m live (sym (tree_name P F H (is_class_node F H m) m) ∙ ap name_of e)

  no_old : (x : MethodAt) (m : ℕ) → IsNumber G x.owner m → IsOld x → ⊥
  no_old x m a o =
      let e = suc_same a.number o.0 (sym a.is ∙ o.4) in
      no_aside m o.1 a.live o.2 (same_Some _ _ (sym a.stands ∙ ap (slice_get T) e ∙ o.3))
    where
      suc_same : (i j : ℕ) → suc i ≡ suc j → i ≡ j
      suc_same i j e = omega (arith, e)

  -- a method at or above a node's type is of a slot that the node offers
  in_node : (c n : ℕ) (x : MethodAt) → IsNumber G c n → IsSubclass O c x.owner → IsOfSlot x ⊎ IsOld x → (a : IsOfSlot x) × OffersSlot G n a.slot x.head.name
  in_node c n x a b (inl s) = (
    s,
    ⊎_elim
        (λ zero. absurd (not_zero x.owner s.at.number s.at.is zero))
        (λ m. lifted n s.node s.slot x.head.name (subst (λ z. is_le H.order n z ≡ true) (same_node G x.owner m.0 s.node m.1 s.at) m.2) s.offers)
        (above_node G c x.owner n a b),
  )
  in_node c n x a b (inr o) =
      absurd (⊎_elim (λ zero. not_zero x.owner o.0 o.4 zero) (λ m. no_old x m.0 m.1 o) (above_node G c x.owner n a b))

  same_slot : (x y : MethodAt) (a : IsOfSlot x) (b : IsOfSlot y) → a.slot ≡ b.slot → AreOneSlot (method_outline types x) (method_outline types y)
  same_slot x y a b e =
      let one : a.types.signature ≡ b.types.signature = same_Some _ _ (sym a.types.stands ∙ ap (slice_get P.slots) e ∙ b.types.stands) in
      record {
        first = a.instance;
        second = b.instance;
        params = a.types.params ∙ ap (λ z. slot_params z 0 a.types.signature.params) e ∙ ap (λ (s : PlainSlot). slot_params b.slot 0 s.params) one
            ∙ sym b.types.params;
        result = a.types.result ∙ ap (λ z. option_map (meant (row.Return z)) a.types.signature.result) e
            ∙ ap (λ (s : PlainSlot). option_map (meant (row.Return b.slot)) s.result) one ∙ sym b.types.result;
      }

  in_aside : (i j c r : ℕ) (x y : MethodAt) (d : DeclTree) → slice_get (methods_in T) i ≡ Some x → slice_get (methods_in T) j ≡ Some y → i < j
      → x.head.name ≡ y.head.name → IsSubclass O c x.owner → IsSubclass O c y.owner → IsOfSlot x ⊎ IsOld x → IsOfSlot y ⊎ IsOld y
      → c ≡ suc r → slice_get T r ≡ Some d → IsAside d → AreOneSlot (method_outline types x) (method_outline types y)
  in_aside i j c r x y d p q lt e a b u v is at aside =
      let w = owner_there x u in
      let z = owner_there y v in
      let one = above_holder c x.owner r d aside a is at (not_zero x.owner w.0 w.2) in
      let two = above_holder c y.owner r d aside b is at (not_zero y.owner z.0 z.2) in
      absurd (methods_are_apart G i j x y p q lt (one ∙ sym two) e)

  in_type : (i j c r : ℕ) (x y : MethodAt) (d : DeclTree) → slice_get (methods_in T) i ≡ Some x → slice_get (methods_in T) j ≡ Some y → i < j
      → x.head.name ≡ y.head.name → IsSubclass O c x.owner → IsSubclass O c y.owner → IsOfSlot x ⊎ IsOld x → IsOfSlot y ⊎ IsOld y
      → c ≡ suc r → slice_get T r ≡ Some d → Declares P F H d → AreOneSlot (method_outline types x) (method_outline types y)
  in_type i j c r x y _ p q lt e a b u v is at (a_node n live) =
      let number : IsNumber G c n = record { number = r; is = is; stands = at; live = live } in
      let s = in_node c n x number a u in
      let t = in_node c n y number b v in
      same_slot x y s.0 t.0 (one_slot G n s.0.slot t.0.slot y.head.name (subst (OffersSlot G n s.0.slot) e s.1) t.1)
  in_type i j c r x y d p q lt e a b u v is at (a_holder h k f g) = in_aside i j c r x y d p q lt e a b u v is at (of_class h k f g)
  in_type i j c r x y d p q lt e a b u v is at (a_makers m f) = in_aside i j c r x y d p q lt e a b u v is at (of_makers m f)

  at_methods : (i j c : ℕ) (x y : MethodAt) → slice_get (methods_in T) i ≡ Some x → slice_get (methods_in T) j ≡ Some y → i < j
      → x.head.name ≡ y.head.name → IsSubclass O c x.owner → IsSubclass O c y.owner → AreOneSlot (method_outline types x) (method_outline types y)
  at_methods i j c x y p q lt e a b =
      let u = found x (method_origin P F H x (contains_at (methods_in T) i x p)) in
      let v = found y (method_origin P F H y (contains_at (methods_in T) j y q)) in
      let w = owner_there x u in
      let z = there c x.owner w.0 w.1 a w.2 w.3 in
      in_type i j c z.0 x y z.1 p q lt e a b u v z.2 z.3 (declares P F H z.0 z.1 z.3)

  outlined : (i : ℕ) (h : PlainMethod) → slice_get O.methods i ≡ Some h → (x : MethodAt) × (slice_get (methods_in T) i ≡ Some x) ×
      (method_outline types x ≡ h)
  unfolding outline
  outlined i h e = map_at (method_outline types) (methods_in T) i h e

  pub slots_are_apart : (i j c : ℕ) (h k : PlainMethod) → slice_get O.methods i ≡ Some h → slice_get O.methods j ≡ Some k → i < j → h.name ≡ k.name
      → IsSubclass O c h.owner → IsSubclass O c k.owner → AreOneSlot h k
  slots_are_apart i j c h k p q lt e a b =
      let u = outlined i h p in
      let v = outlined j k q in
      let x : MethodAt = u.0 in
      let y : MethodAt = v.0 in
      subst (λ z. AreOneSlot z k) u.2
      (subst (λ z. AreOneSlot (method_outline types x) z) v.2
      (at_methods i j c x y u.1 v.1 lt
      (ap (λ (z : PlainMethod). z.name) u.2 ∙ e ∙ ap (λ (z : PlainMethod). z.name) (sym v.2))
      (subst (IsSubclass O c) (ap (λ (z : PlainMethod). z.owner) (sym u.2)) a) (subst (IsSubclass O c) (ap (λ (z : PlainMethod). z.owner) (sym v.2)) b)))
