-- The types of the written tree: each name once, and none of the known ones.
use Rattle.std.proofs.Common.{◌≡◌, ◌≢◌, ℕ, zero, suc, ◌<◌, ◌||◌, ◌&&◌, Bool, true, false, List, [], ◌∷◌, ◌++◌, Some, Contains, refl, sym, ap, ◌∙◌, subst, arith, ⊎_elim, append_assoc, Option, None}
use Rattle.std.specs.Prelude.{◌⊎◌, ◌==◌, slice_get, codes}
use Rattle.std.specs.List.{list_any}
use Rattle.std.specs.Str.{bytes_eq}
use Rattle.std.proofs.lemmas.Bool.{false≢true, or_parts, or_cases, and_parts, eqb-true, cases_Bool}
use Rattle.std.proofs.lemmas.Slice.Eq.{bytes_eq-Decides}
use Rattle.kaba_order.specs.Orders.{is_live}
use Rattle.java_tree.specs.Syntax.{DeclTree}
use Rattle.java_core.specs.Programs.{Plain, PlainClass, PlainField, PlainMethod}
use Rattle.java_core.specs.Formed.{HasNoTwice}
use Rattle.fact_model.specs.declared.facts.Facts.{Facts}
use Rattle.fact_model.specs.declared.sets.PointsTo.{PointsTo}
use Rattle.hier_model.specs.Hierarchies.{Hierarchy, type_name, is_class_node}
use Rattle.hier_rules.specs.Names.{known_names, is_holder_name}
use Rattle.flow_rules.specs.Ordered.{each, when}
use Rattle.flow_rules.specs.Facts.{is_holder, PlainMakers, makers_of}
use Rattle.flow_rules.proofs.Listed.{at_contains, at_map, each_from_zero, index_at, when_from, one_from}
use Rattle.name_rules.specs.Outline.{name_of, is_known}
use Rattle.write_model.specs.Written.{java_tree}
use Rattle.write_laws.proofs.rebuilds.Apart.{any_at, types_apart, unreserved, no_holder, no_makers}
use Rattle.write_laws.proofs.rebuilds.Nodes.{tree, node_tree, old_tree, tree_name, Declares, a_node, a_holder, declares, makers, makers_tree, a_makers}
use Rattle.write_laws.specs.names.Laws.{IsNamedProgram}
use Rattle.write_laws.proofs.names.Once.{Once, once_at, append_once, each_once, one_once, when_once}
use Rattle.std.proofs.lemmas.List.Elements.{Contains-append_cases}
use Rattle.std.specs.Option.{option_map_or}
use Rattle.write_laws.proofs.rebuilds.Fixed.{holder_no_class, holder_new}

live_at : (bs : List Bool) (n : ℕ) (b : Bool) → slice_get bs n ≡ Some b → b ≡ true → slice_get bs n ≡ Some true
live_at bs n b e h = e ∙ ap Some h

module _ {P : Plain} {F : Facts} {pt : PointsTo} {H : Hierarchy} (G : IsNamedProgram P F pt H) where
  abbrev Alike : DeclTree → DeclTree → Type 0
  Alike c d = name_of c ≡ name_of d

  abbrev node_list : ℕ → Bool → List DeclTree
  node_list n live = when live (node_tree P F H n ∷ [])

  abbrev old_list : ℕ → PlainClass → List DeclTree
  old_list c k = when (is_holder P c) (old_tree P F H c k ∷ [])

  abbrev makers_list : List DeclTree
  makers_list = makers P F H

  tree_is : tree P F H ≡ each node_list 0 H.order.live ++ (each old_list 0 P.classes ++ makers_list)
  unfolding java_tree
  tree_is = append_assoc (each node_list 0 H.order.live) (each old_list 0 P.classes) makers_list

  node_name : (n : ℕ) (d : DeclTree) → node_tree P F H n ≡ d → name_of d ≡ type_name H n
  node_name n d e = ap name_of (sym e) ∙ tree_name P F H (is_class_node F H n) n

  nodes_once : Once Alike (each node_list 0 H.order.live)
  nodes_once =
      each_once Alike node_list 0 H.order.live (λ i j b e k. when_once Alike b (node_tree P F H j ∷ []) (one_once Alike (node_tree P F H j)))
      (λ i j k l x y a b p q lt u v c d h.
      let s = when_from x (node_tree P F H k ∷ []) a c in
      let t = when_from y (node_tree P F H l ∷ []) b d in
      let i_is : k ≡ i = omega (arith, u) in
      let j_is : l ≡ j = omega (arith, v) in
      let live_i : is_live H.order k ≡ true = subst (λ z. is_live H.order z ≡ true) (sym i_is)
      (index_at H.order.live i false true (live_at H.order.live i x p s.0)) in
      let live_j : is_live H.order l ≡ true = subst (λ z. is_live H.order z ≡ true) (sym j_is)
      (index_at H.order.live j false true (live_at H.order.live j y q t.0)) in
      let same : k ≡ l = types_apart F pt H G.unbroken k l live_i live_j
      (sym (node_name k a (one_from (node_tree P F H k) a s.1)) ∙ h ∙ node_name l b (one_from (node_tree P F H l) b t.1)) in
      omega (arith, same, i_is, j_is, lt))

  old_once : Once Alike (each old_list 0 P.classes)
  unfolding HasNoTwice
  old_once =
      each_once Alike old_list 0 P.classes (λ i j k e u. when_once Alike (is_holder P j) (old_tree P F H j k ∷ []) (one_once Alike (old_tree P F H j k)))
      (λ i j k l x y a b p q lt u v c d h.
      let s = when_from (is_holder P k) (old_tree P F H k x ∷ []) a c in
      let t = when_from (is_holder P l) (old_tree P F H l y ∷ []) b d in
      let name : x.name ≡ y.name = ap name_of (one_from (old_tree P F H k x) a s.1) ∙ h ∙ ap name_of (sym (one_from (old_tree P F H l y) b t.1)) in
      let same : i ≡ j = G.formed.class_names i j y.name (at_map (λ (k : PlainClass). k.name) P.classes i x p ∙ ap Some name)
      (at_map (λ (k : PlainClass). k.name) P.classes j y q) in
      omega (arith, same, lt))

  -- what a name in the tree is the name of
  node_in : (d : DeclTree) → Contains (each node_list 0 H.order.live) d → (n : ℕ) × (is_live H.order n ≡ true) × (node_tree P F H n ≡ d)
  node_in d c =
      let z = each_from_zero node_list H.order.live d c in
      let s = when_from z.1 (node_tree P F H z.0 ∷ []) d z.3 in
      (z.0, index_at H.order.live z.0 false true (live_at H.order.live z.0 z.1 z.2 s.0), one_from (node_tree P F H z.0) d s.1)

  old_in : (d : DeclTree) → Contains (each old_list 0 P.classes) d → (c : ℕ) × (k : PlainClass) × (slice_get P.classes c ≡ Some k) ×
      (is_holder P c ≡ true) × (old_tree P F H c k ≡ d)
  old_in d h =
      let z = each_from_zero old_list P.classes d h in
      let s = when_from (is_holder P z.0) (old_tree P F H z.0 z.1 ∷ []) d z.3 in
      (z.0, z.1, z.2, s.0, one_from (old_tree P F H z.0 z.1) d s.1)

  makers_in : (d : DeclTree) → Contains makers_list d → (m : PlainMakers) × (makers_of P ≡ Some m) × (makers_tree P F H m ≡ d)
  makers_in d c = go (makers_of P) refl c
    where
      go : (o : Option PlainMakers) → makers_of P ≡ o → Contains (option_map_or (λ m. makers_tree P F H m ∷ []) o []) d
          → (m : PlainMakers) × (makers_of P ≡ Some m) × (makers_tree P F H m ≡ d)
      go None e c = absurd (omega (arith, c.1))
      go (Some m) e c = (m, e, one_from (makers_tree P F H m) d c)

  makers_once : Once Alike makers_list
  makers_once = go (makers_of P)
    where
      go : (o : Option PlainMakers) → Once Alike (option_map_or (λ m. makers_tree P F H m ∷ []) o [])
      go None = tt
      go (Some m) = one_once Alike (makers_tree P F H m)

  holders_once : Once Alike (each old_list 0 P.classes ++ makers_list)
  holders_once =
      append_once Alike (each old_list 0 P.classes) makers_list old_once makers_once
      (λ a b c d h.
      let k = old_in a c in
      let m = makers_in b d in
      holder_no_class P G.formed m.0 m.1 k.0 k.1 k.2 (ap name_of m.2 ∙ sym h ∙ ap name_of (sym k.4)))

  tree_once : Once Alike (tree P F H)
  tree_once =
      subst (Once Alike) (sym tree_is)
      (append_once Alike (each node_list 0 H.order.live) (each old_list 0 P.classes ++ makers_list) nodes_once holders_once
      (λ a b c d h.
      let n = node_in a c in
      ⊎_elim
      (λ d. let k = old_in b d in
      no_holder F pt H G.unbroken P G.facts n.0 k.0 k.1 n.1 k.3 k.2 (sym (node_name n.0 a n.2) ∙ h ∙ ap name_of (sym k.4)))
      (λ d. let m = makers_in b d in
      no_makers F pt H G.unbroken P G.facts m.0 m.1 n.0 n.1 (sym (node_name n.0 a n.2) ∙ h ∙ ap name_of (sym m.2)))
      (Contains-append_cases (each old_list 0 P.classes) makers_list b d)))

  -- each type has a name of its own
  pub type_once : (i j : ℕ) (c d : DeclTree) → slice_get (tree P F H) i ≡ Some c → slice_get (tree P F H) j ≡ Some d → i < j → name_of c ≡ name_of d → ⊥
  type_once i j c d p q lt h = once_at Alike (tree P F H) tree_once i j c d p q lt h

  unknown_parts : (n : ℕ) → is_live H.order n ≡ true → (bytes_eq (codes "Object") (type_name H n) ≡ false) × (is_known (type_name H n) ≡ false)
  unknown_parts n live =
      let x = type_name H n in
      let all = (or_parts (is_holder_name F x) (list_any (λ k. bytes_eq k x) known_names) (unreserved F pt H G.unbroken n live)).1 in
      let a = or_parts (bytes_eq (codes "Object") x) (list_any (λ k. bytes_eq k x) (codes "String" ∷ codes "System" ∷ [])) all in
      let b = or_parts (bytes_eq (codes "String") x) (list_any (λ k. bytes_eq k x) (codes "System" ∷ [])) a.1 in
      let c = or_parts (bytes_eq (codes "System") x) false b.1 in
      (a.0, ap (λ z. z || bytes_eq (codes "System") x) b.0 ∙ c.0)

  not_equal : (a b : List ℕ) → a ≢ b → bytes_eq b a ≡ false
  not_equal a b h = ⊎_elim (λ e. absurd (h (sym ((bytes_eq-Decides b a).0 e)))) (λ f. f) (cases_Bool (bytes_eq b a))

  -- a holder is not Object
  holder_later : (c : ℕ) → is_holder P c ≡ true → c ≢ 0
  holder_later c h e =
      ⊎_elim
      (λ a. let z = any_at (λ (f : PlainField). f.is_static && (f.owner == c)) P.fields a in
      (G.formed.fields z.0 z.1 z.2).no_object (eqb-true z.1.owner c (and_parts z.1.is_static (z.1.owner == c) z.3).1 ∙ e))
      (λ a. let z = any_at (λ (f : PlainMethod). f.is_static && (f.owner == c)) P.methods a in
      (G.formed.methods z.0 z.1 z.2).no_object (eqb-true z.1.owner c (and_parts z.1.is_static (z.1.owner == c) z.3).1 ∙ e))
      (or_cases (list_any (λ (f : PlainField). f.is_static && (f.owner == c)) P.fields)
      (list_any (λ (f : PlainMethod). f.is_static && (f.owner == c)) P.methods) h)

  old_parts : (c : ℕ) (k : PlainClass) → slice_get P.classes c ≡ Some k → is_holder P c ≡ true → (k.name ≢ codes "Object") × (is_known k.name ≡ false)
  unfolding HasNoTwice
  old_parts zero k e h = absurd (holder_later zero h refl)
  old_parts (suc c) k e h =
      let z = G.formed.classes c k e in
      let o = G.formed.object in (
        λ same. nothing (G.formed.class_names (suc c) 0 (codes "Object") (at_map (λ (k : PlainClass). k.name) P.classes (suc c) k e ∙ ap Some same)
            (at_map (λ (k : PlainClass). k.name) P.classes 0 o.object o.first ∙ ap Some o.name)),
        ap (λ w. w || bytes_eq (codes "System") k.name) (not_equal k.name (codes "String") z.no_string) ∙ not_equal k.name (codes "System") z.no_system,
      )
    where
      nothing : suc c ≡ 0 → ⊥
      nothing e = omega (arith, e)

  name_is_new : (d : DeclTree) → Declares P F H d → (name_of d ≢ codes "Object") × (is_known (name_of d) ≡ false)
  name_is_new _ (a_node n live) =
      let name = tree_name P F H (is_class_node F H n) n in
      let u = unknown_parts n live in
      (λ e. false≢true (sym u.0 ∙ (bytes_eq-Decides (codes "Object") (type_name H n)).1 (sym e ∙ name)), ap is_known name ∙ u.1)
  name_is_new _ (a_holder c k e h) = old_parts c k e h
  name_is_new _ (a_makers m e) =
      let new = holder_new P G.formed m e in
      (new.0, ap (λ w. w || bytes_eq (codes "System") m.holder) (not_equal m.holder (codes "String") new.1) ∙ not_equal m.holder (codes "System") new.2)

  -- and none of Object, String and System
  pub type_is_new : (d : DeclTree) → Contains (tree P F H) d → (name_of d ≡ codes "Object") ⊎ (is_known (name_of d) ≡ true) → ⊥
  type_is_new d c h =
      let z = at_contains (tree P F H) d c in
      let n = name_is_new d (declares P F H z.0 d z.1) in
      ⊎_elim (λ e. n.0 e) (λ e. false≢true (sym n.1 ∙ e)) h
