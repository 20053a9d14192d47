-- The types of the written tree: one for each live node and one for each holder, each with its number.
use Rattle.std.proofs.Common.{◌≡◌, ◌≢◌, ℕ, zero, suc, Bool, true, false, List, [], ◌∷◌, ◌++◌, Option, Some, None, Contains, refl, sym, ap, ◌∙◌, subst, arith, inl, inr, ⊎_elim, append_assoc}
use Rattle.std.specs.Prelude.{◌⊎◌, not, map, slice_get}
use Rattle.std.specs.Option.{is_some, option_map_or}
use Rattle.std.proofs.lemmas.Bool.{false≢true}
use Rattle.std.proofs.lemmas.Option.{same_Some}
use Rattle.std.proofs.lemmas.List.Elements.{Contains-append_left, Contains-append_right, Contains-append_cases}
use Rattle.kaba_bits.specs.Sets.{bit}
use Rattle.kaba_order.specs.Orders.{is_live}
use Rattle.java_tree.specs.Syntax.{DeclTree, ClassTree}
use Rattle.java_core.specs.Programs.{Plain, PlainClass}
use Rattle.java_core.specs.Formed.{IsFormed, HasNoTwice}
use Rattle.name_rules.specs.Outline.{name_of, is_interface_of, mods_of, has_word, is_abstract_word, types_in, class_outline, type_named}
use Rattle.name_rules.specs.Resolves.{Resolves}
use Rattle.fact_model.specs.declared.facts.Facts.{Facts}
use Rattle.fact_model.specs.declared.sets.PointsTo.{PointsTo}
use Rattle.hier_model.specs.Hierarchies.{Hierarchy, type_name, is_class_node}
use Rattle.hier_rules.specs.First.{first_broken}
use Rattle.flow_rules.specs.declared.items.ColumnItem.{ColumnItem}
use Rattle.flow_rules.specs.Ordered.{when}
use Rattle.flow_rules.specs.Numbered.{columns_of}
use Rattle.flow_rules.specs.Facts.{is_holder, PlainMakers, makers_of, IsFactsOf}
use Rattle.flow_rules.proofs.Listed.{first, at_contains, contains_at, index_at, each_has, each_from_zero, when_has, when_from, one_from, at_map}
use Rattle.rebuild_model.specs.Renaming.{Places, Renaming, renaming_of}
use Rattle.rebuild_model.specs.Members.{is_made_at}
use Rattle.rebuild_model.specs.Rebuilds.{IsNodeType, IsHolderType, IsMakersType, AreTypes}
use Rattle.write_model.specs.Names.{nowhere, by_number, makers_name, class_name}
use Rattle.write_model.specs.Written.{class_modifiers, type_tree, type_trees, holder_tree, holder_trees, makers_trees, java_tree}
use Rattle.write_model.specs.Members.{make_members}
use Rattle.write_laws.proofs.rebuilds.Outlined.{number, declared_named, declared_number, class_there, class_back}
use Rattle.write_laws.proofs.rebuilds.Apart.{holder_class, types_apart, no_holder, no_makers}
use Rattle.write_laws.proofs.rebuilds.Fixed.{holder_no_class}

pub bit_at : (bs : List Bool) (n : ℕ) → bit bs n ≡ true → slice_get bs n ≡ Some true
bit_at [] n h = absurd (false≢true h)
bit_at (b ∷ bs) zero h = ap Some h
bit_at (b ∷ bs) (suc n) h = bit_at bs n h

module _ (P : Plain) (F : Facts) (H : Hierarchy) where
  abbrev pub items : List ColumnItem
  items = map (λ c. c.item) (columns_of P)

  -- the new names, with nodes in place of types
  abbrev pub by_node : Renaming
  by_node = renaming_of P H by_number

  abbrev pub tree : List DeclTree
  tree = java_tree P F H

  abbrev pub node_tree : ℕ → DeclTree
  node_tree n = type_tree P by_node F H items (is_class_node F H n) n

  abbrev pub old_tree : ℕ → PlainClass → DeclTree
  old_tree c k = holder_tree P by_node H c k

  abbrev pub nodes : List DeclTree
  nodes = type_trees P by_node F H items

  abbrev pub holders : List DeclTree
  holders = holder_trees P by_node H

  -- the holder of the methods that make objects
  abbrev pub makers_tree : PlainMakers → DeclTree
  makers_tree m = ClassTree [] m.holder None [] (make_members P by_node H) nowhere

  abbrev pub makers : List DeclTree
  makers = makers_trees P by_node H

  pub tree_is : tree ≡ nodes ++ (holders ++ makers)
  unfolding java_tree
  tree_is = append_assoc nodes holders makers

  pub tree_name : (b : Bool) (n : ℕ) → name_of (type_tree P by_node F H items b n) ≡ type_name H n
  tree_name true n = refl
  tree_name false n = refl

  tree_kind : (b : Bool) (n : ℕ) → is_interface_of (type_tree P by_node F H items b n) ≡ not b
  tree_kind true n = refl
  tree_kind false n = refl

  made_word : (made : Bool) → has_word is_abstract_word (class_modifiers made) ≡ not made
  made_word true = refl
  made_word false = refl

  tree_abstract : (b : Bool) (n : ℕ) → b ≡ true → has_word is_abstract_word (mods_of (type_tree P by_node F H items b n)) ≡ not (is_made_at F H n)
  tree_abstract true n h = made_word (is_made_at F H n)
  tree_abstract false n h = absurd (false≢true h)

  -- each live node and each holder has its declaration
  pub node_at : (n : ℕ) → is_live H.order n ≡ true → (i : ℕ) × (slice_get tree i ≡ Some (node_tree n))
  node_at n h =
      let c = each_has (λ n live. when live (node_tree n ∷ [])) 0 H.order.live n true (node_tree n) (bit_at H.order.live n h) n (omega arith)
      (first (node_tree n) []) in
      let z = at_contains (nodes ++ (holders ++ makers)) (node_tree n) (Contains-append_left nodes (holders ++ makers) (node_tree n) c) in
      (z.0, ap (λ w. slice_get w z.0) tree_is ∙ z.1)

  pub holder_at : (c : ℕ) (k : PlainClass) → slice_get P.classes c ≡ Some k → is_holder P c ≡ true → (i : ℕ) × (slice_get tree i ≡ Some (old_tree c k))
  holder_at c k e h =
      let d = each_has (λ c k. when (is_holder P c) (old_tree c k ∷ [])) 0 P.classes c k (old_tree c k) e c (omega arith)
      (when_has (is_holder P c) (old_tree c k ∷ []) (old_tree c k) h (first (old_tree c k) [])) in
      let z = at_contains (nodes ++ (holders ++ makers)) (old_tree c k)
      (Contains-append_right nodes (holders ++ makers) (old_tree c k) (Contains-append_left holders makers (old_tree c k) d)) in
      (z.0, ap (λ w. slice_get w z.0) tree_is ∙ z.1)

  pub makers_at : (m : PlainMakers) → makers_of P ≡ Some m → (i : ℕ) × (slice_get tree i ≡ Some (makers_tree m))
  makers_at m e =
      let d : Contains makers (makers_tree m) =
      subst (λ o. Contains (option_map_or (λ m. makers_tree m ∷ []) o []) (makers_tree m)) (sym e) (first (makers_tree m) []) in
      let z = at_contains (nodes ++ (holders ++ makers)) (makers_tree m)
      (Contains-append_right nodes (holders ++ makers) (makers_tree m) (Contains-append_right holders makers (makers_tree m) d)) in
      (z.0, ap (λ w. slice_get w z.0) tree_is ∙ z.1)

  -- the class of a holder, and its declaration
  pub holder_there : IsFormed P → (c : ℕ) → is_holder P c ≡ true
      → (k : PlainClass) × (slice_get P.classes c ≡ Some k) × (i : ℕ) × (slice_get tree i ≡ Some (old_tree c k))
  holder_there formed c h =
      let k = holder_class P formed c h in
      let z = holder_at c k.0 k.1 h in
      (k.0, k.1, z.0, z.1)

  -- and there are no others
  pub data Declares : DeclTree → Type 0 where
    a_node : (n : ℕ) → is_live H.order n ≡ true → Declares (node_tree n)
    a_holder : (c : ℕ) (k : PlainClass) → slice_get P.classes c ≡ Some k → is_holder P c ≡ true → Declares (old_tree c k)
    a_makers : (m : PlainMakers) → makers_of P ≡ Some m → Declares (makers_tree m)

  makers_case : (o : Option PlainMakers) (d : DeclTree) → makers_of P ≡ o → Contains (option_map_or (λ m. makers_tree m ∷ []) o []) d → Declares d
  makers_case None d e c = absurd (omega (arith, c.1))
  makers_case (Some m) d e c = subst Declares (one_from (makers_tree m) d c) (a_makers m e)

  live_case : (n : ℕ) (b : Bool) (d : DeclTree) → slice_get H.order.live n ≡ Some b → Contains (when b (node_tree n ∷ [])) d → Declares d
  live_case n true d e c = subst Declares (one_from (node_tree n) d c) (a_node n (index_at H.order.live n false true e))
  live_case n false d e c = absurd (omega (arith, c.1))

  pub declares : (i : ℕ) (d : DeclTree) → slice_get tree i ≡ Some d → Declares d
  declares i d e =
      ⊎_elim
      (λ c. let z = each_from_zero (λ n live. when live (node_tree n ∷ [])) H.order.live d c in live_case z.0 z.1 d z.2 z.3)
      (λ b. ⊎_elim
      (λ c. let z = each_from_zero (λ c k. when (is_holder P c) (old_tree c k ∷ [])) P.classes d c in
      let w = when_from (is_holder P z.0) (old_tree z.0 z.1 ∷ []) d z.3 in
      subst Declares (one_from (old_tree z.0 z.1) d w.1) (a_holder z.0 z.1 z.2 w.0))
      (λ c. makers_case (makers_of P) d refl c)
      (Contains-append_cases holders makers d b))
      (Contains-append_cases nodes (holders ++ makers) d
      (contains_at (nodes ++ (holders ++ makers)) i d (sym (ap (λ w. slice_get w i) tree_is) ∙ e)))

  module _ (V : Plain) (resolves : Resolves (java_tree P F H) V) (new : IsFormed V) where
    abbrev types : List (List ℕ)
    types = types_in (java_tree P F H)

    -- the types by the names of nodes and of holders
    unfoldable pub places : Places
    places = record {
      type_of = λ n. number (types_in (java_tree P F H)) (type_name H n);
      holder_of = λ c. number (types_in (java_tree P F H))
          (class_name P c);
      makers = number (types_in (java_tree P F H)) (makers_name P);
    }

    -- the number of a declaration
    pub node_number : (n i : ℕ) → slice_get tree i ≡ Some (node_tree n) → places.type_of n ≡ suc i
    unfolding places
    node_number n i e = ap (number types) (sym (tree_name (is_class_node F H n) n)) ∙ declared_number tree V resolves new i (node_tree n) e

    pub node_named : (n : ℕ) → is_live H.order n ≡ true → type_named types (type_name H n) ≡ Some (places.type_of n)
    unfolding places
    node_named n h =
        let z = node_at n h in
        ap (type_named types) (sym (tree_name (is_class_node F H n) n)) ∙ declared_named tree V resolves new z.0 (node_tree n) z.1
        ∙ ap Some (sym (node_number n z.0 z.1))

    old_name : (c : ℕ) (k : PlainClass) → slice_get P.classes c ≡ Some k → class_name P c ≡ k.name
    old_name c k e = ap (λ o. option_map_or (λ (k : PlainClass). k.name) o []) e

    pub holder_number : (c i : ℕ) (k : PlainClass) → slice_get P.classes c ≡ Some k → slice_get tree i ≡ Some (old_tree c k) → places.holder_of c ≡ suc i
    unfolding places
    holder_number c i k e d = ap (number types) (old_name c k e) ∙ declared_number tree V resolves new i (old_tree c k) d

    pub holder_named : (c : ℕ) (k : PlainClass) → slice_get P.classes c ≡ Some k → is_holder P c ≡ true
        → type_named types (class_name P c) ≡ Some (places.holder_of c)
    unfolding places
    holder_named c k e h =
        let z = holder_at c k e h in
        ap (type_named types) (old_name c k e) ∙ declared_named tree V resolves new z.0 (old_tree c k) z.1 ∙ ap Some (sym (holder_number c z.0 k e z.1))

    pub makers_called : (m : PlainMakers) → makers_of P ≡ Some m → makers_name P ≡ m.holder
    makers_called m e = ap (λ o. option_map_or (λ (m : PlainMakers). m.holder) o []) e

    pub makers_number : (i : ℕ) (m : PlainMakers) → makers_of P ≡ Some m → slice_get tree i ≡ Some (makers_tree m) → places.makers ≡ suc i
    unfolding places
    makers_number i m e d = ap (number types) (makers_called m e) ∙ declared_number tree V resolves new i (makers_tree m) d

    pub makers_named : (m : PlainMakers) → makers_of P ≡ Some m → type_named types (makers_name P) ≡ Some places.makers
    unfolding places
    makers_named m e =
        let z = makers_at m e in
        ap (type_named types) (makers_called m e) ∙ declared_named tree V resolves new z.0 (makers_tree m) z.1 ∙ ap Some (sym (makers_number z.0 m e z.1))

    no_zero : (n k : ℕ) → k ≡ suc n → k ≢ 0
    no_zero n k e d = cc (e, d)

    pub node_type : (n : ℕ) → is_live H.order n ≡ true → IsNodeType P F H V places n
    node_type n h =
        let z = node_at n h in
        let at = node_number n z.0 z.1 in
        record {
          class = class_outline types (node_tree n);
          stands = ap (λ w. slice_get V.classes w) at ∙ class_there tree V resolves new z.0 (node_tree n) z.1;
          no_object = no_zero z.0 (places.type_of n) at;
          name = tree_name (is_class_node F H n) n;
          kind = tree_kind (is_class_node F H n) n;
          abstract = λ c. tree_abstract (is_class_node F H n) n c;
        }

    makers_type : (m : PlainMakers) → makers_of P ≡ Some m → IsMakersType P F H V places m
    makers_type m e =
        let z = makers_at m e in
        let at = makers_number z.0 m e z.1 in
        record {
          class = class_outline types (makers_tree m);
          stands = ap (λ w. slice_get V.classes w) at ∙ class_there tree V resolves new z.0 (makers_tree m) z.1;
          no_object = no_zero z.0 places.makers at;
          name = refl;
          parent = refl;
          faces = refl;
        }

    pub some_makers : is_some (makers_of P) ≡ true → (m : PlainMakers) × (makers_of P ≡ Some m)
    some_makers h = go (makers_of P) refl h
      where
        go : (o : Option PlainMakers) → makers_of P ≡ o → is_some o ≡ true → (m : PlainMakers) × (makers_of P ≡ Some m)
        go None e h = absurd (false≢true h)
        go (Some m) e h = (m, e)

    module _ (formed : IsFormed P) where
      holder_type : (c : ℕ) → is_holder P c ≡ true → IsHolderType P F H V places c
      holder_type c h =
          let k = holder_there formed c h in
          let at = holder_number c k.2 k.0 k.1 k.3 in
          record {
            class = class_outline types (old_tree c k.0);
            old = k.0;
            stands = ap (λ w. slice_get V.classes w) at ∙ class_there tree V resolves new k.2 (old_tree c k.0) k.3;
            old_stands = k.1;
            no_object = no_zero k.2 (places.holder_of c) at;
            name = refl;
            parent = refl;
            faces = refl;
          }

      -- two declarations of one number are one
      one_tree : (i j : ℕ) (d e : DeclTree) → slice_get tree i ≡ Some d → slice_get tree j ≡ Some e → suc i ≡ suc j → d ≡ e
      one_tree i j d e p q same = let at : i ≡ j = omega (arith, same) in same_Some d e (sym p ∙ ap (slice_get tree) at ∙ q)

      module _ (facts : IsFactsOf P F) (pt : PointsTo) (none : first_broken F pt H ≡ None) where
        pub nodes_once : (n m : ℕ) → is_live H.order n ≡ true → is_live H.order m ≡ true → places.type_of n ≡ places.type_of m → n ≡ m
        nodes_once n m ln lm same =
            let a = node_at n ln in
            let b = node_at m lm in
            let one = one_tree a.0 b.0 (node_tree n) (node_tree m) a.1 b.1 (sym (node_number n a.0 a.1) ∙ same ∙ node_number m b.0 b.1) in
            types_apart F pt H none n m ln lm (sym (tree_name (is_class_node F H n) n) ∙ ap name_of one ∙ tree_name (is_class_node F H m) m)

        which : (i k : ℕ) (d : DeclTree) → slice_get tree i ≡ Some d → k ≡ suc i → Declares d
            → ((n : ℕ) × (is_live H.order n ≡ true) × (k ≡ places.type_of n)) ⊎ (((c : ℕ) × (is_holder P c ≡ true) × (k ≡ places.holder_of c))
            ⊎ ((is_some (makers_of P) ≡ true) × (k ≡ places.makers)))
        which i k _ e at (a_node n h) = inl (n, h, at ∙ sym (node_number n i e))
        which i k _ e at (a_holder c old s h) = inr (inl (c, h, at ∙ sym (holder_number c i old s e)))
        which i k _ e at (a_makers m h) = inr (inr (ap is_some h, at ∙ sym (makers_number i m h e)))

        pub are_types : AreTypes P F H V places
        unfolding HasNoTwice
        are_types = record {
          nodes = node_type;
          holders = holder_type;
          makers = makers_type;
          nodes_once = nodes_once;
          holders_once = λ c d hc hd same.
              let k = holder_there formed c hc in
              let h = holder_there formed d hd in
              let one = one_tree k.2 h.2 (old_tree c k.0) (old_tree d h.0) k.3 h.3
              (sym (holder_number c k.2 k.0 k.1 k.3) ∙ same ∙ holder_number d h.2 h.0 h.1 h.3) in
              let name : k.0.name ≡ h.0.name = ap name_of one in
              formed.class_names c d h.0.name (at_map (λ k. k.name) P.classes c k.0 k.1 ∙ ap Some name) (at_map (λ k. k.name) P.classes d h.0 h.1);
          apart = λ n c ln hc same.
              let k = holder_class P formed c hc in
              let a = node_at n ln in
              let b = holder_at c k.0 k.1 hc in
              let one = one_tree a.0 b.0 (node_tree n) (old_tree c k.0) a.1 b.1 (sym (node_number n a.0 a.1) ∙ same ∙ holder_number c b.0 k.0 k.1 b.1) in
              no_holder F pt H none P facts n c k.0 ln hc k.1 (sym (tree_name (is_class_node F H n) n) ∙ ap name_of one);
          makers_no_node = λ n ln h same.
              let m = some_makers h in
              let a = node_at n ln in
              let b = makers_at m.0 m.1 in
              let one = one_tree a.0 b.0 (node_tree n) (makers_tree m.0) a.1 b.1 (sym (node_number n a.0 a.1) ∙ same ∙ makers_number b.0 m.0 m.1 b.1) in
              no_makers F pt H none P facts m.0 m.1 n ln (sym (tree_name (is_class_node F H n) n) ∙ ap name_of one);
          makers_no_holder = λ c hc h same.
              let m = some_makers h in
              let k = holder_class P formed c hc in
              let a = holder_at c k.0 k.1 hc in
              let b = makers_at m.0 m.1 in
              let one = one_tree a.0 b.0 (old_tree c k.0) (makers_tree m.0) a.1 b.1
              (sym (holder_number c a.0 k.0 k.1 a.1) ∙ same ∙ makers_number b.0 m.0 m.1 b.1) in
              holder_no_class P formed m.0 m.1 c k.0 k.1 (sym (ap name_of one));
          all = λ k class e. ⊎_elim (λ z. inl z) (λ z. inr (which z.0 k z.1 z.3 z.2 (declares z.0 z.1 z.3))) (class_back tree V resolves new k class e);
        }
