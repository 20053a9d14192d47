-- The tree that is written has no constructor.
use Rattle.std.proofs.Common.{◌≡◌, ℕ, ◌+◌, ◌||◌, Bool, true, false, List, [], ◌∷◌, ◌++◌, map, Option, Some, None, refl, ap₂, ◌∙◌}
use Rattle.std.specs.Prelude.{slice_get, ◌==◌, ◌&&◌}
use Rattle.std.specs.List.{list_any, flat_map}
use Rattle.std.specs.Option.{option_map_or}
use Rattle.std.proofs.lemmas.List.Folds.{list_any-append}
use Rattle.kaba_base.specs.declared.words.Keyword.TheVariants.{Public, Abstract}
use Rattle.java_tree.specs.Syntax.{Statements, HeadTree, MethodTree, ClassTree}
use Rattle.java_tree.specs.Makers.{is_maker, declares_maker, has_maker}
use Rattle.java_core.specs.Programs.{Plain}
use Rattle.java_core.specs.Makers.{maker_of}
use Rattle.fact_model.specs.declared.facts.Facts.{Facts}
use Rattle.fact_model.specs.declared.facts.ColumnInfo.{ColumnInfo}
use Rattle.hier_model.specs.Hierarchies.{Hierarchy, is_class_node, stands_at}
use Rattle.flow_rules.specs.declared.items.ColumnItem.{ColumnItem}
use Rattle.flow_rules.specs.declared.items.ColumnItem.TheVariants as column
use Rattle.flow_rules.specs.Ordered.{each, when}
use Rattle.flow_rules.specs.Numbered.{columns_of, sites_of}
use Rattle.flow_rules.specs.Facts.{is_holder, makers_of}
use Rattle.rebuild_model.specs.Renaming.{Renaming, renaming_of}
use Rattle.rebuild_model.specs.Members.{is_filled}
use Rattle.write_model.specs.Members.{filling, first_head, field_member, body_member, static_field_member, static_method_member, holder_members, make_member, maker_member, site_member, make_members, bodyless, column_heads, own_member, column_members, filler, slot_filler, filled_slots, class_members}
use Rattle.write_model.specs.Names.{nowhere, modifier, by_number}
use Rattle.write_model.specs.Written.{type_tree, type_trees, holder_tree, holder_trees, makers_trees, java_tree}

-- ---- lists of which nothing passes a test

module _ {A : Type 0} (test : A → Bool) where
  both : (xs ys : List A) → list_any test xs ≡ false → list_any test ys ≡ false → list_any test (xs ++ ys) ≡ false
  both xs ys p q = list_any-append test xs ys ∙ ap₂ (λ a b. a || b) p q

  in_each : {B : Type 0} (f : ℕ → B → List A) → ((n : ℕ) (x : B) → list_any test (f n x) ≡ false) → (n : ℕ) (xs : List B)
      → list_any test (each f n xs) ≡ false
  in_each f e n [] = refl
  in_each f e n (x ∷ xs) = both (f n x) (each f (n + 1) xs) (e n x) (in_each f e (n + 1) xs)

  in_flat : {B : Type 0} (f : B → List A) → ((x : B) → list_any test (f x) ≡ false) → (xs : List B) → list_any test (flat_map f xs) ≡ false
  in_flat f e [] = refl
  in_flat f e (x ∷ xs) = both (f x) (flat_map f xs) (e x) (in_flat f e xs)

  in_when : (b : Bool) (xs : List A) → list_any test xs ≡ false → list_any test (when b xs) ≡ false
  in_when true xs e = e
  in_when false xs e = refl

  in_option : {B : Type 0} (f : B → List A) → ((x : B) → list_any test (f x) ≡ false) → (o : Option B) → list_any test (option_map_or f o []) ≡ false
  in_option f e None = refl
  in_option f e (Some x) = e x

-- ---- members

-- heads as members, each with the same body
of_heads : (b : Option Statements) (hs : List HeadTree) → list_any is_maker (map (λ h. MethodTree h b nowhere) hs) ≡ false
of_heads b [] = refl
of_heads b (h ∷ hs) = of_heads b hs

module _ (P : Plain) (R : Renaming) (H : Hierarchy) where
  of_holder : (c : ℕ) → list_any is_maker (holder_members P R H c) ≡ false
  of_holder c =
      both is_maker (each (static_field_member P R H c) 0 P.fields) (each (static_method_member P R H c) 0 P.methods)
      (in_each is_maker (static_field_member P R H c) (λ f k. in_when is_maker (k.is_static && (k.owner == c)) _ refl) 0 P.fields)
      (in_each is_maker (static_method_member P R H c) (λ m k. in_when is_maker (k.is_static && (k.owner == c)) _ refl) 0 P.methods)

  of_site : (n c : ℕ) → list_any is_maker (option_map_or (maker_member P R H n c) (maker_of P c) []) ≡ false
  of_site n c =
      in_option is_maker (maker_member P R H n c)
      (λ m. in_option is_maker (λ k. make_member P R H n c m k ∷ []) (λ k. refl) (slice_get P.methods m)) (maker_of P c)

  of_makes : list_any is_maker (make_members P R H) ≡ false
  of_makes = in_each is_maker (site_member P R H) (λ s z. in_when is_maker (z.ty.dim == 0) _ (of_site z.number z.ty.class.0)) 0 (sites_of P)

module _ (P : Plain) (R : Renaming) (F : Facts) (H : Hierarchy) where
  of_own : (i : Option ColumnItem) → list_any is_maker (own_member P R F H i) ≡ false
  of_own (Some (column.Fld f)) = in_option is_maker (λ k. field_member P R H f k ∷ []) (λ k. refl) (slice_get P.fields f)
  of_own (Some (column.Def m)) = in_option is_maker (λ k. body_member P R H m k ∷ []) (λ k. refl) (slice_get P.methods m)
  of_own (Some (column.Dcl m)) = refl
  of_own (Some (column.Is k)) = refl
  of_own None = refl

  of_column : (items : List ColumnItem) (n c : ℕ) (k : ColumnInfo) → list_any is_maker (column_members P R F H items n c k) ≡ false
  of_column items n c k =
      both is_maker (map bodyless (column_heads P R F H (modifier Public ∷ modifier Abstract ∷ []) n c k)) (own_member P R F H (slice_get items c))
      (of_heads None (column_heads P R F H (modifier Public ∷ modifier Abstract ∷ []) n c k)) (of_own (slice_get items c))

  of_filler : (n x : ℕ) → list_any is_maker (slot_filler P R F H n x) ≡ false
  of_filler n x =
      in_option is_maker (filler P R F H n x)
      (λ s. in_when is_maker (is_filled F H n x) _ (of_heads (Some (filling s.result)) (first_head P R H (modifier Public ∷ []) s))) (slice_get P.slots x)

  of_class : (items : List ColumnItem) (n : ℕ) → list_any is_maker (class_members P R F H items n) ≡ false
  of_class items n =
      both is_maker (each (λ c k. when (stands_at H n c) (column_members P R F H items n c k)) 0 F.columns.items)
      (flat_map (slot_filler P R F H n) (filled_slots P))
      (in_each is_maker (λ c k. when (stands_at H n c) (column_members P R F H items n c k))
      (λ c k. in_when is_maker (stands_at H n c) (column_members P R F H items n c k) (of_column items n c k)) 0 F.columns.items)
      (in_flat is_maker (slot_filler P R F H n) (of_filler n) (filled_slots P))

  -- ---- types

  of_type : (items : List ColumnItem) (b : Bool) (n : ℕ) → list_any declares_maker (type_tree P R F H items b n ∷ []) ≡ false
  of_type items true n = ap₂ (λ a b. a || b) (of_class items n) refl
  of_type items false n = refl

-- the whole
pub no_maker : (P : Plain) (F : Facts) (H : Hierarchy) → has_maker (java_tree P F H) ≡ false
unfolding java_tree
no_maker P F H =
    let R = renaming_of P H by_number in
    let items = map (λ c. c.item) (columns_of P) in
    both declares_maker (type_trees P R F H items ++ holder_trees P R H) (makers_trees P R H)
    (both declares_maker (type_trees P R F H items) (holder_trees P R H)
    (in_each declares_maker (λ n live. when live (type_tree P R F H items (is_class_node F H n) n ∷ []))
    (λ n live. in_when declares_maker live (type_tree P R F H items (is_class_node F H n) n ∷ []) (of_type P R F H items (is_class_node F H n) n)) 0
    H.order.live)
    (in_each declares_maker (λ c k. when (is_holder P c) (holder_tree P R H c k ∷ []))
    (λ c k. in_when declares_maker (is_holder P c) (holder_tree P R H c k ∷ []) (ap₂ (λ a b. a || b) (of_holder P R H c) refl)) 0 P.classes))
    (in_option declares_maker (λ m. ClassTree [] m.holder None [] (make_members P R H) nowhere ∷ [])
    (λ m. ap₂ (λ a b. a || b) (of_makes P R H) refl) (makers_of P))
