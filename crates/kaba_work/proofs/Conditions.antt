-- None of the conditions that refuse a text's names holds of a sample.
use Rattle.std.proofs.Common.{◌≡◌, ℕ, zero, suc, ◌<◌, ◌≤◌, ◌⊎◌, inl, inr, ⊎_elim, true, false, List, [], ◌∷◌, ◌++◌, Option, Some, None, Contains, refl, sym, ap, ◌∙◌, subst, arith}
use Rattle.std.specs.Prelude.{slice_get, codes}
use Rattle.std.specs.Option.{is_some, option_to_list, option_map_or, option_and_then}
use Rattle.std.proofs.lemmas.Bool.{false≢true, or_cases}
use Rattle.std.proofs.lemmas.Option.{same_Some}
use Rattle.kaba_base.specs.declared.ClassId.{ClassId}
use Rattle.java_tree.specs.declared.Modifier.{Modifier}
use Rattle.java_tree.specs.declared.Param.{Param}
use Rattle.java_tree.specs.Syntax.{DeclTree}
use Rattle.java_core.specs.Programs.{Plain, PlainClass, PlainMethod}
use Rattle.java_core.specs.Classes.{supers_of, IsSubclass, same_class, through, IsProperSubclass, class_id}
use Rattle.java_core.specs.Formed.{IsMain}
use Rattle.name_rules.specs.declared.parts.Kind.{Kind}
use Rattle.name_rules.specs.declared.parts.Kind.TheVariants as kinds
use Rattle.name_rules.specs.Outline.{FieldAt, MethodAt, is_private, has_word, is_abstract_word, is_known, is_type_name, name_of, mods_of, faces_named, types_in, object, outline}
use Rattle.name_rules.specs.Resolves.{heading_of}
use Rattle.name_rules.specs.Conditions.{unknown, type_twice, known_twice, super_twice, field_twice, method_twice, maker_twice, maker_named, makers_written, param_twice, loop, overload, type_as_field, type_as_param, face_as_parent, class_as_face, private_reused, no_main, modifiers_disagree, modifier_unfit, wrong_body, in_body, in_up, AreOneSlot, HasModifiers, of_type, of_field, of_method, HasWrongBody, missing, superfluous, in_concrete, is_unfit, kind_of}
use Rattle.name_rules.specs.Causes.{HasNoCondition}
use Rattle.kaba_work.specs.Sample.{class_name, main_head, main_param, class_tree, main_tree, sample_tree}
use Rattle.kaba_work.specs.Program.{class_made, main_class_made, method_made, main_made, sample_program}
use Rattle.kaba_work.proofs.Places.{StandsAt, is_row, is_last, stands, last_at, PairAt, is_first, is_second}
use Rattle.kaba_work.proofs.Apart.{class_same, small_free, letters_differ}
use Rattle.kaba_work.proofs.Outlined.{sum_field, extra_field, method_at, main_at, types_are, same_classes, headings}
use Rattle.kaba_work.proofs.Whole.{decl_at, decl_in, field_at_place, field_in, method_at_place, method_in, none_in, one_in, no_faces, params_are, asks_known}
use Rattle.kaba_work.proofs.Faults.{no_body_fault}

-- ---- lists without two places

none_at : {A : Type 0} (xs : List A) (i : ℕ) (x : A) → xs ≡ [] → slice_get xs i ≡ Some x → ⊥
none_at xs i x e h = let z : slice_get [] i ≡ Some x = ap (λ ys. slice_get ys i) (sym e) ∙ h in cc z

-- a list of one item has one place
one_place : {A : Type 0} (xs : List A) (a : A) (i : ℕ) (x : A) → xs ≡ a ∷ [] → slice_get xs i ≡ Some x → i ≡ 0
one_place xs a i x e h = go i (ap (λ ys. slice_get ys i) (sym e) ∙ h)
  where
    go : (i : ℕ) → slice_get (a ∷ []) i ≡ Some x → i ≡ 0
    go zero k = refl
    go (suc i) k = absurd (cc k)

-- no modifier at all, or the one of main
pub data FewMods : Kind → List Modifier → Type 0 where
  no_mods : {kind : Kind} → FewMods kind []
  of_main : FewMods kinds.Method main_head.mods

module _ (n : ℕ) (most : n ≤ 100) where
  abbrev T : List DeclTree
  T = sample_tree n

  abbrev O : Plain
  O = outline T

  -- ---- types

  abbrev IsDecl : ℕ → DeclTree → Type 0
  IsDecl j d = StandsAt class_tree (main_tree n) n j d

  small : (i : ℕ) → i < n → i < 100
  small i h = omega (arith, h, most)

  types_apart : (i j : ℕ) (c d : DeclTree) → IsDecl i c → IsDecl j d → i < j → name_of c ≡ name_of d → ⊥
  types_apart i j c d (is_row lt e) (is_row lu f) h s =
      let z = class_same i j (small i lt) (small j lu) (sym (ap name_of e) ∙ s ∙ ap name_of f) in omega (arith, z, h)
  types_apart i j c d (is_row lt e) (is_last l f) h s = letters_differ (class_name i) (codes "Main") refl (sym (ap name_of e) ∙ s ∙ ap name_of f)
  types_apart i j c d (is_last l e) (is_row lu f) h s = omega (arith, l, lu, h)
  types_apart i j c d (is_last l e) (is_last k f) h s = omega (arith, l, k, h)

  type_new : (j : ℕ) (d : DeclTree) → IsDecl j d → (name_of d ≡ codes "Object") ⊎ (is_known (name_of d) ≡ true) → ⊥
  type_new j d (is_row lt e) (inl s) = letters_differ (class_name j) (codes "Object") refl (sym (ap name_of e) ∙ s)
  type_new j d (is_row lt e) (inr k) = false≢true (sym (ap (λ x. is_known (name_of x)) e) ∙ k)
  type_new j d (is_last l e) (inl s) = letters_differ (codes "Main") (codes "Object") refl (sym (ap name_of e) ∙ s)
  type_new j d (is_last l e) (inr k) = false≢true (sym (ap (λ x. is_known (name_of x)) e) ∙ k)

  -- ---- supertypes

  class_is : (c : ℕ) (k : PlainClass) → slice_get O.classes c ≡ Some k
      → (c ≡ 0) × (k ≡ object) ⊎ ((i : ℕ) × (c ≡ suc i) × StandsAt class_made main_class_made n i k)
  unfolding sample_program
  class_is c k e = at c (ap (λ xs. slice_get xs c) (same_classes n most) ∙ e)
    where
      at : (c : ℕ) → slice_get (sample_program n).classes c ≡ Some k
          → (c ≡ 0) × (k ≡ object) ⊎ ((i : ℕ) × (c ≡ suc i) × StandsAt class_made main_class_made n i k)
      at zero e = inl (refl, sym (same_Some object k e))
      at (suc i) e = inr (i, refl, stands class_made main_class_made n i k e)

  no_interface : (c : ℕ) (k : PlainClass) → slice_get O.classes c ≡ Some k → k.is_interface ≡ true → ⊥
  no_interface c k e h = ⊎_elim (λ z. false≢true (sym (ap (λ (x : PlainClass). x.is_interface) z.1) ∙ h)) (λ z. at z.0 z.2) (class_is c k e)
    where
      at : (i : ℕ) → StandsAt class_made main_class_made n i k → ⊥
      at i (is_row lt s) = false≢true (sym (ap (λ (x : PlainClass). x.is_interface) s) ∙ h)
      at i (is_last l s) = false≢true (sym (ap (λ (x : PlainClass). x.is_interface) s) ∙ h)

  -- each class has earlier ones above it
  lower : (c : ℕ) (s : ClassId) → Contains (supers_of O c) s → s.0 < c
  lower c s h = go (slice_get O.classes c) refl
    where
      above : (o : Option PlainClass) → slice_get O.classes c ≡ o
          → Contains (option_to_list (option_and_then (λ (k : PlainClass). k.parent) o) ++ option_map_or (λ (k : PlainClass). k.faces) o []) s
      above o e =
          subst (λ (z : Option PlainClass). Contains
          (option_to_list (option_and_then (λ (k : PlainClass). k.parent) z) ++ option_map_or (λ (k : PlainClass). k.faces) z []) s) e h

      first : (i b : ℕ) → c ≡ suc i → b ≤ i → Contains (class_id b ∷ []) s → s.0 < c
      first i b e le k = let z = ap (λ (x : ClassId). x.0) (one_in (class_id b ∷ []) (class_id b) s refl k) in omega (arith, e, le, z)

      at : (i : ℕ) (k : PlainClass) → c ≡ suc i → slice_get O.classes c ≡ Some k → StandsAt class_made main_class_made n i k → s.0 < c
      at i k ci e (is_row lt z) = first i i ci (omega arith) (above (Some (class_made i)) (e ∙ ap Some z))
      at i k ci e (is_last l z) = first i 0 ci (omega arith) (above (Some main_class_made) (e ∙ ap Some z))

      go : (o : Option PlainClass) → slice_get O.classes c ≡ o → s.0 < c
      go None e = absurd (none_in [] s refl (above None e))
      go (Some k) e = ⊎_elim (λ z. absurd (none_in [] s refl (above (Some object) (e ∙ ap Some z.1)))) (λ z. at z.0 k z.1 e z.2) (class_is c k e)

  upwards : {a b : ℕ} → IsSubclass O a b → b ≤ a
  upwards same_class = omega arith
  upwards {a} {b} (through {c = c} direct rest) = let lt = lower a c direct in let le = upwards rest in omega (arith, lt, le)

  no_loop : (c : ℕ) → IsProperSubclass O c c → ⊥
  no_loop c h = let lt = lower c h.by h.direct in let le = upwards h.rest in omega (arith, lt, le)

  -- ---- members

  fields_apart : (i j : ℕ) (f g : FieldAt) → PairAt sum_field extra_field n i f → PairAt sum_field extra_field n j g → i < j → f.owner ≡ g.owner
      → f.name ≡ g.name → ⊥
  fields_apart i j f g (is_first a la p e) (is_first b lb q h) lt o s =
      let z : suc a ≡ suc b = sym (ap (λ (x : FieldAt). x.owner) e) ∙ o ∙ ap (λ (x : FieldAt). x.owner) h in omega (arith, z, p, q, lt)
  fields_apart i j f g (is_second a la p e) (is_second b lb q h) lt o s =
      let z : suc a ≡ suc b = sym (ap (λ (x : FieldAt). x.owner) e) ∙ o ∙ ap (λ (x : FieldAt). x.owner) h in omega (arith, z, p, q, lt)
  fields_apart i j f g (is_first a la p e) (is_second b lb q h) lt o s =
      letters_differ (sum_field a).name (extra_field b).name refl (sym (ap (λ (x : FieldAt). x.name) e) ∙ s ∙ ap (λ (x : FieldAt). x.name) h)
  fields_apart i j f g (is_second a la p e) (is_first b lb q h) lt o s =
      letters_differ (extra_field a).name (sum_field b).name refl (sym (ap (λ (x : FieldAt). x.name) e) ∙ s ∙ ap (λ (x : FieldAt). x.name) h)

  abbrev IsMember : ℕ → MethodAt → Type 0
  IsMember j m = StandsAt method_at (main_at n) n j m

  methods_apart : (i j : ℕ) (h k : MethodAt) → IsMember i h → IsMember j k → i < j → h.owner ≡ k.owner → ⊥
  methods_apart i j h k x y lt o = let z = owner i h x in let w = owner j k y in let e : h.owner ≡ k.owner = o in omega (arith, z, w, e, lt)
    where
      owner : (i : ℕ) (m : MethodAt) → IsMember i m → m.owner ≡ suc i
      owner i m (is_row lt e) = ap (λ (z : MethodAt). z.owner) e
      owner i m (is_last l e) = ap (λ (z : MethodAt). z.owner) e ∙ ap suc (sym l)

  not_private : (j : ℕ) (m : MethodAt) → IsMember j m → is_private m ≡ false
  not_private j m (is_row lt e) = ap is_private e
  not_private j m (is_last l e) = ap is_private e

  params_once : (k : ℕ) (m : MethodAt) (i j : ℕ) (a b : Param) → IsMember k m → slice_get m.head.params i ≡ Some a → slice_get m.head.params j ≡ Some b
      → i < j → ⊥
  params_once k m i j a b (is_row lt e) p q h = none_at m.head.params i a (ap (λ (z : MethodAt). z.head.params) e) p
  params_once k m i j a b (is_last l e) p q h = let z = one_place m.head.params main_param j b (ap (λ (z : MethodAt). z.head.params) e) q in omega (arith, z, h)

  field_free : (j : ℕ) (f : FieldAt) → PairAt sum_field extra_field n j f → is_type_name (types_in T) f.name ≡ false
  field_free j f (is_first i lt p e) =
      ap (λ (x : FieldAt). is_type_name (types_in T) x.name) e ∙ ap (λ ts. is_type_name ts (sum_field i).name) (types_are n)
      ∙ small_free n (sum_field i).name refl refl
  field_free j f (is_second i lt p e) =
      ap (λ (x : FieldAt). is_type_name (types_in T) x.name) e ∙ ap (λ ts. is_type_name ts (extra_field i).name) (types_are n)
      ∙ small_free n (extra_field i).name refl refl

  param_free : is_type_name (types_in T) main_param.name ≡ false
  param_free = ap (λ ts. is_type_name ts main_param.name) (types_are n) ∙ small_free n main_param.name refl refl

  -- the methods of the outline
  heading_at : (i : ℕ) (k : PlainMethod) → slice_get O.methods i ≡ Some k → StandsAt (λ j. heading_of (method_made j)) (heading_of (main_made n)) n i k
  heading_at i k e = stands (λ j. heading_of (method_made j)) (heading_of (main_made n)) n i k (ap (λ xs. slice_get xs i) (sym (headings n most)) ∙ e)

  one_slot : (i j : ℕ) (h k : PlainMethod) → StandsAt (λ j. heading_of (method_made j)) (heading_of (main_made n)) n i h
      → StandsAt (λ j. heading_of (method_made j)) (heading_of (main_made n)) n j k → i < j → h.name ≡ k.name → AreOneSlot h k
  one_slot i j h k (is_row lt e) (is_row lu f) x s =
      subst (λ z. AreOneSlot z k) (sym e)
      (subst (AreOneSlot (heading_of (method_made i))) (sym f) (record { first = refl; second = refl; params = refl; result = refl }))
  one_slot i j h k (is_row lt e) (is_last l f) x s =
      absurd (letters_differ (codes "g") (codes "main") refl (sym (ap (λ (m : PlainMethod). m.name) e) ∙ s ∙ ap (λ (m : PlainMethod). m.name) f))
  one_slot i j h k (is_last l e) (is_row lu f) x s = absurd (omega (arith, l, lu, x))
  one_slot i j h k (is_last l e) (is_last m f) x s = absurd (omega (arith, l, m, x))

  apart : (c i j : ℕ) (h k : PlainMethod) → slice_get O.methods i ≡ Some h → slice_get O.methods j ≡ Some k → i < j → h.name ≡ k.name
      → IsSubclass O c h.owner → IsSubclass O c k.owner
      → (AreOneSlot h k → ⊥) → ⊥
  apart c i j h k p q lt s u v other = other (one_slot i j h k (heading_at i h p) (heading_at j k q) lt s)

  main_there : slice_get O.methods n ≡ Some (heading_of (main_made n))
  main_there = ap (λ xs. slice_get xs n) (headings n most) ∙ last_at (λ j. heading_of (method_made j)) (heading_of (main_made n)) n

  main_is : IsMain (heading_of (main_made n))
  main_is = record { static = refl; name = refl; params = refl; result = refl }

  -- ---- modifiers and bodies

  decl_mods : (j : ℕ) (d : DeclTree) → IsDecl j d → FewMods (kind_of d) (mods_of d)
  decl_mods j d (is_row lt e) = subst (λ x. FewMods (kind_of x) (mods_of x)) (sym e) no_mods
  decl_mods j d (is_last l e) = subst (λ x. FewMods (kind_of x) (mods_of x)) (sym e) no_mods

  field_mods : (j : ℕ) (f : FieldAt) → PairAt sum_field extra_field n j f → FewMods kinds.Field f.mods
  field_mods j f (is_first i lt p e) = subst (λ (x : FieldAt). FewMods kinds.Field x.mods) (sym e) no_mods
  field_mods j f (is_second i lt p e) = subst (λ (x : FieldAt). FewMods kinds.Field x.mods) (sym e) no_mods

  method_mods : (j : ℕ) (m : MethodAt) → IsMember j m → FewMods m.kind m.head.mods
  method_mods j m (is_row lt e) = subst (λ (x : MethodAt). FewMods x.kind x.head.mods) (sym e) no_mods
  method_mods j m (is_last l e) = subst (λ (x : MethodAt). FewMods x.kind x.head.mods) (sym e) of_main

  few_mods : (kind : Kind) (mods : List Modifier) → HasModifiers T kind mods → FewMods kind mods
  few_mods _ _ (of_type {d = d} c) = let z = decl_in n d c in decl_mods z.0 d z.1
  few_mods _ _ (of_field {f = f} c) = let z = field_in n f c in field_mods z.0 f z.1
  few_mods _ _ (of_method {m = m} c) = let z = method_in n m c in method_mods z.0 m z.1

  mods_agree : (kind : Kind) (mods : List Modifier) (i j : ℕ) (a b : Modifier) → FewMods kind mods → slice_get mods i ≡ Some a → slice_get mods j ≡ Some b
      → i < j → ⊥
  mods_agree kind mods i j a b no_mods p q lt = none_at [] i a refl p
  mods_agree kind mods i j a b of_main p q lt = let z = one_place main_head.mods _ j b refl q in omega (arith, z, lt)

  mods_fit : (kind : Kind) (mods : List Modifier) (a : Modifier) → FewMods kind mods → Contains mods a → is_unfit kind a.word ≡ true → ⊥
  mods_fit kind mods a no_mods c u = none_in [] a refl c
  mods_fit kind mods a of_main c u = let z = one_in main_head.mods _ a refl c in false≢true (ap (λ (m : Modifier). is_unfit kinds.Method m.word) z ∙ u)

  sound_body : (j : ℕ) (m : MethodAt) → IsMember j m → HasWrongBody m → ⊥
  sound_body j m (is_row lt e) (missing kind plain none) = let z = sym (ap (λ (x : MethodAt). x.body) e) ∙ none in cc z
  sound_body j m (is_row lt e) (superfluous other abstract some) = false≢true (sym (ap (λ (x : MethodAt). has_word is_abstract_word x.head.mods) e) ∙ abstract)
  sound_body j m (is_row lt e) (in_concrete other abstract class) = false≢true (sym (ap (λ (x : MethodAt). has_word is_abstract_word x.head.mods) e) ∙ abstract)
  sound_body j m (is_last l e) (missing kind plain none) = let z = sym (ap (λ (x : MethodAt). x.body) e) ∙ none in cc z
  sound_body j m (is_last l e) (superfluous other abstract some) = false≢true (sym (ap (λ (x : MethodAt). has_word is_abstract_word x.head.mods) e) ∙ abstract)
  sound_body j m (is_last l e) (in_concrete other abstract class) = false≢true (sym (ap (λ (x : MethodAt). has_word is_abstract_word x.head.mods) e) ∙ abstract)

  -- ---- constructors

  none_written : (j : ℕ) (d : DeclTree) → IsDecl j d → makers_written d ≡ []
  none_written j d (is_row lt e) = ap makers_written e
  none_written j d (is_last l e) = ap makers_written e

  no_up : (j : ℕ) (m : MethodAt) → IsMember j m → m.up ≡ None
  no_up j m (is_row lt e) = ap (λ (x : MethodAt). x.up) e
  no_up j m (is_last l e) = ap (λ (x : MethodAt). x.up) e

  -- ---- all of them

  pub no_condition : HasNoCondition T
  no_condition _ (unknown {n = x} {p = p} asks none) = false≢true (sym (ap is_some none) ∙ asks_known n most x p asks)
  no_condition _ (type_twice {i = i} {j = j} {c = c} {d = d} p q lt s) = types_apart i j c d (decl_at n i c p) (decl_at n j d q) lt s
  no_condition _ (known_twice {d = d} c h) = let z = decl_in n d c in type_new z.0 d z.1 h
  no_condition _ (super_twice {d = d} {i = i} {a = a} c p q lt s) = let z = decl_in n d c in none_at (faces_named d) i a (no_faces n z.0 d z.1) p
  no_condition _ (field_twice {i = i} {j = j} {f = f} {g = g} p q lt o s) = fields_apart i j f g (field_at_place n i f p) (field_at_place n j g q) lt o s
  no_condition _ (method_twice {i = i} {j = j} {h = h} {k = k} p q lt o s w) = methods_apart i j h k (method_at_place n i h p) (method_at_place n j k q) lt o
  no_condition _ (param_twice {m = m} {i = i} {j = j} {a = a} {b = b} c p q lt s) = let z = method_in n m c in params_once z.0 m i j a b z.1 p q lt
  no_condition _ (loop {c = c} p h) = no_loop (suc c) h
  no_condition _ (overload {i = i} {j = j} {c = c} {h = h} {k = k} p q lt s u v other) = apart c i j h k p q lt s u v other
  no_condition _ (maker_twice {d = d} {i = i} {a = a} c p q lt) =
      let z = decl_in n d c in none_at (makers_written d) i a (none_written z.0 d z.1) p
  no_condition _ (maker_named {d = d} {i = i} c k other) = let z = decl_in n d c in none_in (makers_written d) i (none_written z.0 d z.1) k
  no_condition _ (type_as_field {f = f} c h) = let z = field_in n f c in false≢true (sym (field_free z.0 f z.1) ∙ h)
  no_condition _ (type_as_param {m = m} {q = q} c d h) =
      let z = method_in n m c in false≢true (sym (ap (λ (x : Param). is_type_name (types_in T) x.name) (sym (params_are n z.0 m q z.1 d)) ∙ param_free) ∙ h)
  no_condition _ (face_as_parent {c = c} {k = k} d p named e h) = no_interface c k e h
  no_condition _ (class_as_face {d = d} {i = i} c f named e h) = let z = decl_in n d c in none_in (faces_named d) i (no_faces n z.0 d z.1) f
  no_condition _ (private_reused {i = i} {j = j} {h = h} {k = k} p q lt s o v u) =
      ⊎_elim (λ x. false≢true (sym (not_private i h (method_at_place n i h p)) ∙ x)) (λ x. false≢true (sym (not_private j k (method_at_place n j k q)) ∙ x))
      (or_cases (is_private h) (is_private k) v)
  no_condition _ (no_main none) = none n (heading_of (main_made n)) main_there main_is
  no_condition _ (modifiers_disagree {kind = kind} {mods = mods} {i = i} {j = j} {a = a} {b = b} h p q lt d) =
      mods_agree kind mods i j a b (few_mods kind mods h) p q lt
  no_condition _ (modifier_unfit {kind = kind} {mods = mods} {a = a} h c u) = mods_fit kind mods a (few_mods kind mods h) c u
  no_condition _ (wrong_body {m = m} c w) = let z = method_in n m c in sound_body z.0 m z.1 w
  no_condition r (in_body {m = m} {ss = ss} c b f) = let z = method_in n m c in no_body_fault n most z.0 m ss r z.1 b f
  no_condition r (in_up {m = m} c e f) = let z = method_in n m c in let w = sym (no_up z.0 m z.1) ∙ e in cc w
