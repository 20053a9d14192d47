-- What is found in a program without its tags is what is found in the program.
use Rattle.std.proofs.Common.{◌≡◌, ℕ, zero, suc, false, List, [], ◌∷◌, ◌++◌, length, map, Option, Some, None, refl, ap, ap₂, ◌∙◌}
use Rattle.std.specs.Prelude.{◌==◌, ◌&&◌, ◌||◌, if◌then◌else◌, slice_get, position}
use Rattle.std.specs.Option.{option_map, option_map_or, option_and_then, option_to_list, is_some}
use Rattle.std.specs.List.{flat_map, list_any}
use Rattle.std.proofs.lemmas.List.{length-map}
use Rattle.std.proofs.lemmas.Option.{slice_get-map}
use Rattle.java_core.specs.declared.Ty.{Ty}
use Rattle.java_core.specs.declared.TyBase.{TyBase}
use Rattle.java_core.specs.declared.TyBase.TheVariants.{Int, Boolean, Char, Str, Class}
use Rattle.java_core.specs.Trees.{Ex, static_field, own_field, field, index, call, static_call, super_call, binary, Sts}
use Rattle.java_core.specs.Programs.{Plain, PlainMethod, PlainLocal}
use Rattle.java_core.specs.Classes.{parent_of, faces_of, supers_of, reaches, below, first_or, nearest, nearest_of, is_field_of, own_field_of, field_of, is_static_field, if_instance, when_instance, member_field, is_method_of, own_method, faces_above, chain, search_order, first_found, declaration_of, slot_of, has_slot, own_body, lookup, super_method}
use Rattle.java_core.specs.Makers.{maker_name, maker_of, maker_slot}
use Rattle.java_core.specs.Types.{Static, Env, types_of, class_of, is_string, is_sub_base, is_subtype, signature_of_slot, signature_of_method, signature_of_string, string_method, object_signature, call_signature, super_signature, result_of, field_type, field_in, length_or, element_of, access_type, or_nothing, a_value, binary_type, static}
use Rattle.java_core.specs.Untagged.{untag_body, untag_local, untag_class, untag_field, untag_method, untagged}
use Rattle.java_core.proofs.Positions.{position-map}

pub untyped : (xs : List PlainLocal) → types_of (map untag_local xs) ≡ types_of xs
untyped [] = refl
untyped (x ∷ xs) = ap (λ z. x.ty ∷ z) (untyped xs)

same_some : (b : Option Sts) → is_some (untag_body b) ≡ is_some b
same_some None = refl
same_some (Some xs) = refl

-- what is looked up among changed items is what is looked up among the items, where the change does not touch it
and_then_kept : {A B : Type 0} (g : A → A) (f : A → Option B) → ((x : A) → f (g x) ≡ f x) → (xs : List A) (i : ℕ)
    → option_and_then f (slice_get (map g xs) i) ≡ option_and_then f (slice_get xs i)
and_then_kept {A} {B} g f e xs i = ap (option_and_then f) (slice_get-map g xs i) ∙ go (slice_get xs i)
  where
    go : (o : Option A) → option_and_then f (option_map g o) ≡ option_and_then f o
    go None = refl
    go (Some x) = e x

map_kept : {A B : Type 0} (g : A → A) (f : A → B) → ((x : A) → f (g x) ≡ f x) → (xs : List A) (i : ℕ)
    → option_map f (slice_get (map g xs) i) ≡ option_map f (slice_get xs i)
map_kept {A} {B} g f e xs i = ap (option_map f) (slice_get-map g xs i) ∙ go (slice_get xs i)
  where
    go : (o : Option A) → option_map f (option_map g o) ≡ option_map f o
    go None = refl
    go (Some x) = ap Some (e x)

map_or_kept : {A B : Type 0} (g : A → A) (f : A → B) (none : B) → ((x : A) → f (g x) ≡ f x) → (xs : List A) (i : ℕ)
    → option_map_or f (slice_get (map g xs) i) none ≡ option_map_or f (slice_get xs i) none
map_or_kept {A} {B} g f none e xs i = ap (λ o. option_map_or f o none) (slice_get-map g xs i) ∙ go (slice_get xs i)
  where
    go : (o : Option A) → option_map_or f (option_map g o) none ≡ option_map_or f o none
    go None = refl
    go (Some x) = e x

module _ (P : Plain) where
  abbrev U : Plain
  U = untagged P

  pub same_parent : (a : ℕ) → parent_of U a ≡ parent_of P a
  same_parent a = and_then_kept untag_class (λ k. k.parent) (λ k. refl) P.classes a

  same_faces : (a : ℕ) → faces_of U a ≡ faces_of P a
  same_faces a = map_or_kept untag_class (λ k. k.faces) [] (λ k. refl) P.classes a

  same_supers : (a : ℕ) → supers_of U a ≡ supers_of P a
  same_supers a = ap₂ (λ y z. option_to_list y ++ z) (same_parent a) (same_faces a)

  pub many : length U.classes ≡ length P.classes
  many = length-map P.classes untag_class

  -- upwards
  same_reaches : (n a b : ℕ) → reaches U n a b ≡ reaches P n a b
  same_reaches zero a b = refl
  same_reaches (suc n) a b = λ i. (a == b) || list_any (λ c. same_reaches n c.0 b i) (same_supers a i)

  same_below : (a b : ℕ) → below U a b ≡ below P a b
  unfolding below
  same_below a b = ap (λ z. reaches U z a b) many ∙ same_reaches (length P.classes) a b

  same_nearest : (f g : ℕ → Option ℕ) → ((c : ℕ) → f c ≡ g c) → (n c : ℕ) → nearest U f n c ≡ nearest P g n c
  same_nearest f g own zero c = own c
  same_nearest f g own (suc n) c = λ i. first_or (own c i) (option_and_then (λ p. same_nearest f g own n p.0 i) (same_parent c i))

  nearest_is : (f g : ℕ → Option ℕ) → ((c : ℕ) → f c ≡ g c) → (c : ℕ) → nearest_of U f c ≡ nearest_of P g c
  nearest_is f g own c = ap (λ z. nearest U f z c) many ∙ same_nearest f g own (length P.classes) c

  -- fields
  own_fields_are : (c : ℕ) (x : List ℕ) → own_field_of U c x ≡ own_field_of P c x
  own_fields_are c x = position-map untag_field (λ f. is_field_of c x f) P.fields

  same_field : (c : ℕ) (x : List ℕ) → field_of U c x ≡ field_of P c x
  unfolding field_of
  same_field c x = nearest_is (λ k. own_field_of U k x) (λ k. own_field_of P k x) (λ k. own_fields_are k x) c

  static_is : (f : ℕ) → is_static_field U f ≡ is_static_field P f
  static_is f = map_or_kept untag_field (λ k. k.is_static) false (λ k. refl) P.fields f

  same_member : (c : ℕ) (x : List ℕ) → member_field U c x ≡ member_field P c x
  unfolding member_field
  same_member c x = ap (when_instance U) (same_field c x) ∙ go (field_of P c x)
    where
      go : (o : Option ℕ) → when_instance U o ≡ when_instance P o
      go None = refl
      go (Some f) = ap (if_instance f) (static_is f)

  pub same_field_type : (f : ℕ) → field_type U f ≡ field_type P f
  same_field_type f = map_kept untag_field (λ k. k.ty) (λ k. refl) P.fields f

  -- methods
  own_methods_are : (c : ℕ) (x : List ℕ) → own_method U c x ≡ own_method P c x
  own_methods_are c x = position-map untag_method (λ m. is_method_of c x m) P.methods

  own_bodies_are : (c s : ℕ) → own_body U c s ≡ own_body P c s
  own_bodies_are c s = position-map untag_method (λ m. has_slot c s m && is_some m.body) P.methods
      ∙ λ i. position (λ m. has_slot c s m && same_some m.body i) P.methods

  pub same_lookup : (c s : ℕ) → lookup U c s ≡ lookup P c s
  unfolding lookup
  same_lookup c s = nearest_is (λ k. own_body U k s) (λ k. own_body P k s) (λ k. own_bodies_are k s) c

  pub same_super : (c : ℕ) (x : List ℕ) → super_method U c x ≡ super_method P c x
  unfolding super_method
  same_super c x =
      λ i. option_and_then (λ p. nearest_is (λ k. own_method U k x) (λ k. own_method P k x) (λ k. own_methods_are k x) p.0 i) (same_parent c i)

  same_chain : (n c : ℕ) → chain U n c ≡ chain P n c
  same_chain zero c = refl
  same_chain (suc n) c = λ i. c ∷ option_map_or (λ p. same_chain n p.0 i) (same_parent c i) []

  same_above : (n c : ℕ) → faces_above U n c ≡ faces_above P n c
  same_above zero c = refl
  same_above (suc n) c = λ i. flat_map (λ k. k.0 ∷ same_above n k.0 i) (same_faces c i)

  same_order : (c : ℕ) → search_order U c ≡ search_order P c
  unfolding search_order
  same_order c = (λ i. chain U (many i) c ++ flat_map (λ k. faces_above U (many i) k) (chain U (many i) c))
      ∙ λ i. same_chain (length P.classes) c i ++ flat_map (λ k. same_above (length P.classes) k i) (same_chain (length P.classes) c i)

  same_declaration : (c : ℕ) (x : List ℕ) → declaration_of U c x ≡ declaration_of P c x
  unfolding declaration_of
  same_declaration c x = λ i. first_found (λ k. own_methods_are k x i) (same_order c i)

  pub same_slot : (c : ℕ) (x : List ℕ) → slot_of U c x ≡ slot_of P c x
  same_slot c x = λ i. option_and_then (λ m. and_then_kept untag_method (λ k. k.slot) (λ k. refl) P.methods m i) (same_declaration c x i)

  -- constructors
  own_makers_are : (c : ℕ) → maker_of U c ≡ maker_of P c
  own_makers_are c = (λ i. option_and_then (λ k. own_methods_are c (maker_name k.name) i) (slice_get U.classes c))
      ∙ and_then_kept untag_class (λ k. own_method P c (maker_name k.name)) (λ k. refl) P.classes c

  pub same_maker : (c : ℕ) → maker_slot U c ≡ maker_slot P c
  same_maker c = λ i. option_and_then (λ m. and_then_kept untag_method (λ k. k.slot) (λ k. refl) P.methods m i) (own_makers_are c i)

  -- types
  pub same_subtype : (s t : Ty) → is_subtype U s t ≡ is_subtype P s t
  same_subtype s t = ap (λ z. (s.dim == t.dim) && z) (go s.base t.base)
    where
      go : (b d : TyBase) → is_sub_base U b d ≡ is_sub_base P b d
      go (Class c) (Class d) = same_below c.0 d.0
      go Int d = refl
      go Boolean d = refl
      go Char d = refl
      go Str d = refl
      go (Class c) Int = refl
      go (Class c) Boolean = refl
      go (Class c) Char = refl
      go (Class c) Str = refl

  pub same_field_in : (s : Static) (x : List ℕ) → field_in U s x ≡ field_in P s x
  unfolding field_in
  same_field_in s x = λ i. option_and_then (λ c. same_member c x i) (class_of s)

  same_access : (s : Static) (x : List ℕ) → access_type U s x ≡ access_type P s x
  unfolding access_type
  same_access s x = λ i. length_or (element_of s) (option_and_then (λ f. same_field_type f i) (same_field_in s x i)) x

  same_signature : (m : ℕ) → signature_of_method U m ≡ signature_of_method P m
  same_signature m =
      map_kept untag_method (λ (k : PlainMethod). record { params = types_of k.params; result = k.result })
      (λ k. ap (λ (z : List Ty). record { params = z; result = k.result }) (untyped k.params)) P.methods m

  same_super_signature : (c : ℕ) (x : List ℕ) → super_signature U c x ≡ super_signature P c x
  unfolding super_signature
  same_super_signature c x = λ i. option_and_then (λ m. same_signature m i) (same_super c x i)

  same_call : (s : Static) (x : List ℕ) → call_signature U s x ≡ call_signature P s x
  unfolding call_signature
  same_call s x = λ i. if is_string s then option_map signature_of_string (string_method x) else go (class_of s) i
    where
      go : (o : Option ℕ) → object_signature U o x ≡ object_signature P o x
      go None = refl
      go (Some c) = ap (option_and_then (signature_of_slot P)) (same_slot c x)

  pub same_static : (g : Env) (e : Ex) → static U g e ≡ static P g e
  same_static g (static_field t f) = ap or_nothing (same_field_type f)
  same_static g (own_field t f) = ap or_nothing (same_field_type f)
  same_static g (field t e x) = ap (λ z. or_nothing (access_type U z x)) (same_static g e) ∙ ap or_nothing (same_access (static P g e) x)
  same_static g (index t e i) = ap (λ z. or_nothing (element_of z)) (same_static g e)
  same_static g (call t e x es) = ap (λ z. result_of (call_signature U z x)) (same_static g e) ∙ ap result_of (same_call (static P g e) x)
  same_static g (static_call t m es) = ap result_of (same_signature m)
  same_static g (super_call t x es) = ap result_of (same_super_signature g.self x)
  same_static g (binary t o e d) = ap₂ (λ y z. a_value (binary_type o y z)) (same_static g e) (same_static g d)
  same_static g e = refl
