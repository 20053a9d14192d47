-- A program is typed where it is typed without its tags.
use Rattle.std.proofs.Common.{◌≡◌, ℕ, Bool, true, false, List, ◌++◌, length, Option, Some, None, refl, sym, ap, ap₂, ◌∙◌, subst}
use Rattle.std.specs.Prelude.{◌&&◌, ◌||◌, not, if◌then◌else◌, slice_get}
use Rattle.std.specs.Option.{option_map, option_map_or, option_and_then, is_some}
use Rattle.std.proofs.lemmas.List.{map-append, length-map}
use Rattle.std.proofs.lemmas.Option.{slice_get-map}
use Rattle.kaba_base.proofs.ListLemmas.{at_map}
use Rattle.java_core.specs.declared.Ty.{Ty}
use Rattle.java_core.specs.declared.TyBase.TheVariants.{Int, Char}
use Rattle.java_core.specs.declared.BinOp.{BinOp}
use Rattle.java_core.specs.declared.BinOp.TheVariants as bin
use Rattle.java_core.specs.Trees.{Ex, Exs, no_ex, ex_then, number, character, text, truth, null, this, local, static_field, own_field, field, index, call, static_call, super_call, create, create_array, cast, instance_of, unary, binary, Target, to_local, to_static, to_own, to_field, to_element, no_target, St, Sts, IfArms, declare, block, assign, act, print, choose, loop, return, break, continue, no_st, st_then, no_other, otherwise, arm}
use Rattle.java_core.specs.Programs.{Plain, PlainClass, PlainMethod}
use Rattle.java_core.specs.Makers.{maker_name, maker_of}
use Rattle.java_core.specs.Classes.{below, nearest, is_method_of, own_method, own_declaration, has_slot, nearest_declaration, has_body, is_interface, is_concrete}
use Rattle.java_core.specs.Types.{Static, a_value, null_value, no_value, Env, env_of, class_type, class_in, class_of, element_of, is_numeric, is_boolean, is_string, is_printable, is_object, is_only, fits, fits_in, are_comparable, Signature, types_of, string_method, signature_of_string, object_signature, call_signature, super_signature, signature_of_slot, signature_of_method, field_in, value_type, length_or, access_type, or_nothing, result_of, binary_type, static, target_type}
use Rattle.java_core.specs.Typing.{takes_one, takes_two, are_related, can_cast, Typed, t_number, t_character, t_text, t_truth, t_null, t_this, t_local, t_static_field, t_own_field, t_field, t_index, t_call, t_static_call, t_super_call, t_create, t_make, t_create_array, t_cast, t_instance_of, t_unary, t_binary, TypedArgs, t_no_ex, t_ex_then, TypedTarget, t_to_local, t_to_static, t_to_own, t_to_field, t_to_element, TypedTest, t_always, t_test, TypedSt, t_declare, t_declare_as, t_block, t_assign, t_act, t_print_line, t_print, t_choose, t_loop, t_return_nothing, t_return, t_break, t_continue, TypedSts, t_no_st, t_st_then, TypedArms, t_no_other, t_otherwise, t_arm, Offers, HasBodies, is_public_method, HasPublicMethods, IsTypedClass, IsTypedMethod, IsTyped}
use Rattle.java_core.specs.Untagged.{bare, bare_all, bare_if, bare_target, bare_st, bare_sts, bare_arms, untag_body, untag_local, untag_class, untag_method, untagged}
use Rattle.java_core.proofs.Positions.{position-map}
use Rattle.java_meaning.proofs.UntaggedLooks.{untyped, same_subtype, same_field_type, same_field_in, same_super, same_slot, same_static}
use Rattle.name_place_laws.proofs.Meanings.{nearest-same}

-- what is equal to what holds
holds : {a b : Bool} → a ≡ b → a ≡ true → b ≡ true
holds e h = sym e ∙ h

module _ (P : Plain) where
  abbrev U : Plain
  U = untagged P

  -- ---- what is asked of classes and methods

  below_is : (a b : ℕ) → below U a b ≡ below P a b
  below_is a b = same_subtype P (class_type a) (class_type b)

  interface_is : (c : ℕ) → is_interface U c ≡ is_interface P c
  interface_is c = ap (λ o. option_map_or (λ (k : PlainClass). k.is_interface) o false) (slice_get-map untag_class P.classes c) ∙ go (slice_get P.classes c)
    where
      go : (o : Option PlainClass) → option_map_or (λ (k : PlainClass). k.is_interface) (option_map untag_class o) false
          ≡ option_map_or (λ (k : PlainClass). k.is_interface) o false
      go None = refl
      go (Some k) = refl

  concrete_is : (c : ℕ) → is_concrete U c ≡ is_concrete P c
  concrete_is c =
      ap (λ o. option_map_or (λ (k : PlainClass). not k.is_interface && not k.is_abstract) o false) (slice_get-map untag_class P.classes c)
      ∙ go (slice_get P.classes c)
    where
      go : (o : Option PlainClass) → option_map_or (λ (k : PlainClass). not k.is_interface && not k.is_abstract) (option_map untag_class o) false
          ≡ option_map_or (λ (k : PlainClass). not k.is_interface && not k.is_abstract) o false
      go None = refl
      go (Some k) = refl

  own_is : (c : ℕ) (x : List ℕ) → own_method U c x ≡ own_method P c x
  own_is c x = position-map untag_method (λ m. is_method_of c x m) P.methods

  maker_is : (c : ℕ) → maker_of U c ≡ maker_of P c
  maker_is c =
      (λ i. option_and_then (λ k. own_is c (maker_name k.name) i) (slice_get U.classes c))
      ∙ ap (option_and_then (λ k. own_method P c (maker_name k.name))) (slice_get-map untag_class P.classes c) ∙ go (slice_get P.classes c)
    where
      go : (o : Option PlainClass) → option_and_then (λ k. own_method P c (maker_name k.name)) (option_map untag_class o)
          ≡ option_and_then (λ k. own_method P c (maker_name k.name)) o
      go None = refl
      go (Some k) = refl

  bodied : (b : Option Sts) → is_some (untag_body b) ≡ is_some b
  bodied None = refl
  bodied (Some xs) = refl

  body_is : (m : ℕ) → has_body U m ≡ has_body P m
  body_is m = ap (λ o. option_map_or (λ (k : PlainMethod). is_some k.body) o false) (slice_get-map untag_method P.methods m) ∙ go (slice_get P.methods m)
    where
      go : (o : Option PlainMethod) → option_map_or (λ (k : PlainMethod). is_some k.body) (option_map untag_method o) false
          ≡ option_map_or (λ (k : PlainMethod). is_some k.body) o false
      go None = refl
      go (Some k) = bodied k.body

  public_is : (d : Option ℕ) → is_public_method U d ≡ is_public_method P d
  public_is None = refl
  public_is (Some d) = go (slice_get P.methods d) refl
    where
      go : (o : Option PlainMethod) → slice_get P.methods d ≡ o → is_public_method U (Some d) ≡ is_public_method P (Some d)
      go None e = rw (slice_get-map untag_method P.methods d, e) refl
      go (Some k) e = rw (slice_get-map untag_method P.methods d, e) refl

  declared_is : (c s : ℕ) → own_declaration U c s ≡ own_declaration P c s
  declared_is c s = position-map untag_method (λ m. has_slot c s m) P.methods

  declaration_is : (c s : ℕ) → nearest_declaration U c s ≡ nearest_declaration P c s
  unfolding nearest_declaration
  declaration_is c s =
      ap (λ z. nearest U (λ k. own_declaration U k s) z c) (length-map P.classes untag_class)
      ∙ nearest-same P (λ k. own_declaration U k s) (λ k. own_declaration P k s) (λ k. declared_is k s) (length P.classes) c

  -- ---- what is asked of types

  abbrev signature : PlainMethod → Signature
  signature k = record { params = types_of k.params; result = k.result }

  signature_is : (m : ℕ) → signature_of_method U m ≡ signature_of_method P m
  signature_is m = ap (λ o. option_map signature o) (slice_get-map untag_method P.methods m) ∙ go (slice_get P.methods m)
    where
      go : (o : Option PlainMethod) → option_map signature (option_map untag_method o) ≡ option_map signature o
      go None = refl
      go (Some k) = ap (λ (z : List Ty). Some (record { params = z; result = k.result })) (untyped k.params)

  super_is : (c : ℕ) (x : List ℕ) → super_signature U c x ≡ super_signature P c x
  unfolding super_signature
  super_is c x = λ i. option_and_then (λ m. signature_is m i) (same_super P c x i)

  called_is : (o : Option ℕ) (x : List ℕ) → object_signature U o x ≡ object_signature P o x
  called_is None x = refl
  called_is (Some c) x = ap (option_and_then (signature_of_slot P)) (same_slot P c x)

  call_is : (s : Static) (x : List ℕ) → call_signature U s x ≡ call_signature P s x
  unfolding call_signature
  call_is s x = λ i. if is_string s then option_map signature_of_string (string_method x) else called_is (class_of s) x i

  value_is : (s : Static) (x : List ℕ) → value_type U s x ≡ value_type P s x
  value_is s x = λ i. option_and_then (λ f. same_field_type P f i) (same_field_in P s x i)

  access_is : (s : Static) (x : List ℕ) → access_type U s x ≡ access_type P s x
  unfolding access_type
  access_is s x = λ i. length_or (element_of s) (value_is s x i) x

  fits_is : (s : Static) (t : Ty) → fits U s t ≡ fits P s t
  fits_is (a_value s) t = ap (λ z. z || (is_only Char (a_value s) && is_only Int (a_value t))) (same_subtype P s t)
  fits_is null_value t = refl
  fits_is no_value t = refl

  fits_in_is : (s t : Static) → fits_in U s t ≡ fits_in P s t
  fits_in_is s (a_value t) = fits_is s t
  fits_in_is s null_value = refl
  fits_in_is s no_value = refl

  compared_is : (s t : Static) → are_comparable U s t ≡ are_comparable P s t
  compared_is (a_value s) (a_value t) =
      λ i. (is_numeric (a_value s) && is_numeric (a_value t))
      || ((is_boolean (a_value s) && is_boolean (a_value t)) || ((is_object s && is_object t) && (same_subtype P s t i || same_subtype P t s i)))
  compared_is (a_value s) null_value = refl
  compared_is (a_value s) no_value = refl
  compared_is null_value (a_value t) = refl
  compared_is null_value null_value = refl
  compared_is null_value no_value = refl
  compared_is no_value (a_value t) = refl
  compared_is no_value null_value = refl
  compared_is no_value no_value = refl

  taken_is : (o : BinOp) (s t : Static) → takes_two U o s t ≡ takes_two P o s t
  taken_is bin.Same s t = compared_is s t
  taken_is bin.Differs s t = compared_is s t
  taken_is (bin.Int o) s t = refl
  taken_is bin.Less s t = refl
  taken_is bin.Greater s t = refl
  taken_is bin.AtMost s t = refl
  taken_is bin.AtLeast s t = refl
  taken_is bin.Both s t = refl
  taken_is bin.Either s t = refl

  related_is : (c d : Option ℕ) → are_related U c d ≡ are_related P c d
  related_is (Some c) (Some d) = λ i. below_is c d i || below_is d c i
  related_is (Some c) None = refl
  related_is None d = refl

  cast_is : (s : Static) (t : Ty) → can_cast U s t ≡ can_cast P s t
  cast_is s t = ap (λ z. (is_numeric (a_value t) && is_numeric s) || z) (related_is (class_of s) (class_in t.base t.dim))

  -- ---- bodies

  module _ (g : Env) where
    bare_is : (e : Ex) → static P g (bare e) ≡ static P g e
    bare_is (field t e x) = ap (λ z. or_nothing (access_type P z x)) (bare_is e)
    bare_is (index t e i) = ap (λ z. or_nothing (element_of z)) (bare_is e)
    bare_is (call t e x es) = ap (λ z. result_of (call_signature P z x)) (bare_is e)
    bare_is (binary t o e d) = ap₂ (λ y z. a_value (binary_type o y z)) (bare_is e) (bare_is d)
    bare_is e = refl

    static_is : (e : Ex) → static U g (bare e) ≡ static P g e
    static_is e = same_static P g (bare e) ∙ bare_is e

    fitted : (e : Ex) (u : Ty) → fits U (static U g (bare e)) u ≡ fits P (static P g e) u
    fitted e u = ap (λ z. fits U z u) (static_is e) ∙ fits_is (static P g e) u

    fitted_in : (e : Ex) (u : Static) → fits_in U (static U g (bare e)) u ≡ fits_in P (static P g e) u
    fitted_in e u = ap (λ z. fits_in U z u) (static_is e) ∙ fits_in_is (static P g e) u

    mutual
      ex : (e : Ex) → Typed U g (bare e) → Typed P g e
      ex (number t n) h = t_number
      ex (character t c) h = t_character
      ex (text t u) h = t_text
      ex (truth t b) h = t_truth
      ex (null t) h = t_null
      ex (this t) h = t_this
      ex (local t i) h = t_local
      ex (static_field t f) h = t_static_field
      ex (own_field t f) h = t_own_field
      ex (field t e x) (t_field h a) =
          t_field (ex e h) (holds (ap is_some (ap (λ z. access_type U z x) (static_is e) ∙ access_is (static P g e) x)) a)
      ex (index t e i) (t_index h a k b) =
          t_index (ex e h) (holds (ap (λ z. is_some (element_of z)) (static_is e)) a) (ex i k) (holds (ap is_numeric (static_is i)) b)
      ex (call t e x es) (t_call h c k) = t_call (ex e h) (sym (ap (λ z. call_signature U z x) (static_is e) ∙ call_is (static P g e) x) ∙ c) (args es k)
      ex (static_call t m es) (t_static_call c k) = t_static_call (sym (signature_is m) ∙ c) (args es k)
      ex (super_call t x es) (t_super_call {m = m} a b c k) =
          t_super_call (sym (same_super P g.self x) ∙ a) (holds (body_is m) b) (sym (super_is g.self x) ∙ c) (args es k)
      ex (create t n c no_ex) (t_create a m) = t_create (holds (concrete_is c) a) (sym (maker_is c) ∙ m)
      ex (create t n c no_ex) (t_make {m = k} a m s h) =
          t_make (holds (concrete_is c) a) (sym (maker_is c) ∙ m) (sym (signature_is k) ∙ s) (args no_ex h)
      ex (create t n c (ex_then e es)) (t_make {m = k} a m s h) =
          t_make (holds (concrete_is c) a) (sym (maker_is c) ∙ m) (sym (signature_is k) ∙ s) (args (ex_then e es) h)
      ex (create_array t n u e) (t_create_array h a) = t_create_array (ex e h) (holds (ap is_numeric (static_is e)) a)
      ex (cast t n u e) (t_cast h a) = t_cast (ex e h) (holds (ap (λ z. can_cast U z u) (static_is e) ∙ cast_is (static P g e) u) a)
      ex (instance_of t n e c) (t_instance_of h a) =
          t_instance_of (ex e h) (holds (ap (λ z. are_related U (class_of z) (Some c)) (static_is e) ∙ related_is (class_of (static P g e)) (Some c)) a)
      ex (unary t o e) (t_unary h a) = t_unary (ex e h) (holds (ap (takes_one o) (static_is e)) a)
      ex (binary t o e d) (t_binary h k a) =
          t_binary (ex e h) (ex d k)
          (holds (ap₂ (λ y z. takes_two U o y z) (static_is e) (static_is d) ∙ taken_is o (static P g e) (static P g d)) a)

      args : (es : Exs) {us : List Ty} → TypedArgs U g (bare_all es) us → TypedArgs P g es us
      args no_ex t_no_ex = t_no_ex
      args (ex_then e es) (t_ex_then {u = u} h f hs) = t_ex_then (ex e h) (holds (fitted e u) f) (args es hs)

    target : (b : Target) → TypedTarget U g (bare_target b) → TypedTarget P g b
    target (to_local t i) h = t_to_local
    target (to_static t f) h = t_to_static
    target (to_own t f) h = t_to_own
    target (to_field t e x) (t_to_field h a) =
        t_to_field (ex e h) (holds (ap is_some (ap (λ z. field_in U z x) (static_is e) ∙ same_field_in P (static P g e) x)) a)
    target (to_element t e i) (t_to_element h a k b) =
        t_to_element (ex e h) (holds (ap (λ z. is_some (element_of z)) (static_is e)) a) (ex i k) (holds (ap is_numeric (static_is i)) b)
    target no_target h = elim h [ ]

    target_is : (b : Target) → target_type U g (bare_target b) ≡ target_type P g b
    target_is (to_local t i) = refl
    target_is (to_static t f) = ap or_nothing (same_field_type P f)
    target_is (to_own t f) = ap or_nothing (same_field_type P f)
    target_is (to_field t e x) = ap (λ z. or_nothing (value_type U z x)) (static_is e) ∙ ap or_nothing (value_is (static P g e) x)
    target_is (to_element t e i) = ap (λ z. or_nothing (element_of z)) (static_is e)
    target_is no_target = refl

    test : (e : Option Ex) → TypedTest U g (bare_if e) → TypedTest P g e
    test None h = t_always
    test (Some e) (t_test h a) = t_test (ex e h) (holds (ap is_boolean (static_is e)) a)

    mutual
      st : (x : St) → TypedSt U g (bare_st x) → TypedSt P g x
      st (declare t i None) h = t_declare
      st (declare t i (Some e)) (t_declare_as h f) = t_declare_as (ex e h) (holds (fitted_in e (or_nothing (slice_get g.locals i))) f)
      st (block t xs) (t_block h) = t_block (sts xs h)
      st (assign t b e) (t_assign h k f) =
          t_assign (target b h) (ex e k) (holds (ap (fits_in U (static U g (bare e))) (target_is b) ∙ fitted_in e (target_type P g b)) f)
      st (act t e) (t_act h) = t_act (ex e h)
      st (print t n None) h = t_print_line
      st (print t n (Some e)) (t_print h a) = t_print (ex e h) (holds (ap is_printable (static_is e)) a)
      st (choose t xs) (t_choose h) = t_choose (arms xs h)
      st (loop t w first e step body) (t_loop a h b c) = t_loop (sts first a) (test e h) (sts step b) (sts body c)
      st (return t None) (t_return_nothing e) = t_return_nothing e
      st (return t (Some e)) (t_return {u = u} h r f) = t_return (ex e h) r (holds (fitted e u) f)
      st (break t) h = t_break
      st (continue t) h = t_continue

      sts : (xs : Sts) → TypedSts U g (bare_sts xs) → TypedSts P g xs
      sts no_st h = t_no_st
      sts (st_then x xs) (t_st_then h hs) = t_st_then (st x h) (sts xs hs)

      arms : (xs : IfArms) → TypedArms U g (bare_arms xs) → TypedArms P g xs
      arms no_other h = t_no_other
      arms (otherwise xs) (t_otherwise h) = t_otherwise (sts xs h)
      arms (arm e xs more) (t_arm h a hs k) = t_arm (ex e h) (holds (ap is_boolean (static_is e)) a) (sts xs hs) (arms more k)

  -- ---- the whole

  env_is : (m : ℕ) (k : PlainMethod) → env_of m (untag_method k) ≡ env_of m k
  env_is m k =
      ap (λ (z : List Ty). record { body = m; self = k.owner; locals = z; result = k.result })
      (ap types_of (sym (map-append untag_local k.params k.locals)) ∙ untyped (k.params ++ k.locals))

  method_typed : (m : ℕ) (k : PlainMethod) → IsTypedMethod U m (untag_method k) → IsTypedMethod P m k
  unfolding IsTypedMethod
  method_typed m k h xs e = sts (env_of m k) xs (subst (λ z. TypedSts U z (bare_sts xs)) (env_is m k) (h (bare_sts xs) (ap untag_body e)))

  abbrev offered : {c s m : ℕ} → Offers P c s m → Offers U c s m
  offered {c} {s} {m} o = record {
    method = untag_method o.method;
    stands = at_map untag_method P.methods m o.method o.stands;
    slot = o.slot;
    above = below_is c o.method.owner ∙ o.above;
  }

  class_typed : (c : ℕ) → IsTypedClass U c → IsTypedClass P c
  unfolding HasBodies HasPublicMethods
  class_typed c h = record {
    bodies = λ made s m o.
        let d = h.bodies (concrete_is c ∙ made) s m (offered o) in (d.0, sym (declaration_is c s) ∙ d.1, holds (body_is d.0) d.2);
    public_methods = λ class s m o face.
        holds (public_is (nearest_declaration U c s) ∙ ap (is_public_method P) (declaration_is c s))
        (h.public_methods (interface_is c ∙ class) s m (offered o) (interface_is o.method.owner ∙ face));
  }

  pub typed_tagged : IsTyped U → IsTyped P
  typed_tagged h = record {
    classes = λ c k e. class_typed c (h.classes c (untag_class k) (at_map untag_class P.classes c k e));
    methods = λ m k e. method_typed m k (h.methods m (untag_method k) (at_map untag_method P.methods m k e));
  }
