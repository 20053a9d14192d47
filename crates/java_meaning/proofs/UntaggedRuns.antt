-- A run does not look at tags: a program without its tags has the run of the program.
use Rattle.std.proofs.Common.{◌≡◌, ℕ, zero, suc, List, [], ◌∷◌, ◌++◌, length, map, Option, Some, None, refl, sym, ap, ◌∙◌, subst}
use Rattle.std.specs.Prelude.{◌==◌, ◌&&◌, not, if◌then◌else◌, slice_get, position}
use Rattle.std.specs.Option.{option_map, option_map_or, option_and_then}
use Rattle.std.proofs.lemmas.Option.{slice_get-map}
use Rattle.java_core.specs.Trees.{Ex, Exs, no_ex, ex_then, number, character, text, truth, null, this, local, static_field, own_field, field, index, call, static_call, super_call, create, create_array, cast, instance_of, unary, binary, Target, to_local, to_static, to_own, to_field, to_element, no_target, St, Sts, IfArms, declare, block, assign, act, print, choose, loop, return, break, continue, no_st, st_then, no_other, otherwise, arm}
use Rattle.java_core.specs.Programs.{Plain, PlainField, PlainMethod, PlainLocal}
use Rattle.java_core.specs.Classes.{lookup, super_method}
use Rattle.java_core.specs.Types.{types_of, class_of, field_in, static}
use Rattle.java_core.specs.Untagged.{bare, bare_all, bare_if, bare_target, bare_st, bare_sts, bare_arms, untag_body, untag_local, untag_field, untag_method, untagged}
use Rattle.java_core.specs.Retagged.{Retagged, s_number, s_character, s_text, s_truth, s_null, s_this, s_local, s_static_field, s_own_field, s_field, s_index, s_call, s_static_call, s_super_call, s_create, s_create_array, s_cast, s_instance_of, s_unary, s_binary, RetaggedAll, s_no_ex, s_ex_then, RetaggedTarget, s_to_local, s_to_static, s_to_own, s_to_field, s_to_element, s_no_target}
use Rattle.java_meaning.specs.Paired.{PairedIf, PairedSt, PairedArms, pair_none, pair_some, pair_declare, pair_block, pair_assign, pair_act, pair_print, pair_choose, pair_loop, pair_return, pair_break, pair_continue, pair_no_st, pair_st_then, pair_no_other, pair_otherwise, pair_arm}
use Rattle.java_core.proofs.Retagging.{static_same}
use Rattle.java_meaning.specs.Moment.{Nothing, unnoted, Body}
use Rattle.java_meaning.specs.Values.{default_of}
use Rattle.java_meaning.specs.Languages.{own_fields_from, layout_in, layout, default_at, body_with, body_of, language_of, run}
use Rattle.java_meaning.specs.Watched.{SameTarget, RetaggedSts, RetaggedBody, s_no_body, s_body, IsUnwatched}
use Rattle.java_meaning.proofs.Plain.{run_same}
use Rattle.java_meaning.proofs.UntaggedLooks.{untyped, same_parent, many, same_field_type, same_lookup, same_super, same_slot, same_maker, same_subtype, same_field_in, same_static}

-- a tree without its tags and the tree
mutual
  of_bare : (e : Ex) → Retagged (bare e) e
  of_bare (field t e x) = s_field (of_bare e)
  of_bare (index t e i) = s_index (of_bare e) (of_bare i)
  of_bare (call t e x es) = s_call (of_bare e) (all_of es)
  of_bare (static_call t m es) = s_static_call (all_of es)
  of_bare (super_call t x es) = s_super_call (all_of es)
  of_bare (create t n c es) = s_create (all_of es)
  of_bare (create_array t n u e) = s_create_array (of_bare e)
  of_bare (cast t n u e) = s_cast (of_bare e)
  of_bare (instance_of t n e c) = s_instance_of (of_bare e)
  of_bare (unary t o e) = s_unary (of_bare e)
  of_bare (binary t o e d) = s_binary (of_bare e) (of_bare d)
  of_bare (this t) = s_this
  of_bare (null t) = s_null
  of_bare (truth t b) = s_truth
  of_bare (local t i) = s_local
  of_bare (static_field t f) = s_static_field
  of_bare (own_field t f) = s_own_field
  of_bare (text t u) = s_text
  of_bare (character t c) = s_character
  of_bare (number t n) = s_number

  all_of : (es : Exs) → RetaggedAll (bare_all es) es
  all_of no_ex = s_no_ex
  all_of (ex_then e es) = s_ex_then (of_bare e) (all_of es)

if_of : (e : Option Ex) → PairedIf Retagged SameTarget (bare_if e) e
if_of None = pair_none
if_of (Some e) = pair_some (of_bare e)

target_of : (b : Target) → RetaggedTarget (bare_target b) b
target_of (to_local t i) = s_to_local
target_of (to_static t f) = s_to_static
target_of (to_own t f) = s_to_own
target_of (to_field t e x) = s_to_field (of_bare e)
target_of (to_element t e i) = s_to_element (of_bare e) (of_bare i)
target_of no_target = s_no_target

mutual
  st_of : (x : St) → PairedSt Retagged SameTarget (bare_st x) x
  st_of (declare t i e) = pair_declare (if_of e)
  st_of (block t xs) = pair_block (sts_of xs)
  st_of (assign t b e) = pair_assign (target_of b) (of_bare e)
  st_of (act t e) = pair_act (of_bare e)
  st_of (print t n e) = pair_print (if_of e)
  st_of (choose t xs) = pair_choose (arms_of xs)
  st_of (loop t w first test step body) = pair_loop (sts_of first) (if_of test) (sts_of step) (sts_of body)
  st_of (return t e) = pair_return (if_of e)
  st_of (break t) = pair_break
  st_of (continue t) = pair_continue

  sts_of : (xs : Sts) → RetaggedSts (bare_sts xs) xs
  sts_of no_st = pair_no_st
  sts_of (st_then x xs) = pair_st_then (st_of x) (sts_of xs)

  arms_of : (xs : IfArms) → PairedArms Retagged SameTarget (bare_arms xs) xs
  arms_of no_other = pair_no_other
  arms_of (otherwise xs) = pair_otherwise (sts_of xs)
  arms_of (arm e xs more) = pair_arm (of_bare e) (sts_of xs) (arms_of more)

module _ (P : Plain) where
  abbrev U : Plain
  U = untagged P

  -- objects
  own_fields_are : (c n : ℕ) (fs : List PlainField) → own_fields_from c n (map untag_field fs) ≡ own_fields_from c n fs
  own_fields_are c n [] = refl
  own_fields_are c n (f ∷ fs) = ap (λ z. (if (f.owner == c) && not f.is_static then n ∷ [] else []) ++ z) (own_fields_are c (suc n) fs)

  same_layout_in : (n c : ℕ) → layout_in U n c ≡ layout_in P n c
  same_layout_in zero c = own_fields_are c 0 P.fields
  same_layout_in (suc n) c = λ i. option_map_or (λ p. same_layout_in n p.0 i) (same_parent P c i) [] ++ own_fields_are c 0 P.fields i

  same_layout : (c : ℕ) → layout U c ≡ layout P c
  unfolding layout
  same_layout c = (λ i. layout_in U (many P i) c) ∙ same_layout_in (length P.classes) c

  default_is : (f : ℕ) → default_at U f ≡ default_at P f
  default_is f = λ i. option_map_or default_of (same_field_type P f i) Nothing

  same_statics : (fs : List PlainField) → map (λ f. default_of f.ty) (map untag_field fs) ≡ map (λ f. default_of f.ty) fs
  same_statics [] = refl
  same_statics (f ∷ fs) = ap (λ z. default_of f.ty ∷ z) (same_statics fs)

  -- bodies
  same_locals : (xs ys : List PlainLocal) → types_of (map untag_local xs ++ map untag_local ys) ≡ types_of (xs ++ ys)
  same_locals [] ys = untyped ys
  same_locals (x ∷ xs) ys = ap (λ z. x.ty ∷ z) (same_locals xs ys)

  same_body : (m : ℕ) → RetaggedBody (body_of U m) (body_of P m)
  same_body m =
      subst (λ z. RetaggedBody (option_and_then (λ k. option_map (λ xs. body_with m k xs) k.body) z) (body_of P m))
      (sym (slice_get-map untag_method P.methods m)) (go (slice_get P.methods m))
    where
      code : (k : PlainMethod) (b : Option Sts) → RetaggedBody (option_map (λ xs. body_with m (untag_method k) xs) (untag_body b))
          (option_map (λ xs. body_with m k xs) b)
      code k None = s_no_body
      code k (Some xs) =
          subst (λ (b : Body). RetaggedBody (Some (record b { code = bare_sts xs })) (Some (body_with m k xs))) (sym (λ i. record {
            env = record { body = m; self = k.owner; locals = same_locals k.params k.locals i; result = k.result };
            params = untyped k.params i;
            rest = map default_of (untyped k.locals i);
            ends = option_map_or default_of k.result Nothing;
            code = xs;
          })) (s_body (sts_of xs))

      go : (o : Option PlainMethod) → RetaggedBody (option_and_then (λ k. option_map (λ xs. body_with m k xs) k.body) (option_map untag_method o))
          (option_and_then (λ k. option_map (λ xs. body_with m k xs) k.body) o)
      go None = s_no_body
      go (Some k) = code k k.body

  found : (o : Option ℕ) → RetaggedBody (option_and_then (body_of U) o) (option_and_then (body_of P) o)
  found None = s_no_body
  found (Some m) = same_body m

  alike : IsUnwatched (language_of U) (language_of P)
  alike = record {
    field = λ g e d x r. sym (same_field_in P (static U g e) x ∙ ap (λ z. field_in P z x) (same_static P g e ∙ static_same P g r));
    slot = λ g e d x r. sym (λ i. option_and_then (λ c. same_slot P c x i) (class_of ((same_static P g e ∙ static_same P g r) i)));
    typed_field = λ f. sym (same_field_type P f);
    index = λ c f. sym (λ i. position (λ g. g == f) (same_layout c i));
    fresh = λ c. sym (λ i. map (λ f. default_is f i) (same_layout c i));
    maker = λ c. sym (same_maker P c);
    body = λ c s. subst (λ z. RetaggedBody (option_and_then (body_of U) z) (option_and_then (body_of P) (lookup P c s))) (sym (same_lookup P c s))
        (found (lookup P c s));
    static_body = same_body;
    super_body = λ c x. subst (λ z. RetaggedBody (option_and_then (body_of U) z) (option_and_then (body_of P) (super_method P c x)))
        (sym (same_super P c x)) (found (super_method P c x));
    is_sub = λ s t. sym (same_subtype P s t);
    statics = sym (same_statics P.fields);
    sees = λ p v h. refl;
    sees_all = λ b vs h. refl;
    note = λ p v h m. refl;
    note_all = λ b vs h m. refl;
  }

  untagged_run : (words : List (List ℕ)) (n : ℕ) → unnoted (run U words n) ≡ run P words n
  untagged_run words n = run_same (language_of U) (language_of P) alike (λ p v h. refl) (λ b vs h. refl) P.main words n

-- two programs that are one, places aside, have the same run
pub same_aside : (P Q : Plain) → untagged P ≡ untagged Q → (words : List (List ℕ)) (n : ℕ) → run P words n ≡ run Q words n
same_aside P Q e words n = sym (untagged_run P words n) ∙ ap (λ z. unnoted (run z words n)) e ∙ untagged_run Q words n
