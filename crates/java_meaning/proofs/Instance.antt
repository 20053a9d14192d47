-- A formed and typed program: so that what is proved of all of them is not of none.
use Rattle.std.proofs.Common.{◌≡◌, ◌≢◌, ℕ, zero, suc, ◌<◌, ◌≤◌, List, [], ◌∷◌, Some, None, refl, sym, ◌∙◌, subst, inl, arith}
use Rattle.std.specs.Prelude.{false, codes, slice_get}
use Rattle.std.specs.List.{list_any}
use Rattle.std.specs.Option.{is_some}
use Rattle.std.specs.Str.{bytes_eq}
use Rattle.std.proofs.lemmas.Bool.{false≢true}
use Rattle.std.proofs.lemmas.Option.{same_Some}
use Rattle.kaba_base.specs.declared.ClassId.{ClassId}
use Rattle.java_lex.specs.Writable.{IsName}
use Rattle.java_core.specs.Trees.{Sts}
use Rattle.java_core.specs.Programs.{Plain, PlainClass, PlainMethod}
use Rattle.java_core.specs.Classes.{supers_of}
use Rattle.java_core.specs.Makers.{maker_name, maker_of, IsMakerOf}
use Rattle.java_core.specs.declared.TyBase.TheVariants.{Int, Str}
use Rattle.java_core.specs.declared.Ty.{Ty}
use Rattle.java_core.specs.Types.{env_of, plain_type}
use Rattle.java_core.specs.Typing.{Offers, HasBodies, HasPublicMethods, IsTypedMethod, TypedSts, IsTyped, t_number, t_local, t_binary, t_to_local, t_assign, t_declare_as, t_print, t_loop, t_test, t_no_st, t_st_then}
use Rattle.java_core.specs.Formed.{IsProgramType, IsFormedClass, IsFormedLocal, IsFormedMethod, FormedSts, of_while, IsFormed, small, f_number, f_local, f_binary, f_to_local, f_some, f_assign, f_declare, f_print, f_loop, f_no_st, f_st_then, variables_of, numbers_below}
use Rattle.java_meaning.specs.Moment.{Wrong}
use Rattle.java_meaning.specs.Languages.{run}
use Rattle.java_meaning.proofs.Examples.{object, class, under, variable, counting_code, counting_main, counting}
use Rattle.java_meaning.proofs.TypedPrograms.{never_wrong}
use Rattle.java_meaning.proofs.Small.{differ, Each, each_at, each_in, no_item, no_twice, one_once, once_each, named, variable_name, other_name, formed_class, acyclic}

abbrev P : Plain
P = counting

lower : (c : ℕ) → Each (λ (k : ClassId). k.0 < c) (supers_of P c)
lower zero = tt
lower (suc zero) = (omega arith, tt)
lower (suc (suc c)) = tt

formed_main_class : IsFormedClass P (class (codes "Main") (under 0))
formed_main_class = formed_class P object refl refl (class (codes "Main") (under 0)) (named (codes "Main") refl) refl refl refl
    (λ f h. no_item f h) (no_twice ClassId)

-- the method
formed_code : FormedSts P counting_main false (numbers_below 1) counting_code
formed_code =
    f_st_then (f_declare (record {
      variable = variable (codes "i") (plain_type Int);
      declared = refl;
      no_parameter = omega arith;
      other = other_name (variables_of counting_main) _ (codes "i") refl refl;
    }) (f_some (f_number (small (record { value = 0; is = refl; small = omega arith })))))
    (f_st_then (f_loop of_while refl refl f_no_st
    (f_some (f_binary (f_local (0, omega arith, refl) (omega arith)) (f_number (small (record { value = 3; is = refl; small = omega arith })))))
    f_no_st
    (f_st_then (f_print refl (f_some (f_local (0, omega arith, refl) (omega arith))))
    (f_st_then (f_assign (f_to_local (0, omega arith, refl) (omega arith)) (f_binary (f_local (0, omega arith, refl) (omega arith))
    (f_number (small (record { value = 1; is = refl; small = omega arith }))))) f_no_st)))
    f_no_st)

formed_local : (x : List ℕ) (t : Ty) → IsName x → list_any (λ (k : PlainClass). bytes_eq k.name x) P.classes ≡ false
    → bytes_eq x (codes "String") ≡ false → bytes_eq x (codes "System") ≡ false → IsProgramType P t → IsFormedLocal P (variable x t)
formed_local x t n a b c k = record { name = variable_name P x n a b c; type = k }

formed_method : IsFormedMethod P counting_main
formed_method = record {
  name = inl (named (codes "main") refl);
  variables = λ v h. each_in (λ v. IsFormedLocal P v) (variables_of counting_main) v (
    formed_local (codes "args") (record { base = Str; dim = 1 }) (named (codes "args") refl) refl refl refl tt,
    (formed_local (codes "i") (plain_type Int) (named (codes "i") refl) refl refl refl tt, tt),
  ) h;
  params = one_once (codes "args");
  result = tt;
  no_object = λ e. absurd (omega (arith, e));
  holder = class (codes "Main") (under 0);
  stands = refl;
  in_interface = λ e. absurd (false≢true e);
  bodyless = λ e. absurd (cc e);
  code = λ xs e. subst (λ z. FormedSts P counting_main false (numbers_below 1) z) (same_Some _ _ e) formed_code;
  slotted = λ e. absurd (false≢true (sym e));
  slots = λ s. (λ e. absurd (cc e), λ i. absurd (false≢true (sym i.instance)));
}

nothing_there : {A : Type 0} (i : ℕ) (x : A) → slice_get [] i ≡ Some x → ⊥
nothing_there i x e = cc

-- no method is a constructor
no_maker : IsMakerOf P counting_main → ⊥
no_maker i = differ (codes "main") (maker_name i.class.name) refl i.name

none_made : (c : ℕ) → is_some (maker_of P c) ≡ false
none_made zero = refl
none_made (suc zero) = refl
none_made (suc (suc c)) = refl

formed : IsFormed P
formed = record {
  object = record { object = object; first = refl; name = refl; class = refl; concrete = refl; parent = refl; faces = refl };
  classes = λ c k e. each_at (λ k. IsFormedClass P k) (class (codes "Main") (under 0) ∷ []) c k (formed_main_class, tt) e;
  class_names = once_each (codes "Object" ∷ codes "Main" ∷ []) refl;
  acyclic = acyclic P lower;
  fields = λ f k e. absurd (nothing_there f k e);
  field_names = λ f g h k e d. absurd (nothing_there f h e);
  methods = λ m k e. each_at (λ k. IsFormedMethod P k) P.methods m k (formed_method, tt) e;
  method_names = λ m n h k e d o x. only m n h k e d;
  one_slot = λ c m n h k e d p q x. inl (only m n h k e d);
  slots = λ s k e. absurd (nothing_there s k e);
  makers = λ m k e i. absurd (each_at (λ k. IsMakerOf P k → ⊥) P.methods m k (no_maker, tt) e i);
  inherited = λ c b p h. absurd (false≢true (sym (none_made b.0) ∙ h));
  numbered = no_twice ℕ;
  main = counting_main;
  main_stands = refl;
  main_is = record { static = refl; name = refl; params = refl; result = refl };
  main_first = λ m k e h. each_at (λ (k : PlainMethod). 1 ≤ k.owner) P.methods m k (omega arith, tt) e;
  counted = record { classes = omega arith; fields = omega arith; methods = omega arith; slots = omega arith };
}
  where
    only : (m n : ℕ) (h k : PlainMethod) → slice_get P.methods m ≡ Some h → slice_get P.methods n ≡ Some k → m ≡ n
    only zero zero h k e d = refl
    only zero (suc n) h k e d = absurd (nothing_there n k d)
    only (suc m) n h k e d = absurd (nothing_there m h e)

no_offer : (c s m : ℕ) → Offers P c s m → ⊥
no_offer c s m o = none_some (each_at (λ (k : PlainMethod). k.slot ≡ None) P.methods m o.method (refl, tt) o.stands)
  where
    none_some : o.method.slot ≡ None → ⊥
    none_some e = let x = sym e ∙ o.slot in cc

typed_code : TypedSts P (env_of 0 counting_main) counting_code
typed_code =
    t_st_then (t_declare_as t_number refl) (t_st_then (t_loop t_no_st (t_test (t_binary t_local t_number refl) refl) t_no_st
    (t_st_then (t_print t_local refl) (t_st_then (t_assign t_to_local (t_binary t_local t_number refl) refl) t_no_st))) t_no_st)

typed : IsTyped P
unfolding HasBodies HasPublicMethods IsTypedMethod
typed = record {
  classes = λ c k e. record { bodies = λ made s m o. absurd (no_offer c s m o); public_methods = λ i s m o f. absurd (no_offer c s m o) };
  methods = method;
}
  where
    method : (m : ℕ) (k : PlainMethod) → slice_get P.methods m ≡ Some k → (xs : Sts) → k.body ≡ Some xs → TypedSts P (env_of m k) xs
    method zero k e xs b = subst (λ (z : PlainMethod). z.body ≡ Some xs → TypedSts P (env_of 0 z) xs) (same_Some _ _ e)
        (λ b. subst (λ z. TypedSts P (env_of 0 counting_main) z) (same_Some _ _ b) typed_code) b
    method (suc m) k e xs b = absurd (nothing_there m k e)

-- it is not Wrong, by the theorem
counting_never_wrong : (words : List (List ℕ)) (n : ℕ) → (run P words n).end ≢ Wrong
counting_never_wrong = never_wrong P formed typed
