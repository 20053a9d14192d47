-- The worked program is formed.
use Rattle.std.proofs.Common.{◌≡◌, ℕ, zero, suc, ◌<◌, ◌≤◌, [], ◌∷◌, Some, None, refl, sym, ap, ◌∙◌, subst, inl, arith}
use Rattle.std.specs.Prelude.{false, codes, slice_get}
use Rattle.std.specs.Option.{is_some}
use Rattle.std.proofs.lemmas.Bool.{false≢true}
use Rattle.std.proofs.lemmas.Option.{same_Some}
use Rattle.kaba_base.specs.declared.ClassId.{ClassId}
use Rattle.java_core.specs.Trees.{Sts, own_field, return, no_st, st_then}
use Rattle.java_core.specs.Programs.{PlainClass, PlainMethod}
use Rattle.java_core.specs.Classes.{field_of, supers_of}
use Rattle.java_core.specs.Makers.{maker_of, IsMakerOf}
use Rattle.java_core.specs.Formed.{IsFormedClass, IsFormedField, IsFormedMethod, IsFormedSlot, IsMain, FormedSts, IsFormed, numbers_below, f_own_field, f_some, f_return, f_no_st, f_st_then}
use Rattle.rebuild_model.proofs.Worked.{place, class, object, the_field, method, main, main_code, old}
use Rattle.rebuild_laws.proofs.looks.WorkedParts.{one_item, at_only, no_maker_m, no_maker_main, formed_m, formed_main}
use Rattle.java_meaning.proofs.Small.{Each, each_at, no_item, no_twice, one_once, once_each, differ, named, variable_name, formed_class, acyclic}

abbrev top : PlainClass
top = class (codes "Object") None 0

lower : (c : ℕ) → Each (λ (k : ClassId). k.0 < c) (supers_of old c)
lower zero = tt
lower (suc zero) = (omega arith, tt)
lower (suc (suc zero)) = (omega arith, tt)
lower (suc (suc (suc c))) = tt

formed_a : IsFormedClass old (class (codes "A") object 6)
formed_a = formed_class old top refl refl (class (codes "A") object 6) (named (codes "A") refl) refl refl refl (λ f h. no_item f h) (no_twice ClassId)

formed_holder : IsFormedClass old (class (codes "Main") object 30)
formed_holder = formed_class old top refl refl (class (codes "Main") object 30) (named (codes "Main") refl) refl refl refl (λ f h. no_item f h)
    (no_twice ClassId)

formed_field : IsFormedField old (the_field 1)
formed_field = record {
  name = variable_name old (codes "f") (named (codes "f") refl) refl refl refl;
  type = tt;
  no_object = λ e. omega (arith, e);
  holder = class (codes "A") object 6;
  stands = refl;
  class = refl;
}

own_f : field_of old 1 (codes "f") ≡ Some 0
unfolding field_of
own_f = refl

abbrev body_m : Sts
body_m = st_then (return (place 22) (Some (own_field (place 24) 0))) no_st

abbrev method_m : PlainMethod
method_m = method 1 (Some body_m)

formed_body : (xs : Sts) → Some body_m ≡ Some xs → FormedSts old method_m false (numbers_below 0) xs
formed_body xs e = subst (λ z. FormedSts old method_m false (numbers_below 0) z) (same_Some _ _ e)
    (f_st_then (f_return (f_some (f_own_field refl (record { member = the_field 1; stands = refl; kind = refl; nearest = own_f })))) f_no_st)

abbrev method_main : PlainMethod
method_main = main 2 1 (main_code 1)

-- different methods have different names
one_method : (m n : ℕ) (h k : PlainMethod) → slice_get old.methods m ≡ Some h → slice_get old.methods n ≡ Some k → h.name ≡ k.name → m ≡ n
one_method zero zero h k e d x = refl
one_method (suc zero) (suc zero) h k e d x = refl
one_method zero (suc zero) h k e d x = absurd
    (differ (codes "m") (codes "main") refl (ap (λ (z : PlainMethod). z.name) (same_Some _ _ e) ∙ x ∙ sym (ap (λ (z : PlainMethod). z.name) (same_Some _ _ d))))
one_method (suc zero) zero h k e d x = absurd
    (differ (codes "m") (codes "main") refl
    (ap (λ (z : PlainMethod). z.name) (same_Some _ _ d) ∙ sym x ∙ sym (ap (λ (z : PlainMethod). z.name) (same_Some _ _ e))))
one_method zero (suc (suc n)) h k e d x = absurd (cc d)
one_method (suc zero) (suc (suc n)) h k e d x = absurd (cc d)
one_method (suc (suc m)) n h k e d x = absurd (cc e)

-- no class has a constructor
pub none : (c : ℕ) → maker_of old c ≡ None
none zero = refl
none (suc zero) = refl
none (suc (suc zero)) = refl
none (suc (suc (suc c))) = refl

pub formed : IsFormed old
formed = record {
  object = record { object = top; first = refl; name = refl; class = refl; concrete = refl; parent = refl; faces = refl };
  classes = λ c k e. each_at (λ k. IsFormedClass old k) (class (codes "A") object 6 ∷ class (codes "Main") object 30 ∷ []) c k
      (formed_a, (formed_holder, tt)) e;
  class_names = once_each (codes "Object" ∷ codes "A" ∷ codes "Main" ∷ []) refl;
  acyclic = acyclic old lower;
  fields = λ f k e. each_at (λ k. IsFormedField old k) old.fields f k (formed_field, tt) e;
  field_names = λ f g h k e d o x. sym (one_item (the_field 1) f h e) ∙ one_item (the_field 1) g k d;
  methods = λ m k e. each_at (λ k. IsFormedMethod old k) old.methods m k (
    formed_m old (λ s. refl) 1 (λ e. omega (arith, e)) (class (codes "A") object 6) refl (Some body_m) (λ e. absurd (false≢true e)) (λ e. absurd (cc e))
        formed_body,
    (formed_main old (λ s. refl) 2 (λ e. omega (arith, e)) (class (codes "Main") object 30) refl 1 (omega arith) (omega arith) refl refl refl, tt),
  ) e;
  method_names = λ m n h k e d o x. one_method m n h k e d x;
  one_slot = λ c m n h k e d p q x. inl (one_method m n h k e d x);
  slots = at_only (IsFormedSlot old) _ (record { method = method_m; stands = refl; of = refl; least = λ m k d f. omega arith });
  makers = λ m k e i. absurd (each_at (λ k. IsMakerOf old k → ⊥) old.methods m k
      ((λ i. no_maker_m old 1 (Some body_m) i), ((λ i. no_maker_main old 2 1 (main_code 1) i), tt)) e i);
  inherited = λ c b p h. absurd (false≢true (sym (ap is_some (none b.0)) ∙ h));
  numbered = one_once 0;
  main = method_main;
  main_stands = refl;
  main_is = record { static = refl; name = refl; params = refl; result = refl };
  main_first = λ m k e h. each_at (λ (k : PlainMethod). IsMain k → 2 ≤ k.owner) old.methods m k (
    (λ i. absurd (false≢true i.static)),
    ((λ i. omega arith), tt),
  ) e h;
  counted = record { classes = omega arith; fields = omega arith; methods = omega arith; slots = omega arith };
}
