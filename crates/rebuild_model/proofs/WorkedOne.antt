-- Two texts of one program: class A { int f; int m() { return f; } } and a main that makes an A, holds it in x and calls m; and the same with
-- Main before A, m public, and `this.f` for f. They are one. With a main that makes an Object they are not.
use Rattle.std.proofs.Common.{◌≡◌, ℕ, zero, suc, [], ◌∷◌, Some, None, refl, sym, subst, ◌∙◌}
use Rattle.std.specs.Prelude.{false, slice_get, codes}
use Rattle.std.proofs.lemmas.Option.{same_Some}
use Rattle.java_core.specs.Trees.{Sts, own_field, field, this, return, no_st, st_then}
use Rattle.java_core.specs.Programs.{Plain, PlainClass, PlainField, PlainMethod}
use Rattle.java_meaning.specs.Paired.{pair_some, pair_declare, pair_act, pair_return, pair_no_st, pair_st_then}
use Rattle.rebuild_model.specs.OneBodies.{IsOneClass, one_int, one_string, one_class, IsOneType, OneSts, o_own_written, o_local, o_call, o_create, o_no_ex}
use Rattle.rebuild_model.specs.OnePrograms.{none_related, one_related, neither, both, HasRelated, AreMatched, IsOneClassAs, IsOneFieldAs, IsOneMethodAs, AreOne}
use Rattle.rebuild_model.proofs.Worked.{place, an_int, class, object, the_field, method, method_of, main, main_code, slot}

abbrev by_name : Sts
by_name = st_then (return (place 30) (Some (own_field (place 30) 0))) no_st

abbrev by_this : Sts
by_this = st_then (return (place 30) (Some (field (place 30) (this (place 30)) (codes "f")))) no_st

abbrev first : Plain
first = record {
  classes = class (codes "Object") None 0 ∷ class (codes "A") object 1 ∷ class (codes "Main") object 2 ∷ [];
  fields = the_field 1 ∷ [];
  methods = method 1 (Some by_name) ∷ main 2 1 (main_code 1) ∷ [];
  slots = slot ∷ [];
  main = 1;
}

abbrev second : Plain
second = record {
  classes = class (codes "Object") None 0 ∷ class (codes "Main") object 5 ∷ class (codes "A") object 9 ∷ [];
  fields = the_field 2 ∷ [];
  methods = main 1 2 (main_code 2) ∷ method_of 2 (codes "m") false 0 (Some an_int) 60 (Some by_this) ∷ [];
  slots = record slot { first = 1 } ∷ [];
  main = 0;
}

the_object : IsOneClass first second 0 0
the_object = record { name = codes "Object"; first_name = refl; second_name = refl }

the_class : IsOneClass first second 1 2
the_class = record { name = codes "A"; first_name = refl; second_name = refl }

the_main : IsOneClass first second 2 1
the_main = record { name = codes "Main"; first_name = refl; second_name = refl }

int_type : IsOneType first second an_int an_int
int_type = record { base = one_int; dim = refl }

same_methods : IsOneMethodAs first second (method 1 (Some by_name)) (method_of 2 (codes "m") false 0 (Some an_int) 60 (Some by_this))
same_methods = record {
  owner = the_class;
  name = refl;
  static = refl;
  params = none_related;
  locals = none_related;
  result = both int_type;
  body = both (pair_st_then (pair_return (pair_some (o_own_written refl))) pair_no_st);
}

same_mains : IsOneMethodAs first second (main 2 1 (main_code 1)) (main 1 2 (main_code 2))
same_mains = record {
  owner = the_main;
  name = refl;
  static = refl;
  params = one_related (record { name = refl; type = record { base = one_string; dim = refl } }) none_related;
  locals = one_related (record { name = refl; type = record { base = one_class the_class; dim = refl } }) none_related;
  result = neither;
  body = both (pair_st_then (pair_declare (pair_some (o_create the_class o_no_ex)))
      (pair_st_then (pair_act (o_call o_local o_no_ex)) pair_no_st));
}

objects : IsOneClassAs first second (class (codes "Object") None 0) (class (codes "Object") None 0)
objects = record { name = refl; kind = refl; abstract = λ e. refl; parent = neither; faces = none_related }

classes : IsOneClassAs first second (class (codes "A") object 1) (class (codes "A") object 9)
classes = record { name = refl; kind = refl; abstract = λ e. refl; parent = both the_object; faces = none_related }

mains : IsOneClassAs first second (class (codes "Main") object 2) (class (codes "Main") object 5)
mains = record { name = refl; kind = refl; abstract = λ e. refl; parent = both the_object; faces = none_related }

fields : IsOneFieldAs first second (the_field 1) (the_field 2)
fields = record { owner = the_class; name = refl; static = refl; type = int_type }

-- what is related to the item that stands at a place
at_place : {A : Type 0} (R : A → Type 0) (x z : A) → Some x ≡ Some z → R x → R z
at_place R x z e r = subst R (same_Some x z e) r

types_match : AreMatched (IsOneClassAs first second) first.classes second.classes
types_match = record { as_many = refl; each = each }
  where
    each : (i : ℕ) (x : PlainClass) → slice_get first.classes i ≡ Some x → HasRelated (λ y. IsOneClassAs first second x y) second.classes
    each zero x e = at_place (λ x. HasRelated (λ y. IsOneClassAs first second x y) second.classes) _ x e
        (record { number = 0; item = class (codes "Object") None 0; stands = refl; related = objects })
    each (suc zero) x e = at_place (λ x. HasRelated (λ y. IsOneClassAs first second x y) second.classes) _ x e
        (record { number = 2; item = class (codes "A") object 9; stands = refl; related = classes })
    each (suc (suc zero)) x e = at_place (λ x. HasRelated (λ y. IsOneClassAs first second x y) second.classes) _ x e
        (record { number = 1; item = class (codes "Main") object 5; stands = refl; related = mains })
    each (suc (suc (suc i))) x e = absurd (cc)

fields_match : AreMatched (IsOneFieldAs first second) first.fields second.fields
fields_match = record { as_many = refl; each = each }
  where
    each : (i : ℕ) (x : PlainField) → slice_get first.fields i ≡ Some x → HasRelated (λ y. IsOneFieldAs first second x y) second.fields
    each zero x e = at_place (λ x. HasRelated (λ y. IsOneFieldAs first second x y) second.fields) _ x e
        (record { number = 0; item = the_field 2; stands = refl; related = fields })
    each (suc i) x e = absurd (cc)

methods_match : AreMatched (IsOneMethodAs first second) first.methods second.methods
methods_match = record { as_many = refl; each = each }
  where
    each : (i : ℕ) (x : PlainMethod) → slice_get first.methods i ≡ Some x → HasRelated (λ y. IsOneMethodAs first second x y) second.methods
    each zero x e = at_place (λ x. HasRelated (λ y. IsOneMethodAs first second x y) second.methods) _ x e
        (record { number = 1; item = method_of 2 (codes "m") false 0 (Some an_int) 60 (Some by_this); stands = refl; related = same_methods })
    each (suc zero) x e = at_place (λ x. HasRelated (λ y. IsOneMethodAs first second x y) second.methods) _ x e
        (record { number = 0; item = main 1 2 (main_code 2); stands = refl; related = same_mains })
    each (suc (suc i)) x e = absurd (cc)

they_are_one : AreOne first second
they_are_one = record {
  classes = types_match;
  fields = fields_match;
  methods = methods_match;
  main = record {
    first = main 2 1 (main_code 1);
    second = main 1 2 (main_code 2);
    first_stands = refl;
    second_stands = refl;
    owner = the_main;
    name = refl;
  };
}

-- a creation of another class is another one
not_one : OneSts first second (main_code 1) (main_code 0) → ⊥
not_one (pair_st_then (pair_declare (pair_some (o_create c es))) rest) = apart (same_Some _ _ (c.first_name)) (same_Some _ _ (c.second_name))
  where
    apart : codes "A" ≡ c.name → codes "Object" ≡ c.name → ⊥
    apart e d = let z : codes "A" ≡ codes "Object" = e ∙ sym d in cc
