-- Two small programs that are twins: the first creates an object by a constructor, the second by a method that makes it. Their runs are the same.
use Rattle.std.proofs.Common.{◌≡◌, ℕ, zero, suc, List, [], ◌∷◌, Option, Some, None, refl, sym, ap, ◌∙◌, subst}
use Rattle.std.specs.Prelude.{pos, true, false, ◌==◌, map, slice_get, codes}
use Rattle.std.specs.Option.{option_map}
use Rattle.std.proofs.lemmas.Bool.{false≢true, eqb-true}
use Rattle.std.proofs.lemmas.Option.{same_Some}
use Rattle.java_core.specs.declared.TyBase.TheVariants.{Int}
use Rattle.java_core.specs.Trees.{Ex, no_ex, ex_then, number, this, local, field, call, static_call, create, to_own, to_field, Sts, declare, assign, act, print, return, no_st, st_then}
use Rattle.java_core.specs.Programs.{Plain, PlainLocal, PlainMethod}
use Rattle.java_core.specs.Classes.{below, field_of, member_field, search_order, declaration_of, lookup, super_method}
use Rattle.java_core.specs.Types.{plain_type, class_type, field_in}
use Rattle.java_meaning.specs.Paired.{pair_some, pair_declare, pair_assign, pair_print, pair_no_st, pair_st_then}
use Rattle.java_meaning.specs.Moment.{Number, Nothing, Object, Kind, an_object, an_array, Ended, unnoted, Body, Lang}
use Rattle.java_meaning.specs.Meaning.{words_type, run_in}
use Rattle.java_meaning.specs.Languages.{layout, body_with, language_of}
use Rattle.java_meaning.proofs.Layouts.{places}
use Rattle.java_meaning.proofs.Examples.{tag, variable, class, under, main_of, method}
use Rattle.rebuild_model.specs.Makes.{none_passed, one_passed, makes}
use Rattle.rebuild_laws.specs.twins.Twins.{shape_of, Link, value_at, HasPair, SameMake, SameBody, AreTwins}
use Rattle.rebuild_laws.specs.twins.Twins.{same_number, same_local, same_field, same_make, same_no_ex, same_ex_then, same_to_own}
use Rattle.rebuild_laws.proofs.twins.States.{Alike}
use Rattle.rebuild_laws.proofs.twins.SameRun.{same_run}
use Rattle.rebuild_laws.proofs.one.Seen.{seen, seen_of, all_of}

-- A x = creation; System.out.println(x.f);
abbrev main_code : Ex → Sts
main_code creation = st_then (declare tag 1 (Some creation)) (st_then (print tag true (Some (field tag (local tag 1) (codes "f")))) no_st)

-- class A { int f; A(int n) { f = n; } } class Main { .. A x = new A(7); .. }
abbrev n : List PlainLocal
n = variable (codes "n") (plain_type Int) ∷ []

abbrev old_code : Sts
old_code = st_then (assign tag (to_own tag 0) (local tag 0)) no_st

abbrev old_maker : PlainMethod
old_maker = method 1 (codes "<A") n [] None (Some 0) old_code

abbrev old_main_code : Sts
old_main_code = main_code (create tag 0 1 (ex_then (number tag (pos 7)) no_ex))

abbrev old_main : PlainMethod
old_main = main_of 2 (variable (codes "x") (class_type 1) ∷ []) old_main_code

abbrev old_program : Plain
old_program =
    record {
      classes = class (codes "Object") None ∷ class (codes "A") (under 0) ∷ class (codes "Main") (under 0) ∷ [];
      fields = record { owner = 1; name = codes "f"; is_static = false; ty = plain_type Int; tag = tag } ∷ [];
      methods = old_main ∷ old_maker ∷ [];
      slots = record { name = codes "<A"; params = plain_type Int ∷ []; result = None; first = 1 } ∷ [];
      main = 0;
    }

-- class Main { .. B x = Makers.make_0(7); .. } class B { int f; void init_A(int n) { this.f = n; } }
-- class Makers { static B make_0(int n) { B made = new B(); made.init_A(n); return made; } }
abbrev new_code : Sts
new_code = st_then (assign tag (to_field tag (this tag) (codes "f")) (local tag 0)) no_st

abbrev new_init : PlainMethod
new_init = method 2 (codes "init_A") n [] None (Some 0) new_code

abbrev make_code : Sts
make_code =
    st_then (declare tag 1 (Some (create tag 0 2 no_ex)))
    (st_then (act tag (call tag (local tag 1) (codes "init_A") (ex_then (local tag 0) no_ex))) (st_then (return tag (Some (local tag 1))) no_st))

abbrev new_make : PlainMethod
new_make = record (method 3 (codes "make_0") n (variable (codes "made") (class_type 2) ∷ []) (Some (class_type 2)) None make_code) { is_static = true }

abbrev new_main_code : Sts
new_main_code = main_code (static_call tag 2 (ex_then (number tag (pos 7)) no_ex))

abbrev new_main : PlainMethod
new_main = main_of 1 (variable (codes "x") (class_type 2) ∷ []) new_main_code

abbrev new_program : Plain
new_program =
    record {
      classes = class (codes "Object") None ∷ class (codes "Main") (under 0) ∷ class (codes "B") (under 0) ∷ class (codes "Makers") (under 0) ∷ [];
      fields = record { owner = 2; name = codes "f"; is_static = false; ty = plain_type Int; tag = tag } ∷ [];
      methods = new_main ∷ new_init ∷ new_make ∷ [];
      slots = record { name = codes "init_A"; params = plain_type Int ∷ []; result = None; first = 1 } ∷ [];
      main = 0;
    }

abbrev kind_in : ℕ → Option ℕ → Kind
kind_in a None = an_array words_type
kind_in a (Some s) = an_object a

record Made (o : Option ℕ) (k l : Kind) : Type 0 where
  old : kind_in 1 o ≡ k
  new : kind_in 2 o ≡ l

abbrev link : Link
link = record { may = λ p o. true; has = λ o f. f == 0; new_field = λ f. 0; is_static = λ f. false; new_static = λ f. f }

abbrev L : Lang
L = seen old_program

abbrev M : Lang
M = language_of new_program

abbrev old_main_body : Body
old_main_body = body_with 0 old_main old_main_code

abbrev new_main_body : Body
new_main_body = body_with 0 new_main new_main_code

abbrev old_body : Body
old_body = body_with 1 old_maker old_code

abbrev new_body : Body
new_body = body_with 1 new_init new_code

abbrev make_body : Body
make_body = body_with 2 new_make make_code

data Pair : Body → Body → Type 0 where
  pair_main : Pair old_main_body new_main_body
  pair_maker : Pair old_body new_body

has_pair : (x y b : Body) (q : Option Body) → Pair x y → Some x ≡ Some b → q ≡ Some y → HasPair L M link Made Pair b q
has_pair x y b q r e f = record { body = y; found = f; pair = subst (λ z. Pair z y) (same_Some x b e) r }

first_values : (f : ℕ) → f ≡ 0 → value_at L 1 f (L.fresh 1) ≡ value_at M 2 0 (M.fresh 2)
unfolding layout
first_values f e = subst (λ z. value_at L 1 z (L.fresh 1) ≡ value_at M 2 0 (M.fresh 2)) (sym e) refl

-- the constructor of the creation, and the method that makes its object
make : SameMake L M link Made Pair old_main_body.env new_main_body.env (create tag 0 1 (ex_then (number tag (pos 7)) no_ex)) 0 1 2
    (ex_then (number tag (pos 7)) no_ex)
unfolding below field_in member_field field_of search_order declaration_of lookup super_method layout
make = record {
  class = 2;
  new = record { made = record { old = refl; new = refl }; values = λ f h. first_values f (eqb-true f 0 h) };
  maker = 0;
  has_maker = refl;
  bare = refl;
  body = make_body;
  found = refl;
  name = codes "init_A";
  code = makes (one_passed none_passed);
  as_many = refl;
  first = Nothing;
  rest = refl;
  kept = class_type 2;
  local_is = refl;
  given = class_type 2;
  result = refl;
  runs = λ b e may. record {
    params = ap (λ z. map shape_of z.params) (same_Some old_body b e);
    slot = 0;
    called = λ t. refl;
    runs = has_pair old_body new_body b (M.body 2 0) pair_maker e refl;
  };
}

bodies_same : (b c : Body) → Pair b c → SameBody L M link Made Pair b c
unfolding below field_in member_field field_of search_order declaration_of lookup super_method layout
bodies_same b c pair_main = record {
  env = record { locals = refl; result = refl };
  params = refl;
  rest = refl;
  plain = one_plain;
  ends = refl;
  code =
      pair_st_then (pair_declare (pair_some (same_make (same_ex_then same_number same_no_ex) make)))
      (pair_st_then (pair_print (pair_some (same_field same_local
      (record { new = λ f e. refl; had = λ f e o c k made may. subst (λ z. (z == 0) ≡ true) (same_Some 0 f e) refl })
      (λ e. absurd (false≢true e))))) pair_no_st);
}
  where
    one_plain : (i a : ℕ) → slice_get (Nothing ∷ []) i ≡ Some (Object a) → ⊥
    one_plain zero a e = absurd (let z = same_Some Nothing (Object a) e in cc)
    one_plain (suc i) a e = absurd (cc)
bodies_same b c pair_maker = record {
  env = record { locals = refl; result = refl };
  params = refl;
  rest = refl;
  plain = λ i a e. absurd (cc);
  ends = refl;
  code = pair_st_then (pair_assign (same_to_own
      (record { new = λ f e. refl; had = λ f e o c k made may. subst (λ z. (z == 0) ≡ true) (same_Some 0 f e) refl })) same_local) pair_no_st;
}

twins : AreTwins L M link Made Pair
twins = record {
  sees = λ p v h e. seen_of v h e;
  sees_all = λ b vs h e i v d. all_of vs h e i v d;
  passes = λ p v h. refl;
  passes_all = λ b vs h. refl;
  words = record { old = refl; new = refl };
  old_places = places old_program;
  new_places = places new_program;
  fields_apart = λ o f k hf hk e. eqb-true f 0 hf ∙ sym (eqb-true k 0 hk);
  field_shapes = λ o f h. ap (λ z. option_map shape_of (L.field_type z)) (eqb-true f 0 h);
  statics_apart = λ f k hf hk e. absurd (false≢true hf);
  static_shapes = λ f h. absurd (false≢true h);
  statics = λ f h. absurd (false≢true h);
  plain_statics = no_objects;
  pairs = bodies_same;
}
  where
    no_objects : (i a : ℕ) → slice_get (Number (pos 0) ∷ []) i ≡ Some (Object a) → ⊥
    no_objects zero a e = absurd (let z = same_Some (Number (pos 0)) (Object a) e in cc)
    no_objects (suc i) a e = absurd (cc)

-- each runs to its end with three steps
ends : ((run_in L 0 [] 3).end ≡ Ended) × ((run_in M 0 [] 3).end ≡ Ended)
unfolding run_in below field_in member_field field_of search_order declaration_of lookup super_method layout
ends = (refl, refl)

-- so the theorem tells that they print the same
same : unnoted (run_in L 0 [] 3) ≡ unnoted (run_in M 0 [] 3)
unfolding Alike
same =
    same_run L M link Made Pair twins 0 0 (λ b e. has_pair old_main_body new_main_body b _ pair_main e refl) [] 3
    (λ w. let z = sym ends.0 ∙ w in cc) (λ w. let z = sym ends.0 ∙ w in cc)
