-- Each look of a watched run looks: of one program, at each of its looks, a watch that does not let the object pass there lets the run escape, and no
-- other does.
use Rattle.std.proofs.Common.{◌≡◌, ℕ, refl}
use Rattle.std.specs.Prelude.{pos, ◌==◌, ◌&&◌, Bool, true, false, not, List, [], ◌∷◌, Option, Some, None, slice_get, codes, map}
use Rattle.std.specs.Option.{option_map_or, option_and_then}
use Rattle.std.specs.List.{list_any}
use Rattle.java_core.specs.declared.Ty.{Ty}
use Rattle.java_core.specs.declared.TyBase.TheVariants.{Boolean}
use Rattle.java_core.specs.Trees.{Ex, no_ex, ex_then, number, this, local, field, index, call, static_call, super_call, create, create_array, cast, instance_of, to_local, to_static, to_field, to_element, Sts, declare, assign, act, return, no_st, st_then}
use Rattle.java_core.specs.Programs.{Plain, PlainMethod}
use Rattle.java_core.specs.Classes.{below, field_of, member_field, search_order, declaration_of, lookup, super_method}
use Rattle.java_core.specs.Makers.{maker_name}
use Rattle.java_core.specs.Types.{plain_type, class_type, field_in}
use Rattle.java_meaning.specs.Moment.{Value, Object, Cell, Spot, held, bound, self_of, result_of, set_static, kept, put_in, touched, tested, ran, End, Ended, Escaped}
use Rattle.java_meaning.specs.Meaning.{run_in}
use Rattle.java_meaning.specs.Languages.{layout}
use Rattle.java_meaning.specs.Watched.{Eyes, watched_run}
use Rattle.java_meaning.proofs.Examples.{tag, variable, class, object, under, method, maker, main_of, two, many}

-- the value is an object or array of this creation
abbrev is_made_by : ℕ → List Cell → Value → Bool
is_made_by n h (Object a) = option_map_or (λ c. option_map_or (λ m. m == n) c.site false) (slice_get h a) false
is_made_by n h v = false

-- a watch that lets all pass but what this creation makes, at these spots and among the arguments of these bodies
abbrev without : ℕ → (Spot → Bool) → (ℕ → Bool) → Eyes
without n at args =
    record {
      sees = λ p v h. not (at p && is_made_by n h v);
      sees_all = λ b vs h. not (args b && list_any (is_made_by n h) vs);
      note = λ p v h m. m;
      note_all = λ b vs h m. m;
    }

-- class A { A f; A m() { return this; } } class B extends A { A m() { return super.m(); } } class C { C(A x) {} }
-- class Main { static A s; static A same(A x) { return x; } .. }
abbrev a_class : Ty
a_class = class_type 1

abbrev gives_this : PlainMethod
gives_this = method 1 (codes "m") [] [] (Some a_class) (Some 0) (st_then (return tag (Some (this tag))) no_st)

abbrev gives_super : PlainMethod
gives_super = method 2 (codes "m") [] [] (Some a_class) (Some 0) (st_then (return tag (Some (super_call tag (codes "m") no_ex))) no_st)

abbrev gives_same : PlainMethod
gives_same = record (method 3 (codes "same") (variable (codes "x") a_class ∷ []) [] (Some a_class) None
    (st_then (return tag (Some (local tag 0))) no_st)) { is_static = true }

abbrev makes_nothing : PlainMethod
makes_nothing = maker 4 (codes "C") (variable (codes "x") a_class ∷ []) 1 no_st

abbrev x : Ex
x = local tag 1

abbrev y : Ex
y = local tag 2

-- A x = new B(); A y; A[] a = new A[1]; boolean b; s = x; x.f = x; y = x; y = y.f; a[0] = x; y = a[0]; y = x.m(); y = same(x); y = (B) x; b = x instanceof B;
-- new C(x);
abbrev all_looks : Sts
all_looks =
    st_then (declare tag 1 (Some (create tag 0 2 no_ex)))
    (st_then (declare tag 2 None)
    (st_then (declare tag 3 (Some (create_array tag 1 (many 1) (number tag (pos 1)))))
    (st_then (declare tag 4 None)
    (st_then (assign tag (to_static tag 1) x)
    (st_then (assign tag (to_field tag x (codes "f")) x)
    (st_then (assign tag (to_local tag 2) x)
    (st_then (assign tag (to_local tag 2) (field tag y (codes "f")))
    (st_then (assign tag (to_element tag (local tag 3) (number tag (pos 0))) x)
    (st_then (assign tag (to_local tag 2) (index tag (local tag 3) (number tag (pos 0))))
    (st_then (assign tag (to_local tag 2) (call tag x (codes "m") no_ex))
    (st_then (assign tag (to_local tag 2) (static_call tag 2 (ex_then x no_ex)))
    (st_then (assign tag (to_local tag 2) (cast tag 2 (class_type 2) x))
    (two (assign tag (to_local tag 4) (instance_of tag 3 x 2))
    (act tag (create tag 4 4 (ex_then x no_ex))))))))))))))))

abbrev looking : Plain
looking =
    record {
      classes = object ∷ class (codes "A") (under 0) ∷ class (codes "B") (under 1) ∷ class (codes "Main") (under 0)
          ∷ class (codes "C") (under 0) ∷ [];
      fields = record { owner = 1; name = codes "f"; is_static = false; ty = a_class; tag = tag }
          ∷ record { owner = 3; name = codes "s"; is_static = true; ty = a_class; tag = tag } ∷ [];
      slots = record { name = codes "m"; params = []; result = Some a_class; first = 0 }
          ∷ record { name = maker_name (codes "C"); params = a_class ∷ []; result = None; first = 4 } ∷ [];
      main = 3;
      methods = gives_this ∷ gives_super ∷ gives_same
          ∷ main_of 3 (variable (codes "x") a_class ∷ variable (codes "y") a_class ∷ variable (codes "a") (many 1) ∷ variable (codes "b")
          (plain_type Boolean) ∷ []) all_looks ∷ makes_nothing ∷ [];
    }

abbrev code_of : ℕ → Option Sts
code_of m = option_and_then (λ (k : PlainMethod). k.body) (slice_get looking.methods m)

-- how the run ends where what the creation makes does not pass at the spots, or among the arguments of the bodies
abbrev ends_without : ℕ → (Spot → Bool) → (ℕ → Bool) → End
ends_without n at args = (watched_run looking code_of (without n at args) [] 9).end

abbrev nowhere : Spot → Bool
nowhere p = false

abbrev no_body : ℕ → Bool
no_body b = false

-- the forms whose values a run looks at, by number
abbrev form : Ex → ℕ
form (create t n c es) = 0
form (create_array t n u e) = 1
form (field t e f) = 2
form (index t e i) = 3
form (call t e f es) = 4
form (static_call t d es) = 5
form (super_call t f es) = 6
form (cast t n u e) = 7
form e = 8

-- the value of a form
abbrev of_form : ℕ → Spot → Bool
of_form n (held m e) = form e == n
of_form n p = false

-- what is set
abbrev at_local : Spot → Bool
at_local (bound m i) = i == 1
at_local p = false

abbrev at_static : Spot → Bool
at_static (set_static f) = f == 1
at_static p = false

abbrev at_field : Spot → Bool
at_field (kept o f) = f == 0
at_field p = false

abbrev at_element : Spot → Bool
at_element (put_in o) = true
at_element p = false

-- `this`, and what a body gives
abbrev at_self : ℕ → Spot → Bool
at_self b (self_of m) = m == b
at_self b p = false

abbrev at_result : ℕ → Spot → Bool
at_result b (result_of m) = m == b
at_result b p = false

-- the object whose field is written, through x, or read, through y; what a test tests; and the receiver of a call
abbrev at_written : Spot → Bool
at_written (touched m (local t i) f) = i == 1
at_written p = false

abbrev at_read : Spot → Bool
at_read (touched m (local t i) f) = i == 2
at_read p = false

abbrev at_cast : Spot → Bool
at_cast (tested m (cast t n u e) b) = true
at_cast p = false

abbrev at_test : Spot → Bool
at_test (tested m (instance_of t n e c) b) = true
at_test p = false

abbrev at_receiver : ℕ → Spot → Bool
at_receiver n (ran m d b) = b == n
at_receiver n p = false

abbrev runs : ℕ → ℕ → Bool
runs n b = b == n

-- where all passes, and where nothing of another creation does, the run ends
passes : ends_without 2 (λ p. true) (λ b. true) ≡ Ended
unfolding run_in layout below field_in member_field field_of search_order declaration_of lookup super_method
passes = refl

-- the object of the first creation, at one look after the other
abbrev looks : List (Spot → Bool)
looks = at_local ∷ at_static ∷ at_written ∷ at_field ∷ at_read ∷ at_element ∷ at_receiver 1 ∷ at_self 1 ∷ at_self 0 ∷ at_result 0 ∷ at_result 1 ∷ at_result 2
    ∷ at_cast ∷ at_test ∷ map of_form (0 ∷ 2 ∷ 3 ∷ 4 ∷ 5 ∷ 6 ∷ 7 ∷ [])

looks_at_each : map (λ p. ends_without 0 p no_body) looks ≡ map (λ p. Escaped) looks
unfolding run_in layout below field_in member_field field_of search_order declaration_of lookup super_method
looks_at_each = refl

looks_at_arguments : map (λ n. ends_without 0 nowhere (runs n)) (2 ∷ 4 ∷ []) ≡ Escaped ∷ Escaped ∷ []
unfolding run_in layout below field_in member_field field_of search_order declaration_of lookup super_method
looks_at_arguments = refl

-- and the array of the second
looks_at_array : ends_without 1 (of_form 1) no_body ≡ Escaped
unfolding run_in layout below field_in member_field field_of search_order declaration_of lookup super_method
looks_at_array = refl

-- and the object that a constructor makes
looks_at_made : map (λ p. ends_without 4 p no_body) (of_form 0 ∷ at_receiver 4 ∷ at_self 4 ∷ []) ≡ Escaped ∷ Escaped ∷ Escaped ∷ []
unfolding run_in layout below field_in member_field field_of search_order declaration_of lookup super_method
looks_at_made = refl
