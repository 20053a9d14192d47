-- Two small programs that are twins: the second has other names, numbers of classes and fields. Their runs are the same.
use Rattle.std.proofs.Common.{◌≡◌, ℕ, zero, suc, List, [], ◌∷◌, Option, Some, None, refl, sym, ap, ◌∙◌, subst}
use Rattle.std.specs.Prelude.{pos, Bool, true, false, ◌==◌, ◌&&◌, slice_get, codes}
use Rattle.std.specs.Option.{option_map, option_map_or}
use Rattle.std.proofs.lemmas.Bool.{false≢true, and_parts, eqb-true}
use Rattle.std.proofs.lemmas.Option.{same_Some}
use Rattle.java_core.specs.declared.Ty.{Ty}
use Rattle.java_core.specs.declared.TyBase.TheVariants.{Int, Str}
use Rattle.java_core.specs.declared.BinOp.TheVariants as bin
use Rattle.java_core.specs.declared.Op.TheVariants as op
use Rattle.java_core.specs.Trees.{no_ex, number, text, this, local, own_field, field, index, call, super_call, create, create_array, cast, binary, to_field, to_element, Sts, declare, assign, print, return, no_st, st_then}
use Rattle.java_core.specs.Programs.{Plain, PlainMethod, PlainLocal}
use Rattle.java_core.specs.Classes.{below, field_of, member_field, search_order, declaration_of, lookup, super_method}
use Rattle.java_core.specs.Types.{plain_type, class_type, field_in}
use Rattle.java_meaning.specs.Paired.{pair_some, pair_declare, pair_assign, pair_print, pair_return, pair_no_st, pair_st_then}
use Rattle.java_meaning.specs.Moment.{Value, Number, Nothing, Object, Kind, an_object, an_array, Cell, own_type, own_class, Spot, touched, Ended, unnoted, Body, Lang}
use Rattle.java_meaning.specs.Meaning.{words_type, element_type, run_in}
use Rattle.java_meaning.specs.Languages.{layout, body_with, language_of}
use Rattle.java_meaning.proofs.Layouts.{places}
use Rattle.flow_laws.specs.cover.Watched.{Of}
use Rattle.rebuild_laws.specs.twins.Twins.{shape_of, Link, value_at, same_number, same_text, same_local, same_own_field, same_field, same_index, same_call, same_super_call, same_create, same_create_array, same_cast, same_binary, same_no_ex, same_to_field, same_to_element, HasPair, neither_makes, SameSts, SameBody, AreTwins}
use Rattle.rebuild_laws.proofs.twins.States.{Alike}
use Rattle.rebuild_laws.proofs.twins.SameRun.{same_run}
use Rattle.java_meaning.proofs.Examples.{tag, variable, class, under, many, main_of, method as method_of}

abbrev method : ℕ → List ℕ → Sts → PlainMethod
method c x xs = method_of c x [] [] (Some (plain_type Int)) (Some 0) xs

-- the code of `main`, over the classes a and b and the names f and m: b x = new b(); a[] y = new a[1]; x.f = 5; y[0] = x; b z = (b) y[0];
-- System.out.println(z.m()); System.out.println(y.length); System.out.println("ab".length());
abbrev main_code : ℕ → ℕ → List ℕ → List ℕ → Sts
main_code a b f m =
    st_then (declare tag 1 (Some (create tag 0 b no_ex)))
    (st_then (declare tag 2 (Some (create_array tag 1 (many a) (number tag (pos 1)))))
    (st_then (assign tag (to_field tag (local tag 1) f) (number tag (pos 5)))
    (st_then (assign tag (to_element tag (local tag 2) (number tag (pos 0))) (local tag 1))
    (st_then (declare tag 3 (Some (cast tag 2 (class_type b) (index tag (local tag 2) (number tag (pos 0))))))
    (st_then (print tag true (Some (call tag (local tag 3) m no_ex)))
    (st_then (print tag true (Some (field tag (local tag 2) (codes "length"))))
    (st_then (print tag true (Some (call tag (text tag (codes "ab")) (codes "length") no_ex))) no_st)))))))

abbrev locals_of : ℕ → ℕ → List PlainLocal
locals_of a b = variable (codes "x") (class_type b) ∷ variable (codes "y") (many a) ∷ variable (codes "z") (class_type b) ∷ []

-- class A { int f; int m() { return f; } } class B extends A { int m() { return super.m() + 1; } } class Main { .. }
abbrev old_first : PlainMethod
old_first = method 1 (codes "m") (st_then (return tag (Some (own_field tag 0))) no_st)

abbrev super_sum : List ℕ → Sts
super_sum m = st_then (return tag (Some (binary tag (bin.Int op.Plus) (super_call tag m no_ex) (number tag (pos 1))))) no_st

abbrev old_second : PlainMethod
old_second = method 2 (codes "m") (super_sum (codes "m"))

abbrev old_main : PlainMethod
old_main = main_of 3 (locals_of 1 2) (main_code 1 2 (codes "f") (codes "m"))

abbrev old_program : Plain
old_program =
    record {
      classes = class (codes "Object") None ∷ class (codes "A") (under 0) ∷ class (codes "B") (under 1) ∷ class (codes "Main") (under 0) ∷ [];
      fields = record { owner = 1; name = codes "f"; is_static = false; ty = plain_type Int; tag = tag } ∷ [];
      methods = old_first ∷ old_second ∷ old_main ∷ [];
      slots = record { name = codes "m"; params = []; result = Some (plain_type Int); first = 0 } ∷ [];
      main = 2;
    }

-- class Main { .. } abstract class A_1 { int g; int h; int n() { return this.h; } abstract int k(); }
-- class B_2 extends A_1 { int n() { return super.n() + 1; } int k() { return 0; } }, in which k fills in for a body that no run needs
abbrev new_first : PlainMethod
new_first = method 2 (codes "n") (st_then (return tag (Some (field tag (this tag) (codes "h")))) no_st)

abbrev new_second : PlainMethod
new_second = method 3 (codes "n") (super_sum (codes "n"))

abbrev new_head : PlainMethod
new_head = record (method 2 (codes "k") no_st) { slot = Some 1; body = None }

abbrev new_filler : PlainMethod
new_filler = record (method 3 (codes "k") (st_then (return tag (Some (number tag (pos 0)))) no_st)) { slot = Some 1 }

abbrev new_main : PlainMethod
new_main = main_of 1 (locals_of 2 3) (main_code 2 3 (codes "h") (codes "n"))

abbrev new_program : Plain
new_program =
    record {
      classes = class (codes "Object") None ∷ class (codes "Main") (under 0) ∷ record (class (codes "A_1") (under 0)) { is_abstract = true }
          ∷ class (codes "B_2") (under 2) ∷ [];
      fields = record { owner = 2; name = codes "g"; is_static = false; ty = plain_type Int; tag = tag }
          ∷ record { owner = 2; name = codes "h"; is_static = false; ty = plain_type Int; tag = tag } ∷ [];
      methods = new_main ∷ new_second ∷ new_first ∷ new_head ∷ new_filler ∷ [];
      slots = record { name = codes "n"; params = []; result = Some (plain_type Int); first = 1 }
          ∷ record { name = codes "k"; params = []; result = Some (plain_type Int); first = 3 } ∷ [];
      main = 0;
    }

-- the first creation is an object, the second an array
abbrev is_first : Option ℕ → Bool
is_first (Some zero) = true
is_first (Some (suc n)) = false
is_first None = false

abbrev kind_in : ℕ → ℕ → Option ℕ → Kind
kind_in a b None = an_array words_type
kind_in a b (Some zero) = an_object b
kind_in a b (Some (suc n)) = an_array (many a)

abbrev may_be : Spot → Option ℕ → Bool
may_be (touched m e f) o = is_first o
may_be p o = true

abbrev link : Link
link =
    record {
      may = may_be;
      has = λ o f. (f == 0) && is_first o;
      new_field = λ f. 1;
      is_static = λ f. false;
      new_static = λ f. f;
    }

record Made (o : Option ℕ) (k l : Kind) : Type 0 where
  old : kind_in 1 2 o ≡ k
  new : kind_in 2 3 o ≡ l

abbrev passes_at : (Option ℕ → Bool) → Value → List Cell → Bool
passes_at X (Object a) h = option_map_or (λ c. X c.site) (slice_get h a) false
passes_at X v h = true

abbrev all_there : List Value → List Cell → Bool
all_there [] h = true
all_there (v ∷ vs) h = passes_at (λ o. true) v h && all_there vs h

abbrev old_language : Lang
old_language = record (language_of old_program) { sees = λ p v h. passes_at (may_be p) v h; sees_all = λ b vs h. all_there vs h }

abbrev new_language : Lang
new_language = language_of new_program

data Pair : Body → Body → Type 0 where
  pair_main : Pair (body_with 2 old_main (main_code 1 2 (codes "f") (codes "m"))) (body_with 0 new_main (main_code 2 3 (codes "h") (codes "n")))
  pair_first : Pair (body_with 0 old_first (st_then (return tag (Some (own_field tag 0))) no_st))
      (body_with 2 new_first (st_then (return tag (Some (field tag (this tag) (codes "h")))) no_st))
  pair_second : Pair (body_with 1 old_second (super_sum (codes "m"))) (body_with 1 new_second (super_sum (codes "n")))

passes_of : (X : Option ℕ → Bool) (v : Value) (h : List Cell) → passes_at X v h ≡ true → Of h v X
passes_of X (Object a) h e = go (slice_get h a) refl e
  where
    go : (o : Option Cell) → slice_get h a ≡ o → option_map_or (λ c. X c.site) o false ≡ true → Of h (Object a) X
    go None d e = absurd (false≢true e)
    go (Some c) d e = record { cell = c; there = d; member = e }
passes_of X v h e = tt

all_of : (vs : List Value) (h : List Cell) → all_there vs h ≡ true → (i : ℕ) (v : Value) → slice_get vs i ≡ Some v → Of h v (λ o. true)
all_of [] h e i v d = absurd (cc)
all_of (w ∷ vs) h e zero v d = subst (λ z. Of h z (λ o. true)) (same_Some w v d)
    (passes_of (λ o. true) w h (and_parts (passes_at (λ o. true) w h) (all_there vs h) e).0)
all_of (w ∷ vs) h e (suc i) v d = all_of vs h (and_parts (passes_at (λ o. true) w h) (all_there vs h) e).1 i v d

only : (f : ℕ) (o : Option ℕ) → ((f == 0) && is_first o) ≡ true → f ≡ 0
only f o e = eqb-true f 0 (and_parts (f == 0) (is_first o) e).0

paired : (x y b : Body) → Pair x y → Some x ≡ Some b → Pair b y
paired x y b r e = subst (λ z. Pair z y) (same_Some x b e) r

has_pair : (x y b : Body) (q : Option Body) → Pair x y → Some x ≡ Some b → q ≡ Some y → HasPair old_language new_language link Made Pair b q
has_pair x y b q r e f = record { body = y; found = f; pair = paired x y b r e }

abbrev old_second_body : Body
old_second_body = body_with 1 old_second (super_sum (codes "m"))

abbrev new_second_body : Body
new_second_body = body_with 1 new_second (super_sum (codes "n"))

abbrev old_first_body : Body
old_first_body = body_with 0 old_first (st_then (return tag (Some (own_field tag 0))) no_st)

abbrev new_first_body : Body
new_first_body = body_with 2 new_first (st_then (return tag (Some (field tag (this tag) (codes "h")))) no_st)

abbrev old_main_body : Body
old_main_body = body_with 2 old_main (main_code 1 2 (codes "f") (codes "m"))

abbrev new_main_body : Body
new_main_body = body_with 0 new_main (main_code 2 3 (codes "h") (codes "n"))

same_class : (k : Kind) (c d : ℕ) → k ≡ an_object c → an_object d ≡ k → d ≡ c
same_class k c d e f = same_Some d c (ap own_class (f ∙ e))

-- the call runs the second bodies
call_pair : (o : Option ℕ) (c k i : ℕ) (b : Body) → kind_in 1 2 o ≡ an_object c → kind_in 2 3 o ≡ an_object k → Some 0 ≡ Some i
    → old_language.body c i ≡ Some b → HasPair old_language new_language link Made Pair b (new_language.body k 0)
unfolding lookup
call_pair None c k i b ek el ei eb = absurd (let z = ap own_class ek in cc)
call_pair (Some (suc n)) c k i b ek el ei eb = absurd (let z = ap own_class ek in cc)
call_pair (Some zero) c k i b ek el ei eb =
    let one : old_language.body 2 0 ≡ Some b =
    subst (λ z. old_language.body z 0 ≡ Some b) (sym (same_class (an_object 2) c 2 ek refl))
    (subst (λ z. old_language.body c z ≡ Some b) (sym (same_Some 0 i ei)) eb) in
    has_pair old_second_body new_second_body b (new_language.body k 0) pair_second one
    (subst (λ z. new_language.body z 0 ≡ Some new_second_body) (same_class (an_object 3) k 3 el refl) refl)

cast_same : (o : Option ℕ) → old_language.is_sub (own_type (kind_in 1 2 o)) (class_type 2) ≡ new_language.is_sub (own_type (kind_in 2 3 o)) (class_type 3)
unfolding below
cast_same None = refl
cast_same (Some zero) = refl
cast_same (Some (suc n)) = refl

-- each store that passes is of a second creation
store_same : (o q : Option ℕ) (t u : Ty) → element_type (kind_in 1 2 o) ≡ Some t → element_type (kind_in 2 3 o) ≡ Some u
    → old_language.is_sub (own_type (kind_in 1 2 q)) t ≡ new_language.is_sub (own_type (kind_in 2 3 q)) u
unfolding below
store_same o q t u e d = go o q e d
  where
    with_types : (q : Option ℕ) (v w : Ty) → old_language.is_sub (own_type (kind_in 1 2 q)) v ≡ new_language.is_sub (own_type (kind_in 2 3 q)) w → v ≡ t → w ≡ u
        → old_language.is_sub (own_type (kind_in 1 2 q)) t ≡ new_language.is_sub (own_type (kind_in 2 3 q)) u
    with_types q v w h a b = subst (λ z. old_language.is_sub (own_type (kind_in 1 2 q)) z ≡ new_language.is_sub (own_type (kind_in 2 3 q)) u) a
        (subst (λ z. old_language.is_sub (own_type (kind_in 1 2 q)) v ≡ new_language.is_sub (own_type (kind_in 2 3 q)) z) b h)

    words : (q : Option ℕ) → old_language.is_sub (own_type (kind_in 1 2 q)) (plain_type Str) ≡ new_language.is_sub (own_type (kind_in 2 3 q)) (plain_type Str)
    words None = refl
    words (Some zero) = refl
    words (Some (suc n)) = refl

    classes : (q : Option ℕ) → old_language.is_sub (own_type (kind_in 1 2 q)) (class_type 1) ≡ new_language.is_sub (own_type (kind_in 2 3 q)) (class_type 2)
    classes None = refl
    classes (Some zero) = refl
    classes (Some (suc n)) = refl

    go : (o q : Option ℕ) → element_type (kind_in 1 2 o) ≡ Some t → element_type (kind_in 2 3 o) ≡ Some u
        → old_language.is_sub (own_type (kind_in 1 2 q)) t ≡ new_language.is_sub (own_type (kind_in 2 3 q)) u
    go None q e d = with_types q (plain_type Str) (plain_type Str) (words q) (same_Some _ _ e) (same_Some _ _ d)
    go (Some zero) q e d = absurd (cc)
    go (Some (suc n)) q e d = with_types q (class_type 1) (class_type 2) (classes q) (same_Some _ _ e) (same_Some _ _ d)

cast_made : (o : Option ℕ) (k l : Kind) → Made o k l → old_language.is_sub (own_type k) (class_type 2) ≡ new_language.is_sub (own_type l) (class_type 3)
cast_made o k l made = subst (λ z. old_language.is_sub (own_type z) (class_type 2) ≡ new_language.is_sub (own_type l) (class_type 3)) made.old
    (subst (λ z. old_language.is_sub (own_type (kind_in 1 2 o)) (class_type 2) ≡ new_language.is_sub (own_type z) (class_type 3)) made.new (cast_same o))

store_made : (o q : Option ℕ) (a b k l : Kind) (t u : Ty) → Made o a b → Made q k l → element_type a ≡ Some t → element_type b ≡ Some u
    → old_language.is_sub (own_type k) t ≡ new_language.is_sub (own_type l) u
store_made o q a b k l t u made held e d =
    subst (λ z. old_language.is_sub (own_type z) t ≡ new_language.is_sub (own_type l) u) held.old
    (subst (λ z. old_language.is_sub (own_type (kind_in 1 2 q)) t ≡ new_language.is_sub (own_type z) u) held.new
    (store_same o q t u (ap element_type made.old ∙ e) (ap element_type made.new ∙ d)))

-- bodies without parameters and locals are twins if their code is
same_body : (i j c d : ℕ) (x y : List ℕ) (xs ys : Sts)
    → SameSts old_language new_language link Made Pair (body_with i (method c x xs) xs).env (body_with j (method d y ys) ys).env xs ys
    → SameBody old_language new_language link Made Pair (body_with i (method c x xs) xs) (body_with j (method d y ys) ys)
same_body i j c d x y xs ys code = record {
  env = record { locals = refl; result = refl };
  params = refl;
  rest = refl;
  plain = λ i a e. absurd (cc);
  ends = refl;
  code = code;
}

bodies_same : (b c : Body) → Pair b c → SameBody old_language new_language link Made Pair b c
unfolding below field_in member_field field_of search_order declaration_of lookup super_method layout
bodies_same b c pair_first = same_body 0 2 1 2 (codes "m") (codes "n") _ _ (pair_st_then (pair_return (pair_some (same_own_field
    (record { new = λ f e. refl; had = λ f e o c k made m. subst (λ z. ((z == 0) && is_first o) ≡ true) (same_Some 0 f e) m })))) pair_no_st)
bodies_same b c pair_second = same_body 1 1 2 3 (codes "m") (codes "n") _ _ (pair_st_then (pair_return (pair_some (same_binary
    (same_super_call same_no_ex (λ b e. has_pair old_first_body new_first_body b _ pair_first e refl)) same_number))) pair_no_st)
bodies_same b c pair_main = record {
  env = record { locals = refl; result = refl };
  params = refl;
  rest = refl;
  plain = main_plain;
  ends = refl;
  code =
      pair_st_then (pair_declare (pair_some
      (same_create same_no_ex (record { made = record { old = refl; new = refl }; values = λ f h. first_values f (only f (Some 0) h) })
      (neither_makes refl refl))))
      (pair_st_then (pair_declare (pair_some (same_create_array same_number (record { made = record { old = refl; new = refl }; shape = refl }))))
      (pair_st_then (pair_assign (same_to_field same_local
      (record { new = λ f e. refl; had = λ f e o c k made m. subst (λ z. ((z == 0) && is_first o) ≡ true) (same_Some 0 f e) m }))
      same_number)
      (pair_st_then (pair_assign (same_to_element same_local same_number (λ o q a b k l t u made held e d mo mq. store_made o q a b k l t u made held e d))
      same_local)
      (pair_st_then (pair_declare (pair_some (same_cast (same_index same_local same_number) refl (λ e o k l made m. cast_made o k l made))))
      (pair_st_then (pair_print (pair_some (same_call same_local same_no_ex
      (record {
        bodies = λ o c k i b made ei eb m. record { slot = 0; called = refl; runs = call_pair o c k i b made.old made.new ei eb };
        texts = λ m e. absurd (cc);
      }))))
      (pair_st_then (pair_print (pair_some (same_field same_local
      (record { new = λ f e. absurd (cc); had = λ f e o c k made m. absurd (cc) }) (λ e. e))))
      (pair_st_then (pair_print (pair_some (same_call same_text same_no_ex
      (record { bodies = λ o c k i b made ei eb m. absurd (cc); texts = λ m e. e })))) pair_no_st)))))));
}
  where
    main_plain : (i a : ℕ) → slice_get (Nothing ∷ Nothing ∷ Nothing ∷ []) i ≡ Some (Object a) → ⊥
    main_plain zero a e = absurd (let z = same_Some Nothing (Object a) e in cc)
    main_plain (suc zero) a e = absurd (let z = same_Some Nothing (Object a) e in cc)
    main_plain (suc (suc zero)) a e = absurd (let z = same_Some Nothing (Object a) e in cc)
    main_plain (suc (suc (suc i))) a e = absurd (cc)

    first_values : (f : ℕ) → f ≡ 0 → value_at old_language 2 f (old_language.fresh 2) ≡ value_at new_language 3 1 (new_language.fresh 3)
    first_values f e = subst (λ z. value_at old_language 2 z (old_language.fresh 2) ≡ value_at new_language 3 1 (new_language.fresh 3)) (sym e) refl

twins : AreTwins old_language new_language link Made Pair
twins = record {
  sees = λ p v h e. passes_of (may_be p) v h e;
  sees_all = λ b vs h e i v d. all_of vs h e i v d;
  passes = λ p v h. refl;
  passes_all = λ b vs h. refl;
  words = record { old = refl; new = refl };
  old_places = places old_program;
  new_places = places new_program;
  fields_apart = λ o f k hf hk e. only f o hf ∙ sym (only k o hk);
  field_shapes = λ o f h. ap (λ z. option_map shape_of (old_language.field_type z)) (only f o h);
  statics_apart = λ f k hf hk e. absurd (false≢true hf);
  static_shapes = λ f h. absurd (false≢true h);
  statics = λ f h. absurd (false≢true h);
  plain_statics = no_objects;
  pairs = bodies_same;
}
  where
    no_objects : (i a : ℕ) → slice_get (Number (pos 0) ∷ []) i ≡ Some (Object a) → ⊥
    no_objects zero a e = absurd (let z = same_Some (Number (pos 0)) (Object a) e in cc)
    no_objects (suc i) a e = absurd (cc)

-- each runs to its end
ends : ((run_in old_language 2 [] 9).end ≡ Ended) × ((run_in new_language 0 [] 9).end ≡ Ended)
unfolding run_in below field_in member_field field_of search_order declaration_of lookup super_method layout
ends = (refl, refl)

-- so the theorem tells that they print the same
same : unnoted (run_in old_language 2 [] 9) ≡ unnoted (run_in new_language 0 [] 9)
unfolding Alike
same =
    same_run old_language new_language link Made Pair twins 2 0 (λ b e. has_pair old_main_body new_main_body b _ pair_main e refl) [] 9
    (λ w. let z = sym ends.0 ∙ w in cc) (λ w. let z = sym ends.0 ∙ w in cc)
