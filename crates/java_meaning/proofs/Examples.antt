-- Runs of small programs, as the definitions give them.
use lib.Utf8.{encode}
use Rattle.std.specs.Char.Utf16.{utf16_chars}
use Rattle.std.specs.Fmt.{digits}
use Rattle.std.proofs.Common.{◌≡◌, refl}
use Rattle.std.specs.Prelude.{ℕ, ℤ, pos, negsuc, true, false, List, [], ◌∷◌, ◌++◌, Option, Some, None, map, slice_get, codes}
use Rattle.kaba_base.specs.declared.ClassId.{ClassId}
use Rattle.java_core.specs.declared.Ty.{Ty}
use Rattle.java_core.specs.declared.TyBase.TheVariants.{Int, Str, Class}
use Rattle.java_core.specs.declared.BinOp.TheVariants as bin
use Rattle.java_core.specs.declared.BinOp.{BinOp}
use Rattle.java_core.specs.declared.Op.TheVariants as op
use Rattle.java_core.specs.declared.Fault.TheVariants as fault
use Rattle.java_core.specs.Trees.{Tag, Ex, no_ex, ex_then, number, character, text, truth, null, this, local, own_field, field, call, super_call, create, create_array, cast, instance_of, binary, to_local, to_own, to_element, St, Sts, declare, assign, act, break, continue, print, choose, loop, return, no_st, st_then, no_other, arm}
use Rattle.java_core.specs.Programs.{Plain, PlainClass, PlainMethod, PlainLocal}
use Rattle.java_core.specs.Classes.{below, field_of, member_field, search_order, declaration_of, lookup, super_method}
use Rattle.java_core.specs.Makers.{maker_name, call_above}
use Rattle.java_core.specs.Types.{plain_type, class_type, field_in}
use Rattle.std.specs.Option.{option_and_then}
use Rattle.java_meaning.specs.Watched.{Eyes, watched_run}
use Rattle.java_meaning.specs.Moment.{Object, held, bound, Ended, Faulted, Going, Escaped}
use Rattle.java_meaning.specs.Meaning.{run_in}
use Rattle.java_meaning.specs.Languages.{layout, run}

abbrev pub tag : Tag
tag = record { label = 0; place = record { at = 0; line = 0 } }

abbrev pub variable : List ℕ → Ty → PlainLocal
variable x t = record { name = x; ty = t; tag = tag }

abbrev pub class : List ℕ → Option ClassId → PlainClass
class x p = record { name = x; is_interface = false; is_abstract = false; parent = p; faces = []; tag = tag }

abbrev pub object : PlainClass
object = class (codes "Object") None

abbrev pub under : ℕ → Option ClassId
under c = Some (record { 0 = c })

abbrev pub method : ℕ → List ℕ → List PlainLocal → List PlainLocal → Option Ty → Option ℕ → Sts → PlainMethod
method c x ps ls t s xs = record {
  owner = c;
  name = x;
  is_static = false;
  is_public = true;
  slot = s;
  params = ps;
  locals = ls;
  result = t;
  body =
      Some xs;
  tag = tag;
}

abbrev pub main_of : ℕ → List PlainLocal → Sts → PlainMethod
main_of c ls xs = record (method c (codes "main") (variable (codes "args") (record { base = Str; dim = 1 }) ∷ []) ls None None xs) { is_static = true }

abbrev pub two : St → St → Sts
two a b = st_then a (st_then b no_st)

abbrev pub print_line : Ex → St
print_line e = print tag true (Some e)

abbrev pub plus : Ex → Ex → Ex
plus a b = binary tag (bin.Int op.Plus) a b

-- int i = 0; while (i < 3) { System.out.println(i); i = i + 1; }
abbrev pub counting_code : Sts
counting_code =
    two (declare tag 1 (Some (number tag (pos 0))))
    (loop tag true no_st (Some (binary tag bin.Less (local tag 1) (number tag (pos 3)))) no_st
    (two (print_line (local tag 1)) (assign tag (to_local tag 1) (plus (local tag 1) (number tag (pos 1))))))

abbrev pub counting_main : PlainMethod
counting_main = main_of 1 (variable (codes "i") (plain_type Int) ∷ []) counting_code

abbrev pub counting : Plain
counting = record { classes = object ∷ class (codes "Main") (under 0) ∷ []; fields = []; slots = []; main = 0; methods = counting_main ∷ [] }

counts_three : run counting [] 3 ≡ record { end = Ended; out = codes "0\n1\n2\n"; left = 0; met = [] }
unfolding run_in layout utf16_chars digits encode
counts_three = refl

counts_two : run counting [] 2 ≡ record { end = Going; out = codes "0\n1\n"; left = 0; met = [] }
unfolding run_in layout utf16_chars digits encode
counts_two = refl

counts_none : run counting [] 0 ≡ record { end = Going; out = []; left = 0; met = [] }
unfolding run_in layout utf16_chars digits encode
counts_none = refl

-- class A { int f; int m() { return this.f; } } class B extends A { int m() { return super.m() + 1; } }: A x = new B(); System.out.println(x.m());
abbrev overriding : Plain
overriding =
    record {
      classes = object ∷ class (codes "A") (under 0) ∷ class (codes "B") (under 1) ∷ class (codes "Main") (under 0) ∷ [];
      fields = record { owner = 1; name = codes "f"; is_static = false; ty = plain_type Int; tag = tag } ∷ [];
      slots = record { name = codes "m"; params = []; result = Some (plain_type Int); first = 0 } ∷ [];
      main = 2;
      methods = method 1 (codes "m") [] [] (Some (plain_type Int)) (Some 0) (st_then (return tag (Some (field tag (this tag) (codes "f")))) no_st)
          ∷ method 2 (codes "m") [] [] (Some (plain_type Int)) (Some 0)
          (st_then (return tag (Some (plus (super_call tag (codes "m") no_ex) (number tag (pos 1))))) no_st)
          ∷ main_of 3 (variable (codes "x") (class_type 1) ∷ []) (two (declare tag 1 (Some (create tag 0 2 no_ex)))
          (print_line (call tag (local tag 1) (codes "m") no_ex))) ∷ [];
    }

overrides : run overriding [] 10 ≡ record { end = Ended; out = codes "1\n"; left = 7; met = [] }
unfolding run_in layout utf16_chars digits encode field_in member_field field_of search_order declaration_of lookup super_method
overrides = refl

overrides_two : run overriding [] 2 ≡ record { end = Going; out = []; left = 0; met = [] }
unfolding run_in layout utf16_chars digits encode field_in member_field field_of search_order declaration_of lookup super_method
overrides_two = refl

-- class A {} class B extends A { int f; }: A x = new A(); if (args.length > 0) { x = new B(); } System.out.println(x instanceof B); B y = (B) x;
-- System.out.println(y.f);
abbrev casting : Plain
casting =
    record {
      classes = object ∷ class (codes "A") (under 0) ∷ class (codes "B") (under 1) ∷ class (codes "Main") (under 0) ∷ [];
      fields = record { owner = 2; name = codes "f"; is_static = false; ty = plain_type Int; tag = tag } ∷ [];
      slots = [];
      main = 0;
      methods = main_of 3 (variable (codes "x") (class_type 1) ∷ variable (codes "y") (class_type 2) ∷ [])
          (st_then (declare tag 1 (Some (create tag 0 1 no_ex)))
          (st_then (choose tag (arm (binary tag bin.Greater (field tag (local tag 0) (codes "length")) (number tag (pos 0)))
          (st_then (assign tag (to_local tag 1) (create tag 1 2 no_ex)) no_st) no_other))
          (st_then (print_line (instance_of tag 2 (local tag 1) 2))
          (two (declare tag 2 (Some (cast tag 3 (class_type 2) (local tag 1)))) (print_line (field tag (local tag 2) (codes "f"))))))) ∷ [];
    }

casts_not : run casting [] 10 ≡ record { end = Faulted fault.ClassCast; out = codes "false\n"; left = 9; met = [] }
unfolding run_in layout utf16_chars digits encode field_in member_field field_of below
casts_not = refl

casts : run casting (codes "w" ∷ []) 10 ≡ record { end = Ended; out = codes "true\n0\n"; left = 8; met = [] }
unfolding run_in layout utf16_chars digits encode field_in member_field field_of below
casts = refl

-- a constructor of the class c, which has this name; its slot is s
abbrev pub maker : ℕ → List ℕ → List PlainLocal → ℕ → Sts → PlainMethod
maker c x ps s xs = method c (maker_name x) ps [] None (Some s) xs

-- class A { int f; A(int x) { f = x; System.out.println(f); } } class B extends A { B(int y) { super(y + 1); System.out.println(f + y); } }:
-- A x = new A(5); System.out.println("A"); x = new B(6); System.out.println(x.f);
abbrev making : Plain
making =
    record {
      classes = object ∷ class (codes "A") (under 0) ∷ class (codes "B") (under 1) ∷ class (codes "Main") (under 0) ∷ [];
      fields = record { owner = 1; name = codes "f"; is_static = false; ty = plain_type Int; tag = tag } ∷ [];
      slots = record { name = maker_name (codes "A"); params = plain_type Int ∷ []; result = None; first = 1 }
          ∷ record { name = maker_name (codes "B"); params = plain_type Int ∷ []; result = None; first = 2 } ∷ [];
      main = 0;
      methods = main_of 3 (variable (codes "x") (class_type 1) ∷ [])
          (st_then (declare tag 1 (Some (create tag 0 1 (ex_then (number tag (pos 5)) no_ex))))
          (st_then (print_line (text tag (codes "A")))
          (two (assign tag (to_local tag 1) (create tag 1 2 (ex_then (number tag (pos 6)) no_ex)))
          (print_line (field tag (local tag 1) (codes "f"))))))
          ∷ maker 1 (codes "A") (variable (codes "x") (plain_type Int) ∷ []) 0 (two (assign tag (to_own tag 0) (local tag 0)) (print_line (own_field tag 0)))
          ∷ maker 2 (codes "B") (variable (codes "y") (plain_type Int) ∷ []) 1
          (two (call_above tag (codes "A") (ex_then (plus (local tag 0) (number tag (pos 1))) no_ex)) (print_line (plus (own_field tag 0) (local tag 0))))
          ∷ [];
    }

-- with fewer than three steps left a creation takes them all, and nothing is made; the call of the superclass's constructor takes one
makes : map (λ n. run making [] n) (0 ∷ 1 ∷ 2 ∷ 3 ∷ 4 ∷ 5 ∷ 6 ∷ 7 ∷ 8 ∷ [])
    ≡ record { end = Going; out = []; left = 0; met = [] } ∷ record { end = Going; out = []; left = 0; met = [] }
    ∷ record { end = Going; out = []; left = 0; met = [] } ∷ record { end = Going; out = codes "5\nA\n"; left = 0; met = [] }
    ∷ record { end = Going; out = codes "5\nA\n"; left = 0; met = [] } ∷ record { end = Going; out = codes "5\nA\n"; left = 0; met = [] }
    ∷ record { end = Going; out = codes "5\nA\n"; left = 0; met = [] } ∷ record { end = Ended; out = codes "5\nA\n7\n13\n7\n"; left = 0; met = [] }
    ∷ record { end = Ended; out = codes "5\nA\n7\n13\n7\n"; left = 1; met = [] } ∷ []
unfolding run_in layout utf16_chars digits encode field_in member_field field_of search_order declaration_of lookup super_method
makes = refl

abbrev pub many : ℕ → Ty
many c = record { base = Class (record { 0 = c }); dim = 1 }

-- class A {} class B extends A {}: B[] b = new B[1]; A[] a = b; a[0] = new B(); System.out.println("ok"); a[0] = new A();
abbrev storing : Plain
storing =
    record {
      classes = object ∷ class (codes "A") (under 0) ∷ class (codes "B") (under 1) ∷ class (codes "Main") (under 0) ∷ [];
      fields = [];
      slots = [];
      main = 0;
      methods = main_of 3 (variable (codes "b") (many 2) ∷ variable (codes "a") (many 1) ∷ [])
          (st_then (declare tag 1 (Some (create_array tag 0 (many 2) (number tag (pos 1)))))
          (st_then (declare tag 2 (Some (local tag 1)))
          (st_then (assign tag (to_element tag (local tag 2) (number tag (pos 0))) (create tag 1 2 no_ex))
          (two (print_line (text tag (codes "ok"))) (assign tag (to_element tag (local tag 2) (number tag (pos 0))) (create tag 2 1 no_ex)))))) ∷ [];
    }

stores : run storing [] 10 ≡ record { end = Faulted fault.ArrayStore; out = codes "ok\n"; left = 7; met = [] }
unfolding run_in layout utf16_chars digits encode below
stores = refl

-- a main without locals
abbrev only : Sts → Plain
only xs = record { classes = object ∷ class (codes "Main") (under 0) ∷ []; fields = []; slots = []; main = 0; methods = main_of 1 [] xs ∷ [] }

-- System.out.println("a" + 'b' + -7 + true + null); with an unpaired surrogate in front
joins : run (only (st_then (print_line (plus (plus (plus (plus (text tag (0xD800 ∷ codes "a")) (character tag 98)) (number tag (negsuc 6)))
    (truth tag true)) (null tag))) no_st)) [] 0
    ≡ record { end = Ended; out = codes "?ab-7truenull\n"; left = 0; met = [] }
unfolding run_in layout utf16_chars digits encode
joins = refl

-- System.out.println(new int[-1]);
negative : run (only (st_then (print_line (create_array tag 0 (record { base = Int; dim = 1 }) (number tag (negsuc 0)))) no_st)) [] 0
    ≡ record { end = Faulted fault.NegativeSize; out = []; left = 0; met = [] }
unfolding run_in layout utf16_chars digits encode
negative = refl

abbrev prints : BinOp → Ex → Ex → St
prints o a b = print_line (binary tag o a b)

abbrev int : ℤ → Ex
int n = number tag n

-- int a = -2147483648; int z = 0; then the lines a / -1, 1 << 33, -7 / 2, -7 % 2, 'a' + 1, 1 / z
numbers : run (record {
  classes = object ∷ class (codes "Main") (under 0) ∷ [];
  fields = [];
  slots = [];
  main = 0;
  methods = main_of 1 (variable (codes "a") (plain_type Int) ∷ variable (codes "z") (plain_type Int) ∷ [])
      (st_then (declare tag 1 (Some (int (negsuc 2147483647))))
      (st_then (declare tag 2 (Some (int (pos 0)))) (st_then (prints (bin.Int op.Divide) (local tag 1) (int (negsuc 0)))
      (st_then (prints (bin.Int op.ShiftLeft) (int (pos 1)) (int (pos 33)))
      (st_then (prints (bin.Int op.Divide) (int (negsuc 6)) (int (pos 2))) (st_then (prints (bin.Int op.Remainder) (int (negsuc 6)) (int (pos 2)))
      (two (prints (bin.Int op.Plus) (character tag 97) (int (pos 1))) (prints (bin.Int op.Divide) (int (pos 1)) (local tag 2))))))))) ∷ [];
}) [] 0
    ≡ record { end = Faulted fault.DivZero; out = codes "-2147483648\n2\n-3\n-1\n98\n"; left = 0; met = [] }
unfolding run_in layout utf16_chars digits encode
numbers = refl

-- a main with one local
abbrev with_local : Ty → Sts → Plain
with_local t xs = record {
  classes = object ∷ class (codes "Main") (under 0) ∷ [];
  fields = [];
  slots = [];
  main = 0;
  methods = main_of 1
      (variable (codes "x") t ∷ []) xs ∷ [];
}

abbrev only_if : Ex → St → St
only_if e x = choose tag (arm e (st_then x no_st) no_other)

-- for (int x = 0; x < 5; x = x + 1) { if (x == 1) { continue; } if (x == 3) { break; } System.out.println(x); }
leaves : run (with_local (plain_type Int)
    (st_then (loop tag false (st_then (declare tag 1 (Some (int (pos 0)))) no_st) (Some (binary tag bin.Less (local tag 1) (int (pos 5))))
    (st_then (assign tag (to_local tag 1) (plus (local tag 1) (int (pos 1)))) no_st)
    (st_then (only_if (binary tag bin.Same (local tag 1) (int (pos 1))) (continue tag))
    (two (only_if (binary tag bin.Same (local tag 1) (int (pos 3))) (break tag)) (print_line (local tag 1))))) no_st)) [] 9
    ≡ record { end = Ended; out = codes "0\n2\n"; left = 5; met = [] }
unfolding run_in layout utf16_chars digits encode
leaves = refl

-- int x = 'a'; System.out.println(x); System.out.println(false && 1 / 0 == 0); System.out.println("ab".charAt(x));
widens : run (with_local (plain_type Int) (st_then (declare tag 1 (Some (character tag 97))) (st_then (print_line (local tag 1))
    (two (prints bin.Both (truth tag false) (binary tag bin.Same (binary tag (bin.Int op.Divide) (int (pos 1)) (int (pos 0))) (int (pos 0))))
    (print_line (call tag (text tag (codes "ab")) (codes "charAt") (ex_then (local tag 1) no_ex))))))) [] 0
    ≡ record { end = Faulted fault.Bounds; out = codes "97\nfalse\n"; left = 0; met = [] }
unfolding run_in layout utf16_chars digits encode
widens = refl

-- String x; System.out.println(x + 1); System.out.println("a".equals(x)); x.length();
nulls : run (with_local (plain_type Str) (st_then (declare tag 1 None) (st_then (print_line (plus (local tag 1) (int (pos 1))))
    (two (print_line (call tag (text tag (codes "a")) (codes "equals") (ex_then (local tag 1) no_ex)))
    (act tag (call tag (local tag 1) (codes "length") no_ex)))))) [] 0
    ≡ record { end = Faulted fault.Null; out = codes "null1\nfalse\n"; left = 0; met = [] }
unfolding run_in layout utf16_chars digits encode
nulls = refl

-- a watch that lets nothing pass
abbrev blind : Eyes
blind = record { sees = λ p v h. false; sees_all = λ b vs h. false; note = λ p v h m. m; note_all = λ b vs h m. m }

escapes : (watched_run overriding (λ m. option_and_then (λ (k : PlainMethod). k.body) (slice_get overriding.methods m)) blind [] 10).end ≡ Escaped
unfolding run_in layout
escapes = refl

-- a record of each look at one value
abbrev recording : Eyes
recording =
    record {
      sees = λ p v h. true;
      sees_all = λ b vs h. true;
      note = λ p v h m. m ++ record { spot = p; value = v; site = None }
          ∷ [];
      note_all = λ b vs h m. m;
    }

abbrev keeping : Plain
keeping = with_local (class_type 1) (st_then (declare tag 1 (Some (create tag 0 1 no_ex))) no_st)

-- Main x = new Main(); the new object is looked at, then the local that is set
notes : (watched_run keeping (λ m. option_and_then (λ (k : PlainMethod). k.body) (slice_get keeping.methods m)) recording [] 1).met
    ≡ record { spot = held 0 (create tag 0 1 no_ex); value = Object 1; site = None } ∷ record { spot = bound 0 1; value = Object 1; site = None } ∷ []
unfolding run_in layout
notes = refl

notes_nothing : (run keeping [] 1).met ≡ []
unfolding run_in layout
notes_nothing = refl
