-- What runs of small programs meet, as the definitions give it.
use Rattle.std.proofs.Common.{◌≡◌, refl}
use Rattle.std.specs.Prelude.{pos, Bool, true, false, List, [], ◌∷◌, Some, codes, None}
use Rattle.std.specs.Char.Utf16.{utf16_chars}
use Rattle.std.specs.Fmt.{digits}
use lib.Utf8.{encode}
use Rattle.java_core.specs.declared.TyBase.TheVariants.{Int}
use Rattle.java_core.specs.declared.BinOp.TheVariants as bin
use Rattle.java_core.specs.Trees.{Tag, no_ex, number, this, local, field, call, super_call, create, cast, instance_of, binary, to_local, declare, assign, choose, return, no_st, st_then, no_other, arm, ex_then, to_field}
use Rattle.java_core.specs.Programs.{Plain}
use Rattle.java_core.specs.Classes.{below, field_of, member_field, search_order, declaration_of, lookup, super_method}
use Rattle.java_core.specs.Types.{plain_type, class_type, field_in}
use Rattle.java_meaning.specs.Languages.{layout}
use Rattle.java_meaning.specs.Meaning.{run_in}
use Rattle.java_meaning.proofs.Examples.{tag, variable, class, object, under, method, main_of, two, print_line, plus}
use Rattle.sure_laws.specs.Events.{Event, cast_met, body_ran, body_entered, field_touched, labelled_body, recorded, events}
use Rattle.java_core.specs.Makers.{maker_name, call_above}

-- class A { int f; int m() { return this.f; } } class B extends A { int m() { return super.m() + 1; } }: A x = new B(); System.out.println(x.m());
abbrev overriding : Plain
overriding =
    record {
      classes = object ∷ class (codes "A") (under 0) ∷ class (codes "B") (under 1) ∷ class (codes "Main") (under 0) ∷ [];
      fields = record { owner = 1; name = codes "f"; is_static = false; ty = plain_type Int; tag = tag } ∷ [];
      slots = record { name = codes "m"; params = []; result = Some (plain_type Int); first = 0 } ∷ [];
      main = 2;
      methods = method 1 (codes "m") [] [] (Some (plain_type Int)) (Some 0) (st_then (return tag (Some (field tag (this tag) (codes "f")))) no_st)
          ∷ method 2 (codes "m") [] [] (Some (plain_type Int)) (Some 0)
          (st_then (return tag (Some (plus (super_call tag (codes "m") no_ex) (number tag (pos 1))))) no_st)
          ∷ main_of 3 (variable (codes "x") (class_type 1) ∷ []) (two (declare tag 1 (Some (create tag 0 2 no_ex)))
          (print_line (call tag (local tag 1) (codes "m") no_ex))) ∷ [];
    }

-- a tag with a label
abbrev labelled : Tag
labelled = record { label = 2; place = tag.place }

-- a call runs the overriding body; the super call in it enters the other, which reads a field
overrides : events overriding [] 10
    ≡ body_ran 2 (call labelled (local tag 1) (codes "m") no_ex) 1 ∷ body_entered 1 ∷ body_entered 0 ∷ field_touched 0 ∷ []
unfolding events recorded labelled_body run_in layout utf16_chars digits encode field_in member_field field_of search_order declaration_of lookup super_method
overrides = refl

-- class A {} class B extends A { int f; }: A x = new A(); if (args.length > 0) { x = new B(); } System.out.println(x instanceof B); B y = (B) x;
-- System.out.println(y.f);
abbrev casting : Plain
casting =
    record {
      classes = object ∷ class (codes "A") (under 0) ∷ class (codes "B") (under 1) ∷ class (codes "Main") (under 0) ∷ [];
      fields = record { owner = 2; name = codes "f"; is_static = false; ty = plain_type Int; tag = tag } ∷ [];
      slots = [];
      main = 0;
      methods = main_of 3 (variable (codes "x") (class_type 1) ∷ variable (codes "y") (class_type 2) ∷ [])
          (st_then (declare tag 1 (Some (create tag 0 1 no_ex)))
          (st_then (choose tag (arm (binary tag bin.Greater (field tag (local tag 0) (codes "length")) (number tag (pos 0)))
          (st_then (assign tag (to_local tag 1) (create tag 1 2 no_ex)) no_st) no_other))
          (st_then (print_line (instance_of tag 2 (local tag 1) 2))
          (two (declare tag 2 (Some (cast tag 3 (class_type 2) (local tag 1)))) (print_line (field tag (local tag 2) (codes "f"))))))) ∷ [];
    }

-- whether each cast passes
abbrev passing : List Event → List Bool
passing [] = []
passing (cast_met m d b ∷ es) = b ∷ passing es
passing (body_ran m d c ∷ es) = passing es
passing (body_entered c ∷ es) = passing es
passing (field_touched f ∷ es) = passing es

-- an object of the superclass fails the cast, and one of the class passes it; the `instanceof` before it is no cast
fails : passing (events casting [] 10) ≡ false ∷ []
unfolding events recorded labelled_body run_in layout utf16_chars digits encode field_in member_field field_of below
fails = refl

passes : passing (events casting (codes "w" ∷ []) 10) ≡ true ∷ []
unfolding events recorded labelled_body run_in layout utf16_chars digits encode field_in member_field field_of below
passes = refl

-- class A { int f; A(int x) { this.f = x; } } class B extends A { B() { super(7); } int m() { return this.f; } }: System.out.println(new B().m());
abbrev making : Plain
making =
    record {
      classes = object ∷ class (codes "A") (under 0) ∷ class (codes "B") (under 1) ∷ class (codes "Main") (under 0) ∷ [];
      fields = record { owner = 1; name = codes "f"; is_static = false; ty = plain_type Int; tag = tag } ∷ [];
      slots = record { name = codes "m"; params = []; result = Some (plain_type Int); first = 0 }
          ∷ record { name = maker_name (codes "A"); params = plain_type Int ∷ []; result = None; first = 2 }
          ∷ record { name = maker_name (codes "B"); params = []; result = None; first = 3 } ∷ [];
      main = 1;
      methods = method 2 (codes "m") [] [] (Some (plain_type Int)) (Some 0) (st_then (return tag (Some (field tag (this tag) (codes "f")))) no_st)
          ∷ main_of 3 [] (st_then (print_line (call tag (create tag 0 2 no_ex) (codes "m") no_ex)) no_st)
          ∷ method 1 (maker_name (codes "A")) (variable (codes "x") (plain_type Int) ∷ []) [] None (Some 1)
          (st_then (assign tag (to_field tag (this tag) (codes "f")) (local tag 0)) no_st)
          ∷ method 2 (maker_name (codes "B")) [] [] None (Some 2) (st_then (call_above tag (codes "A") (ex_then (number tag (pos 7)) no_ex)) no_st) ∷ [];
    }

-- a creation enters its constructor, and that the one above; neither is a call of the text
makes : events making [] 10
    ≡ body_entered 3 ∷ body_entered 2 ∷ field_touched 0
    ∷ body_ran 1 (call (record { label = 1; place = tag.place }) (create tag 0 2 no_ex) (codes "m") no_ex) 0 ∷ body_entered 0 ∷ field_touched 0 ∷ []
unfolding events recorded labelled_body run_in layout utf16_chars digits encode field_in member_field field_of search_order declaration_of lookup
makes = refl
