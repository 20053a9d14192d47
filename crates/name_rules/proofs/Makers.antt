-- Constructors of small trees: which a class has, where their bodies stand in the text, what they begin with, and what refuses them.
use Rattle.std.proofs.Common.{◌≡◌, ℕ, zero, suc, true, false, List, [], ◌∷◌, map, Option, Some, None, codes, refl, ap, arith}
use Rattle.std.specs.Prelude.{pos}
use Rattle.std.specs.Str.{bytes_eq}
use Rattle.std.proofs.lemmas.Bool.{false≢true}
use Rattle.kaba_base.specs.declared.Place.{Place}
use Rattle.kaba_base.specs.declared.words.Keyword.TheVariants as keys
use Rattle.java_lex.specs.declared.Mark.TheVariants as marks
use Rattle.java_tree.specs.declared.Id.{Id}
use Rattle.java_tree.specs.declared.Param.{Param}
use Rattle.java_tree.specs.declared.TypeName.{TypeName}
use Rattle.java_tree.specs.declared.TypeBase.TheVariants as bases
use Rattle.java_tree.specs.Syntax.{IntLit, ThisRef, NameRef, FieldOf, BinaryOf, NewOf, no_more, and_more, LocalOf, AssignOf, PrintOf, no_statements, and_then, MemberTree, FieldTree, MethodTree, MakerTree, DeclTree, ClassTree}
use Rattle.java_core.specs.Trees.{at_place, number, Exs, no_ex, ex_then, Sts, no_st, st_then, act, call, this}
use Rattle.name_rules.specs.declared.Form.TheVariants as forms
use Rattle.name_rules.specs.declared.Refusal.TheVariants.{Unknown, Overload, NotInProfile}
use Rattle.kaba_base.proofs.ListLemmas.{first, later}
use Rattle.name_rules.specs.declared.parts.Kind.TheVariants as kinds
use Rattle.name_rules.specs.Outline.{MethodAt, methods_in, outline, maker_head}
use Rattle.java_core.specs.Makers.{maker_name, maker_of}
use Rattle.name_rules.specs.Resolves.{maker_code}
use Rattle.name_rules.specs.Conditions.{of_method, ConditionAt, maker_named, maker_twice, modifier_unfit, in_up, this_in_static, in_first}

abbrev at : ℕ → Place
at k = record { at = k; line = 1 }

abbrev int : TypeName
int = record { base = bases.Int; dim = 0; place = at 0 }

abbrev name : List ℕ → ℕ → Id
name n k = record { name = n; place = at k }

abbrev x : List ℕ
x = codes "x"

abbrev param : ℕ → Param
param k = record { is_final = false; ty = int; name = x; place = at k }

abbrev field : MemberTree
field = FieldTree [] int (codes "a") (at 6)

-- class A: `int a; A(int x) { this.a = x; }`
abbrev class_a : DeclTree
class_a = ClassTree [] (codes "A") None [] (field ∷ MakerTree [] (codes "A") (param 13 ∷ []) None
    (and_then (AssignOf (FieldOf (ThisRef (at 17)) (codes "a") (at 19)) (NameRef x (at 21)) (at 20)) no_statements) (at 10) ∷ []) (at 1)

-- class B extends A: `B(int x) { super(x + 1); }`
abbrev class_b : DeclTree
class_b = ClassTree [] (codes "B") (Some (name (codes "A") 27)) [] (MakerTree [] (codes "B") (param 33 ∷ [])
    (Some (and_more (BinaryOf marks.Plus (NameRef x (at 38)) (IntLit (pos 1) (at 40)) (at 39)) no_more)) no_statements (at 30) ∷ []) (at 25)

-- class C extends B: `C() { super(1); }`
abbrev class_c : DeclTree
class_c = ClassTree [] (codes "C") (Some (name (codes "B") 48)) [] (MakerTree [] (codes "C") []
    (Some (and_more (IntLit (pos 1) (at 58)) no_more)) no_statements (at 51) ∷ []) (at 46)

-- class Main: `C c = new C(); System.out.println(c.a);`
abbrev class_main : DeclTree
class_main = ClassTree [] (codes "Main") None [] (MethodTree (record {
  mods = record { word = keys.Static; place = at 66 } ∷ [];
  type = None;
  name = codes "main";
  params = record {
    is_final = false;
    ty = record { base = bases.Named (codes "String"); dim = 1; place = at 70 };
    name = codes "args";
    place = at 73;
  } ∷ [];
  place = at 68;
})
    (Some (and_then (LocalOf false (record { base = bases.Named (codes "C"); dim = 0; place = at 76 }) (codes "c")
    (Some (NewOf (name (codes "C") 80) no_more (at 79))) (at 77)) (and_then (PrintOf true (Some (FieldOf (NameRef (codes "c") (at 90)) (codes "a") (at 92))) (at 84))
    no_statements))) (at 68) ∷ []) (at 64)

abbrev chain : List DeclTree
chain = class_a ∷ class_b ∷ class_c ∷ class_main ∷ []

-- constructors stand among the methods where the text has them
owners : map (λ m. m.owner) (methods_in chain) ≡ 1 ∷ 2 ∷ 3 ∷ 4 ∷ []
owners = refl

found : maker_of (outline chain) 3 ≡ Some 2
unfolding outline
found = refl

-- a class that writes none below one that does has one at its own name; one without such an ancestor has none
abbrev below : List DeclTree
below = class_a ∷ ClassTree [] (codes "M") (Some (name (codes "A") 27)) [] [] (at 25) ∷ ClassTree [] (codes "N") (Some (name (codes "M") 33)) [] [] (at 31)
    ∷ ClassTree [] (codes "P") None [] [] (at 40) ∷ class_main ∷ []

implied : map (λ m. m.owner) (methods_in below) ≡ 1 ∷ 5 ∷ 2 ∷ 3 ∷ []
implied = refl

implied_places : map (λ m. m.head.place.at) (methods_in below) ≡ 10 ∷ 68 ∷ 25 ∷ 31 ∷ []
implied_places = refl

-- a class that stands above its superclass in the text
abbrev upwards : List DeclTree
upwards = ClassTree [] (codes "M") (Some (name (codes "A") 27)) [] [] (at 25) ∷ class_a ∷ []

upwards_owners : map (λ m. m.owner) (methods_in upwards) ≡ 2 ∷ 1 ∷ []
upwards_owners = refl

-- classes above themselves
abbrev turning : List DeclTree
turning = ClassTree [] (codes "M") (Some (name (codes "N") 3)) [] [] (at 1) ∷ ClassTree [] (codes "N") (Some (name (codes "M") 9)) [] [] (at 7) ∷ []

turning_owners : map (λ m. m.owner) (methods_in turning) ≡ []
turning_owners = refl

-- the code of B's constructor begins with the call of A's, that of A's does not
abbrev plus_one : Exs
plus_one = ex_then (number (at_place (at 40)) (pos 1)) no_ex

abbrev maker_at : List MethodAt → ℕ → Option MethodAt
maker_at [] n = None
maker_at (m ∷ ms) zero = Some m
maker_at (m ∷ ms) (suc n) = maker_at ms n

abbrev code_of : Exs → Option MethodAt → Option Sts
code_of es None = None
code_of es (Some m) = Some (maker_code (outline chain) m es no_st)

-- that of B, whose constructor is the second of all, and which passes on one number
code_b : code_of plus_one (maker_at (methods_in chain) 1)
    ≡ Some (st_then (act (at_place (at 30)) (call (at_place (at 30)) (this (at_place (at 30))) (maker_name (codes "A")) plus_one)) no_st)
unfolding outline
code_b = refl

code_a : code_of no_ex (maker_at (methods_in chain) 0) ≡ Some no_st
unfolding outline
code_a = refl

-- ---- a constructor that has not its class's name

abbrev other : DeclTree
other = ClassTree [] (codes "A") None [] (MakerTree [] (codes "B") [] None no_statements (at 3) ∷ []) (at 1)

named_otherwise : ConditionAt (other ∷ class_main ∷ []) (Unknown (codes "B") (at 3))
named_otherwise = maker_named (first other (class_main ∷ [])) (first (name (codes "B") 3) []) (λ e. false≢true (ap (bytes_eq (codes "A")) e))

-- a second constructor
abbrev two : DeclTree
two = ClassTree [] (codes "A") None [] (MakerTree [] (codes "A") [] None no_statements (at 3) ∷ MakerTree [] (codes "A") (param 9 ∷ []) None no_statements (at 7)
    ∷ []) (at 1)

twice : ConditionAt (two ∷ class_main ∷ []) (Overload (codes "A") (at 7))
twice = maker_twice {i = 0} {j = 1} (first two (class_main ∷ [])) refl refl (omega arith)

-- `static` before one
abbrev fixed : DeclTree
fixed = ClassTree [] (codes "A") None [] (MakerTree (record { word = keys.Static; place = at 3 } ∷ []) (codes "A") [] None no_statements (at 4) ∷ []) (at 1)

abbrev maker_of_fixed : MethodAt
maker_of_fixed = record {
  owner = 1;
  kind = kinds.Maker;
  in_abstract = false;
  head = maker_head (codes "A") (record { word = keys.Static; place = at 3 } ∷ []) [] (at 4);
  up = None;
  body = Some no_statements;
}

not_fit : ConditionAt (fixed ∷ []) (NotInProfile forms.Modifier (at 3))
not_fit = modifier_unfit (of_method (first (maker_of_fixed) [])) (first (record { word = keys.Static; place = at 3 }) []) refl

-- `this` in the arguments for the superclass's
abbrev early : DeclTree
early = ClassTree [] (codes "B") (Some (name (codes "A") 27)) [] (MakerTree [] (codes "B") [] (Some (and_more (ThisRef (at 35)) no_more)) no_statements (at 30)
    ∷ []) (at 25)

abbrev maker_of_early : MethodAt
maker_of_early = record {
  owner = 2;
  kind = kinds.Maker;
  in_abstract = false;
  head = maker_head (codes "B") [] [] (at 30);
  up = Some (and_more (ThisRef (at 35)) no_more);
  body = Some no_statements;
}

too_early : ConditionAt (class_a ∷ early ∷ []) (NotInProfile forms.ThisInStatic (at 35))
too_early = in_up (later _ (maker_of_early ∷ []) maker_of_early (first maker_of_early [])) refl (in_first (this_in_static refl))
