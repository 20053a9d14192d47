-- Small trees, each with the program or the refusal that the rules give it.
use Rattle.std.specs.Prelude.{◌≡◌, ℕ, pos, true, false, List, [], ◌∷◌, map, Option, Some, None, Result, Ok, Err, codes}
use Rattle.std.proofs.Common.{refl}
use Rattle.std.specs.Str.{chars}
use Rattle.kaba_base.specs.declared.Place.{Place}
use Rattle.kaba_base.specs.declared.words.Keyword.TheVariants as keys
use Rattle.java_tree.specs.declared.Id.{Id}
use Rattle.java_tree.specs.declared.Modifier.{Modifier}
use Rattle.java_tree.specs.declared.TypeName.{TypeName}
use Rattle.java_tree.specs.declared.TypeBase.TheVariants as bases
use Rattle.java_tree.specs.Syntax.{IntLit, ThisRef, NameRef, Expressions, no_more, and_more, Statement, LocalOf, BlockOf, AssignOf, PrintOf, BreakOf, Statements, no_statements, and_then, HeadTree, MemberTree, FieldTree, MethodTree, MakerTree, DeclTree, ClassTree}
use Rattle.java_core.specs.Programs.{Plain}
use Rattle.java_core.specs.Trees.{at_place, no_ex, Sts, no_st, st_then}
use Rattle.java_core.specs.Makers.{call_above}
use Rattle.name_rules.specs.declared.Form.TheVariants as forms
use Rattle.name_rules.specs.declared.Refusal.{Refusal}
use Rattle.name_rules.specs.declared.Refusal.TheVariants.{Unknown, Twice, Loop, Overload, TwoKinds, PrivateReused, NoMain, NotInProfile}
use Rattle.name_laws.specs.Tables.{nearest_field}
use Rattle.name_laws.specs.Expressions.{name_meaning}
use Rattle.name_laws.specs.Classes.{above_of}
use Rattle.java_core.specs.Squares.{square}
use Rattle.name_laws.specs.Resolved.{resolved}

abbrev at : ℕ → Place
at n = record { at = n; line = 1 }

abbrev x : List ℕ
x = chars (codes "x")

abbrev m : List ℕ
m = chars (codes "m")

abbrev c : List ℕ
c = chars (codes "C")

abbrev d : List ℕ
d = chars (codes "D")

abbrev id : List ℕ → ℕ → Id
id n p = record { name = n; place = at p }

abbrev int : TypeName
int = record { base = bases.Int; dim = 0; place = at 0 }

abbrev texts : TypeName
texts = record { base = bases.Named (chars (codes "String")); dim = 1; place = at 0 }

abbrev static : List Modifier
static = record { word = keys.Static; place = at 0 } ∷ []

abbrev private : List Modifier
private = record { word = keys.Private; place = at 0 } ∷ []

abbrev main : HeadTree
main = record {
  mods = static;
  type = None;
  name = chars (codes "main");
  params = record {
    is_final = false;
    ty = texts;
    name = chars (codes "a");
    place = at 1;
  } ∷ [];
  place = at 2;
}

abbrev method : List Modifier → List ℕ → ℕ → MemberTree
method mods n p = MethodTree (record { mods = mods; type = None; name = n; params = []; place = at p }) (Some no_statements) (at p)

abbrev main_class : Statements → DeclTree
main_class body = ClassTree [] (chars (codes "Main")) None [] (MethodTree main (Some body) (at 2) ∷ []) (at 3)

abbrev one : Statement → Statements
one s = and_then s no_statements

abbrev refused : List DeclTree → Refusal → Type 0
refused tree r = resolved tree ≡ Err r

-- no class has a main
no_class : refused ([]) NoMain
unfolding resolved chars above_of square
no_class = refl

-- a class of a known name
class_of_text : refused (ClassTree [] (chars (codes "String")) None [] [] (at 7) ∷ []) (Twice (chars (codes "String")) (at 7))
unfolding resolved chars above_of square
class_of_text = refl

-- two classes above each other
own_ancestor : refused (ClassTree [] c (Some (id d 8)) [] [] (at 7) ∷ ClassTree [] d (Some (id c 9)) [] [] (at 8) ∷ []) (Loop c (at 7))
unfolding resolved chars above_of square
own_ancestor = refl

-- a superclass that is not there
unknown_superclass : refused (ClassTree [] c (Some (id d 8)) [] [] (at 7) ∷ []) (Unknown d (at 8))
unfolding resolved chars above_of square
unknown_superclass = refl

-- a class stands where an interface is asked
class_for_interface : refused (ClassTree [] c None (id d 9 ∷ []) [] (at 7) ∷ ClassTree [] d None [] [] (at 8) ∷ []) (TwoKinds d (at 9))
unfolding resolved chars above_of square
class_for_interface = refl

-- a modifier stands twice
static_twice : refused (ClassTree [] c None [] (FieldTree (record { word = keys.Static; place = at 4 } ∷ record { word = keys.Static; place = at 5 }
    ∷ []) int x (at 9) ∷ []) (at 7) ∷ []) (NotInProfile forms.Modifier (at 5))
unfolding resolved chars above_of square
static_twice = refl

-- a method without a body in a class
no_body : refused (ClassTree [] c None [] (MethodTree (record { mods = []; type = None; name = m; params = []; place = at 9 }) None (at 9) ∷ [])
    (at 7) ∷ []) (NotInProfile forms.Body (at 9))
unfolding resolved chars above_of square
no_body = refl

-- two fields of one name
field_twice : refused (ClassTree [] c None [] (FieldTree [] int x (at 8) ∷ FieldTree [] int x (at 9) ∷ []) (at 7) ∷ []) (Twice x (at 9))
unfolding resolved chars above_of square
field_twice = refl

-- a static method and another meet
static_meets_instance : refused (ClassTree [] c None [] (method [] m 8 ∷ []) (at 7) ∷ ClassTree [] d (Some (id c 10)) [] (method static m 9 ∷ [])
    (at 7) ∷ []) (Overload m (at 9))
unfolding resolved chars above_of square
static_meets_instance = refl

-- a private method's name stands again
private_again : refused (ClassTree [] c None [] (method private m 8 ∷ []) (at 7) ∷ ClassTree [] d (Some (id c 10)) [] (method [] m 9 ∷ []) (at 7)
    ∷ []) (PrivateReused m (at 9))
unfolding resolved chars above_of square
private_again = refl

-- a local outside its scope
unknown_local : refused (main_class (and_then (BlockOf (one (LocalOf false int x None (at 5))) (at 4))
    (one (AssignOf (NameRef x (at 8)) (IntLit (pos 1) (at 9)) (at 6)))) ∷ []) (Unknown x (at 8))
unfolding resolved chars above_of square name_meaning nearest_field
unknown_local = refl

-- a local in the scope of another
local_twice : refused (main_class (and_then (LocalOf false int x None (at 5)) (one (LocalOf false int x None (at 6)))) ∷ []) (Twice x (at 6))
unfolding resolved chars above_of square
local_twice = refl

-- a local with the name of a type
local_of_type : refused (main_class (one (LocalOf false int (chars (codes "Main")) None (at 5))) ∷ []) (TwoKinds (chars (codes "Main")) (at 5))
unfolding resolved chars above_of square
local_of_type = refl

-- this in a static method
this_in_static : refused (main_class (one (PrintOf true (Some (ThisRef (at 5))) (at 4))) ∷ []) (NotInProfile forms.ThisInStatic (at 5))
unfolding resolved chars above_of square
this_in_static = refl

-- break outside a loop
break_outside : refused (main_class (one (BreakOf (at 5))) ∷ []) (NotInProfile forms.BreakOutside (at 5))
unfolding resolved chars above_of square
break_outside = refl

-- a static field of an ancestor by its simple name
static_of_ancestor : refused (ClassTree [] c None [] (FieldTree static int x (at 8) ∷ []) (at 7) ∷ ClassTree [] d (Some (id c 10)) []
    (MethodTree main (Some (one (PrintOf true (Some (NameRef x (at 9))) (at 4)))) (at 2) ∷ []) (at 7) ∷ []) (Unknown x (at 9))
unfolding resolved chars above_of square name_meaning nearest_field
static_of_ancestor = refl

-- ---- constructors

abbrev maker : List ℕ → Option Expressions → ℕ → MemberTree
maker n up p = MakerTree [] n [] up no_statements (at p)

-- a constructor that has not its class's name
maker_named : refused (ClassTree [] c None [] (maker d None 8 ∷ []) (at 7) ∷ main_class no_statements ∷ []) (Unknown d (at 8))
unfolding resolved chars above_of square
maker_named = refl

-- a second constructor
maker_twice : refused (ClassTree [] c None [] (maker c None 8 ∷ maker c None 9 ∷ []) (at 7) ∷ main_class no_statements ∷ []) (Overload c (at 9))
unfolding resolved chars above_of square
maker_twice = refl

-- this in the arguments for the superclass's constructor
this_too_early : refused (ClassTree [] c None [] (maker c (Some (and_more (ThisRef (at 9)) no_more)) 8 ∷ []) (at 7) ∷ main_class no_statements ∷ [])
    (NotInProfile forms.ThisInStatic (at 9))
unfolding resolved chars above_of square
this_too_early = refl

abbrev bodies : Result Plain Refusal → List (Option Sts)
bodies (Ok P) = map (λ k. k.body) P.methods
bodies (Err r) = []

-- a class below one with a constructor has one behind all methods, at its own name, and begins with the call of the one above
begins_above : bodies (resolved (ClassTree [] c None [] (maker c None 8 ∷ []) (at 7) ∷ ClassTree [] d (Some (id c 10)) [] [] (at 9)
    ∷ main_class no_statements ∷ []))
    ≡ Some no_st ∷ Some no_st ∷ Some (st_then (call_above (at_place (at 9)) c no_ex) no_st) ∷ []
unfolding resolved chars above_of square
begins_above = refl
