-- Believed. The sample programs: a chain of classes, each with a field that its method adds to and one that is set from
-- outside; main makes an object of each.
use Rattle.std.specs.Prelude.{ℕ, zero, suc, ◌+◌, pos, false, true, List, [], ◌∷◌, ◌++◌, map, Option, Some, None, codes}
use Rattle.std.specs.List.{range_with_len, flat_map}
use Rattle.std.specs.Fmt.{decimal}
use Rattle.kaba_base.specs.declared.words.Keyword.TheVariants as keys
use Rattle.java_lex.specs.declared.Mark.TheVariants as marks
use Rattle.java_tree.specs.declared.Id.{Id}
use Rattle.java_tree.specs.declared.TypeBase.TheVariants as bases
use Rattle.java_tree.specs.declared.TypeName.{TypeName}
use Rattle.java_tree.specs.declared.Param.{Param}
use Rattle.java_tree.specs.Syntax.{Expression, IntLit, ThisRef, NameRef, FieldOf, CallOn, SuperCallOf, NewOf, BinaryOf, no_more, Statement, LocalOf, AssignOf, PrintOf, ReturnOf, Statements, no_statements, and_then, HeadTree, MemberTree, FieldTree, MethodTree, DeclTree, ClassTree}
pub use Rattle.java_tree.specs.Places.{nowhere, id_nowhere}

-- the name of the class i
abbrev pub class_name : ℕ → List ℕ
class_name i = codes "K" ++ decimal i

-- the name of the field that its method adds to
abbrev pub field_name : ℕ → List ℕ
field_name i = codes "f" ++ decimal i

-- the name of the field that is set from outside
abbrev pub extra_name : ℕ → List ℕ
extra_name i = codes "e" ++ decimal i

-- the name of the variable that holds an object of it
abbrev pub variable_name : ℕ → List ℕ
variable_name i = codes "v" ++ decimal i

-- the name of the method
abbrev pub method_name : List ℕ
method_name = codes "g"

-- the type of numbers
abbrev pub int_type : TypeName
int_type = record { base = bases.Int; dim = 0; place = nowhere }

-- the type of the objects of the class i
abbrev pub class_type : ℕ → TypeName
class_type i = record { base = bases.Named (class_name i); dim = 0; place = nowhere }

-- a field of `this`
abbrev pub own_field : List ℕ → Expression
own_field n = FieldOf (ThisRef nowhere) n nowhere

-- `a + b`
abbrev pub sum_of : Expression → Expression → Expression
sum_of a b = BinaryOf marks.Plus a b nowhere

-- `this.fi = this.fi + (i + 1);`
abbrev pub addition : ℕ → Statement
addition i = AssignOf (own_field (field_name i)) (sum_of (own_field (field_name i)) (IntLit (pos (i + 1)) nowhere)) nowhere

-- what the method gives: in the first class the field, in any other what the class above gives and the field
abbrev pub total : ℕ → Expression
total zero = own_field (field_name 0)
total (suc i) = sum_of (SuperCallOf method_name no_more nowhere) (own_field (field_name (suc i)))

-- `int g()`
abbrev pub method_head : HeadTree
method_head = record { mods = []; type = Some int_type; name = method_name; params = []; place = nowhere }

-- `int g() { .. }` of the class i
abbrev pub method_tree : ℕ → MemberTree
method_tree i = MethodTree method_head (Some (and_then (addition i) (and_then (ReturnOf (Some (total i)) nowhere) no_statements))) nowhere

-- `int n;`
abbrev pub field_tree : List ℕ → MemberTree
field_tree n = FieldTree [] int_type n nowhere

-- each class but the first extends the one before
abbrev pub parent_named : ℕ → Option Id
parent_named zero = None
parent_named (suc i) = Some (id_nowhere (class_name i))

-- the members of the class i
abbrev pub class_members : ℕ → List MemberTree
class_members i = field_tree (field_name i) ∷ field_tree (extra_name i) ∷ method_tree i ∷ []

-- the class Ki
abbrev pub class_tree : ℕ → DeclTree
class_tree i = ClassTree [] (class_name i) (parent_named i) [] (class_members i) nowhere

-- the variable that holds an object of the class i
abbrev pub variable : ℕ → Expression
variable i = NameRef (variable_name i) nowhere

-- `vi.ei`
abbrev pub extra : ℕ → Expression
extra i = FieldOf (variable i) (extra_name i) nowhere

-- `Ki vi = new Ki();`
abbrev pub creation : ℕ → Statement
creation i = LocalOf false (class_type i) (variable_name i) (Some (NewOf (id_nowhere (class_name i)) no_more nowhere)) nowhere

-- `vi.ei = i;`
abbrev pub setting : ℕ → Statement
setting i = AssignOf (extra i) (IntLit (pos i) nowhere) nowhere

-- `System.out.println(vi.g() + vi.ei);`
abbrev pub printing : ℕ → Statement
printing i = PrintOf true (Some (sum_of (CallOn (variable i) method_name no_more nowhere) (extra i))) nowhere

-- what main does with the class i
abbrev pub steps : ℕ → List Statement
steps i = creation i ∷ setting i ∷ printing i ∷ []

-- statements one after the other
abbrev pub statements : List Statement → Statements
statements [] = no_statements
statements (s ∷ ss) = and_then s (statements ss)

-- `String[] args`
abbrev pub main_param : Param
main_param = record { is_final = false; ty = record { base = bases.Named (codes "String"); dim = 1; place = nowhere }; name = codes "args"; place = nowhere }

-- `static void main(String[] args)`
abbrev pub main_head : HeadTree
main_head = record { mods = record { word = keys.Static; place = nowhere } ∷ []; type = None; name = codes "main"; params = main_param ∷ []; place = nowhere }

-- what main does in a sample of n classes
unfoldable pub main_body : ℕ → Statements
main_body n = statements (flat_map steps (range_with_len 0 n))

-- its main class
abbrev pub main_tree : ℕ → DeclTree
main_tree n = ClassTree [] (codes "Main") None [] (MethodTree main_head (Some (main_body n)) nowhere ∷ []) nowhere

-- the sample of n classes
unfoldable pub sample_tree : ℕ → List DeclTree
sample_tree n = map class_tree (range_with_len 0 n) ++ main_tree n ∷ []
