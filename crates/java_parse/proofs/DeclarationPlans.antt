-- How declarations are read, as plans.
use Rattle.std.proofs.Common.{ℕ, List, [], ◌∷◌, ◌++◌, Option, Some, None}
use Rattle.kaba_base.specs.declared.Place.{Place}
use Rattle.kaba_base.specs.declared.words.Keyword.{Keyword}
use Rattle.kaba_base.specs.declared.words.Keyword.TheVariants as keys
use Rattle.java_lex.specs.declared.Mark.TheVariants as marks
use Rattle.java_tree.specs.declared.Id.{Id}
use Rattle.java_tree.specs.declared.Modifier.{Modifier}
use Rattle.java_tree.specs.declared.TypeName.{TypeName}
use Rattle.java_tree.specs.declared.Param.{Param}
use Rattle.java_tree.specs.Syntax.{Expressions, Statements, no_statements, HeadTree, MemberTree, FieldTree, MethodTree, MakerTree, DeclTree, ClassTree, InterfaceTree}
use Rattle.java_parse.specs.Want.{NType, NArgs, NItems, NMods, NIds, NParent, NList, NParam, NParams, NMoreParams, NResult, NHead, NBody, NMember, NTyped, NMethod, NMaker, NMakerBody, NMembers, NHeads, NClass, NInterface, NDecl, NDecls}
use Rattle.java_parse.proofs.Looks.{a_mark, a_key, a_word, a_modifier}
use Rattle.java_parse.proofs.Plans.{Plan, Giving, Stopping, Asking, Looking, Choosing, Finals, Ending}

-- modifiers, as long as one is next, put behind those already read
abbrev pub mods_plan : List Modifier → Plan (List Modifier)
mods_plan ms = Looking a_modifier (λ w1. Asking (NMods (ms ++ w1 ∷ [])) Giving) (Giving ms)

-- names with commas between them, put behind those already read
abbrev pub ids_plan : List Id → Plan (List Id)
ids_plan is = Looking a_word
    (λ w1. Looking (a_mark marks.Comma)
    (λ w2. Asking (NIds (is ++ record { name = w1.0; place = w1.1 } ∷ [])) Giving)
    (Giving (is ++ record { name = w1.0; place = w1.1 } ∷ [])))
    Stopping

-- `extends` and a name, or nothing
abbrev pub parent_plan : Plan (Option Id)
parent_plan = Looking (a_key keys.Extends)
    (λ w1. Looking a_word (λ w2. Giving (Some (record { name = w2.0; place = w2.1 }))) Stopping)
    (Giving None)

-- the keyword k and names with commas between them, or nothing
abbrev pub list_plan : Keyword → Plan (List Id)
list_plan k = Looking (a_key k) (λ w1. Asking (NIds []) Giving) (Giving [])

-- a parameter: `final` or not, a type and a name
abbrev pub param_plan : Plan Param
param_plan = Finals (λ f0. Asking NType (λ x1. Looking a_word (λ w3. Giving (record { is_final = f0; ty = x1; name = w3.0; place = w3.1 })) Stopping))

-- the parameters behind the opening bracket, and the closing one
abbrev pub params_plan : Plan (List Param)
params_plan = Looking (a_mark marks.CloseRound) (λ w1. Giving []) (Asking NParam (λ x2. Asking (NMoreParams (x2 ∷ [])) Giving))

-- the parameters behind those already read, each behind a comma, and the closing bracket
abbrev pub more_params_plan : List Param → Plan (List Param)
more_params_plan qs = Looking (a_mark marks.CloseRound)
    (λ w1. Giving qs)
    (Looking (a_mark marks.Comma) (λ w2. Asking NParam (λ x3. Asking (NMoreParams (qs ++ x3 ∷ [])) Giving)) Stopping)

-- `void` or a type
abbrev pub result_type_plan : Plan (Option TypeName)
result_type_plan = Looking (a_key keys.Void) (λ w1. Giving None) (Asking NType (λ x2. Giving (Some x2)))

-- a method up to its body: modifiers, result, name, and parameters in brackets
abbrev pub head_plan : Plan HeadTree
head_plan = Asking (NMods []) (λ x1. Asking NResult (λ x3. Looking a_word
    (λ w5. Looking (a_mark marks.OpenRound)
    (λ w6. Asking NParams (λ x7. Giving (record { mods = x1; type = x3; name = w5.0; params = x7; place = w5.1 })))
    Stopping)
    Stopping))

-- a `;`, or statements in braces
abbrev pub body_plan : Plan (Option Statements)
body_plan = Looking (a_mark marks.Semi)
    (λ w1. Giving None)
    (Looking (a_mark marks.OpenBrace) (λ w2. Asking (NItems no_statements) (λ x3. Giving (Some x3))) Stopping)

-- a member behind its modifiers: a constructor, or else a field or a method
abbrev pub as_maker_plan : List Modifier → List ℕ → Place → Plan MemberTree
as_maker_plan ms n p = Asking (NMaker ms n p) Giving

abbrev pub as_typed_plan : List Modifier → Plan MemberTree
as_typed_plan ms = Asking (NTyped ms) Giving

-- a field or a method behind its type: a name, then a method where a bracket follows, or else a field
abbrev pub behind_type_plan : List Modifier → Option TypeName → Plan MemberTree
behind_type_plan ms x1 = Looking a_word
    (λ w3. Looking (a_mark marks.OpenRound)
    (λ w4. Asking (NMethod ms x1 w3.0 w3.1) Giving)
    (Choosing x1 (λ w5. Looking (a_mark marks.Semi) (λ w6. Giving (FieldTree ms w5 w3.0 w3.1)) Stopping) Stopping))
    Stopping

abbrev pub typed_plan : List Modifier → Plan MemberTree
typed_plan ms = Asking NResult (λ x1. behind_type_plan ms x1)

-- the rest of a method, of which all before its parameters has been read
abbrev pub method_plan : List Modifier → Option TypeName → List ℕ → Place → Plan MemberTree
method_plan ms t n p = Asking NParams (λ x1. Asking NBody (λ x3. Giving (MethodTree (record { mods = ms; type = t; name = n; params = x1; place = p }) x3 p)))

-- the rest of a constructor, of which all before its parameters has been read: these, and its body in braces
abbrev pub maker_plan : List Modifier → List ℕ → Place → Plan MemberTree
maker_plan ms n p = Asking NParams (λ x1. Looking (a_mark marks.OpenBrace)
    (λ w3. Asking NMakerBody (λ x4. Giving (MakerTree ms n x1 x4.0 x4.1 p)))
    Stopping)

-- the body of a constructor behind `super` and the bracket: the arguments, a `;` and the statements
abbrev pub up_plan : Plan (Option Expressions × Statements)
up_plan = Asking NArgs (λ x2. Looking (a_mark marks.Semi) (λ w4. Asking (NItems no_statements) (λ x5. Giving (Some x2, x5))) Stopping)

-- the body of a constructor without `super`
abbrev pub plain_plan : Plan (Option Expressions × Statements)
plain_plan = Asking (NItems no_statements) (λ x2. Giving (None, x2))

-- the members behind those already read, and the closing brace
abbrev pub members_plan : List MemberTree → Plan (List MemberTree)
members_plan bs = Looking (a_mark marks.CloseBrace)
    (λ w1. Giving bs)
    (Asking NMember (λ x2. Asking (NMembers (bs ++ x2 ∷ [])) Giving))

-- the heads of an interface behind those already read, each with its `;`, and the closing brace
abbrev pub heads_plan : List HeadTree → Plan (List HeadTree)
heads_plan hs = Looking (a_mark marks.CloseBrace)
    (λ w1. Giving hs)
    (Asking NHead (λ x2. Looking (a_mark marks.Semi) (λ w4. Asking (NHeads (hs ++ x2 ∷ [])) Giving) Stopping))

-- the rest of a class behind `class`: its name, what it extends and implements, its members
abbrev pub class_plan : List Modifier → Plan DeclTree
class_plan ms = Looking a_word
    (λ w1. Asking NParent (λ x2. Asking (NList keys.Implements) (λ x4. Looking (a_mark marks.OpenBrace)
    (λ w6. Asking (NMembers []) (λ x7. Giving (ClassTree ms w1.0 x2 x4 x7 w1.1)))
    Stopping)))
    Stopping

-- the rest of an interface behind `interface`: its name, what it extends, its heads
abbrev pub interface_plan : List Modifier → Plan DeclTree
interface_plan ms = Looking a_word
    (λ w1. Asking (NList keys.Extends) (λ x2. Looking (a_mark marks.OpenBrace)
    (λ w4. Asking (NHeads []) (λ x5. Giving (InterfaceTree ms w1.0 x2 x5 w1.1)))
    Stopping))
    Stopping

-- a class or an interface: modifiers, its keyword and its rest
abbrev pub decl_plan : Plan DeclTree
decl_plan = Asking (NMods []) (λ x1. Looking (a_key keys.Class)
    (λ w3. Asking (NClass x1) Giving)
    (Looking (a_key keys.Interface) (λ w4. Asking (NInterface x1) Giving) Stopping))

-- the classes and interfaces behind those already read, to the last token
abbrev pub decls_plan : List DeclTree → Plan (List DeclTree)
decls_plan ds = Ending (Giving ds) (Asking NDecl (λ x1. Asking (NDecls (ds ++ x1 ∷ [])) Giving))
