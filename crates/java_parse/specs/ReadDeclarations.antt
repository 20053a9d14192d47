-- Mirror. How declarations are read from the left, with one token of look-ahead.
use Rattle.std.specs.Prelude.{ℕ, List, [], ◌∷◌, ◌++◌, Option, Some, None, true, false}
use Rattle.kaba_base.specs.declared.Place.{Place}
use Rattle.kaba_base.specs.declared.words.Keyword.{Keyword}
use Rattle.kaba_base.specs.declared.words.Keyword.TheVariants as keys
use Rattle.java_lex.specs.declared.Token.{Token}
use Rattle.java_lex.specs.declared.Mark.TheVariants as marks
use Rattle.java_tree.specs.declared.Id.{Id}
use Rattle.java_tree.specs.declared.Modifier.{Modifier}
use Rattle.java_tree.specs.declared.TypeName.{TypeName}
use Rattle.java_tree.specs.declared.Param.{Param}
use Rattle.java_tree.specs.Syntax.{Expressions, Statements, no_statements, HeadTree, MemberTree, FieldTree, MethodTree, MakerTree, DeclTree, ClassTree, InterfaceTree}
use Rattle.java_parse.specs.Want.{NType, NArgs, NItems, NMods, NIds, NParent, NList, NParam, NParams, NMoreParams, NResult, NHead, NBody, NMember, NTyped, NMethod, NMaker, NMakerBody, NMembers, NHeads, NClass, NInterface, NDecl, NDecls, ReadStep, Give, Fail, Ask}
use Rattle.java_parse.specs.Front.{after, after_key, word_next, maker_next, up_next, final_of, modifier_next, at_end}

-- modifiers, as long as one is next, put behind those already read
abbrev pub mods_step : List Modifier → List Token → ReadStep (List Modifier)
mods_step ms ts = elim (modifier_next ts) [
  | Some w1 ↦ Ask (NMods (ms ++ w1.0 ∷ [])) w1.1 Give
  | None ↦ Give ms ts
]

-- names with commas between them, put behind those already read
abbrev pub ids_step : List Id → List Token → ReadStep (List Id)
ids_step is ts = elim (word_next ts) [
  | Some w1 ↦ elim (after marks.Comma w1.2) [
    | Some w2 ↦ Ask (NIds (is ++ record { name = w1.0; place = w1.1 } ∷ [])) w2.1 Give
    | None ↦ Give (is ++ record { name = w1.0; place = w1.1 } ∷ []) w1.2
  ]
  | None ↦ Fail ts
]

-- `extends` and a name, or nothing
abbrev pub parent_step : List Token → ReadStep (Option Id)
parent_step ts = elim (after_key keys.Extends ts) [
  | Some w1 ↦ elim (word_next w1.1) [
    | Some w2 ↦ Give (Some (record { name = w2.0; place = w2.1 })) w2.2
    | None ↦ Fail w1.1
  ]
  | None ↦ Give None ts
]

-- the keyword k and names with commas between them, or nothing
abbrev pub list_step : Keyword → List Token → ReadStep (List Id)
list_step k ts = elim (after_key k ts) [
  | Some w1 ↦ Ask (NIds []) w1.1 Give
  | None ↦ Give [] ts
]

-- a parameter: `final` or not, a type and a name
abbrev pub param_step : List Token → ReadStep Param
param_step ts = Ask NType ((final_of ts).1) (λ x1 r2. elim (word_next r2) [
  | Some w3 ↦ Give (record { is_final = (final_of ts).0; ty = x1; name = w3.0; place = w3.1 }) w3.2
  | None ↦ Fail r2
])

-- the parameters behind the opening bracket, and the closing one
abbrev pub params_step : List Token → ReadStep (List Param)
params_step ts = elim (after marks.CloseRound ts) [
  | Some w1 ↦ Give [] w1.1
  | None ↦ Ask NParam ts (λ x2 r3. Ask (NMoreParams (x2 ∷ [])) r3 Give)
]

-- the parameters behind those already read, each behind a comma, and the closing bracket
abbrev pub more_params_step : List Param → List Token → ReadStep (List Param)
more_params_step qs ts = elim (after marks.CloseRound ts) [
  | Some w1 ↦ Give qs w1.1
  | None ↦ elim (after marks.Comma ts) [
    | Some w2 ↦ Ask NParam w2.1 (λ x3 r4. Ask (NMoreParams (qs ++ x3 ∷ [])) r4 Give)
    | None ↦ Fail ts
  ]
]

-- `void` or a type
abbrev pub result_type_step : List Token → ReadStep (Option TypeName)
result_type_step ts = elim (after_key keys.Void ts) [
  | Some w1 ↦ Give None w1.1
  | None ↦ Ask NType ts (λ x2 r3. Give (Some x2) r3)
]

-- a method up to its body: modifiers, result, name, and parameters in brackets
abbrev pub head_step : List Token → ReadStep HeadTree
head_step ts = Ask (NMods []) ts (λ x1 r2. Ask NResult r2 (λ x3 r4. elim (word_next r4) [
  | Some w5 ↦ elim (after marks.OpenRound w5.2) [
    | Some w6 ↦ Ask NParams w6.1 (λ x7 r8. Give (record { mods = x1; type = x3; name = w5.0; params = x7; place = w5.1 }) r8)
    | None ↦ Fail w5.2
  ]
  | None ↦ Fail r4
]))

-- a `;`, or statements in braces
abbrev pub body_step : List Token → ReadStep (Option Statements)
body_step ts = elim (after marks.Semi ts) [
  | Some w1 ↦ Give None w1.1
  | None ↦ elim (after marks.OpenBrace ts) [
    | Some w2 ↦ Ask (NItems no_statements) w2.1 (λ x3 r4. Give (Some x3) r4)
    | None ↦ Fail ts
  ]
]

-- a member: modifiers, then a constructor where a name and a bracket follow, or else a field or a method
abbrev pub member_step : List Token → ReadStep MemberTree
member_step ts = Ask (NMods []) ts (λ x1 r2. elim (maker_next r2) [
  | Some w3 ↦ Ask (NMaker x1 w3.0 w3.1) w3.2 Give
  | None ↦ Ask (NTyped x1) r2 Give
])

-- the rest of a field or a method behind its modifiers: a type or `void` and a name, then a method where a bracket follows, or else a field
abbrev pub typed_step : List Modifier → List Token → ReadStep MemberTree
typed_step ms ts = Ask NResult ts (λ x1 r2. elim (word_next r2) [
  | Some w3 ↦ elim (after marks.OpenRound w3.2) [
    | Some w4 ↦ Ask (NMethod ms x1 w3.0 w3.1) w4.1 Give
    | None ↦ elim (x1) [
      | Some w5 ↦ elim (after marks.Semi w3.2) [
        | Some w6 ↦ Give (FieldTree ms w5 w3.0 w3.1) w6.1
        | None ↦ Fail w3.2
      ]
      | None ↦ Fail w3.2
    ]
  ]
  | None ↦ Fail r2
])

-- the rest of a method, of which all before its parameters has been read
abbrev pub method_step : List Modifier → Option TypeName → List ℕ → Place → List Token → ReadStep MemberTree
method_step ms t n p ts = Ask NParams ts
    (λ x1 r2. Ask NBody r2 (λ x3 r4. Give (MethodTree (record { mods = ms; type = t; name = n; params = x1; place = p }) x3 p) r4))

-- the rest of a constructor, of which all before its parameters has been read: these, and its body in braces
abbrev pub maker_step : List Modifier → List ℕ → Place → List Token → ReadStep MemberTree
maker_step ms n p ts = Ask NParams ts (λ x1 r2. elim (after marks.OpenBrace r2) [
  | Some w3 ↦ Ask NMakerBody w3.1 (λ x4 r5. Give (MakerTree ms n x1 x4.0 x4.1 p) r5)
  | None ↦ Fail r2
])

-- the body of a constructor behind its brace: `super`, arguments in brackets and a `;`, or not, and the statements
abbrev pub maker_body_step : List Token → ReadStep (Option Expressions × Statements)
maker_body_step ts = elim (up_next ts) [
  | Some w1 ↦ Ask NArgs w1.1 (λ x2 r3. elim (after marks.Semi r3) [
    | Some w4 ↦ Ask (NItems no_statements) w4.1 (λ x5 r6. Give (Some x2, x5) r6)
    | None ↦ Fail r3
  ])
  | None ↦ Ask (NItems no_statements) ts (λ x2 r3. Give (None, x2) r3)
]

-- the members behind those already read, and the closing brace
abbrev pub members_step : List MemberTree → List Token → ReadStep (List MemberTree)
members_step bs ts = elim (after marks.CloseBrace ts) [
  | Some w1 ↦ Give bs w1.1
  | None ↦ Ask NMember ts (λ x2 r3. Ask (NMembers (bs ++ x2 ∷ [])) r3 Give)
]

-- the heads of an interface behind those already read, each with its `;`, and the closing brace
abbrev pub heads_step : List HeadTree → List Token → ReadStep (List HeadTree)
heads_step hs ts = elim (after marks.CloseBrace ts) [
  | Some w1 ↦ Give hs w1.1
  | None ↦ Ask NHead ts (λ x2 r3. elim (after marks.Semi r3) [
    | Some w4 ↦ Ask (NHeads (hs ++ x2 ∷ [])) w4.1 Give
    | None ↦ Fail r3
  ])
]

-- the rest of a class behind `class`: its name, what it extends and implements, its members
abbrev pub class_step : List Modifier → List Token → ReadStep DeclTree
class_step ms ts = elim (word_next ts) [
  | Some w1 ↦ Ask NParent w1.2 (λ x2 r3. Ask (NList keys.Implements) r3 (λ x4 r5. elim (after marks.OpenBrace r5) [
    | Some w6 ↦ Ask (NMembers []) w6.1 (λ x7 r8. Give (ClassTree ms w1.0 x2 x4 x7 w1.1) r8)
    | None ↦ Fail r5
  ]))
  | None ↦ Fail ts
]

-- the rest of an interface behind `interface`: its name, what it extends, its heads
abbrev pub interface_step : List Modifier → List Token → ReadStep DeclTree
interface_step ms ts = elim (word_next ts) [
  | Some w1 ↦ Ask (NList keys.Extends) w1.2 (λ x2 r3. elim (after marks.OpenBrace r3) [
    | Some w4 ↦ Ask (NHeads []) w4.1 (λ x5 r6. Give (InterfaceTree ms w1.0 x2 x5 w1.1) r6)
    | None ↦ Fail r3
  ])
  | None ↦ Fail ts
]

-- a class or an interface: modifiers, its keyword and its rest
abbrev pub decl_step : List Token → ReadStep DeclTree
decl_step ts = Ask (NMods []) ts (λ x1 r2. elim (after_key keys.Class r2) [
  | Some w3 ↦ Ask (NClass x1) w3.1 Give
  | None ↦ elim (after_key keys.Interface r2) [
    | Some w4 ↦ Ask (NInterface x1) w4.1 Give
    | None ↦ Fail r2
  ]
])

-- the classes and interfaces behind those already read, to the last token
abbrev pub decls_step : List DeclTree → List Token → ReadStep (List DeclTree)
decls_step ds ts = elim (at_end ts) [
  | true ↦ Give ds ts
  | false ↦ Ask NDecl ts (λ x1 r2. Ask (NDecls (ds ++ x1 ∷ [])) r2 Give)
]
