-- Mirror. How statements are read from the left, with one token of look-ahead.
use Rattle.std.specs.Prelude.{List, Option, Some, None, Bool, true, false}
use Rattle.kaba_base.specs.declared.Place.{Place}
use Rattle.kaba_base.specs.declared.words.Keyword.TheVariants as keys
use Rattle.java_lex.specs.declared.Token.{Token}
use Rattle.java_lex.specs.declared.Mark.TheVariants as marks
use Rattle.java_tree.specs.Syntax.{Expression, NameRef, BinaryOf, Statement, LocalOf, BlockOf, AssignOf, IfOf, WhileOf, ForOf, ReturnOf, BreakOf, ContinueOf, Statements, no_statements, Arms, no_arms, Else, no_else, otherwise, OptionalStatement, absent, present}
use Rattle.java_tree.specs.Tokens.{first_place}
use Rattle.java_tree.specs.Statements.{as_body, is_word}
use Rattle.java_tree.specs.Nesting.{next_is}
use Rattle.java_parse.specs.declared.End.{End}
use Rattle.java_parse.specs.Want.{NExpr, NPost, NType, NInit, NLocal, NValue, NAct, NActRest, NTested, NItem, NItems, NStmt, NForHead, NFirst, NStep, NBranches, ReadStep, Give, Fail, Ask}
use Rattle.java_parse.specs.Front.{after, after_key, word_next, stmt_snoc, arm_snoc, final_of, stepping_next, compound_next, named, is_target, is_call, stepped, done, starts_local, start, SBlock, SEmpty, SIf, SWhile, SFor, SReturn, SBreak, SContinue, SOther}

-- `=` and an expression, or nothing
abbrev pub init_step : List Token → ReadStep (Option Expression)
init_step ts = elim (after marks.Assign ts) [
  | Some w1 ↦ Ask (NExpr 1) w1.1 (λ x2 r3. Give (Some x2) r3)
  | None ↦ Give None ts
]

-- the declaration of a local: `final` or not, a type, a name, and its first value or none
abbrev pub local_step : List Token → ReadStep Statement
local_step ts = Ask NType ((final_of ts).1) (λ x1 r2. elim (word_next r2) [
  | Some w3 ↦ Ask NInit w3.2 (λ x4 r5. Give (LocalOf (final_of ts).0 x1 w3.0 x4 w3.1) r5)
  | None ↦ Fail r2
])

-- an expression, or nothing where a `;` is next
abbrev pub value_step : List Token → ReadStep (Option Expression)
value_step ts = elim (after marks.Semi ts) [
  | Some w1 ↦ Give None ts
  | None ↦ Ask (NExpr 1) ts (λ x2 r3. Give (Some x2) r3)
]

-- an assignment, a step by one, a call or a new object, as a statement without its `;`
abbrev pub act_step : List Token → ReadStep Statement
act_step ts = elim (stepping_next ts) [
  | Some w1 ↦ elim (word_next w1.2) [
    | Some w2 ↦ Give (stepped w1.0 w2.0 w2.1 w1.1) w2.2
    | None ↦ Fail w1.2
  ]
  | None ↦ Ask NPost ts (λ x3 r4. Ask (NActRest (next_is is_word ts) (first_place ts) x3.0 x3.1) r4 Give)
]

-- the rest of such a statement, of which the expression e has been read, with its first token at p, a name or not
abbrev pub act_rest_step : Bool → Place → Expression → End → List Token → ReadStep Statement
act_rest_step w p e z ts = elim (after marks.Assign ts) [
  | Some w1 ↦ elim (is_target z) [
    | true ↦ Ask (NExpr 1) w1.1 (λ x2 r3. Give (AssignOf e x2 w1.0) r3)
    | false ↦ Fail ts
  ]
  | None ↦ elim (compound_next ts) [
    | Some w4 ↦ elim (named z e) [
      | Some w5 ↦ Ask (NExpr 1) w4.2 (λ x6 r7. Give (AssignOf (NameRef w5.0 w5.1) (BinaryOf w4.0 (NameRef w5.0 w5.1) x6 w4.1) w4.1) r7)
      | None ↦ Fail ts
    ]
    | None ↦ elim (stepping_next ts) [
      | Some w8 ↦ elim (named z e) [
        | Some w9 ↦ Give (stepped w8.0 w9.0 w9.1 w8.1) w8.2
        | None ↦ Fail ts
      ]
      | None ↦ elim (is_call z) [
        | true ↦ Give (done w p e) ts
        | false ↦ Fail ts
      ]
    ]
  ]
]

-- an expression in round brackets
abbrev pub tested_step : List Token → ReadStep Expression
tested_step ts = elim (after marks.OpenRound ts) [
  | Some w1 ↦ Ask (NExpr 1) w1.1 (λ x2 r3. elim (after marks.CloseRound r3) [
    | Some w4 ↦ Give x2 w4.1
    | None ↦ Fail r3
  ])
  | None ↦ Fail ts
]

-- the declaration of a local with its `;`, or a statement
abbrev pub item_step : List Token → ReadStep Statement
item_step ts = elim (starts_local ts) [
  | true ↦ Ask NLocal ts (λ x1 r2. elim (after marks.Semi r2) [
    | Some w3 ↦ Give x1 w3.1
    | None ↦ Fail r2
  ])
  | false ↦ Ask NStmt ts Give
]

-- the statements behind those already read, and the closing brace
abbrev pub items_step : Statements → List Token → ReadStep Statements
items_step ss ts = elim (after marks.CloseBrace ts) [
  | Some w1 ↦ Give ss w1.1
  | None ↦ Ask NItem ts (λ x2 r3. Ask (NItems (stmt_snoc ss x2)) r3 Give)
]

-- a statement, by how it begins
abbrev pub stmt_step : List Token → ReadStep Statement
stmt_step ts = elim (start ts) [
  | SBlock p us ↦ Ask (NItems no_statements) us (λ x1 r2. Give (BlockOf x1 p) r2)
  | SEmpty p us ↦ Give (BlockOf no_statements p) us
  | SIf p us ↦ Ask (NBranches no_arms) us (λ x3 r4. Give (IfOf x3.0 x3.1 p) r4)
  | SWhile p us ↦ Ask NTested us (λ x5 r6. Ask NStmt r6 (λ x7 r8. Give (WhileOf x5 (as_body x7) p) r8))
  | SFor p us ↦ Ask NForHead us (λ x9 r10. Ask NStmt r10 (λ x11 r12. Give (ForOf x9.0 x9.1 x9.2 (as_body x11) p) r12))
  | SReturn p us ↦ Ask NValue us (λ x13 r14. elim (after marks.Semi r14) [
    | Some w15 ↦ Give (ReturnOf x13 p) w15.1
    | None ↦ Fail r14
  ])
  | SBreak p us ↦ elim (after marks.Semi us) [
    | Some w16 ↦ Give (BreakOf p) w16.1
    | None ↦ Fail us
  ]
  | SContinue p us ↦ elim (after marks.Semi us) [
    | Some w17 ↦ Give (ContinueOf p) w17.1
    | None ↦ Fail us
  ]
  | SOther ↦ Ask NAct ts (λ x18 r19. elim (after marks.Semi r19) [
    | Some w20 ↦ Give x18 w20.1
    | None ↦ Fail r19
  ])
]

-- what stands in the round brackets of a `for`, and these
abbrev pub for_head_step : List Token → ReadStep (OptionalStatement × Option Expression × OptionalStatement)
for_head_step ts = elim (after marks.OpenRound ts) [
  | Some w1 ↦ Ask NFirst w1.1 (λ x2 r3. elim (after marks.Semi r3) [
    | Some w4 ↦ Ask NValue w4.1 (λ x5 r6. elim (after marks.Semi r6) [
      | Some w7 ↦ Ask NStep w7.1 (λ x8 r9. elim (after marks.CloseRound r9) [
        | Some w10 ↦ Give (x2, x5, x8) w10.1
        | None ↦ Fail r9
      ])
      | None ↦ Fail r6
    ])
    | None ↦ Fail r3
  ])
  | None ↦ Fail ts
]

-- how a `for` begins: the declaration of a local, an act, or nothing where a `;` is next
abbrev pub first_step : List Token → ReadStep OptionalStatement
first_step ts = elim (after marks.Semi ts) [
  | Some w1 ↦ Give absent ts
  | None ↦ elim (starts_local ts) [
    | true ↦ Ask NLocal ts (λ x2 r3. Give (present x2) r3)
    | false ↦ Ask NAct ts (λ x4 r5. Give (present x4) r5)
  ]
]

-- how a `for` steps: an act, or nothing where the closing bracket is next
abbrev pub step_step : List Token → ReadStep OptionalStatement
step_step ts = elim (after marks.CloseRound ts) [
  | Some w1 ↦ Give absent ts
  | None ↦ Ask NAct ts (λ x2 r3. Give (present x2) r3)
]

-- the rest of an `if` behind the arms already read: a test and a body, and more arms or an `else`
abbrev pub branches_step : Arms → List Token → ReadStep (Arms × Else)
branches_step a ts = Ask NTested ts (λ x1 r2. Ask NStmt r2 (λ x3 r4. elim (after_key keys.Else r4) [
  | Some w5 ↦ elim (after_key keys.If w5.1) [
    | Some w6 ↦ Ask (NBranches (arm_snoc a x1 (as_body x3))) w6.1 Give
    | None ↦ Ask NStmt w5.1 (λ x7 r8. Give (arm_snoc a x1 (as_body x3), otherwise (as_body x7)) r8)
  ]
  | None ↦ Give (arm_snoc a x1 (as_body x3), no_else) r4
]))
