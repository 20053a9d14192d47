-- Mirror. How expressions and types are read from the left, with one token of look-ahead.
use Rattle.std.specs.Prelude.{ℕ, suc, negsuc, List, Some, None}
use Rattle.kaba_base.specs.declared.Place.{Place}
use Rattle.kaba_base.specs.declared.words.Keyword.TheVariants as keys
use Rattle.java_lex.specs.declared.Token.{Token}
use Rattle.java_lex.specs.declared.Mark.TheVariants as marks
use Rattle.java_tree.specs.declared.TypeBase.{TypeBase}
use Rattle.java_tree.specs.declared.TypeBase.TheVariants as bases
use Rattle.java_tree.specs.declared.TypeName.{TypeName}
use Rattle.java_tree.specs.Syntax.{Expression, IntLit, NameRef, FieldOf, IndexOf, CallOf, CallOn, SuperCallOf, NewOf, NewArrayOf, CastOf, InstanceOfClass, UnaryOf, BinaryOf, Expressions, no_more, and_more}
use Rattle.java_tree.specs.Tokens.{level}
use Rattle.java_parse.specs.declared.End.{End}
use Rattle.java_parse.specs.declared.End.TheVariants as ends
use Rattle.java_parse.specs.Want.{NExpr, NMore, NPrefixed, NPost, NAtom, NSuper, NNew, NSized, NDims, NTail, NArgs, NMoreArgs, ReadStep, Give, Fail, Ask}
use Rattle.java_parse.specs.Front.{after, after_key, word_next, operator, instance_next, least_next, sign_next, opens_cast, cast_next, base_next, literal_next, index_next, expr_snoc}

-- an expression of at least the level l: a first operand, and operators with theirs behind it
abbrev pub expr_step : ℕ → List Token → ReadStep Expression
expr_step l ts = Ask NPrefixed ts (λ x1 r2. Ask (NMore l 11 x1) r2 Give)

-- what goes on from the operand e: operators of a level from l to c, each with the operand behind it
abbrev pub more_step : ℕ → ℕ → Expression → List Token → ReadStep Expression
more_step l c e ts = elim (operator l c ts) [
  | Some w1 ↦ Ask (NExpr (suc (level w1.0))) w1.2 (λ x2 r3. Ask (NMore l (level w1.0) (BinaryOf w1.0 e x2 w1.1)) r3 Give)
  | None ↦ elim (instance_next l c ts) [
    | Some w4 ↦ elim (word_next w4.1) [
      | Some w5 ↦ Ask (NMore l 7 (InstanceOfClass e (record { name = w5.0; place = w5.1 }) w4.0)) w5.2 Give
      | None ↦ Fail w4.1
    ]
    | None ↦ Give e ts
  ]
]

-- the least number, or a prefix operator or a cast with what it stands before, or what has none of them
abbrev pub prefixed_step : List Token → ReadStep Expression
prefixed_step ts = elim (least_next ts) [
  | Some w1 ↦ Give (IntLit (negsuc 2147483647) w1.0) w1.1
  | None ↦ elim (sign_next ts) [
    | Some w2 ↦ Ask NPrefixed w2.2 (λ x3 r4. Give (UnaryOf w2.0 x3 w2.1) r4)
    | None ↦ elim (opens_cast ts) [
      | Some w5 ↦ elim (after marks.CloseRound w5.2) [
        | Some w6 ↦ Ask NPrefixed w6.1 (λ x7 r8. Give (CastOf w5.0 x7 w5.1) r8)
        | None ↦ Fail w5.2
      ]
      | None ↦ elim (cast_next ts) [
        | Some w9 ↦ Ask NPrefixed w9.2 (λ x10 r11. Give (CastOf w9.0 x10 w9.1) r11)
        | None ↦ Ask NPost ts (λ x12 r13. Give x12.0 r13)
      ]
    ]
  ]
]

-- an atom and the postfixes behind it, with how the expression ends
abbrev pub post_step : List Token → ReadStep (Expression × End)
post_step ts = Ask NAtom ts (λ x1 r2. Ask (NTail x1.0 x1.1) r2 Give)

-- a literal, `this`, a name, a call, an expression in brackets, or what `new` or `super` begins
abbrev pub atom_step : List Token → ReadStep (Expression × End)
atom_step ts = elim (literal_next ts) [
  | Some w1 ↦ Give (w1.0, ends.Other) w1.1
  | None ↦ elim (word_next ts) [
    | Some w2 ↦ elim (after marks.OpenRound w2.2) [
      | Some w3 ↦ Ask NArgs w3.1 (λ x4 r5. Give (CallOf w2.0 x4 w2.1, ends.Call) r5)
      | None ↦ Give (NameRef w2.0 w2.1, ends.Name) w2.2
    ]
    | None ↦ elim (after marks.OpenRound ts) [
      | Some w6 ↦ Ask (NExpr 1) w6.1 (λ x7 r8. elim (after marks.CloseRound r8) [
        | Some w9 ↦ Give (x7, ends.Other) w9.1
        | None ↦ Fail r8
      ])
      | None ↦ elim (after_key keys.New ts) [
        | Some w10 ↦ Ask (NNew w10.0) w10.1 Give
        | None ↦ elim (after_key keys.Super ts) [
          | Some w11 ↦ Ask NSuper w11.1 Give
          | None ↦ Fail ts
        ]
      ]
    ]
  ]
]

-- the rest of a call behind `super`: a dot, a name and arguments
abbrev pub super_step : List Token → ReadStep (Expression × End)
super_step ts = elim (after marks.Dot ts) [
  | Some w1 ↦ elim (word_next w1.1) [
    | Some w2 ↦ elim (after marks.OpenRound w2.2) [
      | Some w3 ↦ Ask NArgs w3.1 (λ x4 r5. Give (SuperCallOf w2.0 x4 w2.1, ends.Call) r5)
      | None ↦ Fail w2.2
    ]
    | None ↦ Fail w1.1
  ]
  | None ↦ Fail ts
]

-- the rest of a `new`, which stands at p: a name and arguments, or a type and a size
abbrev pub new_step : Place → List Token → ReadStep (Expression × End)
new_step p ts = elim (word_next ts) [
  | Some w1 ↦ elim (after marks.OpenRound w1.2) [
    | Some w2 ↦ Ask NArgs w2.1 (λ x3 r4. Give (NewOf (record { name = w1.0; place = w1.1 }) x3 p, ends.New) r4)
    | None ↦ Ask (NSized p (bases.Named w1.0) w1.1) w1.2 Give
  ]
  | None ↦ elim (base_next ts) [
    | Some w5 ↦ Ask (NSized p w5.0 w5.1) w5.2 Give
    | None ↦ Fail ts
  ]
]

-- the rest of a new array of the base b: its size in brackets, and the empty pairs behind it
abbrev pub sized_step : Place → TypeBase → Place → List Token → ReadStep (Expression × End)
sized_step p b q ts = elim (after marks.OpenSquare ts) [
  | Some w1 ↦ Ask (NExpr 1) w1.1 (λ x2 r3. elim (after marks.CloseSquare r3) [
    | Some w4 ↦ Ask (NDims 1) w4.1 (λ x5 r6. Give (NewArrayOf (record { base = b; dim = x5; place = q }) x2 p, ends.Array) r6)
    | None ↦ Fail r3
  ])
  | None ↦ Fail ts
]

-- pairs of empty brackets, counted on from d
abbrev pub dims_step : ℕ → List Token → ReadStep ℕ
dims_step d ts = elim (after marks.OpenSquare ts) [
  | Some w1 ↦ elim (after marks.CloseSquare w1.1) [
    | Some w2 ↦ Ask (NDims (suc d)) w2.1 Give
    | None ↦ Fail w1.1
  ]
  | None ↦ Give d ts
]

-- a type: its base and pairs of empty brackets
abbrev pub type_step : List Token → ReadStep TypeName
type_step ts = elim (base_next ts) [
  | Some w1 ↦ Ask (NDims 0) w1.2 (λ x2 r3. Give (record { base = w1.0; dim = x2; place = w1.1 }) r3)
  | None ↦ Fail ts
]

-- the postfixes behind the expression e, which ends so: fields, calls and indices
abbrev pub tail_step : Expression → End → List Token → ReadStep (Expression × End)
tail_step e z ts = elim (after marks.Dot ts) [
  | Some w1 ↦ elim (word_next w1.1) [
    | Some w2 ↦ elim (after marks.OpenRound w2.2) [
      | Some w3 ↦ Ask NArgs w3.1 (λ x4 r5. Ask (NTail (CallOn e w2.0 x4 w2.1) ends.Call) r5 Give)
      | None ↦ Ask (NTail (FieldOf e w2.0 w2.1) ends.Target) w2.2 Give
    ]
    | None ↦ Fail w1.1
  ]
  | None ↦ elim (index_next z ts) [
    | Some w6 ↦ Ask (NExpr 1) w6.1 (λ x7 r8. elim (after marks.CloseSquare r8) [
      | Some w9 ↦ Ask (NTail (IndexOf e x7 w6.0) ends.Target) w9.1 Give
      | None ↦ Fail r8
    ])
    | None ↦ Give (e, z) ts
  ]
]

-- the arguments behind the opening bracket, and the closing one
abbrev pub args_step : List Token → ReadStep Expressions
args_step ts = elim (after marks.CloseRound ts) [
  | Some w1 ↦ Give no_more w1.1
  | None ↦ Ask (NExpr 1) ts (λ x2 r3. Ask (NMoreArgs (and_more x2 no_more)) r3 Give)
]

-- the arguments behind those already read, each behind a comma, and the closing bracket
abbrev pub more_args_step : Expressions → List Token → ReadStep Expressions
more_args_step es ts = elim (after marks.CloseRound ts) [
  | Some w1 ↦ Give es w1.1
  | None ↦ elim (after marks.Comma ts) [
    | Some w2 ↦ Ask (NExpr 1) w2.1 (λ x3 r4. Ask (NMoreArgs (expr_snoc es x3)) r4 Give)
    | None ↦ Fail ts
  ]
]
