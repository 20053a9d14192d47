-- How expressions and types are read, as plans.
use Rattle.std.proofs.Common.{ℕ, suc, negsuc}
use Rattle.kaba_base.specs.declared.Place.{Place}
use Rattle.kaba_base.specs.declared.words.Keyword.TheVariants as keys
use Rattle.java_lex.specs.declared.Mark.TheVariants as marks
use Rattle.java_tree.specs.declared.TypeBase.{TypeBase}
use Rattle.java_tree.specs.declared.TypeBase.TheVariants as bases
use Rattle.java_tree.specs.declared.TypeName.{TypeName}
use Rattle.java_tree.specs.Syntax.{Expression, IntLit, NameRef, FieldOf, IndexOf, CallOf, CallOn, SuperCallOf, NewOf, NewArrayOf, CastOf, InstanceOfClass, UnaryOf, BinaryOf, Expressions, no_more, and_more}
use Rattle.java_tree.specs.Tokens.{level}
use Rattle.java_parse.specs.declared.End.{End}
use Rattle.java_parse.specs.declared.End.TheVariants as ends
use Rattle.java_parse.specs.Want.{NExpr, NMore, NPrefixed, NPost, NAtom, NSuper, NNew, NSized, NDims, NTail, NArgs, NMoreArgs}
use Rattle.java_parse.specs.Front.{expr_snoc}
use Rattle.java_parse.proofs.Looks.{a_mark, a_key, a_word, an_operator, an_instance, a_least, a_sign, a_base, a_literal, an_index}
use Rattle.java_parse.proofs.Plans.{Plan, Giving, Stopping, Asking, Looking}

-- an expression of at least the level l: a first operand, and operators with theirs behind it
abbrev pub expr_plan : ℕ → Plan Expression
expr_plan l = Asking NPrefixed (λ x1. Asking (NMore l 11 x1) Giving)

-- what goes on from the operand e: operators of a level from l to c, each with the operand behind it
abbrev pub more_plan : ℕ → ℕ → Expression → Plan Expression
more_plan l c e = Looking (an_operator l c)
    (λ w1. Asking (NExpr (suc (level w1.0))) (λ x2. Asking (NMore l (level w1.0) (BinaryOf w1.0 e x2 w1.1)) Giving))
    (Looking (an_instance l c)
    (λ w4. Looking a_word
    (λ w5. Asking (NMore l 7 (InstanceOfClass e (record { name = w5.0; place = w5.1 }) w4)) Giving)
    Stopping)
    (Giving e))

-- an atom and the postfixes behind it, with how the expression ends
abbrev pub post_plan : Plan (Expression × End)
post_plan = Asking NAtom (λ x1. Asking (NTail x1.0 x1.1) Giving)

-- a literal, `this`, a name, a call, an expression in brackets, or what `new` or `super` begins
abbrev pub atom_plan : Plan (Expression × End)
atom_plan = Looking a_literal
    (λ w1. Giving (w1, ends.Other))
    (Looking a_word
    (λ w2. Looking (a_mark marks.OpenRound)
    (λ w3. Asking NArgs (λ x4. Giving (CallOf w2.0 x4 w2.1, ends.Call)))
    (Giving (NameRef w2.0 w2.1, ends.Name)))
    (Looking (a_mark marks.OpenRound)
    (λ w6. Asking (NExpr 1) (λ x7. Looking (a_mark marks.CloseRound) (λ w9. Giving (x7, ends.Other)) Stopping))
    (Looking (a_key keys.New)
    (λ w10. Asking (NNew w10) Giving)
    (Looking (a_key keys.Super) (λ w11. Asking NSuper Giving) Stopping))))

-- the rest of a call behind `super`: a dot, a name and arguments
abbrev pub super_plan : Plan (Expression × End)
super_plan = Looking (a_mark marks.Dot)
    (λ w1. Looking a_word
    (λ w2. Looking (a_mark marks.OpenRound)
    (λ w3. Asking NArgs (λ x4. Giving (SuperCallOf w2.0 x4 w2.1, ends.Call)))
    Stopping)
    Stopping)
    Stopping

-- the rest of a `new`, which stands at p: a name and arguments, or a type and a size
abbrev pub new_plan : Place → Plan (Expression × End)
new_plan p = Looking a_word
    (λ w1. Looking (a_mark marks.OpenRound)
    (λ w2. Asking NArgs (λ x3. Giving (NewOf (record { name = w1.0; place = w1.1 }) x3 p, ends.New)))
    (Asking (NSized p (bases.Named w1.0) w1.1) Giving))
    (Looking a_base (λ w5. Asking (NSized p w5.0 w5.1) Giving) Stopping)

-- the rest of a new array of the base b: its size in brackets, and the empty pairs behind it
abbrev pub sized_plan : Place → TypeBase → Place → Plan (Expression × End)
sized_plan p b q = Looking (a_mark marks.OpenSquare)
    (λ w1. Asking (NExpr 1) (λ x2. Looking (a_mark marks.CloseSquare)
    (λ w4. Asking (NDims 1) (λ x5. Giving (NewArrayOf (record { base = b; dim = x5; place = q }) x2 p, ends.Array)))
    Stopping))
    Stopping

-- pairs of empty brackets, counted on from d
abbrev pub dims_plan : ℕ → Plan ℕ
dims_plan d = Looking (a_mark marks.OpenSquare)
    (λ w1. Looking (a_mark marks.CloseSquare) (λ w2. Asking (NDims (suc d)) Giving) Stopping)
    (Giving d)

-- a type: its base and pairs of empty brackets
abbrev pub type_plan : Plan TypeName
type_plan = Looking a_base (λ w1. Asking (NDims 0) (λ x2. Giving (record { base = w1.0; dim = x2; place = w1.1 }))) Stopping

-- the postfixes behind the expression e, which ends so: fields, calls and indices
abbrev pub tail_plan : Expression → End → Plan (Expression × End)
tail_plan e z = Looking (a_mark marks.Dot)
    (λ w1. Looking a_word
    (λ w2. Looking (a_mark marks.OpenRound)
    (λ w3. Asking NArgs (λ x4. Asking (NTail (CallOn e w2.0 x4 w2.1) ends.Call) Giving))
    (Asking (NTail (FieldOf e w2.0 w2.1) ends.Target) Giving))
    Stopping)
    (Looking (an_index z)
    (λ w6. Asking (NExpr 1) (λ x7. Looking (a_mark marks.CloseSquare) (λ w9. Asking (NTail (IndexOf e x7 w6) ends.Target) Giving) Stopping))
    (Giving (e, z)))

-- the arguments behind the opening bracket, and the closing one
abbrev pub args_plan : Plan Expressions
args_plan = Looking (a_mark marks.CloseRound)
    (λ w1. Giving no_more)
    (Asking (NExpr 1) (λ x2. Asking (NMoreArgs (and_more x2 no_more)) Giving))

-- the arguments behind those already read, each behind a comma, and the closing bracket
abbrev pub more_args_plan : Expressions → Plan Expressions
more_args_plan es = Looking (a_mark marks.CloseRound)
    (λ w1. Giving es)
    (Looking (a_mark marks.Comma)
    (λ w2. Asking (NExpr 1) (λ x3. Asking (NMoreArgs (expr_snoc es x3)) Giving))
    Stopping)

-- behind a minus: 2147483648, or what the minus stands before
abbrev pub minus_plan : Place → Plan Expression
minus_plan p = Looking (a_least p)
    (λ q. Giving (IntLit (negsuc 2147483647) q))
    (Asking NPrefixed (λ x. Giving (UnaryOf marks.Minus x p)))

-- an operand that begins neither with a minus nor with a round bracket
abbrev pub operand_plan : Plan Expression
operand_plan = Looking a_sign (λ w. Asking NPrefixed (λ x. Giving (UnaryOf w.0 x w.1))) (Asking NPost (λ x. Giving x.0))

-- the rest of a cast behind its type
abbrev pub opened_plan : TypeName → Place → Plan Expression
opened_plan t p = Looking (a_mark marks.CloseRound) (λ q. Asking NPrefixed (λ x. Giving (CastOf t x p))) Stopping

-- the rest of a cast to the type t behind its closing bracket
abbrev pub casted_plan : TypeName → Place → Plan Expression
casted_plan t p = Asking NPrefixed (λ x. Giving (CastOf t x p))

-- an operand without prefix
abbrev pub bare_plan : Plan Expression
bare_plan = Asking NPost (λ x. Giving x.0)
