-- How statements are read, as plans.
use Rattle.std.proofs.Common.{Option, Some, None, Bool}
use Rattle.kaba_base.specs.declared.Place.{Place}
use Rattle.kaba_base.specs.declared.words.Keyword.TheVariants as keys
use Rattle.java_lex.specs.declared.Mark.TheVariants as marks
use Rattle.java_tree.specs.Syntax.{Expression, NameRef, BinaryOf, Statement, LocalOf, BlockOf, AssignOf, IfOf, WhileOf, ForOf, ReturnOf, BreakOf, ContinueOf, Statements, no_statements, Arms, no_arms, Else, no_else, otherwise, OptionalStatement, absent, present}
use Rattle.java_tree.specs.Statements.{as_body}
use Rattle.java_parse.specs.declared.End.{End}
use Rattle.java_parse.specs.Want.{NExpr, NPost, NType, NInit, NLocal, NValue, NAct, NActRest, NTested, NItem, NItems, NStmt, NForHead, NFirst, NStep, NBranches}
use Rattle.java_parse.specs.Front.{stmt_snoc, arm_snoc, named, is_target, is_call, stepped, done}
use Rattle.java_parse.proofs.Looks.{a_mark, a_key, a_word, a_step, a_compound}
use Rattle.java_parse.proofs.Plans.{Plan, Giving, Stopping, Asking, Looking, Peeking, Guarding, Allowing, Testing, Heading, Finals}

-- `=` and an expression, or nothing
abbrev pub init_plan : Plan (Option Expression)
init_plan = Looking (a_mark marks.Assign) (λ w1. Asking (NExpr 1) (λ x2. Giving (Some x2))) (Giving None)

-- the declaration of a local: `final` or not, a type, a name, and its first value or none
abbrev pub local_plan : Plan Statement
local_plan = Finals (λ f0. Asking NType (λ x1. Looking a_word (λ w3. Asking NInit (λ x4. Giving (LocalOf f0 x1 w3.0 x4 w3.1))) Stopping))

-- an expression, or nothing where a `;` is next
abbrev pub value_plan : Plan (Option Expression)
value_plan = Peeking (a_mark marks.Semi) (Giving None) (Asking (NExpr 1) (λ x2. Giving (Some x2)))

-- an assignment, a step by one, a call or a new object, as a statement without its `;`
abbrev pub act_plan : Plan Statement
act_plan = Looking a_step
    (λ w1. Looking a_word (λ w2. Giving (stepped w1.0 w2.0 w2.1 w1.1)) Stopping)
    (Heading (λ w0 p0. Asking NPost (λ x3. Asking (NActRest w0 p0 x3.0 x3.1) Giving)))

-- an expression in round brackets
abbrev pub tested_plan : Plan Expression
tested_plan = Looking (a_mark marks.OpenRound)
    (λ w1. Asking (NExpr 1) (λ x2. Looking (a_mark marks.CloseRound) (λ w4. Giving x2) Stopping))
    Stopping

-- the statements behind those already read, and the closing brace
abbrev pub items_plan : Statements → Plan Statements
items_plan ss = Looking (a_mark marks.CloseBrace) (λ w1. Giving ss) (Asking NItem (λ x2. Asking (NItems (stmt_snoc ss x2)) Giving))

-- what stands in the round brackets of a `for`, and these
abbrev pub for_head_plan : Plan (OptionalStatement × Option Expression × OptionalStatement)
for_head_plan = Looking (a_mark marks.OpenRound)
    (λ w1. Asking NFirst (λ x2. Looking (a_mark marks.Semi)
    (λ w4. Asking NValue (λ x5. Looking (a_mark marks.Semi)
    (λ w7. Asking NStep (λ x8. Looking (a_mark marks.CloseRound) (λ w10. Giving (x2, x5, x8)) Stopping))
    Stopping))
    Stopping))
    Stopping

-- how a `for` steps: an act, or nothing where the closing bracket is next
abbrev pub step_plan : Plan OptionalStatement
step_plan = Peeking (a_mark marks.CloseRound) (Giving absent) (Asking NAct (λ x2. Giving (present x2)))

-- the rest of an `if` behind the arms already read: a test and a body, and more arms or an `else`
abbrev pub branches_plan : Arms → Plan (Arms × Else)
branches_plan a = Asking NTested (λ x1. Asking NStmt (λ x3. Looking (a_key keys.Else)
    (λ w5. Looking (a_key keys.If)
    (λ w6. Asking (NBranches (arm_snoc a x1 (as_body x3))) Giving)
    (Asking NStmt (λ x7. Giving (arm_snoc a x1 (as_body x3), otherwise (as_body x7)))))
    (Giving (arm_snoc a x1 (as_body x3), no_else))))

-- the rest of an act behind the expression that it begins with
abbrev pub act_rest_plan : Bool → Place → Expression → End → Plan Statement
act_rest_plan w p e z = Allowing (a_mark marks.Assign) (is_target z)
    (λ q. Asking (NExpr 1) (λ x. Giving (AssignOf e x q)))
    (Guarding a_compound (named z e)
    (λ m n. Asking (NExpr 1) (λ x. Giving (AssignOf (NameRef n.0 n.1) (BinaryOf m.0 (NameRef n.0 n.1) x m.1) m.1)))
    (Guarding a_step (named z e)
    (λ m n. Giving (stepped m.0 n.0 n.1 m.1))
    (Testing (is_call z) (Giving (done w p e)) Stopping)))

-- the two ways of an item
abbrev pub up_to_semi : Statement → Plan Statement
up_to_semi s = Looking (a_mark marks.Semi) (λ p. Giving s) Stopping

abbrev pub local_item_plan : Plan Statement
local_item_plan = Asking NLocal up_to_semi

abbrev pub stmt_item_plan : Plan Statement
stmt_item_plan = Asking NStmt Giving

-- the two ways of what a `for` begins with
abbrev pub a_first : Statement → Plan OptionalStatement
a_first s = Giving (present s)

abbrev pub first_local_plan : Plan OptionalStatement
first_local_plan = Asking NLocal a_first

abbrev pub first_act_plan : Plan OptionalStatement
first_act_plan = Asking NAct a_first

-- the forms of a statement behind the token that tells them, which stands at p
abbrev pub block_plan : Place → Plan Statement
block_plan p = Asking (NItems no_statements) (λ x. Giving (BlockOf x p))

abbrev pub empty_plan : Place → Plan Statement
empty_plan p = Giving (BlockOf no_statements p)

abbrev pub if_plan : Place → Plan Statement
if_plan p = Asking (NBranches no_arms) (λ x. Giving (IfOf x.0 x.1 p))

abbrev pub while_plan : Place → Plan Statement
while_plan p = Asking NTested (λ x. Asking NStmt (λ y. Giving (WhileOf x (as_body y) p)))

abbrev pub for_plan : Place → Plan Statement
for_plan p = Asking NForHead (λ x. Asking NStmt (λ y. Giving (ForOf x.0 x.1 x.2 (as_body y) p)))

abbrev pub return_plan : Place → Plan Statement
return_plan p = Asking NValue (λ x. Looking (a_mark marks.Semi) (λ q. Giving (ReturnOf x p)) Stopping)

abbrev pub break_plan : Place → Plan Statement
break_plan p = Looking (a_mark marks.Semi) (λ q. Giving (BreakOf p)) Stopping

abbrev pub continue_plan : Place → Plan Statement
continue_plan p = Looking (a_mark marks.Semi) (λ q. Giving (ContinueOf p)) Stopping

-- and of one that begins otherwise
abbrev pub acting_plan : Plan Statement
acting_plan = Asking NAct up_to_semi
