-- Mirror. What the parser's functions give, as plain data.
use Rattle.std.specs.Prelude.{ℕ, List, Option, Some, None, Result, Ok, Err}
use Rattle.std.specs.Borrow.{Bor}
use Rattle.std.specs.declared.vec.Vec.{Vec}
use Rattle.std.specs.declared.alloc.Global.{Global}
use Rattle.kaba_base.specs.declared.Place.{Place}
use Rattle.java_lex.specs.declared.Token.{Token}
use Rattle.java_tree.specs.declared.Expr.{Expr}
use Rattle.java_tree.specs.declared.Stmt.{Stmt}
use Rattle.java_tree.specs.declared.Arm.{Arm}
use Rattle.java_tree.specs.declared.TypeBase.{TypeBase}
use Rattle.java_tree.specs.declared.TypeBase.TheVariants as bases
use Rattle.java_tree.specs.declared.TypeName.{TypeName}
use Rattle.java_tree.specs.Syntax.{Expression, IntLit, CharLit, StrLit, BoolLit, NullLit, ThisRef, Expressions, Statements, Arms, Else, OptionalStatement, expr_of, stmts, arms_seen, else_seen, value_of, step_seen, up_seen}
use Rattle.java_parse.specs.declared.End.{End}
use Rattle.java_parse.specs.declared.Stop.{Stop}
use Rattle.java_parse.specs.declared.Stop.TheVariants as stops
use Rattle.java_parse.specs.declared.opening.Begin.{Begin}
use Rattle.java_parse.specs.declared.opening.Begin.TheVariants as begins
use Rattle.java_parse.specs.declared.parts.Base.{Base}
use Rattle.java_parse.specs.declared.parts.Base.TheVariants as plain
use Rattle.java_parse.specs.declared.parts.Literal.{Literal}
use Rattle.java_parse.specs.declared.parts.Literal.TheVariants as literals
use Rattle.java_parse.specs.declared.parts.ForHead.{ForHead}
use Rattle.java_lex.specs.declared.Mark.{Mark}
use Rattle.java_parse.specs.Front.{after, Start, SBlock, SEmpty, SIf, SWhile, SFor, SReturn, SBreak, SContinue, SOther}
use Rattle.java_parse.specs.Reading.{Fault, Left, NoMemory, ParseOutcome}

-- why reading stopped, as plain data
abbrev pub fault_of : Stop → Fault
fault_of stops.Memory = NoMemory
fault_of (stops.At ts) = Left ts.now

-- a result as an outcome
abbrev pub seen : {X A : Type 0} → (X → A) → Result (X × Bor (List Token)) Stop → ParseOutcome A
seen view (Ok x) = Ok (view x.0, x.1.now)
seen view (Err e) = Err (fault_of e)

-- what a test of the front found, without where it lies
abbrev pub seen_at : Place × Bor (List Token) → Place × List Token
seen_at (p, ts) = (p, ts.now)

-- what was found at the front, its place and the tokens behind it, without where these lie
abbrev pub seen_two : {A : Type 0} → A × Place × Bor (List Token) → A × Place × List Token
seen_two (m, p, ts) = (m, p, ts.now)

-- the name that was found at the front, its place and the tokens behind it, without where they lie
abbrev pub seen_word : Bor (List ℕ) × Place × Bor (List Token) → List ℕ × Place × List Token
seen_word (n, p, ts) = (n.now, p, ts.now)

-- what was found at the front and the tokens behind it, without where these lie
abbrev pub seen_one : {A : Type 0} → A × Bor (List Token) → A × List Token
seen_one (m, ts) = (m, ts.now)

-- the type without brackets that a token has
abbrev pub base_seen : Base → TypeBase
base_seen plain.Int = bases.Int
base_seen plain.Boolean = bases.Boolean
base_seen plain.Char = bases.Char
base_seen (plain.Named n) = bases.Named n.now

-- the literal or `this` that a token has
abbrev pub literal_seen : Literal → Place → Expression
literal_seen (literals.Int v) p = IntLit v p
literal_seen (literals.Char c) p = CharLit c p
literal_seen (literals.Str u) p = StrLit u.now p
literal_seen (literals.Bool b) p = BoolLit b p
literal_seen literals.Null p = NullLit p
literal_seen literals.This p = ThisRef p

-- a type without brackets that was found, its place and the tokens behind it
abbrev pub seen_base : Base × Place × Bor (List Token) → TypeBase × Place × List Token
seen_base (b, p, ts) = (base_seen b, p, ts.now)

-- the type of a cast that was found, the place of its bracket and the tokens behind it
abbrev pub seen_cast : Base × Place × Place × Bor (List Token) → TypeName × Place × List Token
seen_cast (b, q, p, ts) = (record { base = base_seen b; dim = 0; place = q }, p, ts.now)

-- a literal or `this` that was found, at its place, and the tokens behind it
abbrev pub seen_literal : Literal × Place × Bor (List Token) → Expression × List Token
seen_literal (l, p, ts) = (literal_seen l p, ts.now)

-- a name and its place, without where it lies
abbrev pub seen_name : Bor (List ℕ) × Place → List ℕ × Place
seen_name (n, p) = (n.now, p)

-- an expression as plain data, and how it ends
abbrev pub seen_post : Expr × End → Expression × End
seen_post (e, z) = (expr_of e, z)

-- the arms of an `if` and its `else`, as plain data
abbrev pub seen_branches : Vec Arm Global × Option (Vec Stmt Global) → Arms × Else
seen_branches (a, o) = (arms_seen a.items, else_seen o)

-- what stands in the round brackets of a `for`, as plain data
abbrev pub seen_steps : ForHead → OptionalStatement × Option Expression × OptionalStatement
seen_steps h = (step_seen h.first, value_of h.test, step_seen h.step)

-- what the body of a constructor holds, as plain data: the arguments of `super`, where that stands first, and the statements
abbrev pub seen_maker_body : Option (Vec Expr Global) × Vec Stmt Global → Option Expressions × Statements
seen_maker_body (u, b) = (up_seen u, stmts b.items)

-- how a statement begins, as plain data
abbrev pub start_seen : Begin → Start
start_seen (begins.Block p ts) = SBlock p ts.now
start_seen (begins.Empty p ts) = SEmpty p ts.now
start_seen (begins.If p ts) = SIf p ts.now
start_seen (begins.While p ts) = SWhile p ts.now
start_seen (begins.For p ts) = SFor p ts.now
start_seen (begins.Return p ts) = SReturn p ts.now
start_seen (begins.Break p ts) = SBreak p ts.now
start_seen (begins.Continue p ts) = SContinue p ts.now
start_seen begins.Other = SOther

-- what reading a part comes to that this mark closes, once the tree is read
abbrev pub before_by : {A : Type 0} → A → List Token → Option (Place × List Token) → ParseOutcome A
before_by v ts (Some end) = Ok (v, end.1)
before_by v ts None = Err (Left ts)

-- what reading comes to where the tree v has been read and this mark must be next
abbrev pub before : {A : Type 0} → Mark → A → List Token → ParseOutcome A
before m v ts = before_by v ts (after m ts)
