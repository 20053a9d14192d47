-- Believed. Trees as plain data: no boxes, no addresses, no capacities; and what plain tree each tree of the program
-- is.
use Rattle.std.specs.Prelude.{ℕ, ℤ, List, [], ◌∷◌, Option, Some, None, Bool}
use Rattle.kaba_base.specs.declared.Place.{Place}
use Rattle.java_lex.specs.declared.Mark.{Mark}
use Rattle.java_tree.specs.declared.Id.{Id}
use Rattle.java_tree.specs.declared.Modifier.{Modifier}
use Rattle.java_tree.specs.declared.TypeName.{TypeName}
use Rattle.java_tree.specs.declared.Param.{Param}
use Rattle.java_tree.specs.declared.Head.{Head}
use Rattle.java_tree.specs.declared.Expr.{Expr}
use Rattle.java_tree.specs.declared.Expr.TheBlock as ex
use Rattle.java_tree.specs.declared.Stmt.{Stmt}
use Rattle.java_tree.specs.declared.Stmt.TheBlock as st
use Rattle.java_tree.specs.declared.Arm.{Arm}
use Rattle.java_tree.specs.declared.Member.{Member}
use Rattle.java_tree.specs.declared.Member.TheVariants as me
use Rattle.java_tree.specs.declared.Decl.{Decl}
use Rattle.java_tree.specs.declared.Decl.TheVariants as de
use Rattle.java_tree.specs.declared.Tree.{Tree}
use Rattle.std.specs.declared.vec.Vec.{Vec}
use Rattle.std.specs.declared.boxed.Box.{Box}
use Rattle.std.specs.declared.alloc.Global.{Global}

-- an expression
mutual
  -- its forms: literals, `this`, names, accesses, calls, `new`, casts, `instanceof` and operators, with places
  pub data Expression : Type 0 where
    IntLit : ℤ → Place → Expression
    CharLit : ℕ → Place → Expression
    StrLit : List ℕ → Place → Expression
    BoolLit : Bool → Place → Expression
    NullLit : Place → Expression
    ThisRef : Place → Expression
    NameRef : List ℕ → Place → Expression
    FieldOf : Expression → List ℕ → Place → Expression
    IndexOf : Expression → Expression → Place → Expression
    CallOf : List ℕ → Expressions → Place → Expression
    CallOn : Expression → List ℕ → Expressions → Place → Expression
    SuperCallOf : List ℕ → Expressions → Place → Expression
    NewOf : Id → Expressions → Place → Expression
    NewArrayOf : TypeName → Expression → Place → Expression
    CastOf : TypeName → Expression → Place → Expression
    InstanceOfClass : Expression → Id → Place → Expression
    UnaryOf : Mark → Expression → Place → Expression
    BinaryOf : Mark → Expression → Expression → Place → Expression

  -- a list of expressions
  pub data Expressions : Type 0 where
    no_more : Expressions
    and_more : Expression → Expressions → Expressions

-- a statement
mutual
  -- its forms, with places: local, block, assignment, call, printing, `if`, loops, `return`, `break`, `continue`
  pub data Statement : Type 0 where
    LocalOf : Bool → TypeName → List ℕ → Option Expression → Place → Statement
    BlockOf : Statements → Place → Statement
    AssignOf : Expression → Expression → Place → Statement
    DoOf : Expression → Place → Statement
    PrintOf : Bool → Option Expression → Place → Statement
    IfOf : Arms → Else → Place → Statement
    WhileOf : Expression → Statements → Place → Statement
    ForOf : OptionalStatement → Option Expression → OptionalStatement → Statements → Place → Statement
    ReturnOf : Option Expression → Place → Statement
    BreakOf : Place → Statement
    ContinueOf : Place → Statement

  -- a list of statements
  pub data Statements : Type 0 where
    no_statements : Statements
    and_then : Statement → Statements → Statements

  -- the arms of an `if`: the test and the body of each
  pub data Arms : Type 0 where
    no_arms : Arms
    and_arm : Expression → Statements → Arms → Arms

  -- the `else` of an `if`, where it has one
  pub data Else : Type 0 where
    no_else : Else
    otherwise : Statements → Else

  -- a statement or none, as the first part and the step of a `for`
  pub data OptionalStatement : Type 0 where
    absent : OptionalStatement
    present : Statement → OptionalStatement

-- a method up to its body
pub record HeadTree : Type 0 where
  pub mods : List Modifier
  pub type : Option TypeName
  pub name : List ℕ
  pub params : List Param
  pub place : Place

-- a member of a class
pub data MemberTree : Type 0 where
  FieldTree : List Modifier → TypeName → List ℕ → Place → MemberTree
  MethodTree : HeadTree → Option Statements → Place → MemberTree
  -- a constructor: modifiers, name, parameters, the arguments of the `super(..)` that its body begins with, the statements behind it
  MakerTree : List Modifier → List ℕ → List Param → Option Expressions → Statements → Place → MemberTree

-- a class or an interface
pub data DeclTree : Type 0 where
  ClassTree : List Modifier → List ℕ → Option Id → List Id → List MemberTree → Place → DeclTree
  InterfaceTree : List Modifier → List ℕ → List Id → List HeadTree → Place → DeclTree

-- which plain expression an expression is
abbrev mutual
  -- an expression of the program without its boxes
  pub expr_of : Expr → Expression
  expr_of (ex.Int v p) = IntLit v p
  expr_of (ex.Char c p) = CharLit c p
  expr_of (ex.Str u p) = StrLit u p
  expr_of (ex.Bool b p) = BoolLit b p
  expr_of (ex.Null p) = NullLit p
  expr_of (ex.This p) = ThisRef p
  expr_of (ex.Name n p) = NameRef n p
  expr_of (ex.Field' b e n p) = FieldOf (expr_of e) n p
  expr_of (ex.Index' b e c i p) = IndexOf (expr_of e) (expr_of i) p
  expr_of (ex.Call' b n s args p) = call_of b n (exprs_of args) p
  expr_of (ex.SuperCall' n s args p) = SuperCallOf n (exprs_of args) p
  expr_of (ex.New' c s args p) = NewOf c (exprs_of args) p
  expr_of (ex.NewArray' t b e p) = NewArrayOf t (expr_of e) p
  expr_of (ex.Cast' t b e p) = CastOf t (expr_of e) p
  expr_of (ex.InstanceOf' b e c p) = InstanceOfClass (expr_of e) c p
  expr_of (ex.Unary' m b e p) = UnaryOf m (expr_of e) p
  expr_of (ex.Binary' m b l c r p) = BinaryOf m (expr_of l) (expr_of r) p

  -- a call: upon the expression before its dot, where it holds one
  pub call_of : ex.Held-Expr-Call-0 → List ℕ → Expressions → Place → Expression
  call_of ex.None' n args p = CallOf n args p
  call_of (ex.Some' b e) n args p = CallOn (expr_of e) n args p

  -- a row of expressions as a list
  pub exprs_of : {n : _} → ex.Row_of-Expr n → Expressions
  exprs_of ex.end_of-Expr = no_more
  exprs_of (ex.more_of-Expr e rest) = and_more (expr_of e) (exprs_of rest)

-- the plain expression, where there is one
abbrev pub value_of : Option Expr → Option Expression
value_of None = None
value_of (Some e) = Some (expr_of e)

-- which plain statement a statement is
abbrev mutual
  -- a statement of the program without its boxes and capacities
  pub stmt_of : Stmt → Statement
  stmt_of (st.Local f t n v p) = LocalOf f t n (value_of v) p
  stmt_of (st.Block' s items p) = BlockOf (stmts_of items) p
  stmt_of (st.Assign t v p) = AssignOf (expr_of t) (expr_of v) p
  stmt_of (st.Do c p) = DoOf (expr_of c) p
  stmt_of (st.Print l v p) = PrintOf l (value_of v) p
  stmt_of (st.If' s arms other p) = IfOf (arms_of arms) (else_of other) p
  stmt_of (st.While' t s body p) = WhileOf (expr_of t) (stmts_of body) p
  stmt_of (st.For' f t g s body p) = ForOf (step_of f) (value_of t) (step_of g) (stmts_of body) p
  stmt_of (st.Return v p) = ReturnOf (value_of v) p
  stmt_of (st.Break p) = BreakOf p
  stmt_of (st.Continue p) = ContinueOf p

  -- the `else` that an `if` holds, as plain data
  pub else_of : st.Held-Stmt-If-1 → Else
  else_of st.Stmt-If-1-None' = no_else
  else_of (st.Stmt-If-1-Some' s body) = otherwise (stmts_of body)

  -- the statement that the round brackets of a `for` hold, as plain data
  pub step_of : st.Held-Stmt-For-0 → OptionalStatement
  step_of st.Stmt-For-0-None' = absent
  step_of (st.Stmt-For-0-Some' b s) = present (stmt_of s)

  -- a row of statements as a list
  pub stmts_of : {n : _} → st.Row_of-Stmt n → Statements
  stmts_of st.end_of-Stmt = no_statements
  stmts_of (st.more_of-Stmt s rest) = and_then (stmt_of s) (stmts_of rest)

  -- a row of arms as a list of plain ones
  pub arms_of : {n : _} → st.Row_of-Arm n → Arms
  arms_of st.end_of-Arm = no_arms
  arms_of (st.more_of-Arm t s body rest) = and_arm (expr_of t) (stmts_of body) (arms_of rest)

-- lists of trees
abbrev pub exprs : List Expr → Expressions
exprs [] = no_more
exprs (e ∷ es) = and_more (expr_of e) (exprs es)

-- the plain statements of a list
abbrev pub stmts : List Stmt → Statements
stmts [] = no_statements
stmts (s ∷ ss) = and_then (stmt_of s) (stmts ss)

-- the plain arms of a list
abbrev pub arms_seen : List Arm → Arms
arms_seen [] = no_arms
arms_seen (a ∷ more) = and_arm (expr_of a.test) (stmts a.body.items) (arms_seen more)

-- the plain `else` of an optional body
abbrev pub else_seen : Option (Vec Stmt Global) → Else
else_seen None = no_else
else_seen (Some v) = otherwise (stmts v.items)

-- the plain statement, where there is one
abbrev pub step_seen : Option Stmt → OptionalStatement
step_seen None = absent
step_seen (Some s) = present (stmt_of s)

-- the plain statement in a box, where there is one
abbrev pub boxed_step : Option (Box Stmt Global) → OptionalStatement
boxed_step None = absent
boxed_step (Some b) = present (stmt_of b.value)

-- the plain statements of a body, where there is one
abbrev pub body_seen : Option (Vec Stmt Global) → Option Statements
body_seen None = None
body_seen (Some v) = Some (stmts v.items)

-- the plain arguments of a `super(..)`, where there is one
abbrev pub up_seen : Option (Vec Expr Global) → Option Expressions
up_seen None = None
up_seen (Some v) = Some (exprs v.items)

-- the plain head of a method
abbrev pub head_of : Head → HeadTree
head_of h = record { mods = h.mods.items; type = h.result; name = h.name; params = h.params.items; place = h.place }

-- the plain heads of a list
abbrev pub heads : List Head → List HeadTree
heads [] = []
heads (h ∷ hs) = head_of h ∷ heads hs

-- the plain field, method or constructor of a member
abbrev pub member_of : Member → MemberTree
member_of (me.Field m t n p) = FieldTree m.items t n p
member_of (me.Method h b p) = MethodTree (head_of h) (body_seen b) p
member_of (me.Maker m n ps u v p) = MakerTree m.items n ps.items (up_seen u) (stmts v.items) p

-- the plain members of a list
abbrev pub members : List Member → List MemberTree
members [] = []
members (m ∷ ms) = member_of m ∷ members ms

-- the plain class or interface of a declaration
abbrev pub decl_of : Decl → DeclTree
decl_of (de.Class m n c f ms p) = ClassTree m.items n c f.items (members ms.items) p
decl_of (de.Interface m n f hs p) = InterfaceTree m.items n f.items (heads hs.items) p

-- the plain declarations of a list
abbrev pub decls : List Decl → List DeclTree
decls [] = []
decls (d ∷ ds) = decl_of d ∷ decls ds

-- a program is the list of its classes and interfaces
abbrev pub tree_of : Tree → List DeclTree
tree_of t = decls t.decls.items
