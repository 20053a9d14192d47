-- Believed. Resolved trees as plain data: no boxes, no addresses, no capacities; and which plain tree each tree of a
-- program is.
use Rattle.std.specs.Prelude.{ℕ, ℤ, List, [], ◌∷◌, Option, Some, None, Bool, true, false}
use Rattle.kaba_base.specs.declared.Place.{Place}
use Rattle.java_core.specs.declared.Ty.{Ty}
use Rattle.java_core.specs.declared.UnOp.{UnOp}
use Rattle.java_core.specs.declared.BinOp.{BinOp}
use Rattle.java_core.specs.declared.RExpr.{RExpr}
use Rattle.java_core.specs.declared.RExpr.TheBlock as ex
use Rattle.java_core.specs.declared.RStmt.{RStmt}
use Rattle.java_core.specs.declared.RStmt.TheBlock as st
use Rattle.java_core.specs.declared.RArm.{RArm}
use Rattle.std.specs.declared.vec.Vec.{Vec}
use Rattle.std.specs.declared.boxed.Box.{Box}
use Rattle.std.specs.declared.alloc.Global.{Global}

-- what tells a form of a body apart: its label, and its place in the text. No rule of types and no rule of a run looks at it
pub record Tag : Type 0 where
  pub label : ℕ
  pub place : Place

-- an expression. A call by its simple name is one on `this`
mutual
  -- an expression with its names resolved: fields, methods and classes stand as numbers
  pub data Ex : Type 0 where
    number : Tag → ℤ → Ex
    character : Tag → ℕ → Ex
    text : Tag → List ℕ → Ex
    truth : Tag → Bool → Ex
    null : Tag → Ex
    this : Tag → Ex
    local : Tag → ℕ → Ex
    static_field : Tag → ℕ → Ex
    own_field : Tag → ℕ → Ex
    field : Tag → Ex → List ℕ → Ex
    index : Tag → Ex → Ex → Ex
    call : Tag → Ex → List ℕ → Exs → Ex
    static_call : Tag → ℕ → Exs → Ex
    super_call : Tag → List ℕ → Exs → Ex
    -- the number of the creation, and the class
    create : Tag → ℕ → ℕ → Exs → Ex
    -- the number of the creation, the array's own type and its size
    create_array : Tag → ℕ → Ty → Ex → Ex
    cast : Tag → ℕ → Ty → Ex → Ex
    instance_of : Tag → ℕ → Ex → ℕ → Ex
    unary : Tag → UnOp → Ex → Ex
    binary : Tag → BinOp → Ex → Ex → Ex

  -- a list of expressions
  pub data Exs : Type 0 where
    no_ex : Exs
    ex_then : Ex → Exs → Exs

-- what an assignment changes
pub data Target : Type 0 where
  to_local : Tag → ℕ → Target
  to_static : Tag → ℕ → Target
  to_own : Tag → ℕ → Target
  to_field : Tag → Ex → List ℕ → Target
  to_element : Tag → Ex → Ex → Target
  -- what no text gives
  no_target : Target

-- a statement. A `while` and a `for` are a loop, which says whether it is a `while`; its first and its last part are lists of at most one statement
mutual
  -- a statement with its names resolved: locals stand as numbers
  pub data St : Type 0 where
    declare : Tag → ℕ → Option Ex → St
    block : Tag → Sts → St
    assign : Tag → Target → Ex → St
    act : Tag → Ex → St
    print : Tag → Bool → Option Ex → St
    choose : Tag → IfArms → St
    loop : Tag → Bool → Sts → Option Ex → Sts → Sts → St
    return : Tag → Option Ex → St
    break : Tag → St
    continue : Tag → St

  -- a list of statements
  pub data Sts : Type 0 where
    no_st : Sts
    st_then : St → Sts → Sts

  -- the arms of an `if`, and behind them its `else`, which may have no statement, or none
  pub data IfArms : Type 0 where
    no_other : IfArms
    otherwise : Sts → IfArms
    arm : Ex → Sts → IfArms → IfArms

-- the tag of a form at a place: a program numbers none of its forms
abbrev pub at_place : Place → Tag
at_place p = record { label = 0; place = p }

-- which plain tree a tree is: each form carries its place
abbrev mutual
  -- the expression that a tree of the code stands for
  pub expr_of : RExpr → Ex
  expr_of (ex.Int v p) = number (at_place p) v
  expr_of (ex.Char c p) = character (at_place p) c
  expr_of (ex.Str u p) = text (at_place p) u
  expr_of (ex.Bool b p) = truth (at_place p) b
  expr_of (ex.Null p) = null (at_place p)
  expr_of (ex.This p) = this (at_place p)
  expr_of (ex.Local n p) = local (at_place p) n
  expr_of (ex.Static f p) = static_field (at_place p) f.0
  expr_of (ex.Own f p) = own_field (at_place p) f.0
  expr_of (ex.Field' b e n p) = field (at_place p) (expr_of e) n
  expr_of (ex.Index' b e c i p) = index (at_place p) (expr_of e) (expr_of i)
  expr_of (ex.Call' b n s args p) = call_of b n (exprs_of args) p
  expr_of (ex.StaticCall' m s args p) = static_call (at_place p) m.0 (exprs_of args)
  expr_of (ex.SuperCall' n s args p) = super_call (at_place p) n (exprs_of args)
  expr_of (ex.New' k c s args p) = create (at_place p) k c.0 (exprs_of args)
  expr_of (ex.NewArray' k t b e p) = create_array (at_place p) k t (expr_of e)
  expr_of (ex.Cast' k t b e p) = cast (at_place p) k t (expr_of e)
  expr_of (ex.InstanceOf' k b e c p) = instance_of (at_place p) k (expr_of e) c.0
  expr_of (ex.Unary' o b e p) = unary (at_place p) o (expr_of e)
  expr_of (ex.Binary' o b l c r p) = binary (at_place p) o (expr_of l) (expr_of r)

  -- the call of a method by name, on an expression or on `this` where none is written
  pub call_of : ex.Held-RExpr-Call-0 → List ℕ → Exs → Place → Ex
  call_of ex.None' n args p = call (at_place p) (this (at_place p)) n args
  call_of (ex.Some' b e) n args p = call (at_place p) (expr_of e) n args

  -- the list that a row of expressions of the code stands for
  pub exprs_of : {n : _} → ex.Row_of-RExpr n → Exs
  exprs_of ex.end_of-RExpr = no_ex
  exprs_of (ex.more_of-RExpr e rest) = ex_then (expr_of e) (exprs_of rest)

-- the expression that may be absent, as the code holds it
abbrev pub value_of : Option RExpr → Option Ex
value_of None = None
value_of (Some e) = Some (expr_of e)

-- what an assignment to an expression changes
abbrev pub target_of : RExpr → Target
target_of (ex.Local n p) = to_local (at_place p) n
target_of (ex.Static f p) = to_static (at_place p) f.0
target_of (ex.Own f p) = to_own (at_place p) f.0
target_of (ex.Field' b e n p) = to_field (at_place p) (expr_of e) n
target_of (ex.Index' b e c i p) = to_element (at_place p) (expr_of e) (expr_of i)
target_of _ = no_target

abbrev mutual
  -- the statement that a tree of the code stands for
  pub stmt_of : RStmt → St
  stmt_of (st.Local n v p) = declare (at_place p) n (value_of v)
  stmt_of (st.Block' s items p) = block (at_place p) (stmts_of items)
  stmt_of (st.Assign t v p) = assign (at_place p) (target_of t) (expr_of v)
  stmt_of (st.Do c p) = act (at_place p) (expr_of c)
  stmt_of (st.Print l v p) = print (at_place p) l (value_of v)
  stmt_of (st.If' s arms other p) = choose (at_place p) (arms_of arms (else_of other))
  stmt_of (st.While' t s body p) = loop (at_place p) true no_st (Some (expr_of t)) no_st (stmts_of body)
  stmt_of (st.For' f t g s body p) = loop (at_place p) false (step_of f) (value_of t) (step_of g) (stmts_of body)
  stmt_of (st.Return v p) = return (at_place p) (value_of v)
  stmt_of (st.Break p) = break (at_place p)
  stmt_of (st.Continue p) = continue (at_place p)

  -- the last arm of an `if`: its `else`, where it has one
  pub else_of : st.Held-RStmt-If-1 → IfArms
  else_of st.RStmt-If-1-None' = no_other
  else_of (st.RStmt-If-1-Some' s body) = otherwise (stmts_of body)

  -- the step of a `for`: at most one statement
  pub step_of : st.Held-RStmt-For-0 → Sts
  step_of st.RStmt-For-0-None' = no_st
  step_of (st.RStmt-For-0-Some' b s) = st_then (stmt_of s) no_st

  -- the list that a row of statements of the code stands for
  pub stmts_of : {n : _} → st.Row_of-RStmt n → Sts
  stmts_of st.end_of-RStmt = no_st
  stmts_of (st.more_of-RStmt s rest) = st_then (stmt_of s) (stmts_of rest)

  -- the arms that a row of arms of the code stands for, with those that come behind them
  pub arms_of : {n : _} → st.Row_of-RArm n → IfArms → IfArms
  arms_of st.end_of-RArm other = other
  arms_of (st.more_of-RArm t s body rest) other = arm (expr_of t) (stmts_of body) (arms_of rest other)

-- lists of trees
abbrev pub exprs : List RExpr → Exs
exprs [] = no_ex
exprs (e ∷ es) = ex_then (expr_of e) (exprs es)

-- the statements that a vector of the code stands for
abbrev pub stmts : List RStmt → Sts
stmts [] = no_st
stmts (s ∷ ss) = st_then (stmt_of s) (stmts ss)

-- the arms that a vector of the code stands for, with those that come behind them
abbrev pub arms_seen : List RArm → IfArms → IfArms
arms_seen [] other = other
arms_seen (a ∷ more) other = arm (expr_of a.test) (stmts a.body.items) (arms_seen more other)

-- the `else` of an `if`
abbrev pub else_seen : Option (Vec RStmt Global) → IfArms
else_seen None = no_other
else_seen (Some v) = otherwise (stmts v.items)

-- the step of a `for` that the code holds: at most one statement
abbrev pub step_seen : Option (Box RStmt Global) → Sts
step_seen None = no_st
step_seen (Some b) = st_then (stmt_of b.value) no_st

-- the body of a method that the code holds, where it has one
abbrev pub body_seen : Option (Vec RStmt Global) → Option Sts
body_seen None = None
body_seen (Some v) = Some (stmts v.items)

-- the receiver of a call
abbrev pub base_seen : Option (Box RExpr Global) → Place → Ex
base_seen None p = this (at_place p)
base_seen (Some b) p = expr_of b.value
