-- Lists of trees that stand one after the other.
use Rattle.std.proofs.Common.{◌≡◌, List, [], ◌∷◌, ◌++◌, refl, ap}
use Rattle.java_tree.specs.declared.Expr.{Expr}
use Rattle.java_tree.specs.declared.Stmt.{Stmt}
use Rattle.java_tree.specs.declared.Arm.{Arm}
use Rattle.java_tree.specs.Syntax.{Expressions, no_more, and_more, Statements, no_statements, and_then, Arms, no_arms, and_arm, expr_of, exprs, stmt_of, stmts, arms_seen}

abbrev pub append_exprs : Expressions → Expressions → Expressions
append_exprs no_more es = es
append_exprs (and_more e rest) es = and_more e (append_exprs rest es)

abbrev pub append_stmts : Statements → Statements → Statements
append_stmts no_statements ss = ss
append_stmts (and_then s rest) ss = and_then s (append_stmts rest ss)

abbrev pub append_arms : Arms → Arms → Arms
append_arms no_arms more = more
append_arms (and_arm e b rest) more = and_arm e b (append_arms rest more)

-- with none behind them
pub exprs_end : (es : Expressions) → append_exprs es no_more ≡ es
exprs_end no_more = refl
exprs_end (and_more e es) = ap (and_more e) (exprs_end es)

pub stmts_end : (ss : Statements) → append_stmts ss no_statements ≡ ss
stmts_end no_statements = refl
stmts_end (and_then s ss) = ap (and_then s) (stmts_end ss)

pub arms_end : (more : Arms) → append_arms more no_arms ≡ more
arms_end no_arms = refl
arms_end (and_arm e b more) = ap (and_arm e b) (arms_end more)

-- those of a list with one more
pub exprs_push : (xs : List Expr) (e : Expr) (rest : Expressions) → append_exprs (exprs (xs ++ e ∷ [])) rest
    ≡ append_exprs (exprs xs) (and_more (expr_of e) rest)
exprs_push [] e rest = refl
exprs_push (x ∷ xs) e rest = ap (and_more (expr_of x)) (exprs_push xs e rest)

pub stmts_push : (xs : List Stmt) (s : Stmt) (rest : Statements) → append_stmts (stmts (xs ++ s ∷ [])) rest
    ≡ append_stmts (stmts xs) (and_then (stmt_of s) rest)
stmts_push [] s rest = refl
stmts_push (x ∷ xs) s rest = ap (and_then (stmt_of x)) (stmts_push xs s rest)

pub arms_push : (xs : List Arm) (a : Arm) (rest : Arms) → append_arms (arms_seen (xs ++ a ∷ [])) rest
    ≡ append_arms (arms_seen xs) (and_arm (expr_of a.test) (stmts a.body.items) rest)
arms_push [] a rest = refl
arms_push (x ∷ xs) a rest = ap (and_arm (expr_of x.test) (stmts x.body.items)) (arms_push xs a rest)
