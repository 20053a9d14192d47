-- What a row of trees is, read as the items of its vector.
use Rattle.std.proofs.Common.{◌≡◌, refl, sym, ap, ◌∙◌}
use Rattle.std.specs.Prelude.{Option, Some, None}
use Rattle.std.specs.declared.vec.Vec.{Vec}
use Rattle.std.specs.declared.boxed.Box.{Box}
use Rattle.std.specs.declared.alloc.Global.{Global}
use Rattle.kaba_base.specs.declared.Place.{Place}
use Rattle.java_tree.specs.declared.Expr.{Expr}
use Rattle.java_tree.specs.declared.Stmt.{Stmt, For}
use Rattle.java_tree.specs.declared.Expr.TheBlock.{Row_of-Expr, end_of-Expr, more_of-Expr, items-the_row-Expr, hidden-the_row-Expr-0, items_hidden-the_row-Expr-0, shown-the_row-Expr-0, items_shown-the_row-Expr-0}
use Rattle.java_tree.specs.declared.Stmt.TheBlock.{Row_of-Stmt, end_of-Stmt, more_of-Stmt, items-the_row-Stmt, hidden-the_row-Stmt-0, items_hidden-the_row-Stmt-0, shown-the_row-Stmt-0, items_shown-the_row-Stmt-0, Row_of-Arm, end_of-Arm, more_of-Arm, items-the_row-Arm, hidden-the_row-Arm-1, items_hidden-the_row-Arm-1}
use Rattle.java_tree.specs.Syntax.{and_more, expr_of, exprs_of, exprs, stmts_of, stmt_of, stmts, and_then, arms_of, arms_seen, and_arm, ForOf, value_of, boxed_step}

pub exprs-items : {n : _} (k : Row_of-Expr n) → exprs_of k ≡ exprs (items-the_row-Expr _ k)
exprs-items end_of-Expr = refl
exprs-items (more_of-Expr e rest) = ap (and_more (expr_of e)) (exprs-items rest)

pub exprs_vec : (v : _) → exprs_of (hidden-the_row-Expr-0 v) ≡ exprs v.items
exprs_vec v = exprs-items (hidden-the_row-Expr-0 v) ∙ ap exprs (items_hidden-the_row-Expr-0 v)

pub exprs_shown : (s : _) (k : _) → exprs_of k ≡ exprs (shown-the_row-Expr-0 s k).items
exprs_shown s k = exprs-items k ∙ sym (ap exprs (items_shown-the_row-Expr-0 s k))

pub stmts-items : {n : _} (k : Row_of-Stmt n) → stmts_of k ≡ stmts (items-the_row-Stmt _ k)
stmts-items end_of-Stmt = refl
stmts-items (more_of-Stmt s rest) = ap (and_then (stmt_of s)) (stmts-items rest)

pub stmts_vec : (v : _) → stmts_of (hidden-the_row-Stmt-0 v) ≡ stmts v.items
stmts_vec v = stmts-items (hidden-the_row-Stmt-0 v) ∙ ap stmts (items_hidden-the_row-Stmt-0 v)

pub stmts_shown : (s : _) (k : _) → stmts_of k ≡ stmts (shown-the_row-Stmt-0 s k).items
stmts_shown s k = stmts-items k ∙ sym (ap stmts (items_shown-the_row-Stmt-0 s k))

pub arms-items : {n : _} (k : Row_of-Arm n) → arms_of k ≡ arms_seen (items-the_row-Arm _ k)
arms-items end_of-Arm = refl
arms-items (more_of-Arm t s body rest) =
    ap (λ b. and_arm (expr_of t) b (arms_of rest)) (stmts_shown s body) ∙ ap (and_arm (expr_of t) (stmts (shown-the_row-Stmt-0 s body).items)) (arms-items rest)

pub arms_vec : (v : _) → arms_of (hidden-the_row-Arm-1 v) ≡ arms_seen v.items
arms_vec v = arms-items (hidden-the_row-Arm-1 v) ∙ ap arms_seen (items_hidden-the_row-Arm-1 v)

-- a loop with its body
pub for_as : (f : Option (Box Stmt Global)) (t : Option Expr) (g : Option (Box Stmt Global)) (v : Vec Stmt Global) (p : Place) → stmt_of (For f t g v p)
    ≡ ForOf (boxed_step f) (value_of t) (boxed_step g) (stmts v.items) p
for_as None t None v p = rw (sym (stmts_vec v)) refl
for_as None t (Some b) v p = rw (sym (stmts_vec v)) refl
for_as (Some b) t None v p = rw (sym (stmts_vec v)) refl
for_as (Some b) t (Some c) v p = rw (sym (stmts_vec v)) refl
