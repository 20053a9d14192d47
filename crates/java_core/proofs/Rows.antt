-- What a row of trees is, read as the items of its vector; and each form of a tree that holds a row, as its plain tree.
use Rattle.std.proofs.Common.{◌≡◌, ℕ, List, refl, sym, ap, ◌∙◌}
use Rattle.std.specs.Prelude.{Option, Some, None, false}
use Rattle.std.specs.declared.vec.Vec.{Vec}
use Rattle.std.specs.declared.boxed.Box.{Box}
use Rattle.std.specs.declared.alloc.Global.{Global}
use Rattle.kaba_base.specs.declared.Place.{Place}
use Rattle.java_core.specs.declared.RExpr.{RExpr, Call}
use Rattle.java_core.specs.declared.RStmt.{RStmt, If, For}
use Rattle.java_core.specs.declared.RArm.{RArm}
use Rattle.java_core.specs.declared.RExpr.TheBlock.{Row_of-RExpr, end_of-RExpr, more_of-RExpr, items-the_row-RExpr, hidden-the_row-RExpr-0, items_hidden-the_row-RExpr-0}
use Rattle.java_core.specs.declared.RStmt.TheBlock.{Row_of-RStmt, end_of-RStmt, more_of-RStmt, items-the_row-RStmt, hidden-the_row-RStmt-0, items_hidden-the_row-RStmt-0, shown-the_row-RStmt-0, items_shown-the_row-RStmt-0, Row_of-RArm, end_of-RArm, more_of-RArm, items-the_row-RArm, hidden-the_row-RArm-1, items_hidden-the_row-RArm-1}
use Rattle.java_core.specs.Trees.{at_place, ex_then, this, call, no_st, st_then, IfArms, no_other, otherwise, arm, choose, loop, expr_of, exprs_of, exprs, value_of, stmt_of, stmts_of, stmts, arms_of, arms_seen, else_seen, step_seen, base_seen}

pub exprs-items : {n : _} (k : Row_of-RExpr n) → exprs_of k ≡ exprs (items-the_row-RExpr _ k)
exprs-items end_of-RExpr = refl
exprs-items (more_of-RExpr e rest) = ap (ex_then (expr_of e)) (exprs-items rest)

pub exprs_vec : (v : Vec RExpr Global) → exprs_of (hidden-the_row-RExpr-0 v) ≡ exprs v.items
exprs_vec v = exprs-items (hidden-the_row-RExpr-0 v) ∙ ap exprs (items_hidden-the_row-RExpr-0 v)

pub stmts-items : {n : _} (k : Row_of-RStmt n) → stmts_of k ≡ stmts (items-the_row-RStmt _ k)
stmts-items end_of-RStmt = refl
stmts-items (more_of-RStmt s rest) = ap (st_then (stmt_of s)) (stmts-items rest)

pub stmts_vec : (v : Vec RStmt Global) → stmts_of (hidden-the_row-RStmt-0 v) ≡ stmts v.items
stmts_vec v = stmts-items (hidden-the_row-RStmt-0 v) ∙ ap stmts (items_hidden-the_row-RStmt-0 v)

stmts_shown : (s : _) (k : _) → stmts_of k ≡ stmts (shown-the_row-RStmt-0 s k).items
stmts_shown s k = stmts-items k ∙ sym (ap stmts (items_shown-the_row-RStmt-0 s k))

pub arms-items : {n : _} (k : Row_of-RArm n) (other : IfArms) → arms_of k other ≡ arms_seen (items-the_row-RArm _ k) other
arms-items end_of-RArm other = refl
arms-items (more_of-RArm t s body rest) other =
    ap (λ b. arm (expr_of t) b (arms_of rest other)) (stmts_shown s body)
    ∙ ap (arm (expr_of t) (stmts (shown-the_row-RStmt-0 s body).items)) (arms-items rest other)

pub arms_vec : (v : Vec RArm Global) (other : IfArms) → arms_of (hidden-the_row-RArm-1 v) other ≡ arms_seen v.items other
arms_vec v other = arms-items (hidden-the_row-RArm-1 v) other ∙ ap (λ xs. arms_seen xs other) (items_hidden-the_row-RArm-1 v)

pub call_as : (b : Option (Box RExpr Global)) (x : List ℕ) (v : Vec RExpr Global) (p : Place) → expr_of (Call b x v p)
    ≡ call (at_place p) (base_seen b p) x (exprs v.items)
call_as None x v p = ap (call (at_place p) (this (at_place p)) x) (exprs_vec v)
call_as (Some b) x v p = ap (call (at_place p) (expr_of b.value) x) (exprs_vec v)

pub if_as : (v : Vec RArm Global) (o : Option (Vec RStmt Global)) (p : Place) → stmt_of (If v o p)
    ≡ choose (at_place p) (arms_seen v.items (else_seen o))
if_as v None p = ap (choose (at_place p)) (arms_vec v no_other)
if_as v (Some w) p = ap (λ s. choose (at_place p) (arms_of (hidden-the_row-RArm-1 v) (otherwise s))) (stmts_vec w)
    ∙ ap (choose (at_place p)) (arms_vec v (otherwise (stmts w.items)))

pub for_as : (f : Option (Box RStmt Global)) (t : Option RExpr) (g : Option (Box RStmt Global)) (v : Vec RStmt Global) (p : Place)
    → stmt_of (For f t g v p) ≡ loop (at_place p) false (step_seen f) (value_of t) (step_seen g) (stmts v.items)
for_as None t None v p = ap (loop (at_place p) false no_st (value_of t) no_st) (stmts_vec v)
for_as None t (Some g) v p = ap (loop (at_place p) false no_st (value_of t) (step_seen (Some g))) (stmts_vec v)
for_as (Some f) t None v p = ap (loop (at_place p) false (step_seen (Some f)) (value_of t) no_st) (stmts_vec v)
for_as (Some f) t (Some g) v p = ap (loop (at_place p) false (step_seen (Some f)) (value_of t) (step_seen (Some g))) (stmts_vec v)
