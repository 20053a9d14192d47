-- What a list of resolved statements with one more is; and what the tree of a form with a list is.
use Rattle.std.proofs.Common.{◌≡◌, List, [], ◌∷◌, ◌++◌, Some, None, refl, ap, ◌∙◌}
use Rattle.java_core.specs.declared.RExpr.{RExpr}
use Rattle.java_core.specs.declared.RExpr.TheBlock as rex
use Rattle.java_core.specs.declared.RStmt.{RStmt}
use Rattle.java_core.specs.declared.RArm.{RArm}
use Rattle.java_core.specs.Trees.{st_then, IfArms, no_other, arm, expr_of, target_of, stmt_of, stmts, arms_seen}
use Rattle.java_tree.specs.declared.Expr.{Expr}
use Rattle.java_tree.specs.declared.Stmt.{Stmt, Block, If, While, For}
use Rattle.java_tree.specs.declared.Stmt.TheBlock.{hidden-the_row-Stmt-0}
use Rattle.java_tree.specs.Syntax as tree
use Rattle.java_tree.proofs.Rows as tree_rows
use Rattle.name_laws.specs.Statements.{st_last, arm_last, ending}
use Rattle.name_rules.specs.Resolves.{target}

pub stmts_push : (xs : List RStmt) (s : RStmt) → stmts (xs ++ s ∷ []) ≡ st_last (stmts xs) (stmt_of s)
stmts_push [] s = refl
stmts_push (x ∷ xs) s = ap (st_then (stmt_of x)) (stmts_push xs s)

pub arms_push : (xs : List RArm) (a : RArm) → arms_seen (xs ++ a ∷ []) no_other ≡ arm_last (arms_seen xs no_other)
    (expr_of a.test) (stmts a.body.items)
arms_push [] a = refl
arms_push (x ∷ xs) a = ap (arm (expr_of x.test) (stmts x.body.items)) (arms_push xs a)

pub arms_ending : (xs : List RArm) (other : IfArms) → ending (arms_seen xs no_other) other ≡ arms_seen xs other
arms_ending [] other = refl
arms_ending (x ∷ xs) other = ap (arm (expr_of x.test) (stmts x.body.items)) (arms_ending xs other)

pub target_shown : (e : RExpr) → target (expr_of e) ≡ target_of e
target_shown (rex.Call' rex.None' n s args p) = refl
target_shown (rex.Call' (rex.Some' b e) n s args p) = refl
target_shown _ = refl

-- the trees of statements with a list
pub block_shown : (s : Stmt) (items : _) (p : _) → s ≡ Block items p → tree.stmt_of s ≡ tree.BlockOf (tree.stmts items.items) p
block_shown s items p h = ap tree.stmt_of h ∙ ap (λ b. tree.BlockOf b p) (tree_rows.stmts_vec items)

pub while_shown : (s : Stmt) (t : Expr) (body : _) (p : _) → s ≡ While t body p → tree.stmt_of s ≡ tree.WhileOf (tree.expr_of t) (tree.stmts body.items) p
while_shown s t body p h = ap tree.stmt_of h ∙ ap (λ b. tree.WhileOf (tree.expr_of t) b p) (tree_rows.stmts_vec body)

if_at : (arms : _) (other : _) (p : _) → tree.stmt_of (If arms other p) ≡ tree.IfOf (tree.arms_seen arms.items) (tree.else_seen other) p
if_at arms None p = ap (λ a. tree.IfOf a tree.no_else p) (tree_rows.arms_vec arms)
if_at arms (Some ss) p = ap (λ a. tree.IfOf a (tree.otherwise (tree.stmts_of (hidden-the_row-Stmt-0 ss))) p) (tree_rows.arms_vec arms)
    ∙ ap (λ b. tree.IfOf (tree.arms_seen arms.items) (tree.otherwise b) p) (tree_rows.stmts_vec ss)

pub if_shown : (s : Stmt) (arms : _) (other : _) (p : _) → s ≡ If arms other p → tree.stmt_of s ≡ tree.IfOf (tree.arms_seen arms.items) (tree.else_seen other) p
if_shown s arms other p h = ap tree.stmt_of h ∙ if_at arms other p

for_at : (f : _) (t : _) (g : _) (body : _) (p : _) → tree.stmt_of (For f t g body p) ≡ tree.ForOf (tree.boxed_step f) (tree.value_of t)
    (tree.boxed_step g) (tree.stmts body.items) p
for_at None t None body p = ap (λ b. tree.ForOf tree.absent (tree.value_of t) tree.absent b p) (tree_rows.stmts_vec body)
for_at (Some x) t None body p = ap (λ b. tree.ForOf (tree.present (tree.stmt_of x.value)) (tree.value_of t) tree.absent b p) (tree_rows.stmts_vec body)
for_at None t (Some y) body p = ap (λ b. tree.ForOf tree.absent (tree.value_of t) (tree.present (tree.stmt_of y.value)) b p) (tree_rows.stmts_vec body)
for_at (Some x) t (Some y) body p = ap (λ b. tree.ForOf (tree.present (tree.stmt_of x.value)) (tree.value_of t) (tree.present (tree.stmt_of y.value))
    b p) (tree_rows.stmts_vec body)

pub for_shown : (s : Stmt) (f : _) (t : _) (g : _) (body : _) (p : _) → s ≡ For f t g body p → tree.stmt_of s ≡ tree.ForOf (tree.boxed_step f)
    (tree.value_of t) (tree.boxed_step g) (tree.stmts body.items) p
for_shown s f t g body p h = ap tree.stmt_of h ∙ for_at f t g body p
