-- What a vector holds after a push.
use Rattle.std.proofs.Common.{◌≡◌, List, [], ◌∷◌, ◌++◌, refl, ap, ◌∙◌}
use Rattle.java_tree.specs.Syntax.{Expression, Statements, and_more, and_then, and_arm, expr_of, exprs, stmt_of, stmts, arms_seen, head_of, heads, member_of, members, decl_of, decls}
use Rattle.java_tree.specs.declared.Expr.{Expr}
use Rattle.java_tree.specs.declared.Stmt.{Stmt}
use Rattle.java_tree.specs.declared.Arm.{Arm}
use Rattle.java_tree.specs.declared.Head.{Head}
use Rattle.java_tree.specs.declared.Member.{Member}
use Rattle.java_tree.specs.declared.Decl.{Decl}
use Rattle.java_parse.specs.Front.{expr_snoc, stmt_snoc, arm_snoc}

exprs-snoc : (xs : List Expr) (e : Expr) → exprs (xs ++ e ∷ []) ≡ expr_snoc (exprs xs) (expr_of e)
exprs-snoc [] e = refl
exprs-snoc (x ∷ xs) e = ap (and_more (expr_of x)) (exprs-snoc xs e)

pub pushed_expr : (xs ys : List Expr) (e : Expr) → ys ≡ xs ++ e ∷ [] → exprs ys ≡ expr_snoc (exprs xs) (expr_of e)
pushed_expr xs ys e h = ap exprs h ∙ exprs-snoc xs e

stmts-snoc : (xs : List Stmt) (s : Stmt) → stmts (xs ++ s ∷ []) ≡ stmt_snoc (stmts xs) (stmt_of s)
stmts-snoc [] s = refl
stmts-snoc (x ∷ xs) s = ap (and_then (stmt_of x)) (stmts-snoc xs s)

pub pushed_stmt : (xs ys : List Stmt) (s : Stmt) → ys ≡ xs ++ s ∷ [] → stmts ys ≡ stmt_snoc (stmts xs) (stmt_of s)
pushed_stmt xs ys s h = ap stmts h ∙ stmts-snoc xs s

arms-snoc : (xs : List Arm) (a : Arm) → arms_seen (xs ++ a ∷ []) ≡ arm_snoc (arms_seen xs) (expr_of a.test) (stmts a.body.items)
arms-snoc [] a = refl
arms-snoc (x ∷ xs) a = ap (and_arm (expr_of x.test) (stmts x.body.items)) (arms-snoc xs a)

pub pushed_arm : (xs ys : List Arm) (a : Arm) (e : Expression) (ss : Statements) → ys ≡ xs ++ a ∷ [] → expr_of a.test ≡ e → stmts a.body.items ≡ ss
    → arms_seen ys ≡ arm_snoc (arms_seen xs) e ss
pushed_arm xs ys a e ss h f g = ap arms_seen h ∙ arms-snoc xs a ∙ ap (λ (e : Expression). arm_snoc (arms_seen xs) e (stmts a.body.items)) f
    ∙ ap (arm_snoc (arms_seen xs) e) g

heads-snoc : (xs : List Head) (a : Head) → heads (xs ++ a ∷ []) ≡ heads xs ++ head_of a ∷ []
heads-snoc [] a = refl
heads-snoc (x ∷ xs) a = ap (λ r. head_of x ∷ r) (heads-snoc xs a)

pub pushed_head : (xs ys : List Head) (a : Head) → ys ≡ xs ++ a ∷ [] → heads ys ≡ heads xs ++ head_of a ∷ []
pushed_head xs ys a h = ap heads h ∙ heads-snoc xs a

members-snoc : (xs : List Member) (a : Member) → members (xs ++ a ∷ []) ≡ members xs ++ member_of a ∷ []
members-snoc [] a = refl
members-snoc (x ∷ xs) a = ap (λ r. member_of x ∷ r) (members-snoc xs a)

pub pushed_member : (xs ys : List Member) (a : Member) → ys ≡ xs ++ a ∷ [] → members ys ≡ members xs ++ member_of a ∷ []
pushed_member xs ys a h = ap members h ∙ members-snoc xs a

decls-snoc : (xs : List Decl) (a : Decl) → decls (xs ++ a ∷ []) ≡ decls xs ++ decl_of a ∷ []
decls-snoc [] a = refl
decls-snoc (x ∷ xs) a = ap (λ r. decl_of x ∷ r) (decls-snoc xs a)

pub pushed_decl : (xs ys : List Decl) (a : Decl) → ys ≡ xs ++ a ∷ [] → decls ys ≡ decls xs ++ decl_of a ∷ []
pushed_decl xs ys a h = ap decls h ∙ decls-snoc xs a
