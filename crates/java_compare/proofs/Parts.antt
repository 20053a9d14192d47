-- What the parts of two trees that are compared say of the whole.
use Rattle.std.proofs.Common.{◌≡◌, List, refl, sym, ap, ◌∙◌}
use Rattle.std.specs.Prelude.{◌&&◌, Bool, true, false, Option, Some, None}
use Rattle.std.specs.declared.vec.Vec.{Vec}
use Rattle.std.specs.declared.alloc.Global.{Global}
use Rattle.kaba_base.specs.declared.Place.{Place}
use Rattle.java_tree.specs.declared.Expr.{Expr}
use Rattle.java_tree.specs.declared.Stmt.{Stmt, If}
use Rattle.java_tree.specs.declared.Arm.{Arm}
use Rattle.java_tree.specs.Syntax.{expr_of, Arms, Statements, IfOf, stmt_of, stmts, arms_seen, no_else, otherwise}
use Rattle.java_compare.specs.Same.{same_expr}
use Rattle.java_tree.proofs.Rows.{stmts_vec, arms_vec}

pub then_and : (x : Bool) {a b r : Bool} → x ≡ a → x ≡ true → r ≡ b → r ≡ (a && b)
then_and x {b = b} h k e = e ∙ ap (λ c. c && b) (sym k ∙ h)

pub else_and : (x : Bool) {a r : Bool} (b : Bool) → x ≡ a → x ≡ false → r ≡ x → r ≡ (a && b)
else_and x b h k e = e ∙ k ∙ ap (λ c. c && b) (sym k ∙ h)

pub and_true : (b : Bool) → b ≡ (b && true)
and_true true = refl
and_true false = refl

pub expr_at : {r : Bool} {x u y v : Expr} → x ≡ u → y ≡ v → r ≡ same_expr (expr_of x) (expr_of y) → r ≡ same_expr (expr_of u) (expr_of v)
expr_at {x = x} {v = v} h k e = e ∙ ap (λ y. same_expr (expr_of x) (expr_of y)) k ∙ ap (λ x. same_expr (expr_of x) (expr_of v)) h

pub if_seen : {e : Stmt} (v : Vec Arm Global) {o : Option (Vec Stmt Global)} {p : Place} {xs : List Arm} → e ≡ If v o p → o ≡ None → xs ≡ v.items
    → stmt_of e ≡ IfOf (arms_seen xs) no_else p
if_seen v {p = p} h k x = ap stmt_of (h ∙ ap (λ o. If v o p) k) ∙ ap (λ a. IfOf a no_else p) (arms_vec v ∙ sym (ap arms_seen x))

both_if : {a b : Arms} {s t : Statements} {p : Place} → a ≡ b → s ≡ t → IfOf a (otherwise s) p ≡ IfOf b (otherwise t) p
both_if h k = cc

pub if_else_seen : {e : Stmt} (v : Vec Arm Global) {o : Option (Vec Stmt Global)} (w : Vec Stmt Global) {p : Place} {xs : List Arm} {ys : List Stmt}
    → e ≡ If v o p → o ≡ Some w → xs ≡ v.items → ys ≡ w.items → stmt_of e ≡ IfOf (arms_seen xs) (otherwise (stmts ys)) p
if_else_seen v w {p = p} h k x y = ap stmt_of (h ∙ ap (λ o. If v o p) k) ∙ both_if (arms_vec v ∙ sym (ap arms_seen x)) (stmts_vec w ∙ sym (ap stmts y))
