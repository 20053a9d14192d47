-- Calls upon `System.out`, and what they print.
use Rattle.std.proofs.Common.{◌≡◌, ℕ, List, Bool, true, false, Option, Some, None, if◌then◌else◌, refl, sym, ap, ◌∙◌, Vec, Global, Box}
use Rattle.kaba_base.specs.declared.Place.{Place}
use Rattle.java_tree.specs.declared.Expr.{Expr, Call}
use Rattle.java_tree.specs.declared.Expr.TheBlock.{hidden-the_row-Expr-0}
use Rattle.java_tree.specs.Syntax.{Expression, Expressions, CallOn, expr_of, exprs_of, exprs}
use Rattle.java_tree.specs.Statements.{is_out, output_call, printed_args, printed_by}
use Rattle.java_tree.proofs.Rows.{exprs_vec}

pub output_upon : {e : Expr} {b : Option (Box Expr Global)} {x : Box Expr Global} {n : List ℕ} (v : Vec Expr Global) {p : Place} (xs : List Expr)
    → e ≡ Call b n v p → b ≡ Some x → is_out (expr_of x.value) ≡ true → xs ≡ v.items → Some (n, exprs xs) ≡ output_call (expr_of e)
output_upon {n = n} v {p = p} xs h k o l =
    ap (λ (ys : List Expr). Some (n, exprs ys)) l ∙ ap (λ (es : Expressions). Some (n, es)) (sym (exprs_vec v))
    ∙ ap (λ (t : Bool). if t then Some (n, exprs_of (hidden-the_row-Expr-0 v)) else None) (sym o)
    ∙ sym (ap (λ (e : Expr). output_call (expr_of e)) (h ∙ ap (λ b. Call b n v p) k))

printed_where : (t : Bool) (x : List ℕ × Expressions) {y : List ℕ × Expressions} → ◌≡◌ {A = Option (List ℕ × Expressions)} (if t then Some x else None) (Some y)
    → (if t then printed_args x.0 x.1 else None) ≡ printed_args y.0 y.1
printed_where true x {y = y} h = let e : x ≡ y = cc in ap (λ (z : List ℕ × Expressions). printed_args z.0 z.1) e
printed_where false x h = cc

printed_nowhere : (t : Bool) (x : List ℕ × Expressions) → ◌≡◌ {A = Option (List ℕ × Expressions)} (if t then Some x else None) None
    → (if t then printed_args x.0 x.1 else None) ≡ None
printed_nowhere true x h = cc
printed_nowhere false x h = refl

-- what such a call prints
pub output_is : (e : Expression) {y : List ℕ × Expressions} → output_call e ≡ Some y → printed_by e ≡ printed_args y.0 y.1
output_is (CallOn b n es p) h = printed_where (is_out b) (n, es) h
output_is _ h = cc

pub output_none : (e : Expression) → output_call e ≡ None → printed_by e ≡ None
output_none (CallOn b n es p) h = printed_nowhere (is_out b) (n, es) h
output_none _ h = refl
