-- A form whose parts are written is written.
use Rattle.std.proofs.Common.{◌≡◌, ℕ, List, Result, IfOk, ap, sym, ◌∙◌}
use Rattle.std.specs.Prelude.{Option}
use Rattle.std.specs.declared.alloc.AllocError.{AllocError}
use Rattle.std.proofs.lemmas.Result.{IfOk-weaker}
use Rattle.java_tree.specs.declared.Expr.{Expr}
use Rattle.java_tree.specs.Syntax as tree
use Rattle.java_tree.specs.Syntax.{Expression, Expressions, CallOn}
use Rattle.java_core.specs.declared.RExpr.{RExpr}
use Rattle.java_core.specs.Trees.{Tag, Ex, Exs, expr_of, call}
use Rattle.java_core.specs.Types as types
use Rattle.write_model.specs.Names.{nowhere}
use Rattle.write_forms.specs.Sources.{old_program, called}
use Rattle.write_bodies.specs.declared.within.Within.{Within}
use Rattle.write_bodies.specs.Written.{method_of, expression, expressions}

-- the class of what an expression gives
abbrev pub class_of : Within → Ex → Option ℕ
class_of w e = types.class_of (types.static (old_program w.source.now) (types.env_of w.number (method_of w)) e)

module _ (w : Within) (scope : List ℕ) where
  pub call_is : {on : Expression} {args : Expressions} {class : Option ℕ} (t : Tag) (e : Ex) (x : List ℕ) (es : Exs) → on ≡ expression w scope e
      → class ≡ class_of w e → args ≡ expressions w scope es
      → CallOn on (called w.source.now class x) args nowhere ≡ expression w scope (call t e x es)
  call_is {on = on} {args = args} {class = class} t e x es a b c =
      ap (λ y. CallOn y (called w.source.now class x) args nowhere) a
      ∙ ap (λ y. CallOn (expression w scope e) (called w.source.now y x) args nowhere) b
      ∙ ap (λ y. CallOn (expression w scope e) (called w.source.now (class_of w e) x) y nowhere) c

  -- a form with one part, which stands in a box
  pub around : {x : Expression} {held boxed whole form : RExpr} (r : Result Expr AllocError) (f : Expression → Expression)
      → x ≡ expression w scope (expr_of held) → held ≡ boxed → whole ≡ form
      → f (expression w scope (expr_of boxed)) ≡ expression w scope (expr_of form) → IfOk r (λ e. tree.expr_of e ≡ f x)
      → IfOk r (λ e. tree.expr_of e ≡ expression w scope (expr_of whole))
  around r f is held whole same made =
      let seen = λ (y : RExpr). expression w scope (expr_of y) in
      IfOk-weaker r _ _ (λ e h. h ∙ ap f (is ∙ ap seen held) ∙ same ∙ sym (ap seen whole)) made
