-- Whether something is passed to a constructor.
use Rattle.std.proofs.Common.{◌≡◌, List, [], ◌∷◌, length, refl, sym, ap, arith}
use Rattle.std.specs.Prelude.{not, ◌==◌}
use Rattle.std.proofs.lemmas.Bool.{ne_eqb}
use Rattle.java_core.specs.declared.RExpr.{RExpr}
use Rattle.java_core.specs.Trees.{exprs}
use Rattle.name_rules.specs.Resolves.{has_arguments}

-- there are arguments where their list is not empty
pub arguments_passed : (xs : List RExpr) → has_arguments (exprs xs) ≡ not (length xs == 0)
arguments_passed [] = refl
arguments_passed (x ∷ xs) = sym (ap not (ne_eqb (length (x ∷ xs)) 0 (λ e. omega (arith, e))))
