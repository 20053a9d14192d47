-- Steps of the loops over lists.
use Rattle.std.proofs.Common.{◌≡◌, ℕ, ◌+◌, ◌<◌, List, [], ◌∷◌, ◌++◌, length, drop, get_or, Result, Ok, sym, ap, ◌∙◌}
use Rattle.kaba_base.proofs.ListLemmas.{drop_at}
use Rattle.java_tree.specs.declared.Expr.{Expr}
use Rattle.java_tree.specs.Syntax as tree
use Rattle.java_core.specs.declared.RExpr.{RExpr}
use Rattle.java_core.specs.Trees.{Exs, expr_of, exprs}
use Rattle.name_rules.specs.declared.Refusal.{Refusal}
use Rattle.name_laws.specs.Tables.{Table}
use Rattle.name_rules.specs.declared.parts.Bound.{Bound}
use Rattle.name_rules.specs.declared.parts.Here.{Here}
use Rattle.name_laws.specs.Answers.{with}
use Rattle.name_laws.specs.Expressions.{walk, walk_all, ex_last}
use Rattle.name_bodies.proofs.Rows.{exprs_push}

-- one argument more
pub all_next : (t : Table) (h : Here) (scope : List Bound) (k j : ℕ) (done pushed : List RExpr) (list : List Expr) (n : ℕ) (s : Expr) (e : RExpr)
    (o : Result (Exs × ℕ) Refusal) → n < length list → s ≡ get_or list n s →
    walk t h scope k (tree.expr_of s) ≡ Ok (expr_of e, j) → pushed ≡ done ++ e ∷ [] →
    walk_all t h scope (exprs done) k (tree.exprs (drop n list)) ≡ o
    → walk_all t h scope (exprs pushed) j (tree.exprs (drop (n + 1) list)) ≡ o
all_next t h scope k j done pushed list n s e o below at given push before =
    let rest = drop (n + 1) list in
    ap (λ x. walk_all t h scope x j (tree.exprs rest)) (ap exprs push ∙ exprs_push done e)
    ∙ ap (λ x. with x (λ x. walk_all t h scope (ex_last (exprs done) x.0) x.1 (tree.exprs rest))) (sym given)
    ∙ ap (λ x. walk_all t h scope (exprs done) k (tree.exprs x)) (sym (drop_at list n s below at))
    ∙ before
