-- One item more of a list that is written.
use Rattle.std.proofs.Common.{◌≡◌, ℕ, ◌+◌, ◌<◌, ◌≤◌, List, [], ◌∷◌, ◌++◌, length, drop, get_or, sym, ap, ◌∙◌}
use Rattle.std.proofs.lemmas.List.{drop_all}
use Rattle.kaba_base.proofs.ListLemmas.{drop_at}
use Rattle.java_tree.specs.declared.Expr.{Expr}
use Rattle.java_tree.specs.declared.Stmt.{Stmt}
use Rattle.java_tree.specs.declared.Arm.{Arm}
use Rattle.java_tree.specs.Syntax as tree
use Rattle.java_tree.specs.Syntax.{Expressions, and_more, Statements, and_then, and_arm}
use Rattle.java_tree.proofs.Appended.{append_exprs, append_stmts, append_arms, exprs_push, stmts_push, arms_push}
use Rattle.java_core.specs.declared.RExpr.{RExpr}
use Rattle.java_core.specs.declared.RStmt.{RStmt}
use Rattle.java_core.specs.declared.RArm.{RArm}
use Rattle.java_core.specs.Trees.{IfArms, expr_of, exprs, stmt_of, stmts, arms_seen}
use Rattle.write_model.specs.Bodies.{scope_after}
use Rattle.write_bodies.specs.declared.within.Within.{Within}
use Rattle.write_bodies.specs.Written as written

-- with no item left, what is written so far is the whole
pub all_written : {X T : Type 0} {o : T} (append : T → T → T) (rest : List X → T) (done : T) (list : List X) (n : ℕ) → append done (rest []) ≡ done
    → append done (rest (drop n list)) ≡ o → length list ≤ n → done ≡ o
all_written append rest done list n end before h = sym end ∙ ap (λ xs. append done (rest xs)) (sym (drop_all n list h)) ∙ before

module _ (w : Within) where
  pub all_next : {o : Expressions} (scope : List ℕ) (done pushed : List Expr) (list : List RExpr) (n : ℕ) (s : RExpr) (e : Expr) → n < length list
      → s ≡ get_or list n s
      → tree.expr_of e ≡ written.expression w scope (expr_of s) → pushed ≡ done ++ e ∷ []
      → append_exprs (tree.exprs done) (written.expressions w scope (exprs (drop n list))) ≡ o
      → append_exprs (tree.exprs pushed) (written.expressions w scope (exprs (drop (n + 1) list))) ≡ o
  all_next scope done pushed list n s e below at given push before =
      let rest = written.expressions w scope (exprs (drop (n + 1) list)) in
      ap (λ x. append_exprs (tree.exprs x) rest) push
      ∙ exprs_push done e rest
      ∙ ap (λ x. append_exprs (tree.exprs done) (and_more x rest)) given
      ∙ ap (λ x. append_exprs (tree.exprs done) (written.expressions w scope (exprs x))) (sym (drop_at list n s below at))
      ∙ before

  pub sts_next : {o : Statements} (scope inner : List ℕ) (done pushed : List Stmt) (list : List RStmt) (n : ℕ) (s : RStmt) (e : Stmt)
      → n < length list → s ≡ get_or list n s
      → tree.stmt_of e ≡ written.statement w scope (stmt_of s) → inner ≡ scope_after scope (stmt_of s) → pushed ≡ done ++ e ∷ []
      → append_stmts (tree.stmts done) (written.statements w scope (stmts (drop n list))) ≡ o
      → append_stmts (tree.stmts pushed) (written.statements w inner (stmts (drop (n + 1) list))) ≡ o
  sts_next scope inner done pushed list n s e below at given after push before =
      let rest = written.statements w inner (stmts (drop (n + 1) list)) in
      ap (λ x. append_stmts (tree.stmts x) rest) push
      ∙ stmts_push done e rest
      ∙ ap (λ x. append_stmts (tree.stmts done) (and_then x rest)) given
      ∙ ap (λ x. append_stmts (tree.stmts done) (and_then (written.statement w scope (stmt_of s)) (written.statements w x (stmts
      (drop (n + 1) list))))) after
      ∙ ap (λ x. append_stmts (tree.stmts done) (written.statements w scope (stmts x))) (sym (drop_at list n s below at))
      ∙ before

  pub arms_next : {o : tree.Arms} (scope : List ℕ) (other : IfArms) (done pushed : List Arm) (list : List RArm) (n : ℕ) (s : RArm) (a : Arm)
      → n < length list → s ≡ get_or list n s
      → tree.expr_of a.test ≡ written.expression w scope (expr_of s.test) → tree.stmts a.body.items
      ≡ written.statements w scope (stmts s.body.items) → pushed ≡ done ++ a ∷ []
      → append_arms (tree.arms_seen done) (written.arms w scope (arms_seen (drop n list) other)) ≡ o
      → append_arms (tree.arms_seen pushed) (written.arms w scope (arms_seen (drop (n + 1) list) other)) ≡ o
  arms_next scope other done pushed list n s a below at test body push before =
      let rest = written.arms w scope (arms_seen (drop (n + 1) list) other) in
      ap (λ x. append_arms (tree.arms_seen x) rest) push
      ∙ arms_push done a rest
      ∙ ap (λ x. append_arms (tree.arms_seen done) (and_arm x (tree.stmts a.body.items) rest)) test
      ∙ ap (λ x. append_arms (tree.arms_seen done) (and_arm (written.expression w scope (expr_of s.test)) x rest)) body
      ∙ ap (λ x. append_arms (tree.arms_seen done) (written.arms w scope (arms_seen x other))) (sym (drop_at list n s below at))
      ∙ before
