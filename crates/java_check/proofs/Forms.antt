-- Statements with lists, as their plain trees.
use Rattle.std.proofs.Common.{◌≡◌, true, false, List, Option, Some, Result, Ok, sym, ap, ◌∙◌}
use Rattle.std.specs.declared.vec.Vec.{Vec}
use Rattle.std.specs.declared.boxed.Box.{Box}
use Rattle.std.specs.declared.alloc.Global.{Global}
use Rattle.kaba_base.specs.declared.Place.{Place}
use Rattle.java_core.specs.declared.RExpr.{RExpr}
use Rattle.java_core.specs.declared.RStmt.{RStmt, Block, If, While, For}
use Rattle.java_core.specs.declared.RArm.{RArm}
use Rattle.java_core.specs.Trees.{no_st, block, choose, loop, at_place, expr_of, value_of, stmt_of, stmts, arms_seen, else_seen, step_seen}
use Rattle.java_core.specs.Programs.{Plain}
use Rattle.java_core.specs.Types.{Env}
use Rattle.java_core.proofs.StatementSize.{sts_size}
use Rattle.java_core.proofs.Rows.{stmts_vec, if_as, for_as}
use Rattle.java_check.specs.declared.CheckFault.{CheckFault}
use Rattle.java_check.specs.StatementOutcome.{test_answer, condition_answer, st_answer, sts_answer}
use Rattle.java_check.proofs.Arguments.{and_then-ok}

-- statements that are held have the size of what they are
pub held_size : {held list : List RStmt} → held ≡ list → sts_size (stmts held) ≡ sts_size (stmts list)
held_size e = ap (λ (xs : List RStmt). sts_size (stmts xs)) e

pub block_seen : {s : RStmt} (v : Vec RStmt Global) (p : Place) → s ≡ Block v p → stmt_of s ≡ block (at_place p) (stmts v.items)
block_seen v p h = ap stmt_of h ∙ ap (block (at_place p)) (stmts_vec v)

pub if_seen : {s : RStmt} (v : Vec RArm Global) (o : Option (Vec RStmt Global)) (p : Place) → s ≡ If v o p
    → stmt_of s ≡ choose (at_place p) (arms_seen v.items (else_seen o))
if_seen v o p h = ap stmt_of h ∙ if_as v o p

pub while_seen : {s : RStmt} (t : RExpr) (v : Vec RStmt Global) (p : Place) → s ≡ While t v p → stmt_of s ≡ loop (at_place p) true no_st
    (Some (expr_of t)) no_st (stmts v.items)
while_seen t v p h = ap stmt_of h ∙ ap (loop (at_place p) true no_st (Some (expr_of t)) no_st) (stmts_vec v)

pub for_seen : {s : RStmt} (f : Option (Box RStmt Global)) (t : Option RExpr) (g : Option (Box RStmt Global)) (v : Vec RStmt Global) (p : Place)
    → s ≡ For f t g v p → stmt_of s ≡ loop (at_place p) false (step_seen f) (value_of t) (step_seen g) (stmts v.items)
for_seen f t g v p h = ap stmt_of h ∙ for_as f t g v p

-- the body of a `while` decides where its test is typed; that of a `for` where its head is
pub while_body : (P : Plain) (g : Env) {s : RStmt} (t : RExpr) (v : Vec RStmt Global) (p : Place) {r : Result (Unit {0}) CheckFault} {x : Unit {0}}
    → s ≡ While t v p → r ≡ condition_answer P g (expr_of t) → r ≡ Ok x → sts_answer P g (stmts v.items) ≡ st_answer P g (stmt_of s)
while_body P g t v p h k o = sym (ap (st_answer P g) (while_seen t v p h) ∙ and_then-ok _ (sym k ∙ o))

pub for_body : (P : Plain) (g : Env) {s : RStmt} (f : Option (Box RStmt Global)) (t : Option RExpr) (j : Option (Box RStmt Global))
    (v : Vec RStmt Global) (p : Place) {a b c : Result (Unit {0}) CheckFault} {x y z : Unit {0}} → s ≡ For f t j v p
    → a ≡ sts_answer P g (step_seen f) → a ≡ Ok x → b ≡ test_answer P g (value_of t) → b ≡ Ok y
    → c ≡ sts_answer P g (step_seen j) → c ≡ Ok z → sts_answer P g (stmts v.items) ≡ st_answer P g (stmt_of s)
for_body P g f t j v p h a x b y c z = sym (ap (st_answer P g) (for_seen f t j v p h) ∙ and_then-ok _ (sym a ∙ x) ∙ and_then-ok _ (sym b ∙ y)
    ∙ and_then-ok _ (sym c ∙ z))
