-- What stands within an `if` or in a list is smaller than the whole.
use Rattle.std.proofs.Common.{◌≡◌, ℕ, ◌<◌, ◌≤◌, List, length, get_or, ap, subst, arith}
use Rattle.std.specs.Prelude.{Option}
use Rattle.std.specs.declared.vec.Vec.{Vec}
use Rattle.std.specs.declared.alloc.Global.{Global}
use Rattle.kaba_base.specs.declared.Place.{Place}
use Rattle.java_core.specs.declared.RStmt.{RStmt, If}
use Rattle.java_core.specs.declared.RArm.{RArm}
use Rattle.java_core.specs.Trees.{no_other, stmt_of, stmts, arms_seen, else_seen}
use Rattle.java_core.proofs.StatementSize.{st_size, sts_size, arms_size, stmt_smaller, arm_smaller, else_smaller, arms_within}
use Rattle.java_core.proofs.Forms.{if_form}

pub choice_sizes : {s : RStmt} {p : Place} (v : Vec RArm Global) (o : Option (Vec RStmt Global)) → s ≡ If v o p
    → (arms_size (arms_seen v.items no_other) < st_size (stmt_of s)) × (arms_size (else_seen o) < st_size (stmt_of s))
choice_sizes v o is =
    let whole = ap st_size (if_form _ v o _ is) in (
      omega (arith, whole, arms_within v.items (else_seen o)),
      omega (arith, whole, else_smaller v.items (else_seen o)),
    )

pub stmt_within : {held list : List RStmt} {i : ℕ} {s : RStmt} → held ≡ list → i < length held → s ≡ get_or held i s
    → st_size (stmt_of s) < sts_size (stmts list)
stmt_within {held = held} {i = i} {s = s} same lt is = subst (λ xs. st_size (stmt_of s) < sts_size (stmts xs)) same
    (stmt_smaller held i s lt is)

pub arm_within : {held list : List RArm} {i : ℕ} {s : RArm} → held ≡ list → i < length held → s ≡ get_or held i s
    → sts_size (stmts s.body.items) ≤ arms_size (arms_seen list no_other)
arm_within {held = held} {i = i} {s = s} same lt is =
    subst (λ (xs : List RArm). sts_size (stmts s.body.items) ≤ arms_size (arms_seen xs no_other)) same
    (arm_smaller held no_other i s lt is)
