-- The size of a statement, by which a walk over it ends: its parts are smaller.
use Rattle.std.proofs.Common.{◌≡◌, ℕ, zero, suc, ◌+◌, ◌<◌, ◌≤◌, List, [], ◌∷◌, length, get_or, sym, subst, arith}
use Rattle.java_core.specs.declared.RStmt.{RStmt}
use Rattle.java_core.specs.declared.RArm.{RArm}
use Rattle.java_core.specs.Trees.{stmt_of, stmts, arms_seen, St, Sts, IfArms, declare, block, assign, act, print, choose, loop, return, break, continue, no_st, st_then, no_other, otherwise, arm}

abbrev mutual
  pub st_size : St → ℕ
  st_size (declare t i e) = 1
  st_size (block t xs) = 1 + sts_size xs
  st_size (assign t b e) = 1
  st_size (act t e) = 1
  st_size (print t n e) = 1
  st_size (choose t xs) = 1 + arms_size xs
  st_size (loop t is_while first test step body) = 1 + (sts_size first + (sts_size step + sts_size body))
  st_size (return t e) = 1
  st_size (break t) = 1
  st_size (continue t) = 1

  pub sts_size : Sts → ℕ
  sts_size no_st = 0
  sts_size (st_then x xs) = 1 + (st_size x + sts_size xs)

  pub arms_size : IfArms → ℕ
  arms_size no_other = 0
  arms_size (otherwise xs) = sts_size xs
  arms_size (arm e xs more) = sts_size xs + arms_size more

at_smaller : (xs : List RStmt) (i : ℕ) (d : RStmt) → i < length xs → st_size (stmt_of (get_or xs i d)) < sts_size (stmts xs)
at_smaller [] i d h = absurd (omega (arith, h))
at_smaller (x ∷ xs) zero d h = omega arith
at_smaller (x ∷ xs) (suc i) d h = omega (arith, at_smaller xs i d (omega (arith, h)))

pub stmt_smaller : (xs : List RStmt) (i : ℕ) (d : RStmt) → i < length xs → d ≡ get_or xs i d → st_size (stmt_of d) < sts_size (stmts xs)
stmt_smaller xs i d h e = subst (λ x. st_size (stmt_of x) < sts_size (stmts xs)) (sym e) (at_smaller xs i d h)

pub else_smaller : (xs : List RArm) (other : IfArms) → arms_size other ≤ arms_size (arms_seen xs other)
else_smaller [] other = omega arith
else_smaller (x ∷ xs) other = omega (arith, else_smaller xs other)

pub arms_within : (xs : List RArm) (other : IfArms) → arms_size (arms_seen xs no_other) ≤ arms_size (arms_seen xs other)
arms_within [] other = omega arith
arms_within (x ∷ xs) other = omega (arith, arms_within xs other)

body_smaller : (xs : List RArm) (other : IfArms) (i : ℕ) (d : RArm) → i < length xs
    → sts_size (stmts (get_or xs i d).body.items) ≤ arms_size (arms_seen xs other)
body_smaller [] other i d h = absurd (omega (arith, h))
body_smaller (x ∷ xs) other zero d h = omega arith
body_smaller (x ∷ xs) other (suc i) d h = omega (arith, body_smaller xs other i d (omega (arith, h)))

pub arm_smaller : (xs : List RArm) (other : IfArms) (i : ℕ) (d : RArm) → i < length xs → d ≡ get_or xs i d
    → sts_size (stmts d.body.items) ≤ arms_size (arms_seen xs other)
arm_smaller xs other i d h e = subst (λ (x : RArm). sts_size (stmts x.body.items) ≤ arms_size (arms_seen xs other)) (sym e)
    (body_smaller xs other i d h)
