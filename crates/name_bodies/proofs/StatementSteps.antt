-- Steps of the loops over statements and over arms.
use Rattle.std.proofs.Common.{◌≡◌, ℕ, zero, suc, ◌+◌, ◌<◌, ◌≤◌, arith, List, [], ◌∷◌, ◌++◌, length, drop, get_or, Bool, true, false, Option, Result, Ok, Err, refl, sym, ap, ◌∙◌}
use Rattle.java_tree.specs.declared.Stmt.{Stmt}
use Rattle.java_tree.specs.declared.Arm.{Arm}
use Rattle.java_tree.specs.Syntax as tree
use Rattle.java_tree.specs.Size.{stmt_size, stmts_size, arms_size}
use Rattle.java_tree.specs.Arms.{arm_size}
use Rattle.java_core.specs.declared.RStmt.{RStmt}
use Rattle.java_core.specs.declared.RArm.{RArm}
use Rattle.kaba_base.specs.declared.Place.{Place}
use Rattle.java_core.specs.Trees.{at_place, Ex, St, no_other, choose, loop, Sts, IfArms, no_st, expr_of, stmt_of, stmts, arms_seen}
use Rattle.name_rules.specs.declared.Refusal.{Refusal}
use Rattle.name_laws.specs.Tables.{Table}
use Rattle.name_rules.specs.declared.parts.Bound.{Bound}
use Rattle.name_rules.specs.declared.parts.Here.{Here}
use Rattle.name_laws.specs.Answers.{with, IsRefused, GivesValue}
use Rattle.name_laws.specs.Statements.{LocalsState, StatementStepped, walk_expr, walk_st, walk_sts, walk_arm, walk_arms, walk_else, walk_value, walk_optional, st_last, arm_last, ending, kept}
use Rattle.name_bodies.proofs.StatementRows.{stmts_push, arms_push}
use Rattle.name_bodies.proofs.Steps.{passes, follows}
use Rattle.std.proofs.Common.{subst}
use Rattle.kaba_base.proofs.ListLemmas.{drop_at}

module _ (t : Table) (h : Here) (inside : Bool) where
  -- one statement more
  pub sts_next : (scope after : List Bound) (k j : LocalsState) (done pushed : List RStmt) (list : List Stmt) (n : ℕ) (s : Stmt) (e : RStmt)
      (o : Result (Sts × LocalsState) Refusal) → n < length list → s ≡ get_or list n s →
      walk_st t h inside scope k (tree.stmt_of s) ≡ Ok (stmt_of e, after, j) → pushed ≡ done ++ e ∷ [] →
      walk_sts t h inside (stmts done) scope k (tree.stmts (drop n list)) ≡ o → walk_sts t h inside (stmts pushed) after j
      (tree.stmts (drop (n + 1) list)) ≡ o
  sts_next scope after k j done pushed list n s e o below at given push before =
      let rest = drop (n + 1) list in
      ap (λ x. walk_sts t h inside x after j (tree.stmts rest)) (ap stmts push ∙ stmts_push done e)
      ∙ ap (λ x. with x (λ x. walk_sts t h inside (st_last (stmts done) x.0) x.1 x.2 (tree.stmts rest))) (sym given)
      ∙ ap (λ x. walk_sts t h inside (stmts done) scope k (tree.stmts x)) (sym (drop_at list n s below at))
      ∙ before

  in_arm : {D : Type 0} (x : Ex) (b : Result (Sts × LocalsState) Refusal) (go : Ex × Sts × LocalsState → Result D Refusal)
      → with (with b (λ b. Ok (x, b.0, b.1))) go ≡ with b (λ b. go (x, b.0, b.1))
  in_arm x (Ok b) go = refl
  in_arm x (Err r) go = refl

  -- an arm is its test and then its statements
  arm_parts : {D : Type 0} (a : Result (Ex × LocalsState) Refusal) (b : LocalsState → Result (Sts × LocalsState) Refusal) (go : Ex × Sts × LocalsState → Result D Refusal)
      → with (with a (λ x. with (b x.1) (λ b. Ok (x.0, b.0, b.1)))) go ≡ with a (λ x. with (b x.1) (λ b. go (x.0, b.0, b.1)))
  arm_parts (Ok x) b go = in_arm x.0 (b x.1) go
  arm_parts (Err r) b go = refl

  arm_split : (scope : List Bound) (k : LocalsState) (done : IfArms) (list : List Arm) (n : ℕ) (s : Arm) → n < length list → s ≡ get_or list n s →
      with (walk_arm t h inside scope k (tree.expr_of s.test) (tree.stmts s.body.items)) (λ a. walk_arms t h inside (arm_last done a.0 a.1) scope a.2
      (tree.arms_seen (drop (n + 1) list))) ≡ walk_arms t h inside done scope k (tree.arms_seen (drop n list))
  arm_split scope k done list n s below at =
      arm_parts (walk_expr t h scope k (tree.expr_of s.test)) (λ j. walk_sts t h inside no_st scope j (tree.stmts s.body.items))
      (λ a. walk_arms t h inside (arm_last done a.0 a.1) scope a.2 (tree.arms_seen (drop (n + 1) list)))
      ∙ ap (λ x. walk_arms t h inside done scope k (tree.arms_seen x)) (sym (drop_at list n s below at))

  -- one arm more
  pub arms_next : (scope : List Bound) (k j : LocalsState) (done pushed : List RArm) (list : List Arm) (n : ℕ) (s : Arm) (e : RArm)
      (o : Result (IfArms × LocalsState) Refusal) → n < length list → s ≡ get_or list n s →
      walk_arm t h inside scope k (tree.expr_of s.test) (tree.stmts s.body.items) ≡ Ok (expr_of e.test, stmts e.body.items, j)
      → pushed ≡ done ++ e ∷ [] →
      walk_arms t h inside (arms_seen done no_other) scope k (tree.arms_seen (drop n list)) ≡ o
      → walk_arms t h inside (arms_seen pushed no_other) scope j (tree.arms_seen (drop (n + 1) list)) ≡ o
  arms_next scope k j done pushed list n s e o below at given push before =
      let rest = drop (n + 1) list in
      ap (λ x. walk_arms t h inside x scope j (tree.arms_seen rest)) (ap (λ x. arms_seen x no_other) push ∙ arms_push done e)
      ∙ ap (λ x. with x (λ a. walk_arms t h inside (arm_last (arms_seen done no_other) a.0 a.1) scope a.2 (tree.arms_seen rest))) (sym given)
      ∙ arm_split scope k (arms_seen done no_other) list n s below at
      ∙ before

  -- an arm with a fault
  pub arms_fault : (r : Refusal) (scope : List Bound) (k : LocalsState) (done : List RArm) (list : List Arm) (n : ℕ) (s : Arm)
      (o : Result (IfArms × LocalsState) Refusal) → n < length list → s ≡ get_or list n s →
      IsRefused r (walk_arm t h inside scope k (tree.expr_of s.test) (tree.stmts s.body.items))
      → walk_arms t h inside (arms_seen done no_other) scope k (tree.arms_seen (drop n list)) ≡ o → IsRefused r o
  arms_fault r scope k done list n s o below at given before =
      subst (IsRefused r) (arm_split scope k (arms_seen done no_other) list n s below at ∙ before)
      (passes r (walk_arm t h inside scope k (tree.expr_of s.test) (tree.stmts s.body.items))
      (λ a. walk_arms t h inside (arm_last (arms_seen done no_other) a.0 a.1) scope a.2 (tree.arms_seen (drop (n + 1) list))) given)

-- what is given of a tree is given of what it is
pub carry_st : {A : Type 0} (f : A → St × List Bound × LocalsState) (r : Result A Refusal) (t : Table) (h : Here) (inside : Bool) (scope : List Bound)
    (k : LocalsState) {x y : tree.Statement} → x ≡ y → GivesValue f r (walk_st t h inside scope k y) → GivesValue f r (walk_st t h inside scope k x)
carry_st f r t h inside scope k e g = subst (λ z. GivesValue f r (walk_st t h inside scope k z)) (sym e) g

-- a fault of the arms of an `if`
pub if_fault : (r : Refusal) (t : Table) (h : Here) (inside : Bool) (scope : List Bound) (k : LocalsState) {x : tree.Statement} {arms : tree.Arms}
    {other : tree.Else} {p : Place} → x ≡ tree.IfOf arms other p →
    IsRefused r (walk_arms t h inside no_other scope k arms) → IsRefused r (walk_st t h inside scope k x)
if_fault r t h inside scope k {arms = arms} {other = other} {p = p} e g =
    subst (λ z. IsRefused r (walk_st t h inside scope k z)) (sym e) (passes r (walk_arms t h inside no_other scope k arms)
    (λ a. kept (walk_else t h inside scope a.1 other) scope (λ o. choose (at_place p) (ending a.0 o))) g)

-- an item is no larger than the list
pub stmt_within : (xs : List Stmt) (i : ℕ) (s : Stmt) → i < length xs → s ≡ get_or xs i s → stmt_size (tree.stmt_of s) ≤ stmts_size (tree.stmts xs)
stmt_within [] i s h e = absurd (omega (arith, h))
stmt_within (x ∷ xs) zero s h e = omega (arith, ap (λ (y : Stmt). stmt_size (tree.stmt_of y)) e)
stmt_within (x ∷ xs) (suc i) s h e = let k = stmt_within xs i s (omega (arith, h)) e in omega (arith, k)

pub arm_within : (xs : List Arm) (i : ℕ) (a : Arm) → i < length xs → a ≡ get_or xs i a → arm_size a ≤ arms_size (tree.arms_seen xs)
arm_within [] i a h e = absurd (omega (arith, h))
arm_within (x ∷ xs) zero a h e = omega (arith, ap arm_size e)
arm_within (x ∷ xs) (suc i) a h e = let k = arm_within xs i a (omega (arith, h)) e in omega (arith, k)

-- an `if`: its arms, and then the rest
pub if_given : {A : Type 0} (f : A → St × List Bound × LocalsState) (r : Result A Refusal) (t : Table) (h : Here) (inside : Bool) (scope : List Bound)
    (k j : LocalsState) (a : IfArms) {x : tree.Statement} {arms : tree.Arms} {other : tree.Else} {p : Place} → x ≡ tree.IfOf arms other p →
    walk_arms t h inside no_other scope k arms ≡ Ok (a, j)
    → GivesValue f r (kept (walk_else t h inside scope j other) scope (λ o. choose (at_place p) (ending a o)))
    → GivesValue f r (walk_st t h inside scope k x)
if_given f r t h inside scope k j a {other = other} {p = p} shown given g =
    carry_st f r t h inside scope k shown
    (follows f r (λ a. kept (walk_else t h inside scope a.1 other) scope (λ o. choose (at_place p) (ending a.0 o))) given g)

-- a `for`: its head, and then its body
pub for_given : {A : Type 0} (f : A → St × List Bound × LocalsState) (r : Result A Refusal) (t : Table) (h : Here) (inside : Bool)
    (scope inner : List Bound) (k : LocalsState) (a : Sts × List Bound × LocalsState) (b : Option Ex × LocalsState) (c : Sts × List Bound × LocalsState)
    {x : tree.Statement} {u w : tree.OptionalStatement} {v : Option tree.Expression} {ss : tree.Statements} {p : Place} → x ≡ tree.ForOf u v w ss p
    → inner ≡ scope →
    walk_optional t h inside inner k u ≡ Ok a → walk_value t h a.1 a.2 v ≡ Ok b → walk_optional t h inside a.1 b.1 w ≡ Ok c →
    GivesValue f r (kept (walk_sts t h true no_st c.1 c.2 ss) scope (loop (at_place p) false a.0 b.0 c.0)) → GivesValue f r (walk_st t h inside scope k x)
for_given f r t h inside scope inner k a b c {u = u} {w = w} {v = v} {ss = ss} {p = p} shown same first test last g =
    let run : Sts × List Bound × LocalsState → Option Ex × LocalsState → Sts × List Bound × LocalsState → StatementStepped = λ a b c.
    kept (walk_sts t h true no_st c.1 c.2 ss) scope (loop (at_place p) false a.0 b.0 c.0) in
    carry_st f r t h inside scope k shown
    (follows f r (λ a. with (walk_value t h a.1 a.2 v) (λ b. with (walk_optional t h inside a.1 b.1 w) (run a b)))
    (ap (λ i. walk_optional t h inside i k u) (sym same) ∙ first)
    (follows f r (λ b. with (walk_optional t h inside a.1 b.1 w) (run a b)) test (follows f r (run a b) last g)))

-- a fault of its last part
pub for_fault : (r : Refusal) (t : Table) (h : Here) (inside : Bool) (scope inner : List Bound) (k : LocalsState) (a : Sts × List Bound × LocalsState)
    (b : Option Ex × LocalsState) {x : tree.Statement} {u w : tree.OptionalStatement} {v : Option tree.Expression} {ss : tree.Statements} {p : Place}
    → x ≡ tree.ForOf u v w ss p → inner ≡ scope → walk_optional t h inside inner k u ≡ Ok a → walk_value t h a.1 a.2 v ≡ Ok b →
    IsRefused r (walk_optional t h inside a.1 b.1 w) → IsRefused r (walk_st t h inside scope k x)
for_fault r t h inside scope inner k a b {u = u} {w = w} {v = v} {ss = ss} {p = p} shown same first test g =
    subst (λ z. IsRefused r (walk_st t h inside scope k z)) (sym shown)
    (subst (λ o. IsRefused r (with o (λ a. with (walk_value t h a.1 a.2 v) (λ b. with (walk_optional t h inside a.1 b.1 w)
    (λ c. kept (walk_sts t h true no_st c.1 c.2 ss) scope (loop (at_place p) false a.0 b.0 c.0)))))) (sym first
    ∙ ap (λ i. walk_optional t h inside i k u) same)
    (subst (λ o. IsRefused r (with o (λ b. with (walk_optional t h inside a.1 b.1 w) (λ c. kept (walk_sts t h true no_st c.1 c.2 ss) scope
    (loop (at_place p) false a.0 b.0 c.0))))) (sym test)
    (passes r (walk_optional t h inside a.1 b.1 w) (λ c. kept (walk_sts t h true no_st c.1 c.2 ss) scope (loop (at_place p) false a.0 b.0 c.0)) g)))
