-- The plain trees of the forms that hold lists.
use Rattle.std.proofs.Common.{◌≡◌, ℕ, List, ap, ◌∙◌}
use Rattle.std.specs.Prelude.{true, false, Option, Some, None}
use Rattle.std.specs.declared.vec.Vec.{Vec}
use Rattle.std.specs.declared.boxed.Box.{Box}
use Rattle.std.specs.declared.alloc.Global.{Global}
use Rattle.kaba_base.specs.declared.Place.{Place}
use Rattle.kaba_base.specs.declared.ClassId.{ClassId}
use Rattle.kaba_base.specs.declared.MemberId.{MemberId}
use Rattle.java_core.specs.declared.RExpr.{RExpr, Call, StaticCall, SuperCall, New}
use Rattle.java_core.specs.declared.RStmt.{RStmt, Block, If, While, For}
use Rattle.java_core.specs.declared.RArm.{RArm}
use Rattle.java_core.specs.Trees.{at_place, this, call, static_call, super_call, create, block, choose, loop, no_st, expr_of, exprs, value_of, stmt_of, stmts, arms_seen, else_seen, step_seen, base_seen}
use Rattle.java_core.proofs.Rows.{exprs_vec, call_as, stmts_vec, if_as, for_as}

pub call_form : (e : RExpr) (b : Option (Box RExpr Global)) (x : List ℕ) (v : Vec RExpr Global) (p : Place) → e ≡ Call b x v p
    → expr_of e ≡ call (at_place p) (base_seen b p) x (exprs v.items)
call_form e b x v p is = ap expr_of is ∙ call_as b x v p

pub own_call : (e : RExpr) (b : Option (Box RExpr Global)) (x : List ℕ) (v : Vec RExpr Global) (p : Place) → e ≡ Call b x v p → b ≡ None
    → expr_of e ≡ call (at_place p) (this (at_place p)) x (exprs v.items)
own_call e b x v p is none = call_form e None x v p (is ∙ ap (λ c. Call c x v p) none)

pub call_on : (e : RExpr) (b : Option (Box RExpr Global)) (r : Box RExpr Global) (x : List ℕ) (v : Vec RExpr Global) (p : Place) → e ≡ Call b x v p
    → b ≡ Some r → expr_of e ≡ call (at_place p) (expr_of r.value) x (exprs v.items)
call_on e b r x v p is some = call_form e (Some r) x v p (is ∙ ap (λ c. Call c x v p) some)

pub static_form : (e : RExpr) (d : MemberId) (v : Vec RExpr Global) (p : Place) → e ≡ StaticCall d v p
    → expr_of e ≡ static_call (at_place p) d.0 (exprs v.items)
static_form e d v p is = ap expr_of is ∙ ap (static_call (at_place p) d.0) (exprs_vec v)

pub super_form : (e : RExpr) (x : List ℕ) (v : Vec RExpr Global) (p : Place) → e ≡ SuperCall x v p
    → expr_of e ≡ super_call (at_place p) x (exprs v.items)
super_form e x v p is = ap expr_of is ∙ ap (super_call (at_place p) x) (exprs_vec v)

pub creation_form : (e : RExpr) (n : ℕ) (c : ClassId) (v : Vec RExpr Global) (p : Place) → e ≡ New n c v p
    → expr_of e ≡ create (at_place p) n c.0 (exprs v.items)
creation_form e n c v p is = ap expr_of is ∙ ap (create (at_place p) n c.0) (exprs_vec v)

pub block_form : (s : RStmt) (v : Vec RStmt Global) (p : Place) → s ≡ Block v p → stmt_of s ≡ block (at_place p) (stmts v.items)
block_form s v p is = ap stmt_of is ∙ ap (block (at_place p)) (stmts_vec v)

pub if_form : (s : RStmt) (v : Vec RArm Global) (o : Option (Vec RStmt Global)) (p : Place) → s ≡ If v o p
    → stmt_of s ≡ choose (at_place p) (arms_seen v.items (else_seen o))
if_form s v o p is = ap stmt_of is ∙ if_as v o p

pub while_form : (s : RStmt) (t : RExpr) (v : Vec RStmt Global) (p : Place) → s ≡ While t v p
    → stmt_of s ≡ loop (at_place p) true no_st (Some (expr_of t)) no_st (stmts v.items)
while_form s t v p is = ap stmt_of is ∙ ap (loop (at_place p) true no_st (Some (expr_of t)) no_st) (stmts_vec v)

pub for_form : (s : RStmt) (f : Option (Box RStmt Global)) (t : Option RExpr) (g : Option (Box RStmt Global)) (v : Vec RStmt Global) (p : Place)
    → s ≡ For f t g v p
    → stmt_of s ≡ loop (at_place p) false (step_seen f) (value_of t) (step_seen g) (stmts v.items)
for_form s f t g v p is = ap stmt_of is ∙ for_as f t g v p
