-- The sizes of lists of trees.
use Rattle.std.proofs.Common.{◌≡◌, ℕ, ◌+◌, ◌<◌, List, [], ◌∷◌, length, drop, get_or, add-one, drop-cons, refl, sym, ap, ◌∙◌, arith}
use Rattle.std.specs.Prelude.{Option, Some, None}
use Rattle.std.specs.declared.vec.Vec.{Vec}
use Rattle.std.specs.declared.boxed.Box.{Box}
use Rattle.std.specs.declared.alloc.Global.{Global}
use Rattle.kaba_base.specs.declared.Place.{Place}
use Rattle.java_tree.specs.declared.Id.{Id}
use Rattle.java_tree.specs.declared.Stmt.{Stmt, Block, If, While, For}
use Rattle.java_tree.specs.declared.Arm.{Arm}
use Rattle.java_tree.specs.declared.Head.{Head}
use Rattle.java_tree.specs.declared.Member.{Member}
use Rattle.java_tree.specs.declared.Decl.{Decl}
use Rattle.java_tree.specs.declared.Expr.{Expr, Call, SuperCall, New}
use Rattle.java_tree.specs.Syntax.{expr_of, exprs, value_of, stmt_of, stmts, arms_seen, boxed_step, heads, member_of, members, decl_of, decls}
use Rattle.java_tree.specs.Size.{expr_size, exprs_size, value_size, stmt_size, stmts_size, arms_size, step_size, heads_size, member_size, members_size, decl_size, tree_size}
use Rattle.java_tree.proofs.Rows.{exprs_vec, exprs_shown, stmts_vec, arms_vec}

-- one more is counted
pub exprs_more : (xs : List Expr) (i : ℕ) (d : Expr) → i < length xs → exprs_size (exprs (drop i xs)) ≡ expr_size (expr_of (get_or xs i d))
    + exprs_size (exprs (drop (i + 1) xs))
exprs_more xs i d h = rw (add-one, drop-cons xs i d)

pub stmts_more : (xs : List Stmt) (i : ℕ) (d : Stmt) → i < length xs → stmts_size (stmts (drop i xs)) ≡ stmt_size (stmt_of (get_or xs i d))
    + stmts_size (stmts (drop (i + 1) xs))
stmts_more xs i d h = rw (add-one, drop-cons xs i d)

pub arms_more : (xs : List Arm) (i : ℕ) (d : Arm) → i < length xs → arms_size (arms_seen (drop i xs)) ≡ expr_size (expr_of (get_or xs i d).test)
    + stmts_size (stmts (get_or xs i d).body.items) + arms_size (arms_seen (drop (i + 1) xs))
arms_more xs i d h = rw (add-one, drop-cons xs i d)

pub members_more : (xs : List Member) (i : ℕ) (d : Member) → i < length xs → members_size (members (drop i xs))
    ≡ member_size (member_of (get_or xs i d)) + members_size (members (drop (i + 1) xs))
members_more xs i d h = rw (add-one, drop-cons xs i d)

pub decls_more : (xs : List Decl) (i : ℕ) (d : Decl) → i < length xs → tree_size (decls (drop i xs)) ≡ decl_size (decl_of (get_or xs i d))
    + tree_size (decls (drop (i + 1) xs))
decls_more xs i d h = rw (add-one, drop-cons xs i d)

pub heads_count : (xs : List Head) → heads_size (heads xs) ≡ length xs
heads_count [] = refl
heads_count (x ∷ xs) = let h = heads_count xs in omega (arith, h)

pub ruleset sizes = (exprs_vec, exprs_shown, exprs_more, stmts_vec, arms_vec, stmts_more, arms_more, members_more, decls_more, heads_count)

-- the size of an expression with arguments, as the program sees them
pub call_size : (v : Vec Expr Global) {e : Expr} {b : Option (Box Expr Global)} {n : List ℕ} {p : Place} {xs : List Expr} → e ≡ Call b n v p
    → b ≡ None → xs ≡ v.items → expr_size (expr_of e) ≡ exprs_size (exprs xs) + 1
call_size v {n = n} {p = p} h k x =
    ap (λ (e : Expr). expr_size (expr_of e)) (h ∙ ap (λ b. Call b n v p) k) ∙ ap (λ es. exprs_size es + 1) (exprs_vec v ∙ sym (ap exprs x))

pub on_size : (v : Vec Expr Global) {e : Expr} {b : Option (Box Expr Global)} {c : Box Expr Global} {n : List ℕ} {p : Place} {xs : List Expr}
    → e ≡ Call b n v p → b ≡ Some c → xs ≡ v.items →
    expr_size (expr_of e) ≡ expr_size (expr_of c.value) + exprs_size (exprs xs) + 1
on_size v {c = c} {n = n} {p = p} h k x =
    ap (λ (e : Expr). expr_size (expr_of e)) (h ∙ ap (λ b. Call b n v p) k) ∙ ap (λ es. expr_size (expr_of c.value) + exprs_size es + 1) (exprs_vec v
    ∙ sym (ap exprs x))

pub super_size : (v : Vec Expr Global) {e : Expr} {n : List ℕ} {p : Place} {xs : List Expr} → e ≡ SuperCall n v p → xs ≡ v.items
    → expr_size (expr_of e) ≡ exprs_size (exprs xs) + 1
super_size v h x = ap (λ (e : Expr). expr_size (expr_of e)) h ∙ ap (λ es. exprs_size es + 1) (exprs_vec v ∙ sym (ap exprs x))

pub new_size : (v : Vec Expr Global) {e : Expr} {i : Id} {p : Place} {xs : List Expr} → e ≡ New i v p → xs ≡ v.items
    → expr_size (expr_of e) ≡ exprs_size (exprs xs) + 1
new_size v h x = ap (λ (e : Expr). expr_size (expr_of e)) h ∙ ap (λ es. exprs_size es + 1) (exprs_vec v ∙ sym (ap exprs x))

pub block_size : {e : Stmt} (v : Vec Stmt Global) {p : Place} {xs : List Stmt} → e ≡ Block v p → xs ≡ v.items
    → stmt_size (stmt_of e) ≡ stmts_size (stmts xs) + 1
block_size v h x = ap (λ (e : Stmt). stmt_size (stmt_of e)) h ∙ ap (λ ss. stmts_size ss + 1) (stmts_vec v ∙ sym (ap stmts x))

pub if_size : {e : Stmt} (v : Vec Arm Global) {o : Option (Vec Stmt Global)} {p : Place} {xs : List Arm} → e ≡ If v o p → o ≡ None → xs ≡ v.items
    → stmt_size (stmt_of e) ≡ arms_size (arms_seen xs) + 1
if_size v {p = p} h k x = let f = ap (λ (e : Stmt). stmt_size (stmt_of e)) (h ∙ ap (λ o. If v o p) k) in let g = ap arms_size (arms_vec v
    ∙ sym (ap arms_seen x)) in omega (arith, f, g)

pub else_size_of : {e : Stmt} (v : Vec Arm Global) {o : Option (Vec Stmt Global)} (w : Vec Stmt Global) {p : Place} {xs : List Arm} {ys : List Stmt}
    → e ≡ If v o p → o ≡ Some w → xs ≡ v.items → ys ≡ w.items →
    stmt_size (stmt_of e) ≡ arms_size (arms_seen xs) + stmts_size (stmts ys) + 1
else_size_of v w {p = p} h k x y =
    let f = ap (λ (e : Stmt). stmt_size (stmt_of e)) (h ∙ ap (λ o. If v o p) k) in
    let g = ap arms_size (arms_vec v ∙ sym (ap arms_seen x)) in
    let l = ap stmts_size (stmts_vec w ∙ sym (ap stmts y)) in omega (arith, f, g, l)

pub while_size : {e : Stmt} {t : Expr} (v : Vec Stmt Global) {p : Place} {xs : List Stmt} → e ≡ While t v p → xs ≡ v.items
    → stmt_size (stmt_of e) ≡ expr_size (expr_of t) + stmts_size (stmts xs) + 1
while_size {t = t} v h x = ap (λ (e : Stmt). stmt_size (stmt_of e)) h ∙ ap (λ ss. expr_size (expr_of t) + stmts_size ss + 1) (stmts_vec v ∙ sym (ap stmts x))

step_seen_as : (f : Option (Box Stmt Global)) (t : Option Expr) (g : Option (Box Stmt Global)) (v : Vec Stmt Global) (p : Place) →
    stmt_size (stmt_of (For f t g v p)) ≡ step_size (boxed_step f) + value_size (value_of t) + step_size (boxed_step g) + stmts_size (stmts v.items) + 1
step_seen_as None t None v p = let l = ap stmts_size (stmts_vec v) in omega (arith, l)
step_seen_as None t (Some b) v p = let l = ap stmts_size (stmts_vec v) in omega (arith, l)
step_seen_as (Some b) t None v p = let l = ap stmts_size (stmts_vec v) in omega (arith, l)
step_seen_as (Some b) t (Some c) v p = let l = ap stmts_size (stmts_vec v) in omega (arith, l)

pub for_size : {e : Stmt} (f : Option (Box Stmt Global)) (t : Option Expr) (g : Option (Box Stmt Global)) (v : Vec Stmt Global) {p : Place}
    {xs : List Stmt} → e ≡ For f t g v p → xs ≡ v.items →
    stmt_size (stmt_of e) ≡ step_size (boxed_step f) + value_size (value_of t) + step_size (boxed_step g) + stmts_size (stmts xs) + 1
for_size f t g v {p = p} h x = let l = ap (λ (e : Stmt). stmt_size (stmt_of e)) h in let m = step_seen_as f t g v p in
    let n = ap (λ ss. stmts_size (stmts ss)) x in omega (arith, l, m, n)
