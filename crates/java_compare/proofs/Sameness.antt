-- Lists of trees that are equal, places aside.
use Rattle.std.proofs.Common.{◌≡◌, ◌≢◌, ℕ, ◌+◌, ◌<◌, List, [], ◌∷◌, length, drop, get_or, add-one, drop-cons, refl, sym, ap, ap₂, ◌∙◌, arith}
use Rattle.std.specs.Prelude.{◌&&◌, Bool, true, false, Option, Some, None}
use Rattle.std.specs.declared.vec.Vec.{Vec}
use Rattle.std.specs.declared.boxed.Box.{Box}
use Rattle.std.specs.declared.alloc.Global.{Global}
use Rattle.std.proofs.lemmas.Bool.{false≢true}
use Rattle.kaba_base.specs.declared.Place.{Place}
use Rattle.java_tree.specs.declared.Id.{Id}
use Rattle.java_tree.specs.declared.Expr.{Expr, Call, SuperCall, New}
use Rattle.java_tree.specs.declared.Stmt.{Stmt, Block, While, For}
use Rattle.java_tree.specs.declared.Arm.{Arm}
use Rattle.java_tree.specs.declared.Head.{Head}
use Rattle.java_tree.specs.declared.Member.{Member}
use Rattle.java_tree.specs.declared.Decl.{Decl}
use Rattle.java_tree.specs.Syntax.{Expression, CallOf, CallOn, SuperCallOf, NewOf, expr_of, exprs, Statement, BlockOf, WhileOf, ForOf, value_of, stmt_of, stmts, arms_seen, boxed_step, head_of, heads, member_of, members, decl_of, decls}
use Rattle.java_compare.specs.Same.{same_expr, same_exprs, same_stmt, same_stmts, same_arms, all_same, same_head, same_member, same_decl}
use Rattle.java_tree.proofs.Rows.{exprs_vec, stmts_vec, arms_vec, for_as}

-- one more item of both lists is compared
pub exprs_step : (xs ys : List Expr) (i : ℕ) (d e : Expr) → i < length xs → i < length ys → same_exprs (exprs (drop i xs)) (exprs (drop i ys))
    ≡ (same_expr (expr_of (get_or xs i d)) (expr_of (get_or ys i e)) && same_exprs (exprs (drop (i + 1) xs)) (exprs (drop (i + 1) ys)))
exprs_step xs ys i d e h k = rw (add-one, drop-cons xs i d, drop-cons ys i e)

pub stmts_step : (xs ys : List Stmt) (i : ℕ) (d e : Stmt) → i < length xs → i < length ys → same_stmts (stmts (drop i xs)) (stmts (drop i ys))
    ≡ (same_stmt (stmt_of (get_or xs i d)) (stmt_of (get_or ys i e)) && same_stmts (stmts (drop (i + 1) xs)) (stmts (drop (i + 1) ys)))
stmts_step xs ys i d e h k = rw (add-one, drop-cons xs i d, drop-cons ys i e)

pub arms_step : (xs ys : List Arm) (i : ℕ) (d e : Arm) → i < length xs → i < length ys → same_arms (arms_seen (drop i xs)) (arms_seen (drop i ys))
    ≡ (same_expr (expr_of (get_or xs i d).test) (expr_of (get_or ys i e).test) && same_stmts (stmts (get_or xs i d).body.items)
    (stmts (get_or ys i e).body.items) && same_arms (arms_seen (drop (i + 1) xs)) (arms_seen (drop (i + 1) ys)))
arms_step xs ys i d e h k = rw (add-one, drop-cons xs i d, drop-cons ys i e)

pub all_step : {A : Type 0} (f : A → A → Bool) (xs ys : List A) (i : ℕ) (d e : A) → i < length xs → i < length ys → all_same f (drop i xs) (drop i ys)
    ≡ (f (get_or xs i d) (get_or ys i e) && all_same f (drop (i + 1) xs) (drop (i + 1) ys))
all_step f xs ys i d e h k = rw (add-one, drop-cons xs i d, drop-cons ys i e)

-- two lists from a place on are equal where the items there are, and what is behind them
pub all_at : {A : Type 0} (f : A → A → Bool) (xs ys : List A) (i : ℕ) (x y : A) (r : Bool) → i < length xs → length xs ≡ length ys → x ≡ get_or xs i x
    → y ≡ get_or ys i y → r ≡ f x y → all_same f (drop i xs) (drop i ys) ≡ (r && all_same f (drop (i + 1) xs) (drop (i + 1) ys))
all_at f xs ys i x y r l e h k g =
    all_step f xs ys i x y l (omega (arith, l, e)) ∙ ap (λ b. b && all_same f (drop (i + 1) xs) (drop (i + 1) ys)) (sym (g ∙ ap₂ f h k))

and_right : (a b : Bool) → (a && b) ≡ true → b ≡ true
and_right true b h = h
and_right false b h = absurd (false≢true h)

-- equal lists are equally long
exprs_long : (xs ys : List Expr) → same_exprs (exprs xs) (exprs ys) ≡ true → length xs ≡ length ys
exprs_long [] [] h = refl
exprs_long (x ∷ xs) (y ∷ ys) h = let k = exprs_long xs ys (and_right (same_expr (expr_of x) (expr_of y)) _ h) in omega (arith, k)
exprs_long _ _ h = absurd (false≢true h)

stmts_long : (xs ys : List Stmt) → same_stmts (stmts xs) (stmts ys) ≡ true → length xs ≡ length ys
stmts_long [] [] h = refl
stmts_long (x ∷ xs) (y ∷ ys) h = let k = stmts_long xs ys (and_right (same_stmt (stmt_of x) (stmt_of y)) _ h) in omega (arith, k)
stmts_long _ _ h = absurd (false≢true h)

arms_long : (xs ys : List Arm) → same_arms (arms_seen xs) (arms_seen ys) ≡ true → length xs ≡ length ys
arms_long [] [] h = refl
arms_long (x ∷ xs) (y ∷ ys) h =
    let k = arms_long xs ys (and_right (same_expr (expr_of x.test) (expr_of y.test) && same_stmts (stmts x.body.items) (stmts y.body.items)) _ h) in
    omega (arith, k)
arms_long _ _ h = absurd (false≢true h)

all_long : {A : Type 0} (f : A → A → Bool) (xs ys : List A) → all_same f xs ys ≡ true → length xs ≡ length ys
all_long f [] [] h = refl
all_long f (x ∷ xs) (y ∷ ys) h = let k = all_long f xs ys (and_right (f x y) _ h) in omega (arith, k)
all_long f _ _ h = absurd (false≢true h)

not_so : {P : Type 0} (b : Bool) → (b ≡ true → P) → (P → ⊥) → false ≡ b
not_so true f g = absurd (g (f refl))
not_so false f g = refl

pub exprs_apart : (xs ys : List Expr) → length xs ≢ length ys → false ≡ same_exprs (exprs xs) (exprs ys)
exprs_apart xs ys h = not_so _ (exprs_long xs ys) h

pub stmts_apart : (xs ys : List Stmt) → length xs ≢ length ys → false ≡ same_stmts (stmts xs) (stmts ys)
stmts_apart xs ys h = not_so _ (stmts_long xs ys) h

pub arms_apart : (xs ys : List Arm) → length xs ≢ length ys → false ≡ same_arms (arms_seen xs) (arms_seen ys)
arms_apart xs ys h = not_so _ (arms_long xs ys) h

pub all_apart : {A : Type 0} (f : A → A → Bool) (xs ys : List A) → length xs ≢ length ys → false ≡ all_same f xs ys
all_apart f xs ys h = not_so _ (all_long f xs ys) h

-- lists of declarations, as the program sees them
pub heads_all : (xs ys : List Head) → all_same (λ x y. same_head (head_of x) (head_of y)) xs ys ≡ all_same same_head (heads xs) (heads ys)
heads_all [] [] = refl
heads_all (x ∷ xs) (y ∷ ys) = ap (λ b. same_head (head_of x) (head_of y) && b) (heads_all xs ys)
heads_all _ _ = refl

pub members_all : (xs ys : List Member) → all_same (λ x y. same_member (member_of x) (member_of y)) xs ys ≡ all_same same_member (members xs) (members ys)
members_all [] [] = refl
members_all (x ∷ xs) (y ∷ ys) = ap (λ b. same_member (member_of x) (member_of y) && b) (members_all xs ys)
members_all _ _ = refl

pub decls_all : (xs ys : List Decl) → all_same (λ x y. same_decl (decl_of x) (decl_of y)) xs ys ≡ all_same same_decl (decls xs) (decls ys)
decls_all [] [] = refl
decls_all (x ∷ xs) (y ∷ ys) = ap (λ b. same_decl (decl_of x) (decl_of y) && b) (decls_all xs ys)
decls_all _ _ = refl

pub ruleset seen = (exprs_vec, exprs_step, exprs_apart, stmts_vec, stmts_step, stmts_apart, arms_vec, arms_step, arms_apart)

pub ruleset lists = (all_step, all_apart, heads_all, members_all, decls_all)

-- an expression with arguments, as the program sees it
pub call_seen : {e : Expr} (v : Vec Expr Global) {b : Option (Box Expr Global)} {n : List ℕ} {p : Place} {xs : List Expr} → e ≡ Call b n v p
    → b ≡ None → xs ≡ v.items → expr_of e ≡ CallOf n (exprs xs) p
call_seen v {n = n} {p = p} h k x = ap expr_of (h ∙ ap (λ b. Call b n v p) k) ∙ ap (λ es. CallOf n es p) (exprs_vec v ∙ sym (ap exprs x))

pub on_seen : {e : Expr} (v : Vec Expr Global) {b : Option (Box Expr Global)} {c : Box Expr Global} {n : List ℕ} {p : Place} {xs : List Expr}
    → e ≡ Call b n v p → b ≡ Some c → xs ≡ v.items → expr_of e ≡ CallOn (expr_of c.value) n (exprs xs) p
on_seen v {c = c} {n = n} {p = p} h k x = ap expr_of (h ∙ ap (λ b. Call b n v p) k) ∙ ap (λ es. CallOn (expr_of c.value) n es p) (exprs_vec v
    ∙ sym (ap exprs x))

pub super_seen : {e : Expr} (v : Vec Expr Global) {n : List ℕ} {p : Place} {xs : List Expr} → e ≡ SuperCall n v p → xs ≡ v.items
    → expr_of e ≡ SuperCallOf n (exprs xs) p
super_seen v {n = n} {p = p} h x = ap expr_of h ∙ ap (λ es. SuperCallOf n es p) (exprs_vec v ∙ sym (ap exprs x))

pub new_seen : {e : Expr} (v : Vec Expr Global) {i : Id} {p : Place} {xs : List Expr} → e ≡ New i v p → xs ≡ v.items → expr_of e ≡ NewOf i (exprs xs) p
new_seen v {i = i} {p = p} h x = ap expr_of h ∙ ap (λ es. NewOf i es p) (exprs_vec v ∙ sym (ap exprs x))

pub true_and : {a b r : Bool} → a ≡ true → r ≡ b → r ≡ (a && b)
true_and h k = rw h k

-- what two expressions are seen as decides
pub expr_by : {x y : Expression} (u v : Expression) {r : Bool} → x ≡ u → y ≡ v → r ≡ same_expr u v → r ≡ same_expr x y
expr_by u v h k e = rw (h, k) e

pub stmt_by : {x y : Statement} (u v : Statement) {r : Bool} → x ≡ u → y ≡ v → r ≡ same_stmt u v → r ≡ same_stmt x y
stmt_by u v h k e = rw (h, k) e

-- a statement with a list, as the program sees it
pub block_seen : {e : Stmt} (v : Vec Stmt Global) {p : Place} {xs : List Stmt} → e ≡ Block v p → xs ≡ v.items → stmt_of e ≡ BlockOf (stmts xs) p
block_seen v {p = p} h x = ap stmt_of h ∙ ap (λ ss. BlockOf ss p) (stmts_vec v ∙ sym (ap stmts x))

pub while_seen : {e : Stmt} {t : Expr} (v : Vec Stmt Global) {p : Place} {xs : List Stmt} → e ≡ While t v p → xs ≡ v.items
    → stmt_of e ≡ WhileOf (expr_of t) (stmts xs) p
while_seen {t = t} v {p = p} h x = ap stmt_of h ∙ ap (λ ss. WhileOf (expr_of t) ss p) (stmts_vec v ∙ sym (ap stmts x))

pub for_seen : {e : Stmt} (f : Option (Box Stmt Global)) (t : Option Expr) (g : Option (Box Stmt Global)) (v : Vec Stmt Global) {p : Place}
    {xs : List Stmt} → e ≡ For f t g v p → xs ≡ v.items → stmt_of e ≡ ForOf (boxed_step f) (value_of t) (boxed_step g) (stmts xs) p
for_seen f t g v {p = p} h x = ap stmt_of h ∙ for_as f t g v p ∙ sym (ap (λ xs. ForOf (boxed_step f) (value_of t) (boxed_step g) (stmts xs) p) x)
