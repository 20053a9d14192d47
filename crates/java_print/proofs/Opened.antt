-- Opened trees and the lists in them.
use Rattle.std.proofs.Common.{◌≡◌, ℕ, zero, suc, ◌+◌, ◌<◌, ◌≤◌, List, [], ◌∷◌, length, get_or, drop, Option, Some, None, true, nat_lt, ap, sym, subst, ◌∙◌, arith, Vec, Global, Box}
use Rattle.std.proofs.lemmas.List.{drop_more, drop_all}
use Rattle.std.proofs.lemmas.Bool.{lt-ltb}
use Rattle.kaba_base.specs.declared.Place.{Place}
use Rattle.java_tree.specs.declared.Id.{Id}
use Rattle.java_tree.specs.declared.Expr.{Expr, Call, SuperCall, New}
use Rattle.java_tree.specs.Syntax.{and_more, no_more, CallOf, CallOn, SuperCallOf, NewOf, expr_of, exprs}
use Rattle.java_tree.specs.Size.{expr_size, exprs_size}
use Rattle.java_tree.proofs.Rows.{exprs_vec}
use Rattle.java_print.specs.Items.{Item}
use Rattle.java_print.specs.Layout.{comma, expr_items, args_items}
use Rattle.java_print.specs.Adds.{Adds, Puts}
use Rattle.java_print.proofs.Adding.{adds_then}

pub call_alone : (e : Expr) (b : Option (Box Expr Global)) (n : List ℕ) (v : Vec Expr Global) (p : Place) → e ≡ Call b n v p → b ≡ None
    → expr_of e ≡ CallOf n (exprs v.items) p
call_alone e b n v p h k = ap expr_of h ∙ ap (λ x. expr_of (Call x n v p)) k ∙ ap (λ es. CallOf n es p) (exprs_vec v)

pub call_upon : (e : Expr) (b : Option (Box Expr Global)) (x : Box Expr Global) (n : List ℕ) (v : Vec Expr Global) (p : Place) → e ≡ Call b n v p
    → b ≡ Some x → expr_of e ≡ CallOn (expr_of x.value) n (exprs v.items) p
call_upon e b x n v p h k = ap expr_of h ∙ ap (λ y. expr_of (Call y n v p)) k ∙ ap (λ es. CallOn (expr_of x.value) n es p) (exprs_vec v)

pub call_above : (e : Expr) (n : List ℕ) (v : Vec Expr Global) (p : Place) → e ≡ SuperCall n v p → expr_of e ≡ SuperCallOf n (exprs v.items) p
call_above e n v p h = ap expr_of h ∙ ap (λ es. SuperCallOf n es p) (exprs_vec v)

pub creation : (e : Expr) (c : Id) (v : Vec Expr Global) (p : Place) → e ≡ New c v p → expr_of e ≡ NewOf c (exprs v.items) p
creation e c v p h = ap expr_of h ∙ ap (λ es. NewOf c es p) (exprs_vec v)

exprs_at : (xs : List Expr) (i : ℕ) (e : Expr) → i < length xs → e ≡ get_or xs i e → exprs (drop i xs) ≡ and_more (expr_of e) (exprs (drop (i + 1) xs))
exprs_at xs i e l k = ap exprs (drop_more xs i e l) ∙ ap (λ y. and_more (expr_of y) (exprs (drop (i + 1) xs))) (sym k)

pub args_same : {xs ys : List Expr} → xs ≡ ys → exprs_size (exprs xs) ≡ exprs_size (exprs ys)
args_same e = ap (λ zs. exprs_size (exprs zs)) e

-- an argument is smaller than all
pub arg_size : (xs : List Expr) (i : ℕ) (e : Expr) → i < length xs → e ≡ get_or xs i e → expr_size (expr_of e) ≤ exprs_size (exprs xs)
arg_size [] i e l k = absurd (omega arith)
arg_size (x ∷ xs) zero e l k = let s = ap (λ y. expr_size (expr_of y)) k in omega (arith, s)
arg_size (x ∷ xs) (suc i) e l k = omega (arith, arg_size xs i e (omega arith) k)

-- one more argument
pub args_step : (a b c d : List ℕ) (xs : List Expr) (i : ℕ) (e : Expr) (whole : List Item → List Item) → i < length xs → e ≡ get_or xs i e
    → ((r : List Item) → Adds a b (whole r) (args_items (nat_lt 0 i) (exprs (drop i xs)) r)) → Puts b c (comma (nat_lt 0 i)) → Puts c d (expr_items (expr_of e))
    → (r : List Item) → Adds a d (whole r) (args_items (nat_lt 0 (i + 1)) (exprs (drop (i + 1) xs)) r)
args_step a b c d xs i e whole l k h f g r =
    let s : List Item = args_items true (exprs (drop (i + 1) xs)) r in
    let t : nat_lt 0 (i + 1) ≡ true = lt-ltb 0 (i + 1) (omega arith) in
    adds_then (h r) (subst (λ es. Adds b d (args_items (nat_lt 0 i) es r) (args_items (nat_lt 0 (i + 1)) (exprs (drop (i + 1) xs)) r))
    (sym (exprs_at xs i e l k))
    (subst (λ z. Adds b d (comma (nat_lt 0 i) (expr_items (expr_of e) s)) (args_items z (exprs (drop (i + 1) xs)) r)) (sym t)
    (adds_then (f (expr_items (expr_of e) s)) (g s))))

-- the closing bracket behind the last one
pub args_end : (a b c : List ℕ) (xs : List Expr) (i : ℕ) (whole : List Item → List Item) → length xs ≤ i
    → ((r : List Item) → Adds a b (whole r) (args_items (nat_lt 0 i) (exprs (drop i xs)) r)) → Puts b c (args_items true no_more) → Puts a c whole
args_end a b c xs i whole l h k r = adds_then (h r) (subst (λ ys. Adds b c (args_items (nat_lt 0 i) (exprs ys) r) r) (sym (drop_all i xs l)) (k r))
