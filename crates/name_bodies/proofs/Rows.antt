-- What a list of resolved trees with one more is; and what the tree of a form with a list is.
use Rattle.std.proofs.Common.{◌≡◌, ℕ, subst, Result, Ok, Err, false, List, [], ◌∷◌, ◌++◌, Option, Some, None, refl, sym, ap, ◌∙◌}
use Rattle.std.specs.Prelude.{if◌then◌else◌}
use Rattle.java_core.specs.declared.RExpr.{RExpr}
use Rattle.java_core.specs.Trees.{Ex, ex_then, no_ex, expr_of, exprs}
use Rattle.java_tree.specs.declared.Expr.{Expr, Call, SuperCall, New}
use Rattle.java_tree.specs.Syntax as tree
use Rattle.java_tree.proofs.Rows as tree_rows
use Rattle.std.specs.declared.boxed.Box.{Box}
use Rattle.std.specs.declared.vec.Vec.{Vec}
use Rattle.kaba_base.specs.declared.Place.{Place}
use Rattle.java_tree.specs.declared.Id.{Id}
use Rattle.std.specs.declared.alloc.Global.{Global}
use Rattle.name_rules.specs.declared.Form.TheVariants.{ThisInStatic}
use Rattle.name_rules.specs.declared.Refusal.{Refusal}
use Rattle.name_rules.specs.declared.Refusal.TheVariants.{NotInProfile}
use Rattle.name_rules.specs.declared.parts.Bound.{Bound}
use Rattle.name_rules.specs.declared.parts.Here.{Here}
use Rattle.name_laws.specs.Tables.{Table}
use Rattle.name_laws.specs.Answers.{GivesValue}
use Rattle.name_laws.specs.Expressions.{ex_last, Receiver, on_super, receiver, class_before, call_meaning, called_on, after, walk, walk_all}
use Rattle.name_bodies.proofs.Steps.{follows}

pub exprs_push : (xs : List RExpr) (e : RExpr) → exprs (xs ++ e ∷ []) ≡ ex_last (exprs xs) (expr_of e)
exprs_push [] e = refl
exprs_push (x ∷ xs) e = ap (ex_then (expr_of x)) (exprs_push xs e)

-- the trees of forms with arguments
pub super_shown : {s : Expr} {n : List ℕ} {p : Place} (args : Vec Expr Global) → s ≡ SuperCall n args p
    → tree.expr_of s ≡ tree.SuperCallOf n (tree.exprs args.items) p
super_shown {n = n} {p = p} args h = ap tree.expr_of h ∙ ap (λ b. tree.SuperCallOf n b p) (tree_rows.exprs_vec args)

pub new_shown : {s : Expr} {c : Id} {p : Place} (args : Vec Expr Global) → s ≡ New c args p → tree.expr_of s ≡ tree.NewOf c (tree.exprs args.items) p
new_shown {c = c} {p = p} args h = ap tree.expr_of h ∙ ap (λ b. tree.NewOf c b p) (tree_rows.exprs_vec args)

pub call_shown : {s : Expr} {b : Option (Box Expr Global)} {n : List ℕ} {p : Place} (args : Vec Expr Global) → s ≡ Call b n args p → b ≡ None
    → tree.expr_of s ≡ tree.CallOf n (tree.exprs args.items) p
call_shown {n = n} {p = p} args h k = ap tree.expr_of (h ∙ ap (λ b. Call b n args p) k) ∙ ap (λ b. tree.CallOf n b p) (tree_rows.exprs_vec args)

pub on_shown : {s : Expr} {b : Option (Box Expr Global)} {x : Box Expr Global} {n : List ℕ} {p : Place} (args : Vec Expr Global) → s ≡ Call b n args p
    → b ≡ Some x → tree.expr_of s ≡ tree.CallOn (tree.expr_of x.value) n (tree.exprs args.items) p
on_shown {x = x} {n = n} {p = p} args h k = ap tree.expr_of (h ∙ ap (λ b. Call b n args p) k) ∙ ap (λ es. tree.CallOn (tree.expr_of x.value) n es p)
    (tree_rows.exprs_vec args)

-- what is given of a tree is given of what it is
pub carry : {A : Type 0} (f : A → Ex × ℕ) (r : Result A Refusal) (t : Table) (h : Here) (scope : List Bound) (k : ℕ) {x y : tree.Expression} → x ≡ y
    → GivesValue f r (walk t h scope k y) → GivesValue f r (walk t h scope k x)
carry f r t h scope k e g = subst (λ z. GivesValue f r (walk t h scope k z)) (sym e) g

-- a call: what it is on, and then the call
pub on_given : {A : Type 0} (f : A → Ex × ℕ) (r : Result A Refusal) (t : Table) (h : Here) (scope : List Bound) (k j : ℕ) (on : Receiver)
    {x e d : tree.Expression} {n : List ℕ} {es : tree.Expressions} {p : Place} → x ≡ tree.CallOn e n es p → d ≡ e →
    receiver t k n p (class_before t h scope d) (walk t h scope k d) ≡ Ok (on, j)
    → GivesValue f r (after (walk_all t h scope no_ex j es) (λ xs. called_on on n xs p)) → GivesValue f r (walk t h scope k x)
on_given f r t h scope k j on {n = n} {es = es} {p = p} shown same given g =
    carry f r t h scope k shown (follows f r (λ r. after (walk_all t h scope no_ex r.1 es) (λ xs. called_on r.0 n xs p))
    (ap (λ d. receiver t k n p (class_before t h scope d) (walk t h scope k d)) (sym same) ∙ given) g)

pub own_given : {A : Type 0} (f : A → Ex × ℕ) (r : Result A Refusal) (t : Table) (h : Here) (scope : List Bound) (k : ℕ) (on : Receiver)
    {x : tree.Expression} {n : List ℕ} {es : tree.Expressions} {p : Place} → x ≡ tree.CallOf n es p → call_meaning t h n p ≡ Ok on
    → GivesValue f r (after (walk_all t h scope no_ex k es) (λ xs. called_on on n xs p)) → GivesValue f r (walk t h scope k x)
own_given f r t h scope k on {n = n} {es = es} {p = p} shown given g =
    carry f r t h scope k shown (follows f r (λ r. after (walk_all t h scope no_ex k es) (λ xs. called_on r n xs p)) given g)

pub super_given : {A : Type 0} (f : A → Ex × ℕ) (r : Result A Refusal) (t : Table) (h : Here) (scope : List Bound) (k : ℕ)
    {x : tree.Expression} {n : List ℕ} {es : tree.Expressions} {p : Place} → x ≡ tree.SuperCallOf n es p → h.is_static ≡ false
    → GivesValue f r (after (walk_all t h scope no_ex k es) (λ xs. called_on on_super n xs p)) → GivesValue f r (walk t h scope k x)
super_given f r t h scope k {n = n} {es = es} {p = p} shown on g =
    let go = after (walk_all t h scope no_ex k es) (λ xs. called_on on_super n xs p) in
    carry f r t h scope k shown (subst (λ b. GivesValue f r (if b then Err (NotInProfile ThisInStatic p) else go)) (sym on) g)
