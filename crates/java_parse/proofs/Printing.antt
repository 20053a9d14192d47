-- What a call prints, as the program sees it.
use Rattle.std.proofs.Common.{◌≡◌, ℕ, suc, ◌-◌, ◌<◌, List, [], ◌∷◌, length, Bool, true, false, Option, Some, None, IsSome, slice_index_or, codes, refl, sym, ap, ◌∙◌, subst, arith}
use Rattle.std.proofs.lemmas.Bool.{lt-leb}
use Rattle.std.specs.Prelude.{nat_lt}
use Rattle.std.specs.Option.{option_map}
use Rattle.std.specs.declared.vec.Vec.{Vec}
use Rattle.std.specs.declared.boxed.Box.{Box}
use Rattle.std.specs.declared.alloc.Global.{Global}
use Rattle.kaba_base.specs.declared.Place.{Place}
use Rattle.java_tree.specs.declared.Expr.{Expr, Call}
use Rattle.java_tree.specs.Syntax.{Expression, expr_of, exprs, value_of}
use Rattle.java_tree.specs.Statements.{is_called, is_out, output_call, printed_args, printed_by}
use Rattle.java_tree.proofs.Rows.{exprs_vec}
use Rattle.java_tree.proofs.Outputs.{output_is, output_none}
use Rattle.java_parse.specs.Prints.{print_kind}
use Rattle.java_parse.proofs.Fronts.{bool_cases}

abbrev pub ends_line : Option (Bool × Option Expression) → Option Bool
ends_line o = option_map (λ (x : Bool × Option Expression). x.0) o

kind_args : (n : List ℕ) (xs : List Expr) → print_kind n (length xs) ≡ ends_line (printed_args n (exprs xs))
kind_args n [] = bool_cases (is_called n (codes "println")) (λ yes. rw yes refl) (λ no. rw no refl)
kind_args n (x ∷ []) = bool_cases (is_called n (codes "println")) (λ yes. rw yes refl)
    (λ no. rw no (bool_cases (is_called n (codes "print")) (λ yes. rw yes refl) (λ no2. rw no2 refl)))
kind_args n (x ∷ (y ∷ xs)) =
    let f : nat_lt (length (x ∷ (y ∷ xs))) 2 ≡ false = lt-leb (suc (length (x ∷ (y ∷ xs)))) 2 (omega arith) in
    rw f refl

pub prints_as : (e : Expression) (n : List ℕ) (xs : List Expr) → Some (n, exprs xs) ≡ output_call e → print_kind n (length xs) ≡ ends_line (printed_by e)
prints_as e n xs h = kind_args n xs ∙ sym (ap ends_line (output_is e (sym h)))

pub prints_none : (e : Expression) → None ≡ output_call e → None ≡ ends_line (printed_by e)
prints_none e h = sym (ap ends_line (output_none e (sym h)))

list_arg : (n : List ℕ) (xs : List Expr) (k : ℕ) (r : Option Expr) → k ≡ length xs → ((d : Expr) → 0 < k → r ≡ Some (slice_index_or xs (k - 1) d))
    → (IsSome r → 0 < k) →
    (l : Bool) (v : Option Expression) → printed_args n (exprs xs) ≡ Some (l, v) → value_of r ≡ v
list_arg n [] k None q h s l v p = bool_cases (is_called n (codes "println"))
    (λ yes. let g = rw yes at p in let e : ◌≡◌ {A = Bool × Option Expression} (true, None) (l, v) = cc in ap (λ (x : Bool × Option Expression). x.1) e)
    (λ no. let g = rw no at p in cc)
list_arg n [] k (Some x) q h s l v p = absurd (omega (arith, s refl, q))
list_arg n (x ∷ []) k r q h s l v p =
    let one : k ≡ 1 = q in
    let g : r ≡ Some (slice_index_or (x ∷ []) (k - 1) x) = h x (omega (arith, one)) in
    let f : r ≡ Some x = subst (λ (k : ℕ). r ≡ Some (slice_index_or (x ∷ []) (k - 1) x)) one g in
    ap value_of f ∙ bool_cases (is_called n (codes "println"))
    (λ yes. let g = rw yes at p in let e : ◌≡◌ {A = Bool × Option Expression} (true, Some (expr_of x)) (l, v) = cc in ap
    (λ (x : Bool × Option Expression). x.1) e)
    (λ no. let g = rw no at p in bool_cases (is_called n (codes "print"))
    (λ yes. let k = rw yes at g in let e : ◌≡◌ {A = Bool × Option Expression} (false, Some (expr_of x)) (l, v) = cc in ap
    (λ (x : Bool × Option Expression). x.1) e)
    (λ no2. let k = rw no2 at g in cc))
list_arg n (x ∷ (y ∷ xs)) k r q h s l v p = cc

call_printed : (o : Option (Box Expr Global)) (n : List ℕ) (v : Vec Expr Global) (p : Place) (l : Bool) (a : Option Expression)
    → printed_by (expr_of (Call o n v p)) ≡ Some (l, a) → printed_args n (exprs v.items) ≡ Some (l, a)
call_printed None n v p l a h = cc
call_printed (Some b) n v p l a h = bool_cases (is_out (expr_of b.value))
    (λ yes. let g = rw yes at h in sym (ap (printed_args n) (exprs_vec v)) ∙ g)
    (λ no. let g = rw no at h in cc)

pub argument_is : {e : Expr} (o : Option (Box Expr Global)) (n : List ℕ) (w : Vec Expr Global) {p : Place} (k : ℕ) (r : Option Expr)
    → e ≡ Call o n w p → k ≡ length w.items →
    ((d : Expr) → 0 < k → r ≡ Some (slice_index_or w.items (k - 1) d)) → (IsSome r → 0 < k) → (l : Bool) (v : Option Expression)
    → printed_by (expr_of e) ≡ Some (l, v) → value_of r ≡ v
argument_is o n w {p = p} k r h q a s l v g =
    list_arg n w.items k r q a s l v (call_printed o n w p l v (sym (ap (λ (e : Expr). printed_by (expr_of e)) h) ∙ g))
