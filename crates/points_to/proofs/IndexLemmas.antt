-- Lists of lists: one element more, and what a loop over the facts lists.
use Rattle.std.proofs.Common.{◌≡◌, ℕ, ◌+◌, ◌<◌, List, length, Contains, None, sym, ◌∙◌, subst, arith, ⊎_elim}
use Rattle.std.specs.List.{All}
use Rattle.std.specs.declared.vec.Vec.{Vec}
use Rattle.std.specs.declared.alloc.Global.{Global}
use Rattle.std.proofs.lemmas.Bool.{cases_lt}
use Rattle.std.proofs.lemmas.List.{get_or_default}
use Rattle.fact_model.specs.Items.{cell_at}
use Rattle.fact_model.specs.declared.facts.Facts.{Facts}
use Rattle.points_to.specs.Listed.{numbers_at, IsElementAt, KeepNumbers, HaveItems, HaveCells}

pub at_same : {X : Type 0} (xs : List X) (i : ℕ) (x y : X) → IsElementAt xs i x → IsElementAt xs i y → x ≡ y
at_same xs i x y a b = sym a.1 ∙ (get_or_default xs i x y a.0 ∙ b.1)

pub at_contains : {X : Type 0} (xs : List X) (i : ℕ) (x : X) → IsElementAt xs i x → Contains xs x
at_contains xs i x a = (i, a.0, a.1)

-- what holds of each element holds of the one at a place
pub at_all : {X : Type 0} (P : X → Type 0) (xs : List X) (i : ℕ) (x : X) → All P xs → IsElementAt xs i x → P x
at_all P xs i x all a = subst P a.1 (all i x a.0)

-- one number on
pub next_number : (P : ℕ → Type 0) (i : ℕ) → ((k : ℕ) → k < i → P k) → P i → (k : ℕ) → k < i + 1 → P k
next_number P i before here k lt = ⊎_elim (λ b. before k b) (λ past. let e : i ≡ k = omega (arith, past, lt) in subst P e here) (cases_lt k i)

-- one item on
pub items_more : {X : Type 0} (to : X → ℕ) (xs : List X) (old new : List (Vec ℕ Global)) (i : ℕ) (y : X) → KeepNumbers old new → IsElementAt xs i y
    → Contains (numbers_at new (to y)) i → HaveItems to xs old i → HaveItems to xs new (i + 1)
items_more {X} to xs old new i y kept is here before =
    next_number (λ k. (x : X) → IsElementAt xs k x → Contains (numbers_at new (to x)) k) i
    (λ k lt x a. kept.each (to x) k (before k lt x a))
    (λ x a. subst (λ z. Contains (numbers_at new (to z)) i) (at_same xs i y x is a) here)

-- the cells, by their number
pub cells_noted : (F : Facts) (lists : List (Vec ℕ Global)) → HaveItems (λ x. x.site.0) F.cells.items lists (length F.cells.items)
    → HaveCells F lists (length F.cells.items)
cells_noted F lists noted c lt =
    noted c lt (cell_at F c)
    (lt, get_or_default F.cells.items c (cell_at F c) (record { site = record { 0 = 0 }; column = None; row = record { 0 = 0 } }) lt)
