-- The sets of points come first, and then those of cells.
use Rattle.std.proofs.Common.{◌≡◌, ℕ, ◌+◌, ◌-◌, ◌<◌, true, false, cond, nat_lt, length, sym, ap, subst, arith}
use Rattle.std.proofs.lemmas.Bool.Decides.{nat_tests}
use Rattle.fact_model.specs.Flowing.{Fact, in_point, in_cell, Holds}
use Rattle.fact_model.specs.declared.facts.Facts.{Facts}
use Rattle.points_to.specs.Sound.{InNode}

is_point : (n m : ℕ) (a b : Fact) → n < m → cond (nat_lt n m) a b ≡ a
is_point n m a b lt = let e : nat_lt n m ≡ true = grind (arith, nat_tests) in ap (λ t. cond t a b) e

is_cell : (c m : ℕ) (a b : Fact) → cond (nat_lt (m + c) m) a b ≡ b
is_cell c m a b = let e : nat_lt (m + c) m ≡ false = grind (arith, nat_tests) in ap (λ t. cond t a b) e

module _ (F : Facts) where
  pub point_node : (p s : ℕ) → p < length F.points.items → Holds F (in_point p s) → InNode F p s
  unfolding InNode
  point_node p s lt h = subst (Holds F) (sym (is_point p (length F.points.items) (in_point p s) (in_cell (p - length F.points.items) s) lt)) h

  pub node_point : (p s : ℕ) → p < length F.points.items → InNode F p s → Holds F (in_point p s)
  unfolding InNode
  node_point p s lt h = subst (Holds F) (is_point p (length F.points.items) (in_point p s) (in_cell (p - length F.points.items) s) lt) h

  pub cell_node : (c s : ℕ) → Holds F (in_cell c s) → InNode F (length F.points.items + c) s
  unfolding InNode
  cell_node c s h =
      let n = length F.points.items in
      let e : n + c - n ≡ c = omega arith in
      subst (Holds F) (sym (is_cell c n (in_point (n + c) s) (in_cell (n + c - n) s))) (subst (λ k. Holds F (in_cell k s)) (sym e) h)

  pub node_cell : (c s : ℕ) → InNode F (length F.points.items + c) s → Holds F (in_cell c s)
  unfolding InNode
  node_cell c s h =
      let n = length F.points.items in
      let e : n + c - n ≡ c = omega arith in
      subst (λ k. Holds F (in_cell k s)) e (subst (Holds F) (is_cell c n (in_point (n + c) s) (in_cell (n + c - n) s)) h)
