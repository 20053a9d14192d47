use Rattle.std.proofs.Common.{◌≡◌, drop, Bool}
use Rattle.std.specs.Fn.{FnReturnsAtPair}
use Rattle.java_compare.specs.Same.{all_same}
use Rattle.java_compare.proofs.pairs.equal_lists.Given as goal

-- equal so far
abbrev pub invariant-loop-i : goal.invariant-loop-i
invariant-loop-i g l = (same : g.row.T.Denot → g.row.T.Denot → Bool)
    → ((x y : g.row.T.Denot) (r : Bool) → FnReturnsAtPair {F = g.row.F.Denot} {T = g.row.T.Denot} {R = Bool} g.F.Fn l.equal x y r → r ≡ same x y)
    → all_same same (drop l.i l.a) (drop l.i l.b) ≡ all_same same l.a l.b
