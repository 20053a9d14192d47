use Rattle.std.proofs.Common.{◌≡◌, drop, Bool}
use Rattle.std.specs.Fn.{FnReturnsAt}
use Rattle.java_core.specs.Owned.{first_among}
use Rattle.java_core.proofs.owned.first_among.Given as goal

-- none so far
abbrev pub invariant-loop-at : goal.invariant-loop-at
invariant-loop-at g l = (p : g.row.T.Denot → Bool)
    → ((x : g.row.T.Denot) (r : Bool) → FnReturnsAt {F = g.row.F.Denot} {T = g.row.T.Denot} {R = Bool} g.F.Fn l.test x r → r ≡ p x)
    → first_among p l.items (drop l.at-index l.list) ≡ first_among p l.items l.list
