use Rattle.std.proofs.Common.{◌≡◌, ℕ, ◌≤◌, false, length, inr, ap, ◌∙◌, subst, arith}
use Rattle.std.specs.Prelude.{MatchOption}
use Rattle.kaba_bits.specs.Sets.{row, IsLeastFrom}
use Rattle.java_core.specs.Squares.{in_row}
use Rattle.java_core.proofs.SquareLemmas.{above-past, next-shared}
use Rattle.java_core.proofs.subtypes.Hierarchy.next_below.Goals as goal

pub returns-then-b-len : goal.returns-then-b-len
returns-then-b-len c =
    let rows = c.self.inside.below.items in
    λ t le. above-past (length rows) rows c.args.self.now c.self.view_is t c.args.b (inr (omega arith))

pub returns : goal.returns
returns c =
    let rows = c.self.inside.below.items in
    next-shared (length rows) rows c.args.self.now c.self.view_is c.self.invariant c.args.b c.args.from (omega arith) c.next_in.result
    (subst
    (λ r. MatchOption c.next_in.result ((t : ℕ) → c.args.from ≤ t → in_row r t c.args.b ≡ false) (IsLeastFrom (λ t. in_row r t c.args.b) c.args.from))
    (c.row_at.ensures ∙ ap (λ l. row l c.args.b) c.as_slice.ensures.value) c.next_in.ensures)
