use Rattle.std.proofs.Common.{◌≡◌, ◌+◌, ◌++◌, ℕ, List, length}
use Rattle.edit_script.specs.declared.lines.Line.{Line}
use Rattle.edit_script.specs.Script.{lines_of, AreEditsFrom, AreEditsOf, IsFirstBadFrom, IsFirstBadLine}
use Rattle.edit_script.specs.Lines.{left}
use Rattle.edit_script.proofs.lines.read_script.Given as goal

abbrev pub invariant-loop-line : goal.invariant-loop-line
invariant-loop-line l =
    (l.number + length (left l.lines.rest) ≡ length (lines_of l.bytes.items))
    × ((more : List Line) → AreEditsFrom (l.number + 1) (left l.lines.rest) more → AreEditsOf l.bytes.items (l.all.items ++ more))
    × ((n : ℕ) → IsFirstBadFrom (l.number + 1) (left l.lines.rest) n → IsFirstBadLine l.bytes.items n)

abbrev pub decreases-loop-line : goal.decreases-loop-line
decreases-loop-line l = length (left l.lines.rest)
