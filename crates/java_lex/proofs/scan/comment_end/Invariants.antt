use Rattle.std.proofs.Common.{◌≡◌, drop, ◌-◌, length}
use Rattle.java_lex.specs.Piece.{on, comment_end}
use Rattle.java_lex.proofs.scan.comment_end.Given as goal

abbrev pub invariant-loop-at : goal.invariant-loop-at
invariant-loop-at l = on l.at (comment_end (drop l.at l.rest)) ≡ comment_end l.rest

abbrev pub decreases-loop-at : goal.decreases-loop-at
decreases-loop-at l = length l.rest - l.at
