use Rattle.std.proofs.Common.{◌≡◌, ◌+◌, length}
use Rattle.java_lex.specs.Piece.{behind, quoted}
use Rattle.java_lex.proofs.scan.string_body.Given as goal

abbrev pub invariant-loop-rest : goal.invariant-loop-rest
invariant-loop-rest l = record {
  so_far : behind l.units.items l.at (quoted l.rest) ≡ quoted l.chars;
  size : l.at + length l.rest ≡ length l.chars;
}

abbrev pub decreases-loop-rest : goal.decreases-loop-rest
decreases-loop-rest l = length l.rest
