use Rattle.std.proofs.Common.{◌≡◌, ◌+◌, ◌≤◌, length}
use Rattle.java_lex.specs.Lexing.{lexed, led, start, width}
use Rattle.java_lex.proofs.read.read.Given as goal

abbrev pub invariant-loop-rest : goal.invariant-loop-rest
invariant-loop-rest l = record {
  so_far : led l.tokens.items (lexed l.rest 0 l.place) ≡ lexed l.chars 0 start;
  size : l.place.at + width l.rest ≡ width l.chars;
  line : l.place.line ≤ l.place.at + 1;
}

abbrev pub decreases-loop-rest : goal.decreases-loop-rest
decreases-loop-rest l = length l.rest
