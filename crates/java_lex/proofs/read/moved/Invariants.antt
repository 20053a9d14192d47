use Rattle.std.proofs.Common.{◌≡◌, ◌+◌, ◌≤◌, drop}
use Rattle.java_lex.specs.Lexing.{moved, width}
use Rattle.java_lex.proofs.read.moved.Given as goal

abbrev pub invariant-loop-c : goal.invariant-loop-c
invariant-loop-c l = record {
  so_far : moved l.now (drop l.c-index l.chars) ≡ moved l.fn.place l.chars;
  size : l.now.at + width (drop l.c-index l.chars) ≡ l.fn.place.at + width l.chars;
  line : l.now.line ≤ l.now.at + 1;
}
