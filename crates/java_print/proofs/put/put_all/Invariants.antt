use Rattle.std.proofs.Common.{◌≡◌, ◌++◌, take}
use Rattle.std.specs.List.{flat_map}
use Rattle.std.specs.Str.{encode_utf8_all}
use Rattle.java_lex.specs.Printing.{written}
use Rattle.java_print.proofs.put.put_all.Given as goal

abbrev pub invariant-loop-c : goal.invariant-loop-c
invariant-loop-c l = l.into.items ≡ l.fn.into.items ++ encode_utf8_all (flat_map written (take l.c-index l.chars))
