use Rattle.std.proofs.Common.{◌≡◌, ◌++◌, ◌-◌}
use Rattle.std.specs.Prelude.{string_bytes}
use Rattle.flow_rules.specs.Facts.{brackets}
use Rattle.flow_facts.proofs.labels.add_brackets.Given as goal

abbrev pub invariant-loop-i : goal.invariant-loop-i
invariant-loop-i l = string_bytes l.text ++ brackets (l.count - l.i) ≡ string_bytes l.fn.text ++ brackets l.count
