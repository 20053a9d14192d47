use Rattle.std.proofs.Common.{◌≡◌, ◌++◌, drop, string_bytes}
use Rattle.sure_report.specs.Text.{lines, call_line}
use Rattle.sure_report.proofs.text.add_calls.Given as goal

-- with the lines that are left, it is the whole
abbrev pub invariant-loop-k : goal.invariant-loop-k
invariant-loop-k l = string_bytes l.text ++ lines (call_line l.facts) (drop l.k l.spots) (drop l.k l.calls)
    ≡ string_bytes l.fn.text ++ lines (call_line l.facts) l.spots l.calls
