use Rattle.std.proofs.Common.{◌≡◌, ◌++◌, drop, string_bytes}
use Rattle.stem_base.specs.Base.{all_sides}
use Rattle.stem_base.specs.Text.{implications_text}
use Rattle.stem_base.proofs.text.add_implications.Given as goal

-- with the lines that are left, it is the whole
abbrev pub invariant-loop-k : goal.invariant-loop-k
invariant-loop-k l = string_bytes l.text ++ implications_text l.k (all_sides (drop l.k l.base))
    ≡ string_bytes l.fn.text ++ implications_text 0 (all_sides l.base)
