use Rattle.std.proofs.Common.{◌≡◌, ◌++◌, map, drop}
use Rattle.java_core.specs.Nearest.{number_of, name_numbers}
use Rattle.java_core.proofs.nearest.name_numbers.Given as goal

-- the numbers so far, and those of the rest
abbrev pub invariant-loop-member : goal.invariant-loop-member
invariant-loop-member g l = l.numbers.items ++ map (λ m. number_of g.M.Member.keys l.members m) (drop l.member-index l.members)
    ≡ name_numbers g.M.Member.keys l.members
