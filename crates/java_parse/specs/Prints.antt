-- Mirror. Which calls print, by their names and the count of their arguments.
use Rattle.std.specs.Prelude.{ℕ, List, codes, Bool, true, false, Option, Some, None, if◌then◌else◌, ◌&&◌, nat_lt}
use Rattle.java_tree.specs.Statements.{is_called}

-- whether a call of this name with k arguments upon `System.out` prints, and then whether it ends the line
abbrev pub print_kind : List ℕ → ℕ → Option Bool
print_kind n k = if nat_lt k 2 && is_called n (codes "println") then Some true else if nat_lt k 2 && nat_lt 0 k && is_called n (codes "print") then
    Some false else None
