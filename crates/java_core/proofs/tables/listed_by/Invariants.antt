use Rattle.std.proofs.Common.{◌≡◌, ℕ, ◌++◌, drop, map, length}
use Rattle.java_core.specs.Owned.{listed, owned_from}
use Rattle.java_core.specs.Tables.{place_by}
use Rattle.java_core.proofs.tables.listed_by.Given as goal

-- the numbers so far, and those of the rest
abbrev pub invariant-loop-k : goal.invariant-loop-k
invariant-loop-k g l = (c : ℕ) → listed l.lists.items c ++ owned_from l.k c (map (λ m. place_by l.by (length l.list) (g.M.Member.keys m)) (drop l.k l.list))
    ≡ owned_from 0 c (map (λ m. place_by l.by (length l.list) (g.M.Member.keys m)) l.list)
