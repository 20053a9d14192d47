use Rattle.points_to.specs.Above.{AreSitesBelow}
use Rattle.points_to.proofs.above.put_sites.Given as goal

-- the rows have the first sites
abbrev pub invariant-loop-s : goal.invariant-loop-s
invariant-loop-s l = AreSitesBelow l.facts l.s l.rows
