use Rattle.name_bodies.specs.Met.{IsBlock}
use Rattle.name_bodies.proofs.met.block_of.Given as goal

-- the first of them are noted
abbrev pub invariant-loop-k : goal.invariant-loop-k
invariant-loop-k l = IsBlock l.rows l.headings.items l.list l.from l.k l.block
