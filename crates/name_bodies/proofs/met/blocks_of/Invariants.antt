use Rattle.std.proofs.Common.{◌≡◌, length}
use Rattle.name_bodies.specs.Met.{AreBlocks}
use Rattle.name_bodies.proofs.met.blocks_of.Given as goal

-- so many blocks are made
abbrev pub invariant-loop-number : goal.invariant-loop-number
invariant-loop-number l = (length l.blocks.items ≡ l.number) × AreBlocks l.rows l.headings.items l.list l.blocks.items
