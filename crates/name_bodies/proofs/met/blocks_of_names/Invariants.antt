use Rattle.std.proofs.Common.{◌≡◌, length}
use Rattle.name_bodies.specs.Met.{AreBlocksOf}
use Rattle.name_bodies.proofs.met.blocks_of_names.Given as goal

-- those of the first methods are made
abbrev pub invariant-loop-at : goal.invariant-loop-at
invariant-loop-at l = (length l.all.items ≡ l.at) × AreBlocksOf l.rows l.headings.items l.spots l.all.items
