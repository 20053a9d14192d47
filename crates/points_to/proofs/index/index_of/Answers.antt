use Rattle.std.proofs.Common.{arith}
use Rattle.std.proofs.lemmas.List.{with_items_is}
use Rattle.points_to.proofs.IndexLemmas.{cells_noted}
use Rattle.points_to.proofs.index.index_of.Goals as goal

pub returns : goal.returns
returns c =
    let cells = with_items_is c.in_ok-cells.cells c.note_all.new.lists (omega arith) in
    let bodies = with_items_is c.in_ok-bodies.bodies c.note_all-2.new.lists (omega arith) in
    record {
      cells = rw cells (cells_noted c.args.facts.now c.note_all.new.lists c.in_ok-note_all.ensures);
      bodies = rw bodies c.in_ok-note_all-2.ensures;
      chains = c.in_ok-chains.ensures;
      below = c.in_ok-below.ensures;
    }
