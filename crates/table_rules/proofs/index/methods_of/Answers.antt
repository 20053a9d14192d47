use Rattle.std.proofs.Common.{arith}
use Rattle.std.proofs.lemmas.List.{with_items_is}
use Rattle.table_rules.proofs.index.methods_of.Goals as goal

pub returns : goal.returns
returns c =
    let e = with_items_is c.in_ok-lists.lists c.note_methods.new.lists (omega arith) in
    record { count = rw e (omega arith); methods = rw e c.in_ok-note_methods.ensures }
