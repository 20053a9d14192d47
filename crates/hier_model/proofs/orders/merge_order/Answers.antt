use Rattle.std.proofs.Common.{◌≡◌, refl, sym, ap, ◌∙◌}
use Rattle.hier_model.specs.Edits.{merged_order}
use Rattle.hier_model.proofs.MergedLemmas.{least_is, merged_is, merged_none, merged_fault}
use Rattle.hier_model.proofs.orders.merge_order.Goals as goal

pub returns-in-Ok-clause-order : goal.returns-in-Ok-clause-order
returns-in-Ok-clause-order c =
    let o = c.args.order.now in
    let set = c.args.set.now.items in
    merged_is o o c.merge_set.new.self set refl c.in-Ok.merged.node.0 c.in-Ok.ensures.least c.in-Ok.ensures.pairs
    ∙ ap (merged_order o set) (sym (least_is o set c.requires.order c.requires.live c.in-Ok.merged.node.0 c.in-Ok.ensures.node))

pub returns-in-Ok-clause-none : goal.returns-in-Ok-clause-none
returns-in-Ok-clause-none c = merged_none c.args.order.now c.args.order.now c.args.set.now.items c.in-Ok.merged c.requires.order refl c.in-Ok.ensures.cycle

pub returns-in-Err-clause-fault : goal.returns-in-Err-clause-fault
returns-in-Err-clause-fault c =
    rw c.fault_of.ensures (merged_fault c.args.order.now c.args.order.now c.args.set.now.items c.in-Err.fault c.requires.order refl c.in-Err.ensures.cycle)
