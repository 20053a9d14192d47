-- One more argument.
use Rattle.flow_rules.specs.Lists.{tied, row_at}
use Rattle.flow_rules.specs.declared.items.RowItem.TheVariants as row
use Rattle.flow_facts.specs.Seen.{numbers_seen}
use Rattle.flow_facts.proofs.Steps.{each_joined}
use Rattle.flow_facts.proofs.ties.add_slot_args.Goals as goal

pub loop-i-preserved : goal.loop-i-preserved
loop-i-preserved c =
    let N = numbers_seen c.args.n.now in
    each_joined tied (row_at N) (λ j. N.row (row.Param c.args.slot j)) c.args.args.now.items _ c.loop-i.i _ _ _ _ _ _ c.deref-arg-items.ensures.value
    c.loop-i-test.true c.loop-i.invariant c.in-Ok.ensures.value c.row_at.ensures.value c.row.ensures.value
