-- One empty list more.
use Rattle.std.proofs.Common.{length, ap, ◌∙◌}
use Rattle.flow_facts.specs.Owned.{own_at}
use Rattle.flow_facts.proofs.Owned.{own_pushed, pushed_count}
use Rattle.flow_facts.proofs.cells.no_fields.Goals as goal

pub loop-class-init : goal.loop-class-init
loop-class-init c = record { count = ap length c.new-own.ensures.items; empty = λ k. ap (λ l. own_at l k) c.new-own.ensures.items }

pub loop-class-preserved : goal.loop-class-preserved
loop-class-preserved c = record {
  count = pushed_count c.loop-class.own.items _ c.in-Ok.ensures.value c.loop-class.invariant.count;
  empty = λ k. ap (λ l. own_at l k) c.in-Ok.ensures.value ∙ own_pushed c.loop-class.own.items _ k c.new.ensures.items (c.loop-class.invariant.empty k);
}
