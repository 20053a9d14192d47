use Rattle.flow_facts.proofs.Counts.{calls_by_place}
use Rattle.flow_facts.proofs.Walks.{if_ok}
use Rattle.flow_facts.proofs.assembled.calls_in_order.Goals as goal

pub returns : goal.returns
returns c = record {
  value = if_ok c.without_places.result (λ l h. calls_by_place c.args.calls.items _ _ c.in-Ok.ensures.value h) c.without_places.ensures.value;
}
