use Rattle.std.proofs.Common.{rules}
use Rattle.flow_facts.proofs.Sorting.{sorted_by_closure}
use Rattle.flow_facts.proofs.ordered.by_place.Goals as goal

pub returns : goal.returns
returns g c = record {
  value = sorted_by_closure g.T.HasPlace.at _ _ c.in_ok-sort_by_key.ensures.sorted c.in_ok-sort_by_key.ensures.stable
      (λ a r q k. search rules);
}
