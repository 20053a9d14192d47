use Rattle.std.proofs.Common.{◌≡◌, ◌==◌, ◌&&◌, false}
use Rattle.hier_model.specs.Hierarchies.{any_below, place_of_row}
use Rattle.fact_model.specs.Items.{site_at, site_row}
use Rattle.source_gen.proofs.places.is_made_at.Given as goal

abbrev pub invariant-loop-s : goal.invariant-loop-s
invariant-loop-s l = any_below l.s (λ s. ((site_at l.nodes.facts.now s).dim == 0) && (place_of_row l.nodes.source.hier.now (site_row l.nodes.facts.now s)
    == l.n.0)) ≡ false
