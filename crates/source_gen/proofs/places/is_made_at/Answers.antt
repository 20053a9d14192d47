use Rattle.std.proofs.Common.{◌==◌, ◌&&◌, length, sym, ◌∙◌, arith}
use Rattle.fact_model.specs.Items.{site_at, site_row}
use Rattle.hier_model.specs.Hierarchies.{place_of_row}
use Rattle.hier_model.proofs.AnyLemmas.{any_below_found}
use Rattle.source_gen.proofs.places.is_made_at.Goals as goal

pub returns-then-is_object_at : goal.returns-then-is_object_at
returns-then-is_object_at c =
    let F = c.args.nodes.now.facts.now in
    let H = c.args.nodes.now.source.hier.now in
    sym (any_below_found
    (λ s. ((site_at F s).dim == 0) && (place_of_row H (site_row F s) == c.args.n.0))
    (length F.sites.items) c.loop-s.s c.loop-s.invariant (omega arith)
    (sym c.is_object_at.ensures ∙ c.if-is_object_at.true))
