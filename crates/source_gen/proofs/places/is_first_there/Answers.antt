use Rattle.std.proofs.Common.{◌&&◌, not, sym, ap, ◌∙◌, arith}
use Rattle.fact_model.specs.Items.{column_kind, column_slot}
use Rattle.fact_model.specs.Classes.{is_slot}
use Rattle.hier_model.specs.Hierarchies.{stands_at}
use Rattle.hier_model.proofs.AnyLemmas.{any_below_found}
use Rattle.write_model.specs.Members.{is_declaration}
use Rattle.source_gen.proofs.places.is_first_there.Goals as goal

pub returns-then-is_declared_at : goal.returns-then-is_declared_at
returns-then-is_declared_at c =
    let F = c.args.nodes.now.facts.now in
    let H = c.args.nodes.now.source.hier.now in
    sym (ap not (any_below_found
    (λ d. is_declaration (column_kind F d) && (is_slot (column_slot F d) c.args.x && stands_at H c.args.n.0 d))
    c.args.c c.loop-d.d
    c.loop-d.invariant (omega arith) (sym c.is_declared_at.ensures ∙ c.if-is_declared_at.true)))
