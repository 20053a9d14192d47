use Rattle.std.proofs.Common.{◌≡◌, ◌&&◌, false}
use Rattle.hier_model.specs.Hierarchies.{any_below, stands_at}
use Rattle.fact_model.specs.Items.{column_kind, column_slot}
use Rattle.fact_model.specs.Classes.{is_slot}
use Rattle.write_model.specs.Members.{is_declaration}
use Rattle.source_gen.proofs.places.is_first_there.Given as goal

abbrev pub invariant-loop-d : goal.invariant-loop-d
invariant-loop-d l = any_below l.d (λ d. is_declaration (column_kind l.nodes.facts.now d) &&
    (is_slot (column_slot l.nodes.facts.now d) l.x && stands_at l.nodes.source.hier.now l.n.0 d)) ≡ false
