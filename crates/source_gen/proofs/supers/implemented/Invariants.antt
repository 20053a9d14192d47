use Rattle.std.proofs.Common.{◌≡◌, ◌&&◌, not, map}
use Rattle.std.specs.List.{filter, range_with_len}
use Rattle.hier_model.specs.Hierarchies.{is_class_node}
use Rattle.write_model.specs.Supers.{is_cover, type_id}
use Rattle.source_gen.proofs.supers.implemented.Given as goal

abbrev pub invariant-loop-a : goal.invariant-loop-a
invariant-loop-a l =
    l.list.items
    ≡ map (type_id l.nodes.facts.now l.nodes.source.hier.now)
    (filter (λ a. is_cover l.nodes.source.hier.now.order l.n.0 a && not (is_class_node l.nodes.facts.now l.nodes.source.hier.now a)) (range_with_len 0 l.a))
