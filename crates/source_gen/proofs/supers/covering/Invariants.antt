use Rattle.std.proofs.Common.{◌≡◌, map}
use Rattle.std.specs.List.{filter, range_with_len}
use Rattle.write_model.specs.Supers.{is_cover, type_id}
use Rattle.source_gen.proofs.supers.covering.Given as goal

abbrev pub invariant-loop-a : goal.invariant-loop-a
invariant-loop-a l = l.list.items ≡ map (type_id l.nodes.facts.now l.nodes.source.hier.now) (filter (is_cover l.nodes.source.hier.now.order l.n.0)
    (range_with_len 0 l.a))
