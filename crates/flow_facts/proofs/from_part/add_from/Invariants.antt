use Rattle.std.proofs.Common.{◌≡◌, ◌++◌, drop}
use Rattle.std.specs.List.{flat_map}
use Rattle.flow_facts.specs.Views.{parts_seen}
use Rattle.flow_facts.proofs.from_part.add_from.Given as goal

abbrev pub invariant-loop-part : goal.invariant-loop-part
invariant-loop-part g l = l.list.items ++ flat_map g.T.FromPart.given (parts_seen (drop l.part-index l.parts.items))
    ≡ l.fn.list.items ++ flat_map g.T.FromPart.given (parts_seen l.parts.items)
