use Rattle.std.proofs.Common.{◌≡◌, map}
use Rattle.std.specs.List.{range_with_len}
use Rattle.hier_model.specs.Edits.{renamed_member}
use Rattle.hier_model.proofs.moves.renamed_members.Given as goal

abbrev pub invariant-loop-d : goal.invariant-loop-d
invariant-loop-d l = l.renamed.items ≡ map (renamed_member l.facts l.members l.c l.name) (range_with_len 0 l.d)
