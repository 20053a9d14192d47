use Rattle.std.proofs.Common.{All}
use Rattle.show_facts.specs.Drawn.{IsPair}
use Rattle.show_facts.proofs.drawn.pairs.Given as goal

abbrev pub invariant-loop-k : goal.invariant-loop-k
invariant-loop-k l = All (IsPair l.limit) l.pairs.items
