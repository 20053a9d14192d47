use Rattle.std.proofs.Common.{ℕ, ◌<◌}
use Rattle.kaba_bits.specs.Sets.{row}
use Rattle.why_table.specs.Search.{IsRowDone}
use Rattle.why_table.proofs.find.search.in_sets.Given as goal

abbrev pub invariant-loop-a : goal.invariant-loop-a
invariant-loop-a l = (a : ℕ) → a < l.a → IsRowDone l.given.facts.now l.steps l.kind a (row l.sets a)
