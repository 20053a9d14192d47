use Rattle.concept_build.specs.Lists.{lists_of}
use Rattle.concept_build.proofs.ExampleLemmas.{Listed}
use Rattle.concept_build.proofs.counts.distinct_rows.Given as goal

abbrev pub invariant-loop-r : goal.invariant-loop-r
invariant-loop-r l = Listed l.table l.r l.examples.items (lists_of l.known.keys)
