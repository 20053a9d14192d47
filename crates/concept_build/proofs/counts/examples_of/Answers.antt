use Rattle.std.proofs.Common.{arith}
use Rattle.std.proofs.lemmas.List.Sorted.{length_permutation}
use Rattle.concept_build.proofs.ExampleLemmas.{AreExamples-permutation}
use Rattle.concept_build.proofs.counts.examples_of.Goals as goal

pub returns-clause-examples : goal.returns-clause-examples
returns-clause-examples c = AreExamples-permutation c.args.table.now c.in_ok-examples.examples.items c.sort_by_key.new.self.items
    c.in_ok-sort_by_key.ensures.permutation c.in_ok-examples.ensures.examples

pub returns-clause-few : goal.returns-clause-few
returns-clause-few c = omega (
  arith,
  c.in_ok-examples.ensures.few,
  length_permutation c.in_ok-examples.examples.items c.sort_by_key.new.self.items
      c.in_ok-sort_by_key.ensures.permutation,
)
