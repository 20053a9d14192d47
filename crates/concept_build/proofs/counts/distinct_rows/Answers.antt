use Rattle.std.proofs.Common.{◌≡◌, ap, ◌∙◌, arith}
use Rattle.kaba_bits.specs.Sets.{row, rising}
use Rattle.concept_build.specs.Lists.{lists_of}
use Rattle.concept_build.proofs.ExampleLemmas.{Listed-push, Listed-skip, AreExamples-listed}
use Rattle.concept_build.proofs.counts.distinct_rows.Goals as goal
use Rattle.concept_build.proofs.counts.distinct_rows.Goals.{then-branch+in_ok-push, else-branch}

pub loop-r-preserved : goal.loop-r-preserved
loop-r-preserved c =
    let T = c.args.table.now in
    let r = c.loop-r.r in
    let xs = c.loop-r.examples.items in
    let keys = lists_of c.loop-r.known.keys in
    let new = lists_of c.is_new.new.known.keys in
    let is : c.in_ok-rising.field-0.items ≡ rising (row T r) = c.in_ok-rising.ensures.list ∙ ap rising c.row_at.ensures in
    elim c.if-branch.branch [
      | then-branch+in_ok-push w ↦
          let o = rw (w.if-branch.true, is) at c.in_ok-is_new.ensures in
          rw (w.examples-is, w.in_ok-push.ensures.items) (Listed-push T r xs keys new c.loop-r.invariant (omega arith) o.0)
      | else-branch w ↦
          let o = rw (w.if-branch.false, is) at c.in_ok-is_new.ensures in
          rw w.examples-is (Listed-skip T r xs keys new c.loop-r.invariant (omega arith) c.args.width c.requires.widths o.0 o.1)
    ]

pub returns-clause-few : goal.returns-clause-few
returns-clause-few c = omega (arith, c.loop-r.invariant.few)

pub returns-clause-examples : goal.returns-clause-examples
returns-clause-examples c = AreExamples-listed c.args.table.now c.loop-r.r c.loop-r.examples.items (lists_of c.loop-r.known.keys) (omega arith)
    c.loop-r.invariant
