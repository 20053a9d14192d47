use Rattle.std.proofs.Common.{ℕ, ◌<◌, length, arith}
use borrow.Author.Count.{below_more}
use Rattle.table_rules.specs.Asked.{IsNoted}
use Rattle.table_rules.proofs.AskLemmas.{noted_more}
use Rattle.table_rules.proofs.asked.note_columns.Goals as goal

pub loop-d-preserved : goal.loop-d-preserved
loop-d-preserved c =
    let F = c.args.facts.now in
    let a = c.loop-d.columns.asked.items in
    let h = c.loop-d.columns.hidden.items in
    let step = c.note_column.ensures.step in
    let b = c.note_column.new.columns.asked.items in
    let j = c.note_column.new.columns.hidden.items in
    record {
      columns = step.are;
      here = below_more (λ d. (k : ℕ) → k < length F.columns.items → IsNoted F b j d k) c.loop-d.d
          (λ d lt k below. noted_more F a b step.asked h j d k step.hidden (c.loop-d.invariant.here d lt k below)) c.note_column.ensures.here;
    }

pub returns-clause-asked : goal.returns-clause-asked
returns-clause-asked c = record {
  pairs = c.loop-d.invariant.columns.asked;
  declared = λ d k ld lk by. (c.loop-d.invariant.here d (omega (arith, ld)) k lk).by_body by;
}

pub returns-clause-hidden : goal.returns-clause-hidden
returns-clause-hidden c = record {
  pairs = c.loop-d.invariant.columns.hidden;
  all = λ d k ld lk by. (c.loop-d.invariant.here d (omega (arith, ld)) k lk).by_hiding by;
}
