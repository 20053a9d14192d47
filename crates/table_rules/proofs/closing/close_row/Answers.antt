use Rattle.std.proofs.Common.{◌∙◌, sym, arith}
use Rattle.std.proofs.lemmas.Bool.{false≢true}
use Rattle.kaba_bits.specs.Sets.{row, IsSubset}
use Rattle.kaba_bits.proofs.StepLemmas.{IsStep-then, closed_below, closed-both}
use Rattle.points_to.proofs.LoopLemmas.{skip_to}
use Rattle.table_rules.specs.Marks.{RowMarked}
use Rattle.table_rules.specs.Asked.{IsClosedAt}
use Rattle.table_rules.proofs.CloseLemmas.{under, row_closed}
use Rattle.table_rules.proofs.closing.close_row.Goals as goal

pub scan-preserved : goal.scan-preserved
scan-preserved c =
    let r = c.args.r in
    let old = c.scan.rows in
    let step = c.join_asked-grew in
    let new = step.new.rows in
    let d = c.in-Some.d in
    let P = IsClosedAt c.args.asked.now r in
    let before = skip_to (P old) (row old r) c.scan.at (λ k none b. absurd (false≢true (sym none ∙ b))) d c.scan.grew c.in-Some.ensures.least
    c.scan.invariant.closed in
    record {
      rows = step.ensures.rows;
      step = IsStep-then c.args.rows.now old new c.scan.grew step.result c.scan.invariant.step step.ensures.step;
      closed = closed_below P old new d c.scan.grew step.result (closed-both (P new d) old new step.result step.ensures.step
          (under (RowMarked new r d) (IsSubset (row c.args.asked.now d) (row new r)) step.result step.ensures.closed)) before;
    }

pub returns-in-None : goal.returns-in-None
returns-in-None c =
    let i = c.scan.invariant in
    row_closed c.args.facts.now c.args.asked.now c.args.rows.now c.scan.rows c.args.r c.scan.at c.scan.grew c.requires.row i.rows i.step
    c.in-None.ensures.least i.closed

pub returns : goal.returns
returns c =
    let i = c.scan.invariant in
    row_closed c.args.facts.now c.args.asked.now c.args.rows.now c.scan.rows c.args.r c.scan.at c.scan.grew c.requires.row i.rows i.step
    (λ k low lt. absurd (omega (arith, low, lt, c.scan-test.false, c.len-width.ensures))) i.closed
