use Rattle.kaba_bits.proofs.StepLemmas.{IsStep-then, closed_below, closed-both}
use Rattle.table_rules.specs.Asked.{IsRowClosed}
use Rattle.table_rules.proofs.closing.close_rows.Goals as goal

pub loop-r-preserved : goal.loop-r-preserved
loop-r-preserved c =
    let P = IsRowClosed c.args.asked.now in
    let r = c.loop-r.r in
    let old = c.loop-r.rows in
    let step = c.close_row-grew in
    let new = step.new.rows in
    record {
      rows = step.ensures.rows;
      step = IsStep-then c.args.rows.now old new c.loop-r.grew step.result c.loop-r.invariant.step step.ensures.step;
      closed = closed_below P old new r c.loop-r.grew step.result (closed-both (P new r) old new step.result step.ensures.step step.ensures.closed)
          c.loop-r.invariant.closed;
    }
