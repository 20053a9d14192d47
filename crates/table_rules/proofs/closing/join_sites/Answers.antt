use Rattle.std.proofs.Common.{◌∙◌, refl, sym}
use Rattle.std.proofs.lemmas.Bool.{false≢true}
use Rattle.kaba_bits.specs.Sets.{row}
use Rattle.kaba_bits.proofs.StepLemmas.{IsStep-then, closed_below, closed-both}
use Rattle.points_to.proofs.LoopLemmas.{skip_to}
use Rattle.table_rules.specs.Closed.{IsSiteClosedAt}
use Rattle.table_rules.proofs.closing.join_sites.Goals as goal

pub returns-then-is_empty : goal.returns-then-is_empty
returns-then-is_empty c =
    let empty = rw c.row_at.ensures at (c.if-is_empty.ensures.empty.0 refl) in
    record { rows = c.requires.rows; step = refl; closed = λ o lt m k h. absurd (false≢true (sym (empty k) ∙ h)) }

pub scan-preserved : goal.scan-preserved
scan-preserved c =
    let sets = c.args.given.now.pt.now.rows.items in
    let v = c.args.v in
    let old = c.scan.rows in
    let step = c.join_site-grew in
    let new = step.new.rows in
    let o = c.in-Some.o in
    let P = IsSiteClosedAt c.args.given.now.facts.now sets v in
    let before = skip_to (P old) (row sets v) c.scan.at (λ k none b. absurd (false≢true (sym none ∙ b))) o c.scan.grew c.in-Some.ensures.least
    c.scan.invariant.closed in
    record {
      rows = step.ensures.rows;
      step = IsStep-then c.args.rows.now old new c.scan.grew step.result c.scan.invariant.step step.ensures.step;
      closed = closed_below P old new o c.scan.grew step.result (closed-both (P new o) old new step.result step.ensures.step step.ensures.closed) before;
    }
