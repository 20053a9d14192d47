use Rattle.std.proofs.Common.{false, arith}
use Rattle.points_to.proofs.LoopLemmas.{pass_to}
use borrow.Author.Count.{below_more}
use Rattle.table_rules.specs.Asked.{IsMetAt, is_beyond}
use Rattle.table_rules.proofs.AskLemmas.{met_more, grow_then, met-plain, all-met}
use Rattle.table_rules.proofs.closing.meet_row.Goals as goal

pub scan-preserved : goal.scan-preserved
scan-preserved c =
    let F = c.args.given.now.facts.now in
    let rows = c.args.rows.now in
    let q = c.args.q in
    let old = c.scan.asked in
    let step = c.meet_at.ensures in
    let new = c.meet_at.new.asked in
    let d = c.in-Some.d in
    let plain = c.args.given.now.index.now.plain in
    let before = pass_to (IsMetAt F rows old q) (is_beyond plain rows q) c.scan.at
    (met-plain F rows old q plain c.requires.state.entries c.requires.given.index.plain) d false c.in-Some.ensures.least c.scan.invariant.met in
    record {
      state = record { flows = step.asked; width = step.both; entries = c.scan.invariant.state.entries };
      grows = grow_then c.args.asked.now old new c.scan.invariant.grows step.grows;
      met = below_more (IsMetAt F rows new q) d (λ k lt. met_more F old new step.grows rows q k (before k lt)) step.met;
    }

pub returns-in-None-clause-met : goal.returns-in-None-clause-met
returns-in-None-clause-met c = all-met c.args.given.now.facts.now c.args.rows.now c.scan.asked c.args.q c.args.given.now.index.now.plain c.scan.at
    c.requires.state.entries
    c.requires.given.index.plain c.in-None.ensures.least c.scan.invariant.met

pub returns-clause-met : goal.returns-clause-met
returns-clause-met c = all-met c.args.given.now.facts.now c.args.rows.now c.scan.asked c.args.q c.args.given.now.index.now.plain c.scan.at
    c.requires.state.entries
    c.requires.given.index.plain (λ k low lt. absurd (omega (arith, low, lt, c.scan-test.false, c.len-width.ensures))) c.scan.invariant.met
