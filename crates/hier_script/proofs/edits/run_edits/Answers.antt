use Rattle.std.proofs.Common.{sym, subst, ap, ◌∙◌, [], ◌++◌}
use Rattle.hier_script.specs.Histories.{IsUnderWay}
use Rattle.hier_script.proofs.HistoryLemmas.{under_way, further_at}
use Rattle.hier_script.proofs.edits.run_edits.Goals as goal

pub loop-line-init : goal.loop-line-init
loop-line-init c =
    let F = c.args.facts.now in
    let pt = c.args.sets.now in
    let H = c.args.hier.now in
    let lines = c.args.lines.now in
    subst (λ us. IsUnderWay F pt H lines lines H us c.new-refusals.result.items) (sym c.new-undos.ensures.items)
    (subst (IsUnderWay F pt H lines lines H []) (sym c.new-refusals.ensures.items)
    (under_way F pt H lines (record { is = c.requires.hierarchy; meets = c.requires.meets })))

pub loop-line-preserved : goal.loop-line-preserved
loop-line-preserved c =
    further_at c.args.facts.now c.args.sets.now c.args.hier.now c.args.lines.now c.loop-line.line-index c.line-item.result c.loop-line.hier
    c.run_act.new.hier c.loop-line.undos.items c.run_act.new.undos.items c.loop-line.refusals.items _ c.extend_from_slice.new.self.items
    c.loop-line-test.true c.line-item.is c.loop-line.invariant c.in_ok-refusal.ensures.history c.in_ok-refusal.ensures.refusal
    (c.in_ok-extend_from_slice.ensures.items ∙ ap (λ text. c.loop-line.refusals.items ++ text) c.as_bytes.ensures.value)
