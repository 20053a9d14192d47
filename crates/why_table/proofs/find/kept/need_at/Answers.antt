use Rattle.std.proofs.Common.{ℕ, List, subst, sym, ◌∙◌}
use Rattle.why_table.specs.Kept.{AddsAll}
use Rattle.why_table.proofs.KeptLemmas.{needed_more, needed_clear}
use Rattle.why_table.proofs.find.kept.need_at.Goals as goal

pub returns-then-has : goal.returns-then-has
returns-then-has c =
    let s = c.step_at.result.now in
    needed_more c.args.steps.now c.args.goal c.args.k c.args.marks.now c.mark_all.new.marks s c.requires.marks c.step_at.ensures
    (sym c.has.ensures ∙ c.if-has.true) (subst (λ (l : List ℕ). AddsAll l c.args.marks.now c.mark_all.new.marks) c.deref.ensures.value c.mark_all.ensures)
    (c.requires.steps c.args.k s c.step_at.ensures)

pub returns-else-has : goal.returns-else-has
returns-else-has c = needed_clear c.args.steps.now c.args.goal c.args.k c.args.marks.now c.requires.marks (sym c.has.ensures ∙ c.if-has.false)
