use Rattle.std.proofs.Common.{sym, ap, ◌∙◌}
use Rattle.name_laws.specs.Tables.{parent_of, nearest_field}
use Rattle.name_bodies.specs.Views.{table_of}
use Rattle.name_bodies.proofs.Nearest.{nearest_here, nearest_none, nearest_next, nearest_nowhere}
use Rattle.name_bodies.proofs.tables.walked_field.Goals as goal

pub returns-in_default : goal.returns-in_default
unfolding nearest_field
returns-in_default c = nearest_nowhere (table_of c.args.tables.now) c.args.name.now c.args.tables.now.parents.items c.args.class
    (λ k. sym (c.in_default.ensures k))

pub returns-in-Some-number_under : goal.returns-in-Some-number_under
unfolding nearest_field
returns-in-Some-number_under c =
    nearest_here (table_of c.args.tables.now) c.args.name.now c.deref-step-items.result.now c.loop-step._step-index c.loop-step.at
    c.in-Some-number_under.field _ c.loop-step-test.true
    (sym (c.in-Some.ensures c.loop-step.at) ∙ sym c.number_under.ensures ∙ c.in-Some-number_under.is) c.loop-step.invariant

pub returns-in-None-parent_of : goal.returns-in-None-parent_of
unfolding nearest_field
returns-in-None-parent_of c =
    nearest_none (table_of c.args.tables.now) c.args.name.now c.deref-step-items.result.now c.loop-step._step-index c.loop-step.at _
    c.loop-step-test.true (sym (c.in-Some.ensures c.loop-step.at) ∙ sym c.number_under.ensures ∙ c.in-None.is)
    (ap (λ xs. parent_of xs c.loop-step.at) (sym c.as_slice.ensures.value) ∙ sym c.parent_of.ensures ∙ c.in-None-parent_of.is) c.loop-step.invariant

pub loop-step-preserved : goal.loop-step-preserved
loop-step-preserved c =
    nearest_next (table_of c.args.tables.now) c.args.name.now c.deref-step-items.result.now c.loop-step._step-index c.loop-step.at
    c.in-Some-parent_of.parent _ c.loop-step-test.true (sym (c.in-Some.ensures c.loop-step.at) ∙ sym c.number_under.ensures ∙ c.in-None.is)
    (ap (λ xs. parent_of xs c.loop-step.at) (sym c.as_slice.ensures.value) ∙ sym c.parent_of.ensures ∙ c.in-Some-parent_of.is) c.loop-step.invariant
