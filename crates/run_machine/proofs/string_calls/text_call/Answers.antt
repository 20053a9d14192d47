use Rattle.std.proofs.Common.{ap, sym, ◌∙◌, Some}
use Rattle.std.specs.Prelude.{slice_get}
use Rattle.java_heap.specs.Seen.{value_of}
use Rattle.java_meaning.specs.Moment.{Cell, Wrong, own_class, step, stop}
use Rattle.run_state.specs.Run.{state_of}
use Rattle.run_state.proofs.Turned.{turned}
use Rattle.run_state.proofs.Branches.{some_is, within}
use Rattle.run_machine.proofs.string_calls.text_call.Goals as goal

pub returns-in-Some-Str : goal.returns-in-Some-Str
returns-in-Some-Str c =
    λ T. turned _ _ _ _ _ _ _ _ c.text_call_at.ensures
    (λ go. some_is _ _ _ _ (sym c.in-Some-Str.ensures ∙ ap (λ v. Some (value_of v)) c.in-Some-Str.field-0-is))

pub returns-in-Some-class_at : goal.returns-in-Some-class_at
returns-in-Some-class_at c =
    let m = c.args.m.now in
    λ T. turned _ _ _ _ _ _ _ _ c.step_and_stop.ensures
    (λ go. some_is _ _ _ _ (sym c.in-Some-Ref.ensures ∙ ap (λ v. Some (value_of v)) c.in-Some-Ref.field-0-is)
    ∙ within (slice_get m.heap.cells c.in-Some-Ref.at) (λ (k : Cell). own_class k.kind) (state_of m) (λ t. step (state_of m) (λ s. stop Wrong s))
    ∙ some_is _ _ (state_of m) (λ t. step (state_of m) (λ s. stop Wrong s)) (sym c.in-Some-class_at.ensures))
