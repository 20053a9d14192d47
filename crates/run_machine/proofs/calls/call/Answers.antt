use Rattle.std.proofs.Common.{ap, sym, ◌∙◌, Some}
use Rattle.std.specs.Prelude.{slice_get}
use Rattle.java_core.specs.Classes.{lookup}
use Rattle.java_heap.specs.Seen.{value_of}
use Rattle.java_meaning.specs.Moment.{Cell, own_class, step}
use Rattle.run_code.specs.Seen.{tables_of}
use Rattle.run_code.specs.Machine.{begins}
use Rattle.run_state.specs.Run.{plain_of, state_of, config_of}
use Rattle.run_state.proofs.Turned.{turned}
use Rattle.run_state.proofs.Branches.{some_is, within}
use Rattle.run_machine.proofs.calls.call.Goals as goal

pub returns-in-Some-class_at : goal.returns-in-Some-class_at
returns-in-Some-class_at c =
    let m = c.args.m.now in
    let T = tables_of c.args.image.now in
    turned _ _ _ _ _ _ _ _ c.call_object.ensures (λ go. some_is _ _ _ _ (sym c.in-Some-Ref.ensures ∙ ap (λ v. Some (value_of v)) c.in-Some-Ref.field-0-is)
    ∙ within (slice_get m.heap.cells c.in-Some-Ref.at) (λ (k : Cell). own_class k.kind) (state_of m)
    (λ t. step (state_of m) (λ s. begins (plain_of m) T (config_of m) m.slots c.args.frame.slot (lookup (plain_of m) t c.args.method) c.args.frame.many s go))
    ∙ some_is _ _ (state_of m) (λ t. step (state_of m)
    (λ s. begins (plain_of m) T (config_of m) m.slots c.args.frame.slot (lookup (plain_of m) t c.args.method) c.args.frame.many s go))
    (sym c.in-Some-class_at.ensures))
