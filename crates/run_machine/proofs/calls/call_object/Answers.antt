use Rattle.std.proofs.Common.{◌-◌, ap, sym, ◌∙◌, arith}
use Rattle.java_core.specs.Programs.{program_of}
use Rattle.java_core.specs.Classes.{lookup}
use Rattle.run_code.specs.Seen.{tables_of}
use Rattle.run_code.specs.Machine.{begins}
use Rattle.run_state.specs.Run.{plain_of, state_of, config_of}
use Rattle.run_state.proofs.Turned.{paid}
use Rattle.run_state.proofs.Branches.{one_step}
use Rattle.run_machine.proofs.calls.call_object.Goals as goal

pub returns : goal.returns
returns c =
    let m = c.args.m.now in
    let T = tables_of c.args.image.now in
    paid _ _ _ _ _ _ _ (m.left - 1) _ c.begin_some.new.m c.begin_some.ensures (omega (arith, c.if-m-eq0.false)) (ap program_of c.body.ensures.same)
    (λ go. one_step (m.left - 1) (state_of m)
    (λ s. begins (plain_of m) T (config_of m) m.slots c.args.frame.slot (lookup (plain_of m) c.args.class c.args.method) c.args.frame.many s go)
    (omega (arith, c.if-m-eq0.false))
    ∙ ap (λ o. begins (plain_of m) T (config_of m) m.slots c.args.frame.slot o c.args.frame.many (record (state_of m) { left = m.left - 1 }) go)
    (sym c.in_ok-found.ensures.body))
