use Rattle.std.proofs.Common.{◌+◌, ◌-◌, ap, sym, ◌∙◌, refl, arith}
use Rattle.java_heap.specs.Seen.{value_of}
use Rattle.run_code.specs.Seen.{tables_of}
use Rattle.run_code.specs.Machine.{put, begins}
use Rattle.run_state.specs.Run.{plain_of, state_of, config_of}
use Rattle.run_state.proofs.Turned.{paid}
use Rattle.run_state.proofs.Branches.{one_step, some_is}
use Rattle.run_machine.proofs.calls.enter.Goals as goal

pub returns-in_ok-put-in-Some : goal.returns-in_ok-put-in-Some
returns-in_ok-put-in-Some c =
    let m = c.args.m.now in
    let T = tables_of c.args.image.now in
    paid _ _ _ _ _ _ _ (m.left - 1) _ c.begin_some.new.m c.begin_some.ensures (omega (arith, c.if-m-eq0.false)) refl
    (λ go. some_is _ _ _ _ (sym c.in-Some.ensures)
    ∙ one_step (m.left - 1) (state_of m)
    (λ s. begins (plain_of m) T (config_of m) (put m.slots (m.base + c.args.frame.slot) (value_of c.in-Some.this)) c.args.frame.slot c.args.method
    c.args.frame.many s go)
    (omega (arith, c.if-m-eq0.false))
    ∙ ap (λ l. begins (plain_of m) T (config_of m) l c.args.frame.slot c.args.method c.args.frame.many (record (state_of m) { left = m.left - 1 }) go)
    (sym c.in_ok-put-in-Some.ensures))
