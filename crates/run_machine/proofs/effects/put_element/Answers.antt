use Rattle.std.proofs.Common.{ap, sym, ◌∙◌, rules}
use Rattle.run_state.specs.Turns.{to_next}
use Rattle.run_state.specs.Run.{plain_of, state_of}
use Rattle.run_state.proofs.Turned.{turned_in}
use Rattle.run_state.proofs.Branches.{some_is}
use mir.Syntax.{w32}
use mir.Val.{SFits}
use Rattle.java_core.specs.Programs.{program_of}
use Rattle.java_heap.specs.Seen.{value_of}
use Rattle.java_meaning.specs.Meaning.{write_element}
use Rattle.java_meaning.specs.Languages.{language_of}
use Rattle.run_state.proofs.Branches.{keeps_same}
use Rattle.run_state.proofs.Operators.{passed}
use Rattle.run_machine.proofs.effects.put_element.Goals as goal

pub returns-in_ok-kept-in-Some : goal.returns-in_ok-kept-in-Some
returns-in_ok-kept-in-Some c =
    let m = c.args.m.now in
    let f : SFits w32 c.in-Some.index = search rules in
    turned_in _ _ _ _ _ _ _ _ _ c.done.ensures (ap program_of c.write_element.ensures.same) (λ go. some_is _ _ _ _ (sym c.in-Some.ensures.value)
    ∙ passed (λ n. write_element (language_of (plain_of m)) (value_of c.args.array) n (value_of c.args.value) (state_of m) (to_next m go)) c.in-Some.index f
    ∙ c.in_ok-kept-in-Some.ensures.kept (state_of m) (to_next m go)
    ∙ keeps_same c.in_ok-kept-in-Some.kept m.heap c.write_element.new.heap (state_of m) _)
