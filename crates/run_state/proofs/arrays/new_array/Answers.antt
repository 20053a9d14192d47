use Rattle.std.proofs.Common.{sym, ◌∙◌}
use Rattle.java_meaning.specs.Values.{natural_of}
use Rattle.run_state.proofs.Turned.{turned}
use Rattle.run_state.proofs.Branches.{some_is, some_or}
use Rattle.run_state.proofs.Operators.{passed}
use Rattle.run_state.proofs.arrays.new_array.Goals as goal

pub returns-in-Some-natural : goal.returns-in-Some-natural
returns-in-Some-natural c =
    turned _ _ _ _ _ _ _ _ (c.add_array.ensures c.in-Some.field-0 (sym c.in-Some.ensures.value))
    (λ go. some_is _ _ _ _ (sym c.in-Some.ensures.value) ∙ some_or _ _ _ _ _ (passed natural_of c.args.size c.ranges.size ∙ sym c.in-Some-natural.ensures))
