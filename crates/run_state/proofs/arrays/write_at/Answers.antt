use Rattle.std.proofs.Common.{sym, ◌∙◌}
use Rattle.java_core.specs.Programs.{program_of}
use Rattle.java_heap.specs.Seen.{value_of}
use Rattle.java_meaning.specs.Values.{natural_of}
use Rattle.run_state.proofs.Operators.{passed}
use Rattle.run_state.proofs.Stores.{written_at}
use Rattle.run_state.proofs.arrays.write_at.Goals as goal

pub returns-in-Some-value-clause-kept : goal.returns-in-Some-value-clause-kept
returns-in-Some-value-clause-kept c =
    written_at (program_of c.args.classes.now) c.args.heap.now c.store.new.heap c.args.at c.args.element
    (value_of c.args.value) _ c.args.index c.in-Some.place _
    (passed natural_of c.args.index c.ranges.index ∙ sym c.in-Some.ensures) c.in-Some-value.ensures.value c.store.ensures.kept
