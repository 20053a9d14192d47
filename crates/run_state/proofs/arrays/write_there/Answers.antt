use Rattle.std.proofs.Common.{ap, sym, ◌∙◌, Some}
use Rattle.java_heap.specs.Seen.{value_of, kind_of}
use Rattle.java_meaning.specs.Values.{natural_of}
use Rattle.run_state.proofs.Operators.{passed}
use Rattle.run_state.proofs.Stores.{written_there}
use Rattle.run_state.proofs.arrays.write_there.Goals as goal

pub returns-in-Some-value-clause-done : goal.returns-in-Some-value-clause-done
returns-in-Some-value-clause-done c =
    λ h P. written_there P c.args.heap.now c.set.new.self c.args.at c.in-Some.field-0 (value_of c.args.value) c.args.index c.in-Some-natural.place _
    c.in-Some-Array.ty (ap (λ x. Some (kind_of x)) (sym c.in-Some-Array.field-0-is) ∙ c.in-Some-Array.ensures.value) (sym c.in-Some.ensures.value)
    (passed natural_of c.args.index c.ranges.index ∙ sym c.in-Some-natural.ensures) c.in-Some-value.ensures.value
    (c.requires.fits P c.in-Some.field-0) (c.requires.held c.in-Some.field-0) c.set.ensures.value
