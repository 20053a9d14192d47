use Rattle.std.proofs.Common.{ap, sym, subst, ◌∙◌, Some}
use Rattle.std.specs.Prelude.{IfOk}
use Rattle.java_core.specs.Programs.{program_of}
use Rattle.java_heap.specs.Seen.{value_of, kind_of}
use Rattle.java_meaning.specs.Moment.{Object}
use Rattle.java_meaning.specs.Meaning.{write_element}
use Rattle.java_meaning.specs.Languages.{language_of}
use Rattle.run_state.specs.Founds.{KeepsMeaning}
use Rattle.run_state.proofs.Operators.{passed}
use Rattle.run_state.proofs.Stores.{written}
use Rattle.run_state.proofs.arrays.write_element.Goals as goal

pub returns-in-Some-clause-kept : goal.returns-in-Some-clause-kept
returns-in-Some-clause-kept c =
    let P = program_of c.args.classes.now in
    let h = c.args.heap.now in
    let g = c.write_at.new.heap in
    subst (λ y. IfOk c.write_at.result (λ x. KeepsMeaning h g x (λ s k. write_element (language_of P) (value_of y) c.args.index (value_of c.args.value) s k)))
    (sym c.in-Ref.is)
    (subst (λ n. IfOk c.write_at.result (λ x. KeepsMeaning h g x (λ s k. write_element (language_of P) (Object c.in-Ref.at) n (value_of c.args.value) s k)))
    (sym (passed (λ n. n) c.args.index c.ranges.index))
    (written P h g c.in-Ref.at c.in-Some.element (value_of c.args.value) _ _ c.in-Some-Array.ty
    (ap (λ x. Some (kind_of x)) (sym c.in-Some-Array.field-0-is) ∙ c.in-Some-Array.ensures.value) (sym c.in-Some.ensures.value) c.write_at.ensures.kept))
