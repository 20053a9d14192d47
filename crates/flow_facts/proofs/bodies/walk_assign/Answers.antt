use Rattle.std.proofs.Common.{arith, length, ap, sym, ◌∙◌}
use Rattle.java_core.specs.Trees.{at_place, to_element, target_of, expr_of}
use Rattle.java_core.specs.Programs.{program_of, code_seen}
use Rattle.flow_facts.specs.Views.{parts_seen}
use Rattle.flow_facts.proofs.Passed.{on_ok}
use Rattle.flow_facts.proofs.Composed.{own_store, element_store}
use Rattle.flow_facts.proofs.bodies.walk_assign.Goals as goal

pub returns-in-Ok : goal.returns-in-Ok
returns-in-Ok c =
    let form = ap target_of c.in-Own.is in
    let v = c.in-Ok.ensures in
    rw form (on_ok c.add.result (λ h. record {
      grown = omega (arith, v.grown, h.grown);
      parts = own_store (program_of c.args.within.now.program.now) c.args.within.now.number
          (code_seen c.args.within.now.code) (at_place c.in-Own.place)
          c.args.place c.in-Own.field.0 (expr_of c.args.value.now)
          (parts_seen c.args.parts.now.items) _ _ (length c.args.parts.now.items) _ _ v.parts v.value c.this_operand.ensures.value h.parts;
    }) c.add.ensures)

pub returns-in-Ok-walk-5 : goal.returns-in-Ok-walk-5
returns-in-Ok-walk-5 c =
    let form = ap target_of c.in-Index.is
    ∙ ap (λ y. to_element (at_place c.in-Index.place) (expr_of y) (expr_of c.in-Index.at.value)) (sym c.deref-in-Index.ensures)
    ∙ ap (λ y. to_element (at_place c.in-Index.place) (expr_of c.deref-in-Index.result.now) (expr_of y)) (sym c.deref-in-Index-2.ensures) in
    let b = c.in-Ok-walk-3.ensures in
    let i = c.in-Ok-walk-4.ensures in
    let v = c.in-Ok-walk-5.ensures in
    rw form (on_ok c.add-in-Index.result (λ h. record {
      grown = omega (arith, b.grown, i.grown, v.grown, h.grown);
      parts = element_store (program_of c.args.within.now.program.now) c.args.within.now.number
          (code_seen c.args.within.now.code) (at_place c.in-Index.place)
          c.args.place (expr_of c.deref-in-Index.result.now) (expr_of c.deref-in-Index-2.result.now)
          (expr_of c.args.value.now)
          (parts_seen c.args.parts.now.items) _ _ _ _ (length c.args.parts.now.items) _ _ _ _
          b.parts b.value b.grown i.parts i.grown v.parts v.value h.parts;
    }) c.add-in-Index.ensures)
