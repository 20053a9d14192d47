-- Each form by what stands in it.
use Rattle.std.proofs.Common.{rules, ◌≡◌, length, sym, ap, ◌∙◌, refl}
use Rattle.std.specs.Prelude.{Some}
use Rattle.java_core.specs.Trees.{at_place, call, field, index, create_array, cast, instance_of, unary, binary, expr_of, exprs}
use Rattle.java_core.specs.Programs.{program_of, code_seen}
use Rattle.flow_rules.specs.declared.items.RowItem.TheVariants as row
use Rattle.flow_rules.specs.declared.items.PointItem.TheVariants as point
use Rattle.flow_rules.specs.Labels.{label}
use Rattle.flow_rules.specs.Operands.{object_of, class_object}
use Rattle.flow_rules.specs.Parts.{is_accessed}
use Rattle.flow_rules.specs.Types.{field_object, element_object}
use Rattle.flow_facts.specs.Views.{labelled_operand}
use Rattle.java_core.proofs.Forms.{own_call, call_on, static_form, super_form, creation_form}
use Rattle.flow_facts.proofs.Walks.{if_ok, own_walked, field_walked, index_walked, this_walked, call_walked, made_walked, array_walked, cast_walked, test_walked, unary_walked, binary_walked}
use Rattle.flow_facts.proofs.walk.+walk.Goals as goal

pub walk-returns-in-Ok : goal.walk-returns-in-Ok
walk-returns-in-Ok t c =
    let P = program_of c.args.within.now.program.now in
    let f = c.in-Own.field.0 in
    let value : c.labelled-own.result ≡ labelled_operand c.args.within.now.number (length c.args.parts.now.items) (Some (row.Field f))
    (field_object P f) = search rules in
    own_walked P c.args.within.now.number (code_seen c.args.within.now.code) (ap expr_of c.in-Own.is)
    c.in-Ok.ensures c.this_operand-this.ensures.value value

pub walk-returns-in-Ok-walk : goal.walk-returns-in-Ok-walk
walk-returns-in-Ok-walk t c =
    let form = ap expr_of c.in-Field.is ∙ ap (λ y. field (at_place c.in-Field.place) (expr_of y) c.in-Field.name)
    (sym c.deref-in-Field.ensures) in
    let n = length c.args.parts.now.items in
    let accessed = c.is_accessed-accessed.ensures.value n ∙ ap (λ y. is_accessed (label n (expr_of y))) (c.deref.ensures
    ∙ sym c.deref-in-Field.ensures) in
    if_ok c.add_load.result (λ o h. field_walked (program_of c.args.within.now.program.now) c.args.within.now.number
    (code_seen c.args.within.now.code) form accessed
    c.in-Ok-walk.ensures h) c.add_load.ensures

pub walk-returns-in-Ok-walk-3 : goal.walk-returns-in-Ok-walk-3
walk-returns-in-Ok-walk-3 t c =
    let form = ap expr_of c.in-Index.is
    ∙ ap (λ y. index (at_place c.in-Index.place) (expr_of y) (expr_of c.in-Index.at.value)) (sym c.deref-in-Index.ensures)
    ∙ ap (λ y. index (at_place c.in-Index.place) (expr_of c.deref-in-Index.result.now) (expr_of y)) (sym c.deref-in-Index-2.ensures) in
    let b = c.in-Ok-walk-2.made in
    let value : c.labelled-own-in-Index.result ≡ labelled_operand c.args.within.now.number (length c.walk-in-Index.new.parts.items) b.row
    (element_object b.ty) = search rules in
    let h = c.in-Ok-add.ensures in
    index_walked (program_of c.args.within.now.program.now) c.args.within.now.number (code_seen c.args.within.now.code) form
    c.in-Ok-walk-2.ensures
    h value c.in-Ok-walk-3.ensures

pub walk-returns-in-None : goal.walk-returns-in-None
walk-returns-in-None t c =
    let P = program_of c.args.within.now.program.now in
    let K = code_seen c.args.within.now.code in
    if_ok c.add_call.result (λ o h. call_walked P c.args.within.now.number K (own_call _ _ _ _ _ c.in-Call.is c.in-None.is)
    (this_walked P c.args.within.now.number K refl c.this_operand-this-in-None.ensures.value) h) c.add_call.ensures

pub walk-returns-in-Ok-walk-4 : goal.walk-returns-in-Ok-walk-4
walk-returns-in-Ok-walk-4 t c =
    let form = call_on c.args.e.now c.in-Call.base c.in-Some.base c.in-Call.name c.in-Call.args c.in-Call.place c.in-Call.is c.in-Some.is
    ∙ ap (λ y. call (at_place c.in-Call.place) (expr_of y) c.in-Call.name (exprs c.in-Call.args.items)) (sym c.deref-in-Some.ensures) in
    if_ok c.add_call-in-Some.result (λ o h. call_walked (program_of c.args.within.now.program.now) c.args.within.now.number
    (code_seen c.args.within.now.code) form
    c.in-Ok-walk-4.ensures h) c.add_call-in-Some.ensures

pub walk-returns-in-StaticCall : goal.walk-returns-in-StaticCall
walk-returns-in-StaticCall t c =
    if_ok c.add_static_call.result (λ o h. made_walked (program_of c.args.within.now.program.now) c.args.within.now.number
    (code_seen c.args.within.now.code)
    (static_form _ _ _ _ c.in-StaticCall.is) h) c.add_static_call.ensures

pub walk-returns-in-SuperCall : goal.walk-returns-in-SuperCall
walk-returns-in-SuperCall t c =
    if_ok c.add_super_call.result (λ o h. made_walked (program_of c.args.within.now.program.now) c.args.within.now.number
    (code_seen c.args.within.now.code)
    (super_form _ _ _ _ c.in-SuperCall.is) h) c.add_super_call.ensures

pub walk-returns-in-New : goal.walk-returns-in-New
walk-returns-in-New t c =
    if_ok c.add_creation.result (λ o h. made_walked (program_of c.args.within.now.program.now) c.args.within.now.number
    (code_seen c.args.within.now.code)
    (creation_form _ _ _ _ _ c.in-New.is) h) c.add_creation.ensures

pub walk-returns-in-Ok-walk-5 : goal.walk-returns-in-Ok-walk-5
walk-returns-in-Ok-walk-5 t c =
    let form = ap expr_of c.in-NewArray.is ∙ ap (λ y. create_array (at_place c.in-NewArray.place) c.in-NewArray.number c.in-NewArray.ty
    (expr_of y)) (sym c.deref-in-NewArray.ensures) in
    let value : c.creation-own.result ≡ record {
      point = Some (point.Expr c.args.within.now.number (length c.args.parts.now.items));
      row = Some
          (row.New c.in-NewArray.number);
      ty = object_of c.in-NewArray.ty;
      created = Some c.in-NewArray.number;
    } = search rules in
    let h = c.in-Ok-add-2.ensures in
    array_walked (program_of c.args.within.now.program.now) c.args.within.now.number (code_seen c.args.within.now.code) form
    c.new-none.ensures.items h value c.in-Ok-walk-5.ensures

pub walk-returns-in-Ok-walk-6 : goal.walk-returns-in-Ok-walk-6
walk-returns-in-Ok-walk-6 t c =
    let form = ap expr_of c.in-Cast.is ∙ ap (λ y. cast (at_place c.in-Cast.place) c.in-Cast.number c.in-Cast.ty (expr_of y))
    (sym c.deref-in-Cast.ensures) in
    let n = length c.args.parts.now.items in
    let value : c.labelled-own-in-Cast.result ≡ labelled_operand c.args.within.now.number n (Some (row.Cast c.in-Cast.number))
    (object_of c.in-Cast.ty) = search rules in
    let at : c.len-at.result ≡ n = search rules in
    let h = c.in-Ok-add-3.ensures in
    cast_walked (program_of c.args.within.now.program.now) c.args.within.now.number (code_seen c.args.within.now.code) form
    h c.in-Ok-walk-6.ensures value c.fill.ensures.grown
    (λ xs ys q e. c.fill.ensures.parts xs ys q (e ∙ sym at))

pub walk-returns-in-Ok-add-4 : goal.walk-returns-in-Ok-add-4
walk-returns-in-Ok-add-4 t c =
    let form = ap expr_of c.in-InstanceOf.is
    ∙ ap (λ y. instance_of (at_place c.in-InstanceOf.place) c.in-InstanceOf.number (expr_of y) c.in-InstanceOf.class.0)
    (sym c.deref-in-InstanceOf.ensures) in
    let value : c.labelled-own-in-InstanceOf.result ≡ labelled_operand c.args.within.now.number (length c.walk-in-InstanceOf.new.parts.items)
    (Some (row.Test c.in-InstanceOf.number)) (class_object c.in-InstanceOf.class.0) = search rules in
    let h = c.in-Ok-add-4.ensures in
    test_walked (program_of c.args.within.now.program.now) c.args.within.now.number (code_seen c.args.within.now.code) form
    c.in-Ok-walk-7.ensures
    h value refl

pub walk-returns-in-Ok-walk-8 : goal.walk-returns-in-Ok-walk-8
walk-returns-in-Ok-walk-8 t c =
    let form = ap expr_of c.in-Unary.is ∙ ap (λ y. unary (at_place c.in-Unary.place) c.in-Unary.op (expr_of y))
    (sym c.deref-in-Unary.ensures) in
    unary_walked (program_of c.args.within.now.program.now) c.args.within.now.number (code_seen c.args.within.now.code) form
    c.in-Ok-walk-8.ensures refl

pub walk-returns-in-Ok-add-5 : goal.walk-returns-in-Ok-add-5
walk-returns-in-Ok-add-5 t c =
    let form = ap expr_of c.in-Binary.is
    ∙ ap (λ y. binary (at_place c.in-Binary.place) c.in-Binary.op (expr_of y) (expr_of c.in-Binary.right.value))
    (sym c.deref-in-Binary.ensures)
    ∙ ap (λ y. binary (at_place c.in-Binary.place) c.in-Binary.op (expr_of c.deref-in-Binary.result.now) (expr_of y))
    (sym c.deref-in-Binary-2.ensures) in
    let h = c.in-Ok-add-5.ensures in
    binary_walked (program_of c.args.within.now.program.now) c.args.within.now.number (code_seen c.args.within.now.code)
    form c.in-Ok-walk-9.ensures
    c.in-Ok-walk-10.ensures h refl
