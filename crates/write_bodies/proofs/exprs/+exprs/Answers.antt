-- A form that holds a list is the tree over the items of the list.
use Rattle.std.proofs.Common.{rules, arith, refl, sym, ap, ◌∙◌}
use Rattle.std.proofs.lemmas.Result.{IfOk-weaker}
use Rattle.java_core.specs.Trees.{at_place, expr_of, exprs}
use Rattle.java_core.specs.Types.{class_of, static, env_of}
use Rattle.java_tree.specs.Syntax as tree
use Rattle.java_tree.specs.Syntax.{NewArrayOf, CastOf}
use Rattle.java_tree.proofs.Appended.{append_exprs, exprs_end}
use Rattle.flow_rules.specs.declared.items.RowItem.TheVariants as row
use Rattle.write_model.specs.Names.{nowhere}
use Rattle.write_forms.specs.Sources.{old_program, row_typed}
use Rattle.write_bodies.specs.Written.{method_of, expression, expressions}
use Rattle.java_core.proofs.Forms.{own_call, call_on, static_form, super_form, creation_form}
use Rattle.write_bodies.proofs.Steps.{all_next, all_written}
use Rattle.write_bodies.proofs.Parts.{call_is, around}
use Rattle.write_bodies.proofs.exprs.+exprs.Goals as goal

pub all-loop-one-preserved : goal.all-loop-one-preserved
all-loop-one-preserved t c =
    all_next c.args.within.now c.args.scope.now.items c.loop-one.done.items c.push.new.self.items c.deref-one-items.result.now c.loop-one.one-index
    c.one-item.result c.in-Ok-made.field-0 c.loop-one-test.true c.one-item.is c.in-Ok-made.ensures.value c.in-Ok-made-2.ensures.items c.loop-one.invariant

pub all-returns : goal.all-returns
all-returns t c = record {
  value = all_written append_exprs (λ xs. expressions c.args.within.now c.args.scope.now.items (exprs xs)) (tree.exprs c.loop-one.done.items)
      c.deref-one-items.result.now c.loop-one.one-index (exprs_end (tree.exprs c.loop-one.done.items)) c.loop-one.invariant
      (omega (arith, c.loop-one-test.false));
}

pub expr-returns-in_ok-args-in-None : goal.expr-returns-in_ok-args-in-None
expr-returns-in_ok-args-in-None t c = record { value = let form = own_call _ _ _ c.in-Call.args _ c.in-Call.is c.in-None.is in rw form (search rules) }

pub expr-returns-in-Ok-made-args : goal.expr-returns-in-Ok-made-args
expr-returns-in-Ok-made-args t c =
    let w = c.args.within.now in
    let scope = c.args.scope.now.items in
    let b = c.in-Some.base.value in
    let class = ap class_of (c.static_of-found-in-Some.ensures.value w.number
    ∙ ap (λ y. static (old_program w.source.now) (env_of w.number (method_of w)) (expr_of y)) c.deref-in-Some.ensures) in
    let on = c.in_ok-on-in-Some.ensures.value ∙ ap (λ y. expression w scope (expr_of y)) c.deref-in-Some-2.ensures in
    let is = call_is w scope (at_place c.in-Call.place) (expr_of b) c.in-Call.name (exprs c.in-Call.args.items)
    on class c.in-Ok-made-args.ensures.value in
    let form = call_on _ _ _ _ c.in-Call.args _ c.in-Call.is c.in-Some.is in
    record {
      value = IfOk-weaker c.call.result _ _ (λ e h. h ∙ is ∙ sym (ap (expression w scope) form)) c.call.ensures;
    }

pub expr-returns-in_ok-args-in-StaticCall : goal.expr-returns-in_ok-args-in-StaticCall
expr-returns-in_ok-args-in-StaticCall t c = record { value = let form = static_form _ _ c.in-StaticCall.args _ c.in-StaticCall.is in rw form (search rules) }

pub expr-returns-in_ok-args-in-SuperCall : goal.expr-returns-in_ok-args-in-SuperCall
expr-returns-in_ok-args-in-SuperCall t c = record { value = let form = super_form _ _ c.in-SuperCall.args _ c.in-SuperCall.is in rw form (search rules) }

pub expr-returns-in_ok-args-in-New : goal.expr-returns-in_ok-args-in-New
expr-returns-in_ok-args-in-New t c = record { value = let form = creation_form _ _ _ c.in-New.args _ c.in-New.is in rw form (search rules) }

pub expr-returns-in_ok-size-in-NewArray : goal.expr-returns-in_ok-size-in-NewArray
expr-returns-in_ok-size-in-NewArray t c = record {
  value = around c.args.within.now c.args.scope.now.items c.array.result
      (λ y. NewArrayOf (row_typed c.args.within.now.source.now (row.New c.in-NewArray.number) c.in-NewArray.ty) y nowhere)
      c.in_ok-size-in-NewArray.ensures.value c.deref-in-NewArray.ensures c.in-NewArray.is refl c.array.ensures;
}

pub expr-returns-in_ok-value-in-Cast : goal.expr-returns-in_ok-value-in-Cast
expr-returns-in_ok-value-in-Cast t c = record {
  value = around c.args.within.now c.args.scope.now.items c.cast.result
      (λ y. CastOf (row_typed c.args.within.now.source.now (row.Cast c.in-Cast.number) c.in-Cast.ty) y nowhere)
      c.in_ok-value-in-Cast.ensures.value c.deref-in-Cast.ensures c.in-Cast.is refl c.cast.ensures;
}
