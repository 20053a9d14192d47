-- Each part is added after the one before it.
use Rattle.std.proofs.lemmas.Int.{to_z-of_z}
use Rattle.std.proofs.Common.{w32, rules, ◌∙◌, ap, sym, suc, add-one, arith, false}
use Rattle.java_tree.specs.Syntax.{IntLit, CallOf, CallOn, SuperCallOf, NewOf, expr_of, exprs}
use Rattle.java_tree.specs.Size.{expr_size}
use Rattle.java_print.specs.Layout.{fits, fits_cast, args_items}
use Rattle.java_print.proofs.Adding.{both_put, on_ok, puts_along, puts_int, round_as}
use Rattle.java_print.proofs.Opened.{call_alone, call_upon, call_above, creation, arg_size, args_same, args_step, args_end}
use Rattle.java_print.proofs.exprs.+printing.Goals as goal

pub put_args-put_expr-requires : goal.put_args-put_expr-requires
put_args-put_expr-requires t c =
    (omega (arith, c.decreases, arg_size c.args.args.now c.loop-i.i c.index-args-i.result c.loop-i-test.true c.index-args-i.is), tt)

pub put_args-loop-i-preserved : goal.put_args-loop-i-preserved
put_args-loop-i-preserved t c = args_step c.args.into.now.items c.loop-i.into.items c.put_comma.new.into.items c.put_expr.new.into.items
    c.args.args.now c.loop-i.i c.index-args-i.result (args_items false (exprs c.args.args.now))
    c.loop-i-test.true c.index-args-i.is c.loop-i.invariant c.in_ok-put_comma.ensures.value c.in_ok-put_expr.ensures.value

pub put_args-returns : goal.put_args-returns
put_args-returns t c = record {
  value = on_ok c.put_mark.result c.put_mark.ensures.value (λ h. args_end c.args.into.now.items c.loop-i.into.items c.put_mark.new.into.items
      c.args.args.now c.loop-i.i (args_items false (exprs c.args.args.now)) c.loop-i-test.false c.loop-i.invariant h);
}

pub put_expr-put_call-requires : goal.put_expr-put_call-requires
put_expr-put_call-requires t c =
    (omega (arith, c.decreases, ap expr_size (call_alone _ _ _ _ _ c.in-Call.is c.in-None.is), args_same c.as_slice.ensures.value), tt)

pub put_expr-put_call_on-requires : goal.put_expr-put_call_on-requires
put_expr-put_call_on-requires t c =
    let base = ap (λ x. expr_size (expr_of x)) c.deref-in-Some.ensures in
    (omega (arith, c.decreases, base, ap expr_size (call_upon _ _ _ _ _ _ c.in-Call.is c.in-Some.is), args_same c.as_slice-in-Some.ensures.value), tt)

pub put_expr-put_super_call-requires : goal.put_expr-put_super_call-requires
put_expr-put_super_call-requires t c =
    (omega (arith, c.decreases, ap expr_size (call_above _ _ _ _ c.in-SuperCall.is), args_same c.as_slice-in-SuperCall.ensures.value), tt)

pub put_expr-put_new-requires : goal.put_expr-put_new-requires
put_expr-put_new-requires t c = (omega (arith, c.decreases, ap expr_size (creation _ _ _ _ c.in-New.is), args_same c.as_slice-in-New.ensures.value), tt)

pub put_expr-returns-in-Int : goal.put_expr-returns-in-Int
put_expr-returns-in-Int t c =
    let e = to_z-of_z w32 c.in-Int.value (search rules) in
    record {
      value = on_ok c.put_int.result c.put_int.ensures.value (λ h. puts_along (expr_of c.args.e.now) (IntLit c.in-Int.value c.in-Int.place)
          (ap expr_of c.in-Int.is) (puts_int _ c.in-Int.value e h));
    }

pub put_expr-returns-in-None : goal.put_expr-returns-in-None
put_expr-returns-in-None t c = record {
  value = on_ok c.put_call.result c.put_call.ensures.value
      (λ h. puts_along (expr_of c.args.e.now) (CallOf c.in-Call.name (exprs c.as_slice.result.now) c.in-Call.place)
      (call_alone _ _ _ _ _ c.in-Call.is c.in-None.is ∙ ap (λ xs. CallOf c.in-Call.name (exprs xs) c.in-Call.place) (sym c.as_slice.ensures.value))
      h);
}

pub put_expr-returns-in-Some : goal.put_expr-returns-in-Some
put_expr-returns-in-Some t c = record {
  value = on_ok c.put_call_on.result c.put_call_on.ensures.value
      (λ h. puts_along (expr_of c.args.e.now) (CallOn (expr_of c.deref-in-Some.result.now) c.in-Call.name (exprs c.as_slice-in-Some.result.now)
      c.in-Call.place) (call_upon _ _ _ _ _ _ c.in-Call.is c.in-Some.is
      ∙ ap (λ x. CallOn (expr_of x) c.in-Call.name (exprs c.in-Call.args.items) c.in-Call.place) (sym c.deref-in-Some.ensures)
      ∙ ap (λ xs. CallOn (expr_of c.deref-in-Some.result.now) c.in-Call.name (exprs xs) c.in-Call.place) (sym c.as_slice-in-Some.ensures.value)) h);
}

pub put_expr-returns-in-SuperCall : goal.put_expr-returns-in-SuperCall
put_expr-returns-in-SuperCall t c = record {
  value = on_ok c.put_super_call.result c.put_super_call.ensures.value
      (λ h. puts_along (expr_of c.args.e.now) (SuperCallOf c.in-SuperCall.name (exprs c.as_slice-in-SuperCall.result.now) c.in-SuperCall.place)
      (call_above _ _ _ _ c.in-SuperCall.is ∙ ap (λ xs. SuperCallOf c.in-SuperCall.name (exprs xs) c.in-SuperCall.place)
      (sym c.as_slice-in-SuperCall.ensures.value)) h);
}

pub put_expr-returns-in-New : goal.put_expr-returns-in-New
put_expr-returns-in-New t c = record {
  value = on_ok c.put_new.result c.put_new.ensures.value
      (λ h. puts_along (expr_of c.args.e.now) (NewOf c.in-New.class (exprs c.as_slice-in-New.result.now) c.in-New.place) (creation _ _ _ _ c.in-New.is
      ∙ ap (λ xs. NewOf c.in-New.class (exprs xs) c.in-New.place) (sym c.as_slice-in-New.ensures.value)) h);
}

pub put_field-returns : goal.put_field-returns
put_field-returns t c = record {
  value = on_ok c.put_name.result c.put_name.ensures.value
      (both_put (both_put (round_as _ _ _ c.fits.ensures.value c.in_ok-put_operand.ensures.value) c.in_ok-put_mark.ensures.value));
}

pub put_call-returns : goal.put_call-returns
put_call-returns t c = record {
  value = on_ok c.put_args.result c.put_args.ensures.value (both_put (both_put c.in_ok-put_name.ensures.value c.in_ok-put_mark.ensures.value));
}

pub put_dot_call-returns : goal.put_dot_call-returns
put_dot_call-returns t c = record { value = on_ok c.put_call.result c.put_call.ensures.value (both_put c.in_ok-put_mark.ensures.value) }

pub put_call_on-returns : goal.put_call_on-returns
put_call_on-returns t c = record {
  value = on_ok c.put_dot_call.result c.put_dot_call.ensures.value
      (both_put (round_as _ _ _ c.fits.ensures.value c.in_ok-put_operand.ensures.value));
}

pub put_super_call-returns : goal.put_super_call-returns
put_super_call-returns t c = record { value = on_ok c.put_dot_call.result c.put_dot_call.ensures.value (both_put c.in_ok-put_key.ensures.value) }

pub put_new-returns : goal.put_new-returns
put_new-returns t c = record { value = on_ok c.put_call.result c.put_call.ensures.value (both_put c.in_ok-put_key_space.ensures.value) }

pub put_new_array-returns : goal.put_new_array-returns
put_new_array-returns t c = record {
  value = on_ok c.put_more_dims.result c.put_more_dims.ensures.value
      (both_put (both_put c.in_ok-put_key_space.ensures.value (both_put c.in_ok-put_base.ensures.value c.in_ok-put_square.ensures.value)));
}

pub put_cast-returns : goal.put_cast-returns
put_cast-returns t c = record {
  value = on_ok c.put_operand.result c.put_operand.ensures.value
      (λ h. both_put (both_put c.in_ok-put_mark.ensures.value (both_put c.in_ok-put_base.ensures.value
      (both_put c.in_ok-put_mark-2.ensures.value c.in_ok-put_space.ensures.value))) (round_as _ _ _ c.fits_cast.ensures.value h));
}

pub put_instance_of-returns : goal.put_instance_of-returns
put_instance_of-returns t c = record {
  value = on_ok c.put_name.result c.put_name.ensures.value (both_put (both_put (round_as _ _ _ c.fits.ensures.value c.in_ok-put_operand.ensures.value)
      (both_put c.in_ok-put_space.ensures.value c.in_ok-put_key_space.ensures.value)));
}

pub put_binary-returns : goal.put_binary-returns
put_binary-returns t c =
    let left = c.fits.ensures.value ∙ ap (λ k. fits k (expr_of c.args.left.now)) c.level_of.ensures.value in
    let right = c.fits-2.ensures.value ∙ ap (λ k. fits k (expr_of c.args.right.now)) (add-one c.level_of-2.result ∙ ap suc c.level_of-2.ensures.value) in
    record {
      value = on_ok c.put_operand-2.result c.put_operand-2.ensures.value
          (λ h. both_put (both_put (round_as _ _ _ left c.in_ok-put_operand.ensures.value) (both_put c.in_ok-put_space.ensures.value
          (both_put c.in_ok-put_mark.ensures.value c.in_ok-put_space-2.ensures.value))) (round_as _ _ _ right h));
    }
