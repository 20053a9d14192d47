use Rattle.std.proofs.Common.{arith, ap}
use Rattle.java_tree.specs.declared.Expr.{Expr}
use Rattle.java_tree.specs.Syntax.{expr_of}
use Rattle.java_tree.specs.Size.{expr_size}
use Rattle.java_compare.proofs.Sizes.{call_size, on_size, super_size, new_size}
use Rattle.java_compare.proofs.measure.+exprs.Goals as goal

pub expr_count-exprs_count-requires : goal.expr_count-exprs_count-requires
expr_count-exprs_count-requires t c =
    let s = call_size c.in-Call.args c.in-Call.is c.in-None.is c.deref-in-None.ensures.value in (omega (arith, s), omega (arith, s))

pub expr_count-overflow_add-result-in-None : goal.expr_count-overflow_add-result-in-None
expr_count-overflow_add-result-in-None t c =
    let s = call_size c.in-Call.args c.in-Call.is c.in-None.is c.deref-in-None.ensures.value in omega (arith, c.exprs_count.ensures.value, s)

pub expr_count-returns-in-None : goal.expr_count-returns-in-None
expr_count-returns-in-None t c =
    let s = call_size c.in-Call.args c.in-Call.is c.in-None.is c.deref-in-None.ensures.value in record { value = omega (arith, c.exprs_count.ensures.value, s) }

pub expr_count-exprs_count-requires-in-Some : goal.expr_count-exprs_count-requires-in-Some
expr_count-exprs_count-requires-in-Some t c =
    let s = on_size c.in-Call.args c.in-Call.is c.in-Some.is c.deref-in-Some-2.ensures.value in
    let b = ap (λ (e : Expr). expr_size (expr_of e)) c.deref-in-Some.ensures in
    (omega (arith, s, b), omega (arith, s, b))

pub expr_count-overflow_add-result-in-Some : goal.expr_count-overflow_add-result-in-Some
expr_count-overflow_add-result-in-Some t c =
    let s = on_size c.in-Call.args c.in-Call.is c.in-Some.is c.deref-in-Some-2.ensures.value in
    let b = ap (λ (e : Expr). expr_size (expr_of e)) c.deref-in-Some.ensures in
    omega (arith, c.expr_count-in-Some.ensures.value, c.exprs_count-in-Some.ensures.value, s, b)

pub expr_count-overflow_add-result-in-Some-2 : goal.expr_count-overflow_add-result-in-Some-2
expr_count-overflow_add-result-in-Some-2 t c =
    let s = on_size c.in-Call.args c.in-Call.is c.in-Some.is c.deref-in-Some-2.ensures.value in
    let b = ap (λ (e : Expr). expr_size (expr_of e)) c.deref-in-Some.ensures in
    omega (arith, c.expr_count-in-Some.ensures.value, c.exprs_count-in-Some.ensures.value, s, b)

pub expr_count-returns-in-Some : goal.expr_count-returns-in-Some
expr_count-returns-in-Some t c =
    let s = on_size c.in-Call.args c.in-Call.is c.in-Some.is c.deref-in-Some-2.ensures.value in
    let b = ap (λ (e : Expr). expr_size (expr_of e)) c.deref-in-Some.ensures in
    record { value = omega (arith, c.expr_count-in-Some.ensures.value, c.exprs_count-in-Some.ensures.value, s, b) }

pub expr_count-exprs_count-requires-in-SuperCall : goal.expr_count-exprs_count-requires-in-SuperCall
expr_count-exprs_count-requires-in-SuperCall t c =
    let s = super_size c.in-SuperCall.args c.in-SuperCall.is c.deref-in-SuperCall.ensures.value in (omega (arith, s), omega (arith, s))

pub expr_count-overflow_add-result-in-SuperCall : goal.expr_count-overflow_add-result-in-SuperCall
expr_count-overflow_add-result-in-SuperCall t c =
    let s = super_size c.in-SuperCall.args c.in-SuperCall.is c.deref-in-SuperCall.ensures.value in omega (arith, c.exprs_count-in-SuperCall.ensures.value, s)

pub expr_count-returns-in-SuperCall : goal.expr_count-returns-in-SuperCall
expr_count-returns-in-SuperCall t c =
    let s = super_size c.in-SuperCall.args c.in-SuperCall.is c.deref-in-SuperCall.ensures.value in
    record { value = omega (arith, c.exprs_count-in-SuperCall.ensures.value, s) }

pub expr_count-exprs_count-requires-in-New : goal.expr_count-exprs_count-requires-in-New
expr_count-exprs_count-requires-in-New t c = let s = new_size c.in-New.args c.in-New.is c.deref-in-New.ensures.value in (omega (arith, s), omega (arith, s))

pub expr_count-overflow_add-result-in-New : goal.expr_count-overflow_add-result-in-New
expr_count-overflow_add-result-in-New t c =
    let s = new_size c.in-New.args c.in-New.is c.deref-in-New.ensures.value in omega (arith, c.exprs_count-in-New.ensures.value, s)

pub expr_count-returns-in-New : goal.expr_count-returns-in-New
expr_count-returns-in-New t c =
    let s = new_size c.in-New.args c.in-New.is c.deref-in-New.ensures.value in record { value = omega (arith, c.exprs_count-in-New.ensures.value, s) }
