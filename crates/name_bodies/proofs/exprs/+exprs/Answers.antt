use Rattle.std.proofs.Common.{◌≡◌, false, ap, rules}
use Rattle.java_tree.specs.Syntax as tree
use Rattle.java_core.specs.Trees as core
use Rattle.name_bodies.specs.Views.{table_at}
use Rattle.name_bodies.specs.Views.{receiver_of}
use Rattle.name_bodies.proofs.Rows.{carry, on_given, own_given, super_given, call_shown, on_shown, super_shown, new_shown}
use Rattle.name_bodies.proofs.Lists.{all_next}
use Rattle.name_bodies.proofs.exprs.+exprs.Goals as goal

pub all-loop-one-preserved : goal.all-loop-one-preserved
all-loop-one-preserved t c =
    all_next (table_at c.args.within.now) c.args.within.now.here c.args.scope.now c.loop-one.number c.expr.new.number c.loop-one.done.items
    c.push.new.self.items
    c.deref-one-items.result.now c.loop-one.one-index c.one-item.result c.in_ok-expr.field-0 _ c.loop-one-test.true c.one-item.is
    c.in_ok-expr.ensures.given c.in_ok-push.ensures.items c.loop-one.invariant

pub expr-returns-in_ok-on-in-None : goal.expr-returns-in_ok-on-in-None
expr-returns-in_ok-on-in-None t c = record {
  given = own_given (λ e. (core.expr_of e, c.applied.new.number)) c.applied.result
      (table_at c.args.within.now) c.args.within.now.here c.args.scope.now c.args.number.now (receiver_of c.in_ok-on-in-None.on)
      (call_shown c.in-Call.args c.in-Call.is c.in-None.is) c.in_ok-on-in-None.ensures c.applied.ensures.given;
}

pub expr-returns-else-within-2 : goal.expr-returns-else-within-2
expr-returns-else-within-2 t c =
    let on : c.args.within.now.here.is_static ≡ false = search rules in record {
      given = super_given (λ e. (core.expr_of e, c.applied-in-SuperCall.new.number)) c.applied-in-SuperCall.result
          (table_at c.args.within.now) c.args.within.now.here c.args.scope.now c.args.number.now (super_shown c.in-SuperCall.args c.in-SuperCall.is)
          on c.applied-in-SuperCall.ensures.given;
    }

pub expr-returns-in-New : goal.expr-returns-in-New
expr-returns-in-New t c = record {
  given = carry (λ e. (core.expr_of e, c.new_object.new.number)) c.new_object.result
      (table_at c.args.within.now) c.args.within.now.here c.args.scope.now c.args.number.now (new_shown c.in-New.args c.in-New.is) c.new_object.ensures.given;
}

pub expr-returns-in_ok-on-in-Some-base : goal.expr-returns-in_ok-on-in-Some-base
expr-returns-in_ok-on-in-Some-base t c =
    record {
      given = on_given (λ e. (core.expr_of e, c.applied-in-Some-base.new.number)) c.applied-in-Some-base.result (table_at c.args.within.now)
          c.args.within.now.here
          c.args.scope.now c.args.number.now c.callee_of.new.number (receiver_of c.in_ok-on-in-Some-base.on)
          (on_shown c.in-Call.args c.in-Call.is c.in-Some-base.is) (ap tree.expr_of c.deref-in-Some-base.ensures)
          c.in_ok-on-in-Some-base.ensures.given c.applied-in-Some-base.ensures.given;
    }
