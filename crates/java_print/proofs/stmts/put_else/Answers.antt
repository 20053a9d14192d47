use Rattle.std.proofs.Common.{sym, subst}
use Rattle.java_print.specs.Layout.{else_then}
use Rattle.java_print.specs.Adds.{Puts}
use Rattle.java_print.proofs.Adding.{both_put, on_ok}
use Rattle.java_print.proofs.stmts.put_else.Goals as goal

pub returns-in_ok-put_space : goal.returns-in_ok-put_space
returns-in_ok-put_space c = record {
  value = on_ok c.put_key_space.result c.put_key_space.ensures.value (λ h. subst
      (λ b. Puts c.args.into.now.items c.put_key_space.new.into.items (else_then b)) (sym c.if-more.true) (both_put c.in_ok-put_space.ensures.value h));
}
