use Rattle.std.proofs.Common.{sym, subst}
use Rattle.java_print.specs.Layout.{comma}
use Rattle.java_print.specs.Adds.{Puts}
use Rattle.java_print.proofs.Adding.{adds_then}
use Rattle.java_print.proofs.exprs.put_comma.Goals as goal

pub returns-in_ok-put_space : goal.returns-in_ok-put_space
returns-in_ok-put_space c = record {
  value = subst (λ b. Puts c.args.into.now.items c.put_space.new.into.items (comma b)) (sym c.if-more.true)
      (λ r. adds_then (c.in_ok-put_mark.ensures.value _) (c.in_ok-put_space.ensures.value r));
}
