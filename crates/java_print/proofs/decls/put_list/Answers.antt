use Rattle.java_print.proofs.Adding.{on_ok}
use Rattle.java_print.proofs.DeclAdding.{listed_along}
use Rattle.java_print.proofs.decls.put_list.Goals as goal

pub returns-in-len1-up : goal.returns-in-len1-up
returns-in-len1-up c = record {
  value = on_ok c.put_listed.result c.put_listed.ensures.value
      (λ h. listed_along c.args.key c.args.ids.now c.in-len1-up.len_at_least h);
}
