use Rattle.std.proofs.Common.{rules, sym}
use Rattle.java_parse.proofs.DeclarationSteps.{ids_none, ids_end}
use Rattle.java_parse.proofs.decl.names.Goals as goal

pub returns-in_default-clause-reads : goal.returns-in_default-clause-reads
returns-in_default-clause-reads c = c.more.invariant.so_far _ (ids_none (search rules))

pub returns-in_default-mark_at-clause-reads : goal.returns-in_default-mark_at-clause-reads
returns-in_default-mark_at-clause-reads c = c.more.invariant.so_far _
    (rw (c.in_ok-push.ensures.items, c.in_ok-name.ensures.value) (ids_end (sym c.in-Some.ensures.value) (search rules)))
