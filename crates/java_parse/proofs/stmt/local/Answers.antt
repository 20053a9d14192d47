use Rattle.std.proofs.Common.{sym}
use Rattle.java_parse.proofs.Finals.{local_from}
use Rattle.java_parse.proofs.stmt.local.Goals as goal

pub returns-clause-reads : goal.returns-clause-reads
returns-clause-reads c = rw (c.local.ensures.value, c.in-Ok-copy.ensures.value) (local_from _ c.final_at-is_final.ensures.value c.in_ok-ty.ensures.reads
    (sym c.in-Some.ensures.value) c.in-Ok.ensures.reads)
