use Rattle.std.proofs.Common.{sym}
use Rattle.java_parse.proofs.Finals.{param_from}
use Rattle.java_parse.proofs.decl.param.Goals as goal

pub returns-clause-reads : goal.returns-clause-reads
returns-clause-reads c = rw c.in-Ok.ensures.value (param_from _ c.final_at-is_final.ensures.value c.in_ok-ty.ensures.reads (sym c.in-Some.ensures.value))
