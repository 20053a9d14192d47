use Rattle.std.proofs.Common.{subst}
use Rattle.stem_base.specs.Faults.{IsBaseFault}
use Rattle.kaba_top.proofs.BaseLemmas.{many_implications}
use Rattle.kaba_top.proofs.base.stems_reply.Goals as goal

pub returns-in-Err-TooManyImplications : goal.returns-in-Err-TooManyImplications
returns-in-Err-TooManyImplications c =
    let table = c.args.table.now in
    many_implications table c.line.result
    (subst (IsBaseFault table.rows.items table.width 4096) c.in-Err-TooManyImplications.field-0-is c.in-Err-TooManyImplications.ensures.cause).1
    c.line.ensures.says
