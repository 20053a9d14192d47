use Rattle.std.proofs.Common.{arith}
use Rattle.java_check.proofs.MarkedNames.{none_called-marked}
use Rattle.java_check.proofs.expressions.none_called.Goals as goal

pub returns-then-starts_with : goal.returns-then-starts_with
returns-then-starts_with c = none_called-marked c.args.name.now c.as_str.result.now c.as_str.ensures.value
    (c.starts_with.ensures.byte (omega arith) (omega arith) (λ w o h. h)) c.if-starts_with.true
