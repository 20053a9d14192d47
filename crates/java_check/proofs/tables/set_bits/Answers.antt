use Rattle.java_check.proofs.Words.{bits_set}
use Rattle.java_check.proofs.tables.set_bits.Goals as goal

pub returns-then-class-table-clause-bits : goal.returns-then-class-table-clause-bits
returns-then-class-table-clause-bits c = λ k i lt. bits_set c.args.table.now c.args.class c.args.word c.if-class-table.true k i
