use Rattle.std.proofs.Common.{sym, arith}
use Rattle.why_table.proofs.PastLemmas.{finds_past}
use Rattle.why_table.proofs.items.find_body.Goals as goal

pub returns-else-class-len : goal.returns-else-class-len
returns-else-class-len c = sym (finds_past c.args.facts.now c.requires c.args.class.0 c.args.slot (omega arith))
