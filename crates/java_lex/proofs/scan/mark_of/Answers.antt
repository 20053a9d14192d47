use Rattle.java_lex.proofs.Longest.{longest}
use Rattle.java_lex.proofs.scan.mark_of.Goals as goal

pub returns-clause-longest : goal.returns-clause-longest
returns-clause-longest c = longest c.args.rest.now c.mark_in.result c.mark_in.ensures.value
