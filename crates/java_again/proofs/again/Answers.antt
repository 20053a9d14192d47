use Rattle.java_again.proofs.Given.{no_tree}
use Rattle.java_again.proofs.again.Goals as goal

pub returns-in-Err-NotAProgram-clause-none : goal.returns-in-Err-NotAProgram-clause-none
returns-in-Err-NotAProgram-clause-none c =
    let cause = rw c.in-Err-NotAProgram.field-0-is at c.in-Err-NotAProgram.ensures.refused in
    no_tree c.args.text.now.items c.in-Ok.tokens.items c.in-Ok.ensures.value cause.1.none
