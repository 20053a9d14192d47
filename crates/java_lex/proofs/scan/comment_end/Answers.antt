use Rattle.java_lex.proofs.Steps.{comment_step}
use Rattle.java_lex.proofs.scan.comment_end.Goals as goal

pub loop-at-preserved : goal.loop-at-preserved
loop-at-preserved c = comment_step c.args.rest.now c.loop-at.at _ c.begins.result c.loop-at-test.true c.begins.ensures.value c.if-begins.false
    c.loop-at.invariant
