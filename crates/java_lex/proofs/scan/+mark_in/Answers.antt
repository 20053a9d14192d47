use Rattle.std.proofs.Common.{◌∙◌}
use Rattle.java_lex.proofs.Steps.{mark_skip}
use Rattle.java_lex.proofs.scan.+mark_in.Goals as goal

pub returns-else-begins-clause-value : goal.returns-else-begins-clause-value
returns-else-begins-clause-value t c = mark_skip c.args.marks.now c.as_bytes.result.now c.args.rest.now _ c.begins.result c.mark_in.result
    c.in-len1-up.len_at_least (c.as_bytes.ensures.value ∙ c.text.ensures.value) c.begins.ensures.value c.if-begins.false c.mark_in.ensures.value
