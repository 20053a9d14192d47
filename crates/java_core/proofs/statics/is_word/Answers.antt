use Rattle.std.proofs.Common.{◌∙◌}
use Rattle.java_core.proofs.Words.{is_word-same}
use Rattle.java_core.proofs.statics.is_word.Goals as goal

pub returns : goal.returns
returns c = λ w e. c.eq.ensures ∙ is_word-same c.args.name.now w c.as_str.result.now c.args.word.now c.as_str.ensures.value e
