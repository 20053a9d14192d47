use Rattle.java_again.proofs.Fixed.{one_text, texts_apart}
use Rattle.java_again.proofs.one_text.Goals as goal

pub returns-clause-text : goal.returns-clause-text
returns-clause-text c = one_text

pub returns-clause-apart : goal.returns-clause-apart
returns-clause-apart c = texts_apart
