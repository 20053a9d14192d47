use Rattle.java_compare.proofs.Fixed.{one_answer}
use Rattle.java_compare.proofs.one_answer.Goals as goal

pub returns : goal.returns
returns c = record { value = one_answer }
