use Rattle.kaba_top.proofs.OneEach.{one_answer}
use Rattle.kaba_top.proofs.Completing.{complete}
use Rattle.kaba_top.proofs.laws.one_answer.Goals as goal

pub returns-clause-answers : goal.returns-clause-answers
returns-clause-answers c = one_answer

pub returns-clause-complete : goal.returns-clause-complete
returns-clause-complete c = complete
