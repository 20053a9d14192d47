use Rattle.java_parse.proofs.CompleteDeclarations.{one_derived}
use Rattle.java_parse.proofs.Fixed.{one_answer}
use Rattle.java_parse.proofs.one_tree.Goals as goal

pub returns-clause-tree : goal.returns-clause-tree
returns-clause-tree c = one_derived

pub returns-clause-answer : goal.returns-clause-answer
returns-clause-answer c = one_answer
