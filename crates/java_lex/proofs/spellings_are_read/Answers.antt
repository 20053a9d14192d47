use Rattle.java_lex.proofs.Alone.{marks_are_read, keywords_are_read}
use Rattle.java_lex.proofs.spellings_are_read.Goals as goal

pub returns-clause-marks : goal.returns-clause-marks
returns-clause-marks c = marks_are_read

pub returns-clause-keywords : goal.returns-clause-keywords
returns-clause-keywords c = keywords_are_read
