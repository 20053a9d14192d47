use Rattle.std.specs.Fmt.{decimal}
use Rattle.kaba_words.proofs.words.column_in.Goals as goal

pub returns-in-None : goal.returns-in-None
unfolding lib.Utf8.encode
returns-in-None c = λ n small e. c.in-None.ensures.cases (decimal n) e
