use Rattle.std.specs.Fmt.{decimal}
use Rattle.edit_script.proofs.words.column_in.Goals as goal

pub returns-in-None : goal.returns-in-None
unfolding lib.Utf8.encode
returns-in-None c = λ id small e. c.in-None.ensures.cases (decimal id.0) e
