use Rattle.std.proofs.Common.{arith}
use Rattle.edit_script.proofs.Cuts.{cut_parts}
use Rattle.edit_script.proofs.words.cut.Goals as goal

pub returns-clause-parts : goal.returns-clause-parts
returns-clause-parts c = cut_parts c.args.text.now c.split_once.result (c.split_once.ensures.byte (omega arith) (λ w o h. h))
