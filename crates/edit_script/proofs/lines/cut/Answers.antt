use Rattle.std.proofs.Common.{sym}
use Rattle.edit_script.proofs.Cuts.{line_last, line_cut}
use Rattle.edit_script.proofs.lines.cut.Goals as goal

pub returns-in-None : goal.returns-in-None
returns-in-None c = line_last c.args.bytes.now (sym c.in-None.ensures)

pub returns-in-Some : goal.returns-in-Some
returns-in-Some c = line_cut c.args.bytes.now c.in-Some.at (sym c.in-Some.ensures)
