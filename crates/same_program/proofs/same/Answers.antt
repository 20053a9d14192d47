use Rattle.std.proofs.Common.{◌∙◌}
use Rattle.java_core.specs.Programs.{program_of}
use Rattle.same_program.specs.Same.{are_one}
use Rattle.same_program.proofs.Decided.{exact, programs_decide}
use Rattle.same_program.proofs.same.Goals as goal

pub returns : goal.returns
returns c = record {
  exact = exact c.parted.result (are_one (program_of c.args.first.now) (program_of c.args.second.now)) (c.parted.ensures ∙ c.programs.ensures)
      (programs_decide (program_of c.args.first.now) (program_of c.args.second.now));
}
