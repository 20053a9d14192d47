use Rattle.flow_program.proofs.OneAnswer.{same_facts, same_faults, not_refused}
use Rattle.flow_program.proofs.one_answer.Goals as goal

pub returns : goal.returns
returns c = record { facts = same_facts; faults = same_faults; apart = not_refused }
