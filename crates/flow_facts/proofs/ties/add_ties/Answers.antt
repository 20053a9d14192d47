-- The ties of a call of a slot, which need no program.
use Rattle.std.proofs.Common.{arith}
use Rattle.std.proofs.lemmas.Grind.{common_steps}
use Rattle.java_core.specs.Programs.{program_of}
use Rattle.flow_facts.proofs.ties.add_ties.Goals as goal

pub returns-in-Call-default-default-Some-default-default-default : goal.returns-in-Call-default-default-Some-default-default-default
returns-in-Call-default-default-Some-default-default-default c =
    let added = c.add_slot_args.ensures.value (program_of c.args.program.now) in
    record { value = grind (arith, common_steps, added) }
