use Rattle.std.proofs.Common.{arith, ◌<◌, length}
use Rattle.std.proofs.lemmas.Grind.{common_steps}
use Rattle.java_core.specs.Programs.{program_of}
use Rattle.flow_facts.proofs.names.list_classes.Goals as goal

pub loop-c-preserved : goal.loop-c-preserved
loop-c-preserved c =
    let i = c.loop-c.c in
    let lt : i < length c.args.holders.now = grind (arith, common_steps) in
    let one = c.in-Ok.ensures.value (program_of c.args.program.now) i (c.requires.value i lt) in
    grind (arith, common_steps)
