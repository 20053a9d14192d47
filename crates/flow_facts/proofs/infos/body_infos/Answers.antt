-- One more column.
use Rattle.java_core.specs.Programs.{program_of}
use Rattle.flow_rules.specs.Facts.{body_seen, column_body}
use Rattle.flow_facts.specs.Seen.{numbers_seen}
use Rattle.flow_facts.proofs.Steps.{column_step}
use Rattle.flow_facts.proofs.infos.body_infos.Goals as goal

pub loop-c-preserved : goal.loop-c-preserved
loop-c-preserved c =
    let program = program_of c.args.given.now.program.now in
    column_step body_seen (column_body (numbers_seen c.args.given.now.numbering.now) program) c.args.columns.now.items _ c.loop-c.c _ _ _ _ _
    c.deref-column-items.ensures.value c.loop-c-test.true c.loop-c.invariant c.in-Ok-put_if.ensures.value c.in-Ok.ensures.value
