-- One part more.
use Rattle.java_core.specs.Programs.{program_of}
use Rattle.flow_facts.specs.Views.{part_seen}
use Rattle.flow_facts.specs.Seen.{numbers_seen}
use Rattle.flow_facts.proofs.Gathers.{no_parts, part_more, so_far}
use Rattle.flow_facts.proofs.gathering.add_parts.Goals as goal

pub loop-part-init : goal.loop-part-init
loop-part-init c = no_parts (numbers_seen c.args.given.now.numbering.now) (program_of c.args.given.now.program.now) c.args.m c.args.slot
    c.args.lists.now

pub loop-part-preserved : goal.loop-part-preserved
loop-part-preserved c =
    let all = part_more (numbers_seen c.args.given.now.numbering.now) (program_of c.args.given.now.program.now) c.loop-part.invariant
    c.in-Ok.ensures in
    rw (so_far part_seen c.args.parts.now.items _ c.loop-part.part-index _ c.deref-part-items.ensures.value c.loop-part-test.true c.part-item.is) all
