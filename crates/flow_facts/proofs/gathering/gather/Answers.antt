-- One body more.
use Rattle.std.proofs.Common.{rules}
use Rattle.java_core.specs.Programs.{program_of}
use Rattle.flow_facts.specs.Views.{body_seen}
use Rattle.flow_facts.specs.Seen.{numbers_seen}
use Rattle.flow_facts.proofs.Gathers.{body_more, so_far}
use Rattle.flow_facts.proofs.gathering.gather.Goals as goal

pub loop-body-init : goal.loop-body-init
loop-body-init c = search rules

pub loop-body-preserved : goal.loop-body-preserved
loop-body-preserved c =
    let all = body_more (numbers_seen c.args.given.now.numbering.now) (program_of c.args.given.now.program.now)
    {b = body_seen c.body-item.result} c.loop-body.invariant
    c.in-Ok.ensures in
    rw (so_far body_seen c.args.bodies.now.items _ c.loop-body.body-index _ c.deref-body-items.ensures.value c.loop-body-test.true c.body-item.is) all
