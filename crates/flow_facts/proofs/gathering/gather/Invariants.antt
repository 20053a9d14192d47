-- What the bodies so far have given.
use Rattle.std.proofs.Common.{take, map}
use Rattle.java_core.specs.Programs.{program_of}
use Rattle.flow_facts.specs.Views.{body_seen}
use Rattle.flow_facts.specs.Seen.{numbers_seen}
use Rattle.flow_facts.specs.Gathered.{AreGathered}
use Rattle.flow_facts.proofs.gathering.gather.Given as goal

abbrev pub invariant-loop-body : goal.invariant-loop-body
invariant-loop-body l = AreGathered (numbers_seen l.given.numbering.now) (program_of l.given.program.now)
    (map body_seen (take l.body-index l.bodies.items)) l.lists
