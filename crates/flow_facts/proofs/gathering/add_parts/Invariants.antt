-- What the parts so far have added.
use Rattle.std.proofs.Common.{take}
use Rattle.java_core.specs.Programs.{program_of}
use Rattle.flow_facts.specs.Views.{parts_seen}
use Rattle.flow_facts.specs.Seen.{numbers_seen}
use Rattle.flow_facts.specs.Gathered.{ArePartsAdded}
use Rattle.flow_facts.proofs.gathering.add_parts.Given as goal

abbrev pub invariant-loop-part : goal.invariant-loop-part
invariant-loop-part l = ArePartsAdded (numbers_seen l.given.numbering.now) (program_of l.given.program.now) l.m l.slot
    (parts_seen (take l.part-index l.parts.items))
    l.fn.lists l.lists
