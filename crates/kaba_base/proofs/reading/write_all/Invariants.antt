use Rattle.std.proofs.Common.{◌-◌, ◌≤◌, ◌≡◌, length, take}
use Rattle.kaba_base.specs.Outside.{taken_more}
use Rattle.kaba_base.proofs.reading.write_all.Given as goal

abbrev pub invariant-loop-done : goal.invariant-loop-done
invariant-loop-done g l =
    (l.done ≤ length l.bytes)
    × (g.S.Sink.taken l.sink ≡ taken_more (g.S.Sink.taken l.fn.sink) (take l.done l.bytes))
    × (g.S.Sink.faults l.fn.sink ≤ g.S.Sink.faults l.sink)

abbrev pub decreases-loop-done : goal.decreases-loop-done
decreases-loop-done g l = length l.bytes - l.done
