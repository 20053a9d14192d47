use Rattle.std.proofs.Common.{arith, refl}
use Rattle.kaba_base.proofs.Written.{taken_on}
use Rattle.kaba_base.proofs.reading.write_all.Goals as goal

pub loop-done-preserved : goal.loop-done-preserved
loop-done-preserved g c = (
  omega (arith, c.in_ok-done.ensures.within),
  taken_on (g.S.Sink.taken c.args.sink.now) (g.S.Sink.taken c.loop-done.sink) (g.S.Sink.taken c.write.new.self) c.args.bytes.now _ c.loop-done.done
      c.in_ok-done.field-0 c.loop-done.invariant.1 refl c.in_ok-done.ensures.taken,
  omega (arith, c.in_ok-done.ensures.later, c.loop-done.invariant.2),
)
