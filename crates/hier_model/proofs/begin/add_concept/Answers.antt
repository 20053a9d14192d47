use Rattle.std.proofs.Common.{arith}
use Rattle.kaba_bits.proofs.SetLemmas.{bit-below}
use Rattle.hier_model.proofs.begin.add_concept.Goals as goal

pub overflow_add-at : goal.overflow_add-at
overflow_add-at c = let lt = bit-below c.args.set.now c.in-Some.i c.in-Some.ensures.holds in omega (arith, lt, c.width-width.ensures)
