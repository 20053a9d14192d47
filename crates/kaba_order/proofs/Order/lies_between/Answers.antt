use Rattle.std.proofs.Common.{arith}
use Rattle.std.proofs.lemmas.Grind.{common_steps}
use Rattle.kaba_order.proofs.Order.lies_between.Goals as goal

pub some_has-requires-clause-set : goal.some_has-requires-clause-set
some_has-requires-clause-set c = grind (arith, common_steps)

pub has_some-requires : goal.has_some-requires
has_some-requires c = grind (arith, common_steps)
