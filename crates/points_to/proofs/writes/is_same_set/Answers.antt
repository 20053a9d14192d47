use Rattle.kaba_bits.proofs.SetLemmas.{subset-both}
use Rattle.points_to.proofs.RoundLemmas.{on_true_of}
use Rattle.points_to.proofs.writes.is_same_set.Goals as goal

pub returns : goal.returns
returns c = on_true_of c.is_subset-back.result
    (λ e. subset-both c.args.a.now c.args.b.now c.requires (c.is_subset-within.ensures.0 c.if-not-within.false) (c.is_subset-back.ensures.0 e))
