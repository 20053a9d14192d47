use Rattle.std.proofs.Common.{◌∙◌, sym, arith}
use Rattle.points_to.proofs.writes.is_alike.Goals as goal
use Rattle.kaba_bits.proofs.WordLemmas.{on_true}

pub is_same_set-same-requires : goal.is_same_set-same-requires
is_same_set-same-requires c =
    let sets = c.requires.bases in
    rw c.row_at.ensures (c.requires.pending.sites ∙ sym (sets.widths c.args.x.base (omega (arith, c.requires.write.base, sets.len))))

pub returns : goal.returns
returns c = on_true c.is_same_set-same.result (λ s. (c.is_same_member-alike.ensures.0 c.if-not-alike.false, s ∙ c.row_at.ensures))
    c.is_same_set-same.ensures
