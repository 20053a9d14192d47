use Rattle.std.proofs.Common.{ap, ◌∙◌}
use Rattle.kaba_bits.specs.Sets.{rising}
use Rattle.concept_build.proofs.MadeLemmas.{IsMeet-same}
use Rattle.concept_build.proofs.item.common_columns.Goals as goal

pub meet_of-requires : goal.meet_of-requires
meet_of-requires c = rw c.intent.ensures c.requires

pub returns : goal.returns
returns c M m =
    let is = rw c.intent.ensures at c.in_ok-meet.ensures in
    c.in_ok-columns.ensures.list ∙ ap rising (IsMeet-same c.in_ok-meet.meet M c.args.item.now.1 c.args.with.now is m)
