use Rattle.std.proofs.lemmas.Bool.{true≢false}
use Rattle.std.proofs.Common.{refl, sym}
use Rattle.stem_base.proofs.StemLemmas.{narrowed_has, narrowed_lacks}
use Rattle.stem_base.proofs.stems.narrow.Goals as goal

pub returns-then-is_subset : goal.returns-then-is_subset
returns-then-is_subset c =
    narrowed_has c.args.row.now c.args.set.now c.args.out.now c.and_into.new.self (c.if-is_subset.ensures.0 refl) c.and_into.ensures.width
    c.and_into.ensures.meet

pub returns-else-is_subset : goal.returns-else-is_subset
returns-else-is_subset c = narrowed_lacks c.args.row.now c.args.set.now c.args.out.now (λ s. true≢false (sym (c.if-is_subset.ensures.1 s)))
