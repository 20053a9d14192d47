use Rattle.std.proofs.Common.{[], ◌∷◌, sym, ap, ◌∙◌, arith, ◌++◌}
use Rattle.std.proofs.lemmas.List.{map-append, take_more, take_all}
use Rattle.std.proofs.lemmas.List.Elements.{All-push}
use Rattle.kaba_bits.specs.Sets.{row}
use Rattle.std.proofs.Common.{length, ◌<◌}
use Rattle.concept_build.proofs.counts.every_row.Goals as goal

pub loop-r-preserved : goal.loop-r-preserved
loop-r-preserved c =
    let T = c.args.table.now in
    let xs = c.loop-r.rows.items in
    let r = c.loop-r.r in
    let lt : r < length T = omega arith in
    rw c.in_ok-push.ensures.items (record {
      below = All-push (λ q. q < length T) xs r c.loop-r.invariant.below lt;
      all = map-append (row T) xs (r ∷ []) ∙ (ap (λ l. l ++ row T r ∷ []) c.loop-r.invariant.all ∙ sym (take_more T r [] lt));
    })

pub returns-clause-all : goal.returns-clause-all
returns-clause-all c = c.loop-r.invariant.all ∙ take_all c.loop-r.r c.args.table.now (omega arith)
