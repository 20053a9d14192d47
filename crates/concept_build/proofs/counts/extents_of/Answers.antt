use Rattle.std.proofs.Common.{subst, ◌∙◌, ap, length, arith}
use Rattle.std.proofs.lemmas.List.{length-map}
use Rattle.kaba_bits.specs.Sets.{row}
use Rattle.concept_build.specs.Tables.{AreColumnSets, listed_rows}
use Rattle.concept_build.proofs.counts.extents_of.Goals as goal

pub columns_in-requires-clause-small : goal.columns_in-requires-clause-small
columns_in-requires-clause-small c =
    let T = c.args.table.now in
    let xs = c.in_ok-rows.rows.items in
    rw c.deref.ensures.value (omega (arith, length-map xs (row T), ap length c.in_ok-rows.ensures.all, c.requires.rows))

pub returns : goal.returns
returns c =
    let T = c.args.table.now in
    subst (λ R. AreColumnSets R c.args.width c.in_ok-extents.extents) (ap (listed_rows T) c.deref.ensures.value ∙ c.in_ok-rows.ensures.all) c.in_ok-extents.ensures
