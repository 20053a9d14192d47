use Rattle.std.proofs.Common.{[], length, get_or, ap, ◌∙◌, arith}
use Rattle.kaba_bits.specs.Sets.{size}
use Rattle.std.proofs.lemmas.List.{get_or-map, length-map}
use Rattle.concept_build.proofs.ColumnLemmas.{set-column}
use Rattle.concept_build.proofs.counts.counts_of.Goals as goal

pub columns_in-requires-clause-small : goal.columns_in-requires-clause-small
columns_in-requires-clause-small c = rw c.deref-3.ensures.value (omega (arith, c.in_ok-examples.ensures.few, c.requires.rows))

pub columns_in-requires-clause-rows : goal.columns_in-requires-clause-rows
columns_in-requires-clause-rows c = rw c.deref-3.ensures.value c.in_ok-examples.ensures.examples.below

pub returns : goal.returns
returns c =
    let T = c.args.table.now in
    let w = c.args.width in
    let extents = c.in_ok-extents.extents in
    let sets = extents.sets.items in
    let are = c.in_ok-extents.ensures in
    let sizes = rw c.deref.ensures.value at c.in_ok-columns.ensures in
    record {
      rows = c.in_ok-rows.ensures;
      len = ap length sizes ∙ (length-map sets size ∙ are.len);
      columns = λ k d lt. ap (λ l. get_or l k d) sizes ∙ (get_or-map size sets k [] d (omega (arith, lt, are.len)) ∙ ap size (set-column T w extents are k lt));
      extents = are;
      examples = c.in_ok-examples.ensures.examples;
      shares = rw c.deref-3.ensures.value at c.in_ok-shares.ensures;
    }
