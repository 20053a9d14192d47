use Rattle.std.proofs.Common.{refl, arith}
use Rattle.std.proofs.lemmas.List.Sorted.{length_permutation}
use Rattle.concept_build.proofs.SortLemmas.{AreConcepts-sorted, HasIntent-permutation}
use Rattle.concept_build.proofs.intents.all_items.Goals as goal

pub returns-clause-all : goal.returns-clause-all
returns-clause-all c =
    let xs = c.in_ok-items.items.items in
    let ys = c.sort_items.new.items.items in
    let p = c.in_ok-sort_items.ensures.same in
    let len = length_permutation xs ys p in
    record {
      concepts = AreConcepts-sorted c.args.source.now.table.now c.args.source.now.width xs ys p c.in_ok-items.ensures.each c.in_ok-sort_items.ensures.ordered;
      complete = λ A B o. HasIntent-permutation xs ys B p (c.in_ok-items.ensures.all (omega (arith, len, c.if-len-source.false, c.len.ensures)) A B o);
    }

pub returns-then-len-source : goal.returns-then-len-source
returns-then-len-source c =
    let xs = c.in_ok-items.items.items in
    let ys = c.sort_items.new.items.items in
    record {
      all = tt;
      within = tt;
      cause = (
        refl,
        record {
          list = ys;
          concepts = AreConcepts-sorted c.args.source.now.table.now c.args.source.now.width xs ys c.in_ok-sort_items.ensures.same c.in_ok-items.ensures.each
              c.in_ok-sort_items.ensures.ordered;
          more = omega (arith, c.if-len-source.true, c.len.ensures);
        },
      );
    }
