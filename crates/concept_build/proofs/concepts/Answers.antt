use Rattle.std.proofs.Common.{◌≡◌, length, map, get_or, sym, ap, ◌∙◌, subst, arith}
use Rattle.std.proofs.lemmas.List.{length-map}
use Rattle.std.proofs.lemmas.Simd.{map-map}
use Rattle.fact_model.specs.declared.sets.Concept.{Concept}
use Rattle.fact_model.specs.Concepts.{Pair, pair_of, AreAllConcepts, IsConceptPlaced}
use Rattle.concept_build.specs.Lists.{extents_of}
use Rattle.concept_build.proofs.ExtentLemmas.{columns-differ}
use Rattle.concept_build.proofs.concepts.Goals as goal

pub returns-clause-lattice : goal.returns-clause-lattice
returns-clause-lattice c =
    let T = c.args.table.now.rows.items in
    let w = c.args.table.now.width in
    let l = c.in_ok-concepts.concepts.items in
    let items = c.in_ok-items.items.items in
    let all = rw c.deref-2.ensures.value at c.in_ok-items.ensures.all in
    let pairs = rw c.deref-5.ensures.value at c.in_ok-concepts.ensures.pairs in
    let placed = rw (c.deref-4.ensures.value, c.deref-5.ensures.value) at c.in_ok-concepts.ensures.placed in
    let e : extents_of items ≡ map (λ (x : Concept). x.extent) l = ap extents_of (sym pairs) ∙ map-map (λ (p : Pair). p.0) pair_of l in
    record {
      all = subst (AreAllConcepts T w) (sym pairs) all;
      placed = λ k d lt. subst (λ E. IsConceptPlaced T w E k (get_or l k d)) e (placed k d (omega (arith, lt, ap length pairs, length-map l pair_of)));
    }

pub places_of-requires : goal.places_of-requires
places_of-requires c =
    let all = rw c.deref-2.ensures.value at c.in_ok-items.ensures.all in
    rw c.deref-3.ensures.value (columns-differ c.args.table.now.rows.items c.args.table.now.width c.in_ok-items.items.items all.concepts)

pub placed_items-requires : goal.placed_items-requires
placed_items-requires c =
    let all = rw c.deref-2.ensures.value at c.in_ok-items.ensures.all in
    record {
      rows = rw c.deref-4.ensures.value (omega (arith, c.requires.rows));
      widths = rw c.deref-4.ensures.value c.requires.widths;
      counts = rw c.deref-4.ensures.value (rw c.deref.ensures.value at c.in_ok-counts.ensures);
      small = rw c.deref-5.ensures.value (omega (arith, c.in_ok-items.ensures.within));
      all = rw (c.deref-4.ensures.value, c.deref-5.ensures.value) all;
      places = rw c.deref-5.ensures.value (rw c.deref-3.ensures.value at c.in_ok-places.ensures);
    }
