use Rattle.std.proofs.Common.{◌≡◌, ⊎_elim, ◌≤◌, length, sym, subst, arith}
use Rattle.std.proofs.lemmas.Bool.{cases_lt}
use Rattle.std.proofs.lemmas.List.{length-map}
use Rattle.kaba_bits.specs.Sets.{rising}
use Rattle.fact_model.specs.Concepts.{Pair}
use Rattle.concept_build.specs.Tables.{IsFull}
use Rattle.concept_build.specs.Lists.{AreNext}
use Rattle.concept_build.proofs.GrowLemmas.{AreNext-grows}
use Rattle.concept_build.proofs.ReachLemmas.{reached}
use Rattle.concept_build.proofs.intents.found_items.Goals as goal
use Rattle.concept_build.proofs.intents.found_items.Goals.{then-loop-k-test+else-len-source, else-loop-k-test}

pub places_of-requires : goal.places_of-requires
places_of-requires c =
    rw c.deref.ensures.value (λ i j d ij lt. absurd
    (omega (arith, ij, lt, length-map c.in_ok-items.items.items (λ (x : Pair). rising x.1), c.in_ok-items.ensures.one)))

pub loop-k-init : goal.loop-k-init
loop-k-init c = record {
  found = record {
    each = c.in_ok-items.ensures.each;
    differ = λ i j d ij lt. absurd (omega (arith, ij, lt, length-map c.in_ok-items.items.items (λ (x : Pair). rising x.1), c.in_ok-items.ensures.one));
    listed = rw c.deref.ensures.value at c.in_ok-known.ensures;
  };
  some = omega (arith, c.in_ok-items.ensures.one);
  full = c.in_ok-items.ensures.full;
  next = λ small i lt. absurd (omega (arith, lt));
}

pub loop-k-preserved : goal.loop-k-preserved
loop-k-preserved c =
    let T = c.args.source.now.table.now in
    let old = c.loop-k.items.items in
    let new = c.add_next.new.items.items in
    let k = c.loop-k.k in
    let o = c.in_ok-add_next.ensures in
    let i = c.loop-k.invariant in
    record {
      found = o.found;
      some = omega (arith, i.some, o.grows.len);
      full = subst (λ (x : Pair). IsFull c.args.source.now.width x.1) (sym (o.grows.same 0 i.some)) i.full;
      next = λ small m lt.
          ⊎_elim
          (λ less. AreNext-grows T old new m (omega (arith, less)) o.grows (i.next (omega (arith, small, o.grows.len)) m less))
          (λ high. let e : k ≡ m = omega (arith, high, lt) in subst (AreNext T new) e (o.next small))
          (cases_lt m k);
    }

pub returns : goal.returns
returns c =
    let i = c.loop-k.invariant in
    record {
      each = i.found.each;
      differ = i.found.differ;
      all = λ small A B o.
          let done : length c.loop-k.items.items ≤ c.loop-k.k =
          elim c.loop-k-test.branch [
            | then-loop-k-test+else-len-source w ↦ omega (arith, small, w.if-len-source.false, w.len-in-loop-k.ensures)
            | else-loop-k-test w ↦ omega (arith, w.loop-k-test.false, c.len.ensures)
          ] in
          reached c.args.source.now.table.now c.args.source.now.width c.loop-k.items.items i.found.each
          (λ k lt. i.next small k (omega (arith, lt, done))) A B o i.some i.full;
    }
