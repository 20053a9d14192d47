use Rattle.std.proofs.Common.{◌≡◌, ⊎_elim, get_or, sym, ap, ◌∙◌, subst, arith}
use Rattle.std.proofs.lemmas.Bool.{cases_lt}
use Rattle.std.proofs.lemmas.List.{get_or_default}
use Rattle.kaba_bits.specs.Sets.{row}
use Rattle.fact_model.specs.Concepts.{Pair}
use Rattle.concept_build.specs.Tables.{AreNear}
use Rattle.concept_build.specs.Lists.{pair_at, HasMeet}
use Rattle.concept_build.proofs.ExtentLemmas.{nothing}
use Rattle.concept_build.proofs.GrowLemmas.{Grows-refl, Grows-trans, HasMeet-grows, AreNext-near}
use Rattle.concept_build.proofs.intents.add_next.Goals as goal

pub near_rows-requires-clause-widths : goal.near_rows-requires-clause-widths
near_rows-requires-clause-widths c =
    rw (c.item_at.ensures.item nothing, c.deref.ensures.value, (c.requires.found.each c.args.k nothing c.requires.k).intent.len) c.requires.source.widths

pub near_rows-requires-clause-extent : goal.near_rows-requires-clause-extent
near_rows-requires-clause-extent c =
    rw (c.item_at.ensures.item nothing, c.deref.ensures.value) (c.requires.found.each c.args.k nothing c.requires.k).extent

pub near_rows-requires-clause-counts : goal.near_rows-requires-clause-counts
near_rows-requires-clause-counts c =
    rw (c.item_at.ensures.item nothing, c.deref.ensures.value, (c.requires.found.each c.args.k nothing c.requires.k).intent.len) c.requires.source.counts

pub loop-q-init : goal.loop-q-init
loop-q-init c = record {
  found = c.requires.found;
  grows = Grows-refl c.args.items.now.items;
  has = λ i d lt. absurd (omega (arith, lt));
}

pub add_meet-requires-clause-k : goal.add_meet-requires-clause-k
add_meet-requires-clause-k c = omega (arith, c.requires.k, c.loop-q.invariant.grows.len)

pub add_meet-requires-clause-q : goal.add_meet-requires-clause-q
add_meet-requires-clause-q c =
    let below = rw (← c.deref-q-items.ensures.value) at c.in_ok-near.ensures.below in below c.loop-q.q-index 0 c.loop-q-test.true

pub loop-q-preserved : goal.loop-q-preserved
loop-q-preserved c =
    let T = c.args.source.now.table.now in
    let first = c.args.items.now.items in
    let old = c.loop-q.items.items in
    let new = c.add_meet.new.items.items in
    let k = c.args.k in
    let near = c.deref-q-items.result.now in
    let n = c.loop-q.q-index in
    let o = c.in_ok-add_meet.ensures in
    record {
      found = o.found;
      grows = Grows-trans first old new c.loop-q.invariant.grows o.grows;
      has = λ i d lt.
          ⊎_elim
          (λ less. HasMeet-grows old new (pair_at first k).1 (row T (get_or near i d)) o.grows (c.loop-q.invariant.has i d less))
          (λ high.
          let e : n ≡ i = omega (arith, high, lt) in
          let at : get_or near n 0 ≡ get_or near i d = get_or_default near n 0 d c.loop-q-test.true ∙ ap (λ j. get_or near j d) e in
          let same = ap (λ (x : Pair). x.1) (c.loop-q.invariant.grows.same k c.requires.k) in
          subst (λ q. HasMeet new (pair_at first k).1 (row T q)) at (subst (λ B. HasMeet new B (row T (get_or near n 0))) same o.has))
          (cases_lt i n);
    }

pub returns : goal.returns
returns c =
    let T = c.args.source.now.table.now in
    let first = c.args.items.now.items in
    let new = c.loop-q.items.items in
    let k = c.args.k in
    let near = c.deref-q-items.result.now in
    let same = sym (c.loop-q.invariant.grows.same k c.requires.k) in
    let are = rw (c.item_at.ensures.item nothing, c.deref.ensures.value, ← c.deref-q-items.ensures.value) at c.in_ok-near.ensures in
    record {
      found = c.loop-q.invariant.found;
      grows = c.loop-q.invariant.grows;
      next = λ small. AreNext-near T new k c.loop-q.q-index near (subst (λ (x : Pair). AreNear T x.0 x.1 near) same are) (omega arith)
          (λ i d lt. subst (λ (x : Pair). HasMeet new x.1 (row T (get_or near i d))) same (c.loop-q.invariant.has i d lt));
    }
