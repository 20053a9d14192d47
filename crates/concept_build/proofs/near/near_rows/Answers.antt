use Rattle.std.proofs.Common.{◌≡◌, ◌<◌, length, get_or, ap, ◌∙◌, subst, arith}
use Rattle.std.proofs.lemmas.List.{length-map, get_or_read}
use Rattle.std.proofs.lemmas.List.Elements.{All-contains, Contains-get_or}
use Rattle.kaba_bits.specs.Sets.{row}
use Rattle.kaba_bits.proofs.SetLemmas.{bit-below}
use Rattle.concept_build.specs.Tables.{IsFull}
use Rattle.concept_build.proofs.NearLemmas.{SoFar-empty, SoFar-skip, SoFar-push, AreNear-all}
use Rattle.concept_build.proofs.near.near_rows.Goals as goal
use Rattle.concept_build.proofs.near.near_rows.Goals.{After-index-q, then-branch+in_ok-push+in_ok-pass_over, else-branch}

pub loop-p-init : goal.loop-p-init
loop-p-init c =
    let T = c.args.table.now in
    let ex = c.args.counts.now.examples.items in
    let shares = c.requires.counts.shares in
    let all = c.args.counts.now.shares.all in
    let long = length-map ex (row T) in
    record {
      len = ap length c.in_ok-left.ensures ∙ (shares.all.len ∙ long);
      at = omega arith;
      found = rw (c.new-near.ensures.items, c.new-wide.ensures.items, c.in_ok-left.ensures) (SoFar-empty T c.args.item.now.0 c.args.item.now.1 ex all
          (subst (λ n. IsFull n all) long shares.all));
    }

pub index-q-requires : goal.index-q-requires
index-q-requires c = omega (arith, bit-below c.loop-p.left c.in-Some.p c.in-Some.ensures.holds, c.loop-p.invariant.len)

-- the row that stands for a place
example : (c : After-index-q) → (c.in-Some.p < length c.args.counts.now.examples.items)
    × (c.index-q.result.now ≡ get_or c.args.counts.now.examples.items c.in-Some.p 0)
example c =
    let lt : c.in-Some.p < length c.args.counts.now.examples.items = omega (
      arith,
      bit-below c.loop-p.left c.in-Some.p c.in-Some.ensures.holds,
      c.loop-p.invariant.len,
    ) in
    (lt, get_or_read c.args.counts.now.examples.items _ _ lt c.index-q.ensures 0)

pub is_news-requires : goal.is_news-requires
is_news-requires c =
    let T = c.args.table.now in
    let found = c.loop-p.invariant.found in
    let e = example (goal.at.is_news-requires c).After-index-q in
    record {
      widths = c.requires.widths;
      rows = c.requires.extent.len;
      wide = rw c.deref.ensures.value (λ k d lt. All-contains (λ m. m < length T) c.loop-p.near.items (get_or c.loop-p.wide.items k d) found.below
          (found.known (get_or c.loop-p.wide.items k d) (Contains-get_or c.loop-p.wide.items k d lt)));
      q = rw e.1 (c.requires.counts.examples.below c.in-Some.p 0 e.0);
    }

pub pass_over-requires : goal.pass_over-requires
pass_over-requires c =
    let e = example (goal.at.pass_over-requires c).After-index-q in
    record {
      widths = c.requires.widths;
      counts = c.requires.counts;
      left = c.loop-p.invariant.len;
      q = rw e.1 (c.requires.counts.examples.below c.in-Some.p 0 e.0);
    }

pub loop-p-preserved : goal.loop-p-preserved
loop-p-preserved c =
    let T = c.args.table.now in
    let A = c.args.item.now.0 in
    let B = c.args.item.now.1 in
    let ex = c.args.counts.now.examples.items in
    let n = c.loop-p.at in
    let p = c.in-Some.p in
    let near = c.loop-p.near.items in
    let wide = c.loop-p.wide.items in
    let left = c.loop-p.left in
    let s = c.loop-p.invariant.found in
    let none = c.in-Some.ensures.least in
    let e = example (goal.at.loop-p-preserved c).After-index-q in
    let lt = e.0 in
    let is = e.1 in
    elim c.if-branch.branch [
      | then-branch+in_ok-push+in_ok-pass_over w ↦
          let o = w.in_ok-pass_over.ensures in
          let out = rw (w.if-branch.true, is) at c.in_ok-is_news.ensures in
          let passed = rw is at o.passed in
          let known = rw is at o.wide in
          rw (w.near-is, w.in_ok-push.ensures.items, is, w.wide-is, w.left-is) (record {
            len = o.len ∙ c.loop-p.invariant.len;
            at = omega (arith, lt);
            found = SoFar-push T A B ex n p near wide left s none w.pass_over.new.wide.items w.pass_over.new.left
                (c.requires.counts.examples.below p 0 lt) out known passed;
          })
      | else-branch w ↦
          let known = rw (w.if-branch.false, c.deref.ensures.value, is) at c.in_ok-is_news.ensures in
          rw (w.near-is, w.wide-is, w.left-is) (record {
            len = c.loop-p.invariant.len;
            at = omega (arith, lt);
            found = SoFar-skip T A B ex n p near wide left s none known;
          })
    ]

pub overflow_add-at : goal.overflow_add-at
overflow_add-at c =
    let ex = c.args.counts.now.examples.items in
    omega (
      arith,
      bit-below c.loop-p.left c.in-Some.p c.in-Some.ensures.holds,
      c.loop-p.invariant.len,
      length-map ex (row c.args.table.now),
      c.requires.counts.shares.small,
    )

pub returns : goal.returns
returns c =
    AreNear-all c.args.table.now c.args.item.now.0 c.args.item.now.1 c.args.counts.now.examples.items c.loop-p.at c.loop-p.near.items
    c.loop-p.wide.items c.loop-p.left c.loop-p.invariant.len c.requires.counts.examples c.requires.extent c.loop-p.invariant.found
    c.in_default.ensures
