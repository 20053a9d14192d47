use Rattle.std.proofs.Common.{◌≡◌, ◌<◌, length, ap, ◌∙◌, true, refl, subst, ⊎_elim, arith}
use Rattle.std.proofs.lemmas.Bool.{cases_lt}
use Rattle.std.proofs.lemmas.List.{length-set}
use Rattle.kaba_bits.specs.Sets.{bit, IsSubset}
use Rattle.kaba_bits.proofs.StepLemmas.{IsStep-then}
use Rattle.points_to.proofs.RoundLemmas.{begun_more, covered_more, site_below, run_closed}
use Rattle.points_to.proofs.runs.close_run.Goals as goal

pub run_site-requires-clause-holds : goal.run_site-requires-clause-holds
run_site-requires-clause-holds c =
    let x = c.args.x in
    let o = c.in-Some.o in
    c.requires.bases.sound x.base o (subst (λ r. bit r o ≡ true) c.row_at-set.ensures c.in-Some.ensures.2)

pub scan-preserved : goal.scan-preserved
scan-preserved c =
    let F = c.args.given.now.facts.now in
    let old = c.scan.sets in
    let new = c.run_site.new.sets in
    let b = c.scan.begun in
    let o = c.in-Some.o in
    let found = c.in-Some.ensures in
    let more = c.in_ok-more-in-Some.more in
    let step = c.in_ok-more-in-Some.ensures in
    let before = c.scan.invariant in
    let lt : o < length b.sites = omega (arith, found.1, before.width_is) in
    record {
      sets = step.sets;
      width_is = ap length c.set.ensures.after ∙ (length-set b.sites o true ∙ before.width_is);
      slot = before.slot;
      step = IsStep-then c.args.sets.now old new c.scan.grew more before.step step.step;
      begun = begun_more F c.args.sets.now old new c.args.begun.now b _ o c.scan.grew more step.step lt refl c.set.ensures.after
          (rw before.slot step.closed) before.begun;
      all = covered_more c.row_at-set.result.now b.sites _ o c.scan.at c.set.ensures.after lt found.3 before.all;
    }

pub returns-in-None-clause-closed : goal.returns-in-None-clause-closed
returns-in-None-clause-closed c =
    let b = c.scan.begun in
    let x = c.args.x in
    let before = c.scan.invariant in
    let all : IsSubset c.row_at-set.result.now b.sites = λ k h. ⊎_elim (λ lt. before.all k lt h) (λ ge. c.in-None.ensures k ge h) (cases_lt k c.scan.at) in
    run_closed c.args.given.now.facts.now c.args.bases.now c.args.sets.now c.scan.sets c.args.begun.now b x c.scan.grew before.slot before.begun
    (rw c.row_at-set.ensures at all)

pub returns-clause-closed : goal.returns-clause-closed
returns-clause-closed c =
    let b = c.scan.begun in
    let x = c.args.x in
    let before = c.scan.invariant in
    let all = rw c.row_at-set.ensures at before.all in
    run_closed c.args.given.now.facts.now c.args.bases.now c.args.sets.now c.scan.sets c.args.begun.now b x c.scan.grew before.slot before.begun
    (λ k h. let below = site_below c.args.given.now.facts.now c.args.bases.now x.base k c.requires.bases h in all k (omega (arith, below, c.len-width.ensures)) h)
