use Rattle.std.proofs.Common.{ℕ, Bool, true, List, length, refl, ◌≡◌, ◌∙◌, sym, arith}
use Rattle.std.proofs.lemmas.Bool.{false≢true}
use Rattle.kaba_bits.specs.Sets.{bit}
use Rattle.kaba_bits.proofs.SetLemmas.{bit-below}
use Rattle.kaba_bits.proofs.StepLemmas.{IsStep-then, closed_below, closed-both}
use Rattle.kaba_bits.proofs.WordLemmas.{on_false}
use Rattle.points_to.specs.Rounds.{IsFlushedAt}
use Rattle.points_to.proofs.LoopLemmas.{skip_to, skip_all}
use Rattle.points_to.proofs.writes.flush.Goals as goal

pub overflow_add-at : goal.overflow_add-at
overflow_add-at c =
    let lt = bit-below c.args.pending.now.sites c.in-Some.o c.in-Some.ensures.holds in
    omega (arith, lt, c.requires.pending.sites, c.requires.given.facts.counts.sites)

pub scan-preserved : goal.scan-preserved
scan-preserved c =
    let F = c.args.given.now.facts.now in
    let p = c.args.pending.now in
    let old = c.scan.sets in
    let new = c.write_into.new.sets in
    let more = c.in_ok-more-in-Some.more in
    let step = c.in_ok-more-in-Some.ensures in
    let o = c.in-Some.o in
    let P = λ (sets : List (List Bool)) (k : ℕ). bit p.sites k ≡ true → IsFlushedAt F sets p k in
    let before = skip_to (P old) p.sites c.scan.at (λ k none b. absurd (false≢true (sym none ∙ b))) o c.scan.grew c.in-Some.ensures.least
    c.scan.invariant.closed in
    record {
      sets = step.sets;
      step = IsStep-then c.args.sets.now old new c.scan.grew more c.scan.invariant.step step.step;
      closed = closed_below P old new o c.scan.grew more
          (closed-both (P new o) old new more step.step (on_false {P = IsFlushedAt F new p o} more (λ f _. f) step.closed)) before;
    }

pub returns-in-None-clause-closed : goal.returns-in-None-clause-closed
returns-in-None-clause-closed c =
    let p = c.args.pending.now in
    skip_all (λ k. bit p.sites k ≡ true → IsFlushedAt c.args.given.now.facts.now c.scan.sets p k) p.sites c.scan.at (λ k none b. absurd (false≢true (sym none ∙ b)))
    (length p.sites) c.scan.grew refl c.in-None.ensures c.scan.invariant.closed

pub returns-clause-closed : goal.returns-clause-closed
returns-clause-closed c =
    let p = c.args.pending.now in
    skip_all (λ k. bit p.sites k ≡ true → IsFlushedAt c.args.given.now.facts.now c.scan.sets p k) p.sites c.scan.at (λ k none b. absurd (false≢true (sym none ∙ b)))
    (length p.sites) c.scan.grew refl (λ k high lt. absurd (omega (arith, high, lt, c.requires.pending.sites, c.len-width.ensures))) c.scan.invariant.closed
