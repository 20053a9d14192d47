use Rattle.std.proofs.Common.{rules, ◌≡◌, ◌+◌, ◌-◌, suc, length, sym, ap, ◌∙◌, arith, vec_len}
use Rattle.java_core.specs.Programs.{program_of}
use Rattle.java_core.specs.Classes.{first_or}
use Rattle.java_check.specs.NearOutcome.{kept_at, found_in}
use Rattle.java_check.proofs.Near.{walk-step, walked, first_or-none}
use Rattle.java_check.proofs.nearest.walk.Goals as goal

pub loop-done-preserved : goal.loop-done-preserved
loop-done-preserved c =
    let p = c.args.p.now in
    let P = program_of p in
    let many : vec_len p.classes ≡ length p.classes.items = search rules in
    let count : c.len-done-end.result ≡ length p.classes.items = c.len-done-end.ensures ∙ many in
    let n = length p.classes.items - c.loop-done._done in
    let now : length p.classes.items + 1 - c.loop-done._done ≡ suc n = omega (arith, count, c.loop-done-test.true) in
    let next : length p.classes.items + 1 - (c.loop-done._done + 1) ≡ n = omega (arith, count, c.loop-done-test.true) in
    record {
      len = c.step-at.ensures.len ∙ c.loop-done.invariant.len;
      kept = λ s lt.
          ap (λ k. first_or (kept_at c.step-at.new.near s) (found_in P s k c.step-at.result)) next
          ∙ (walk-step P s n c.loop-done.at c.step-at.result (kept_at c.loop-done.near s) (kept_at c.step-at.new.near s) c.step-at.ensures.next
          (c.step-at.ensures.kept s (omega (arith, lt, c.loop-done.invariant.len)))
          ∙ (ap (λ k. first_or (kept_at c.loop-done.near s) (found_in P s k c.loop-done.at)) (sym now) ∙ c.loop-done.invariant.kept s lt));
    }

pub returns-clause-kept : goal.returns-clause-kept
returns-clause-kept c = λ s lt.
    let p = c.args.p.now in
    let P = program_of p in
    let many : vec_len p.classes ≡ length p.classes.items = search rules in
    let count : c.len-done-end.result ≡ length p.classes.items = c.len-done-end.ensures ∙ many in
    let none : length p.classes.items + 1 - c.loop-done._done ≡ 0 = omega (arith, count, c.loop-done-test.false) in
    sym (first_or-none (kept_at c.loop-done.near s))
    ∙ (ap (λ k. first_or (kept_at c.loop-done.near s) (found_in P s k c.loop-done.at)) (sym none)
    ∙ (c.loop-done.invariant.kept s lt ∙ ap (first_or (kept_at c.args.near.now s)) (walked p c.args.class s)))
