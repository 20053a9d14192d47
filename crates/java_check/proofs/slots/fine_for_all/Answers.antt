use Rattle.std.proofs.Common.{rules, ◌≡◌, length, sym, ◌∙◌, subst, ⊎_elim, arith, vec_len}
use Rattle.std.proofs.lemmas.Bool.{cases_lt}
use Rattle.java_core.specs.Programs.{program_of}
use Rattle.java_check.specs.SlotOutcome.{AreMethodsListed, IsFineFor}
use Rattle.java_check.proofs.Fine.{batch_listed}
use Rattle.java_check.proofs.slots.fine_for_all.Goals as goal

pub fine_for-requires-clause-listed : goal.fine_for-requires-clause-listed
fine_for-requires-clause-listed c =
    let p = c.args.p.now in
    subst (λ ms. AreMethodsListed (program_of p) c.loop-batch.batch ms) (sym c.listed_under.ensures)
    (batch_listed p c.args.lists.now.items c.requires.owned c.loop-batch.batch)

pub loop-batch-preserved : goal.loop-batch-preserved
loop-batch-preserved c =
    let P = program_of c.args.p.now in
    let within = c.in_ok-fine.ensures.within in
    record {
      within = omega (arith, within, c.loop-batch.invariant.within);
      fine = λ b k lt few.
          ⊎_elim (λ less. c.loop-batch.invariant.fine b k less (omega (arith, few, within)))
          (λ more. let same : c.loop-batch.batch ≡ b = omega (arith, lt, more) in subst (λ j. IsFineFor P j k) same (c.in_ok-fine.ensures.fine k few))
          (cases_lt b c.loop-batch.batch);
    }

pub returns : goal.returns
returns c = λ b k lt few.
    let p = c.args.p.now in
    let many : vec_len p.slots ≡ length p.slots.items = search rules in
    let count : c.len.result ≡ length p.slots.items = c.len.ensures ∙ many in
    c.loop-batch.invariant.fine b k (omega (arith, lt, count, c.loop-batch-test.false)) few
