use Rattle.std.proofs.Common.{◌≡◌, true, sym, ◌∙◌, subst, ⊎_elim, arith}
use Rattle.std.proofs.lemmas.Bool.{cases_lt}
use Rattle.java_core.specs.Programs.{program_of}
use Rattle.java_check.specs.SlotOutcome.{is_above_at}
use Rattle.java_check.proofs.tables.is_above.Goals as goal

pub loop-class-preserved : goal.loop-class-preserved
loop-class-preserved c = λ k lt.
    let P = program_of c.args.p.now in
    let right : is_above_at P c.args.table.now c.args.own.now c.loop-class.class ≡ true = sym c.is_above_at.ensures ∙ c.if-not-is_above_at.false in
    ⊎_elim (λ less. c.loop-class.invariant k less)
    (λ more. let same : c.loop-class.class ≡ k = omega (arith, lt, more) in subst (λ i. is_above_at P c.args.table.now c.args.own.now i ≡ true) same right)
    (cases_lt k c.loop-class.class)
