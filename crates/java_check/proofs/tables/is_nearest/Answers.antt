use Rattle.std.proofs.Common.{◌≡◌, true, sym, ◌∙◌, subst, ⊎_elim, arith}
use Rattle.std.proofs.lemmas.Bool.{cases_lt}
use Rattle.java_core.specs.Programs.{program_of}
use Rattle.java_check.specs.SlotOutcome.{is_nearest_at}
use Rattle.java_check.proofs.tables.is_nearest.Goals as goal

pub loop-class-preserved : goal.loop-class-preserved
loop-class-preserved c = λ k lt.
    let P = program_of c.args.p.now in
    let right : is_nearest_at P c.args.table.now c.args.having.now c.args.lacking.now c.args.none c.loop-class.class
    ≡ true = sym c.is_nearest_at.ensures ∙ c.if-not-is_nearest_at.false in
    ⊎_elim (λ less. c.loop-class.invariant k less)
    (λ more. let same : c.loop-class.class ≡ k = omega (arith, lt, more) in subst (λ i. is_nearest_at P c.args.table.now c.args.having.now
    c.args.lacking.now c.args.none i ≡ true) same right)
    (cases_lt k c.loop-class.class)
