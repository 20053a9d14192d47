use Rattle.std.proofs.Common.{◌≡◌, false, sym, ◌∙◌}
use Rattle.java_core.specs.Programs.{program_of}
use Rattle.java_check.specs.SlotOutcome.{has_bare}
use Rattle.java_check.proofs.Fine.{clear_rule, bodied_fine}
use Rattle.java_check.proofs.slots.fine_for.Goals as goal

pub returns-then-not-has_bare-clause-fine : goal.returns-then-not-has_bare-clause-fine
returns-then-not-has_bare-clause-fine c = λ k lt.
    let P = program_of c.args.p.now in
    let none : has_bare P c.args.list.now ≡ false = sym c.has_bare.ensures ∙ c.if-not-has_bare.true in
    bodied_fine P c.args.batch c.args.list.now c.requires.listed none k

pub returns-clause-fine : goal.returns-clause-fine
returns-clause-fine c = λ k lt.
    clear_rule (program_of c.args.p.now) c.args.batch c.in_ok-found.found c.in_ok-found.ensures k (c.clear_until.ensures.clear k lt)
