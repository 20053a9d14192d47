use Rattle.std.proofs.Common.{sym, ap, ◌∙◌}
use Rattle.java_core.specs.Programs.{program_of}
use Rattle.java_core.specs.Classes.{first_or}
use Rattle.java_check.specs.NearOutcome.{kept_at, declared_among, own_of}
use Rattle.java_check.proofs.Near.{declared_listed}
use Rattle.java_check.proofs.nearest.step.Goals as goal

pub returns-in-Some-clause-kept : goal.returns-in-Some-clause-kept
returns-in-Some-clause-kept c = λ s lt.
    let p = c.args.p.now in
    let P = program_of p in
    let class = c.in-Some.class.0 in
    c.keep_all.ensures.kept s lt
    ∙ ap (first_or (kept_at c.args.near.now s)) (ap (declared_among P class s) c.listed_under.ensures
    ∙ (declared_listed p c.args.lists.now.items c.requires class s ∙ ap (λ o. own_of P o s) (sym c.in-Some.is)))
