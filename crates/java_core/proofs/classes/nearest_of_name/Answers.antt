use Rattle.std.proofs.Common.{rules, length, sym, ◌∙◌}
use Rattle.java_core.specs.Programs.{program_of}
use Rattle.java_core.specs.Own.{own_named}
use Rattle.java_core.proofs.NearestLemmas.{own-nearest, nothing-own}
use Rattle.java_core.proofs.classes.nearest_of_name.Goals as goal

pub returns-then-is_some : goal.returns-then-is_some
returns-then-is_some c =
    let P = program_of c.args.p.now in
    own-nearest P (λ k. own_named P c.args.kind k c.args.name.now) (λ d. d.0) (length P.classes) c.args.class.0 c.own_named-own.result
    (sym c.is_some.ensures ∙ c.if-is_some.true) c.own_named-own.ensures

pub returns-in-Some : goal.returns-in-Some
returns-in-Some c =
    let P = program_of c.args.p.now in
    c.numbered.ensures ∙ c.in-Some.ensures
    (nothing-own P (λ k. own_named P c.args.kind k c.args.name.now) (λ d. d.0) c.args.class.0 c.own_named-own.result
    (sym c.is_some.ensures ∙ c.if-is_some.false) c.own_named-own.ensures)

pub returns-in-None : goal.returns-in-None
returns-in-None c = c.nearest_up.ensures (λ k. own_named (program_of c.args.p.now) c.args.kind k c.args.name.now) (search rules)
