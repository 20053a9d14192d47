use Rattle.std.proofs.Common.{sym, ◌∙◌, subst}
use Rattle.java_core.specs.Programs.{program_of}
use Rattle.java_core.proofs.Offered.{IsOnWay, way-begins, way-none, way-found, way-up}
use Rattle.java_core.proofs.classes.in_faces.Goals as goal

pub up-init : goal.up-init
up-init c = let P = program_of c.args.p.now in
    subst (λ n. IsOnWay P c.args.name.now c.args.class.0 c.args.class.0 n) (sym c.class_count-steps.ensures)
    (way-begins P c.requires c.args.name.now c.args.class.0)

pub returns-then-steps-eq0 : goal.returns-then-steps-eq0
returns-then-steps-eq0 c =
    let reached = subst (λ n. IsOnWay (program_of c.args.p.now) c.args.name.now c.args.class.0 c.up.at.0 n) c.if-steps-eq0.true c.up.invariant in
    reached.same

pub returns-in_default : goal.returns-in_default
returns-in_default c = way-none (program_of c.args.p.now) c.requires c.args.name.now c.up.steps c.args.class.0 c.up.at.0 c.up.invariant
    c.if-steps-eq0.false (sym c.face_towards.ensures ∙ c.in_default.is)

pub returns-then-is_some : goal.returns-then-is_some
returns-then-is_some c =
    way-found (program_of c.args.p.now) c.requires c.args.name.now (λ d. d.0) c.up.steps c.args.class.0 c.up.at.0 c.in-Some.face
    c.own_method-own.result c.up.invariant c.if-steps-eq0.false (sym c.face_towards.ensures ∙ c.in-Some.is) c.own_method-own.ensures
    (sym c.is_some.ensures ∙ c.if-is_some.true)

pub up-preserved : goal.up-preserved
up-preserved c =
    way-up (program_of c.args.p.now) c.requires c.args.name.now (λ d. d.0) c.up.steps c.args.class.0 c.up.at.0 c.in-Some.face
    c.own_method-own.result c.up.invariant c.if-steps-eq0.false (sym c.face_towards.ensures ∙ c.in-Some.is) c.own_method-own.ensures
    (sym c.is_some.ensures ∙ c.if-is_some.false)
