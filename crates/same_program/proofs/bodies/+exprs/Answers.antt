use Rattle.std.proofs.Common.{ap, ap₂, ◌∙◌, arith}
use Rattle.std.specs.Prelude.{◌&&◌}
use Rattle.java_core.specs.Trees.{at_place, binary, call, super_call, base_seen, expr_of, exprs}
use Rattle.java_core.specs.Programs.{program_of}
use Rattle.java_core.proofs.Forms.{call_form, super_form}
use Rattle.same_program.proofs.Seen.{exprs_apart, ex_by, ex_at}
use Rattle.same_program.proofs.bodies.+exprs.Goals as goal

pub arguments-returns-then-len : goal.arguments-returns-then-len
arguments-returns-then-len t c =
    c.told.ensures ∙ exprs_apart (program_of c.args.p.now) (program_of c.args.q.now) c.args.a.now.items c.args.b.now.items (λ e. omega (arith, e))

pub expr-returns-in-Call-b : goal.expr-returns-in-Call-b
expr-returns-in-Call-b t c =
    ex_by (program_of c.args.p.now) (program_of c.args.q.now)
    (call (at_place c.in-Call.place) (base_seen c.in-Call.base c.in-Call.place) c.in-Call.name (exprs c.in-Call.args.items))
    (call (at_place c.in-Call-b.there) (base_seen c.in-Call-b.root c.in-Call-b.there) c.in-Call-b.other (exprs c.in-Call-b.others.items))
    (call_form _ _ _ _ _ c.in-Call.is) (call_form _ _ _ _ _ c.in-Call-b.is)
    (c.both-in-Call-b-2.ensures ∙ ap₂ (λ y z. y && z) (c.told-in-Call-b.ensures ∙ c.same_names-in-Call-b.ensures)
    (c.both-in-Call-b.ensures ∙ ap₂ (λ y z. y && z) c.receivers.ensures c.arguments.ensures))

pub expr-returns-in-SuperCall-b : goal.expr-returns-in-SuperCall-b
expr-returns-in-SuperCall-b t c =
    ex_by (program_of c.args.p.now) (program_of c.args.q.now)
    (super_call (at_place c.in-SuperCall.place) c.in-SuperCall.name (exprs c.in-SuperCall.args.items))
    (super_call (at_place c.in-SuperCall-b.there) c.in-SuperCall-b.other (exprs c.in-SuperCall-b.others.items))
    (super_form _ _ _ _ c.in-SuperCall.is) (super_form _ _ _ _ c.in-SuperCall-b.is)
    (c.both-in-SuperCall-b.ensures ∙ ap₂ (λ y z. y && z) (c.told-in-SuperCall-b.ensures ∙ c.same_names-in-SuperCall-b.ensures)
    c.arguments-in-SuperCall-b.ensures)

pub expr-returns-in-Binary-b : goal.expr-returns-in-Binary-b
expr-returns-in-Binary-b t c =
    ex_by (program_of c.args.p.now) (program_of c.args.q.now)
    (binary (at_place c.in-Binary.place) c.in-Binary.op (expr_of c.in-Binary.left.value) (expr_of c.in-Binary.right.value))
    (binary (at_place c.in-Binary-b.there) c.in-Binary-b.other (expr_of c.in-Binary-b.first.value) (expr_of c.in-Binary-b.second.value))
    (ap expr_of c.in-Binary.is) (ap expr_of c.in-Binary-b.is)
    (c.both-in-Binary-b-2.ensures ∙ ap₂ (λ y z. y && z) (c.told-in-Binary-b.ensures ∙ c.same_binary.ensures)
    (c.both-in-Binary-b.ensures ∙ ap₂ (λ y z. y && z)
    (ex_at (program_of c.args.p.now) (program_of c.args.q.now) c.deref-in-Binary-b.ensures c.deref-in-Binary-b-2.ensures c.expr-in-Binary-b.ensures)
    (ex_at (program_of c.args.p.now) (program_of c.args.q.now) c.deref-in-Binary-b-3.ensures c.deref-in-Binary-b-4.ensures c.expr-in-Binary-b-2.ensures)))
