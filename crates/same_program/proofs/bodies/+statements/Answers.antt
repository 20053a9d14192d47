use Rattle.std.proofs.Common.{rules, ◌≡◌, length, vec_len, sym, ap₂, ◌∙◌, arith}
use Rattle.std.specs.Prelude.{◌&&◌, ◌==◌, false, Some, None}
use Rattle.java_core.specs.Trees.{at_place, block, loop, value_of, stmts, step_seen}
use Rattle.java_core.specs.Programs.{program_of}
use Rattle.java_core.proofs.Forms.{block_form, for_form}
use Rattle.same_program.proofs.Seen.{and_true, and_false, st_by, if_as, statements_all}
use Rattle.same_program.proofs.bodies.+statements.Goals as goal

pub statement-returns-in-Block-b : goal.statement-returns-in-Block-b
statement-returns-in-Block-b t c =
    st_by (program_of c.args.p.now) (program_of c.args.q.now)
    (block (at_place c.in-Block.place) (stmts c.in-Block.items.items)) (block (at_place c.in-Block-b.there) (stmts c.in-Block-b.others.items))
    (block_form _ _ _ c.in-Block.is) (block_form _ _ _ c.in-Block-b.is) c.statements.ensures

pub statement-returns-in-For-b : goal.statement-returns-in-For-b
statement-returns-in-For-b t c =
    st_by (program_of c.args.p.now) (program_of c.args.q.now)
    (loop (at_place c.in-For.place) false (step_seen c.in-For.first) (value_of c.in-For.test) (step_seen c.in-For.step) (stmts c.in-For.body.items))
    (loop (at_place c.in-For-b.there) false (step_seen c.in-For-b.start) (value_of c.in-For-b.other) (step_seen c.in-For-b.next)
    (stmts c.in-For-b.others.items))
    (for_form _ _ _ _ _ _ c.in-For.is) (for_form _ _ _ _ _ _ c.in-For-b.is)
    (c.both-in-For-b-3.ensures ∙ ap₂ (λ y z. y && z) c.steps.ensures
    (c.both-in-For-b-2.ensures ∙ ap₂ (λ y z. y && z) c.values-in-For-b.ensures
    (c.both-in-For-b.ensures ∙ ap₂ (λ y z. y && z) c.steps-in-For-b.ensures c.statements-in-For-b.ensures)))

pub statements-returns : goal.statements-returns
statements-returns t c =
    let a : vec_len c.args.a.now ≡ length c.args.a.now.items = search rules in
    let b : vec_len c.args.b.now ≡ length c.args.b.now.items = search rules in
    c.told.ensures ∙ ap₂ (λ x y. x == y) (c.len-3.ensures ∙ a) (c.len-4.ensures ∙ b)
    ∙ statements_all (program_of c.args.p.now) (program_of c.args.q.now) c.args.a.now.items c.args.b.now.items c.loop-i.i
    (λ e. let same = c.least-shared.ensures.equal (c.len.ensures ∙ a ∙ e ∙ sym (c.len-2.ensures ∙ b)) in omega (arith, a, same)) c.loop-i.invariant

pub statement-returns-in-None-last : goal.statement-returns-in-None-last
statement-returns-in-None-last t c =
    c.branches.ensures ∙ and_true _
    ∙ if_as (program_of c.args.p.now) (program_of c.args.q.now) _ _ c.in-If.arms c.in-If-b.others None None _ _ c.in-If.is c.in-If-b.is
    c.in-None.is c.in-None-last.is

pub statement-returns-in-Some-last : goal.statement-returns-in-Some-last
statement-returns-in-Some-last t c =
    c.statements_apart-in-Some-last.ensures ∙ and_false _
    ∙ if_as (program_of c.args.p.now) (program_of c.args.q.now) _ _ c.in-If.arms c.in-If-b.others None (Some c.in-Some-last._rest) _ _
    c.in-If.is c.in-If-b.is c.in-None.is c.in-Some-last.is

pub statement-returns-in-None-last-2 : goal.statement-returns-in-None-last-2
statement-returns-in-None-last-2 t c =
    c.statements_apart-in-None-last-2.ensures ∙ and_false _
    ∙ if_as (program_of c.args.p.now) (program_of c.args.q.now) _ _ c.in-If.arms c.in-If-b.others (Some c.in-Some.body) None _ _
    c.in-If.is c.in-If-b.is c.in-Some.is c.in-None-last-2.is

pub statement-returns-in-Some-last-2 : goal.statement-returns-in-Some-last-2
statement-returns-in-Some-last-2 t c =
    c.both-in-Some-last-2.ensures ∙ ap₂ (λ y z. y && z) c.branches-in-Some-last-2.ensures c.statements-in-Some-last-2.ensures
    ∙ if_as (program_of c.args.p.now) (program_of c.args.q.now) _ _ c.in-If.arms c.in-If-b.others (Some c.in-Some.body) (Some c.in-Some-last-2.rest) _ _
    c.in-If.is c.in-If-b.is c.in-Some.is c.in-Some-last-2.is
