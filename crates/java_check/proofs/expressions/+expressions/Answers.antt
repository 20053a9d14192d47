use Rattle.std.proofs.Common.{◌≡◌, length, slice_get, sym, ap, ◌∙◌, arith}
use Rattle.std.specs.Option.{option_map}
use Rattle.java_core.specs.Trees.{at_place, exprs}
use Rattle.java_core.specs.Programs.{program_of}
use Rattle.java_check.specs.Callees.{signature_of}
use Rattle.java_check.specs.Outcome.{env_in, asked, args_answer, none_called, call_answer, made_params}
use Rattle.java_check.specs.declared.Kind.TheVariants.{Arguments, NoMember}
use Rattle.java_check.proofs.Arguments.{no_parameter, argument, all_given, more_wanted, and_then-ok, and_then-err, named_answer, named_fault, static_answer, super_call_answer, new_answer, none_given}
use Rattle.java_check.proofs.expressions.+expressions.Goals as goal

pub check_args-returns-in_default : goal.check_args-returns-in_default
check_args-returns-in_default t c =
    let P = program_of c.args.p.now in
    sym (c.loop-i.invariant ∙ no_parameter P (env_in P c.args.body.0) (at_place c.args.place) c.args.args.now (signature_of P c.args.callee).params
    c.loop-i.i c.index-args-i.result (sym c.param_at.ensures ∙ c.in_default.is) c.loop-i-test.true)

pub check_args-returns-in-Err : goal.check_args-returns-in-Err
check_args-returns-in-Err t c =
    let P = program_of c.args.p.now in
    let step = argument P (env_in P c.args.body.0) (at_place c.args.place) c.args.args.now (signature_of P c.args.callee).params c.loop-i.i
    c.index-args-i.result c.in-Some.ty c.index-args-i.is (sym c.param_at.ensures ∙ c.in-Some.is) c.loop-i-test.true in
    sym (c.loop-i.invariant ∙ step ∙ and_then-err _ (sym c.check_arg.ensures ∙ c.in-Err.is))

pub check_args-loop-i-preserved : goal.check_args-loop-i-preserved
check_args-loop-i-preserved t c =
    let P = program_of c.args.p.now in
    let step = argument P (env_in P c.args.body.0) (at_place c.args.place) c.args.args.now (signature_of P c.args.callee).params c.loop-i.i
    c.index-args-i.result c.in-Some.ty c.index-args-i.is (sym c.param_at.ensures ∙ c.in-Some.is) c.loop-i-test.true in
    c.loop-i.invariant ∙ step ∙ and_then-ok _ (sym c.check_arg.ensures ∙ c.in_default-check_arg.is)

pub check_args-returns-in-None : goal.check_args-returns-in-None
check_args-returns-in-None t c =
    let P = program_of c.args.p.now in
    let us = (signature_of P c.args.callee).params in
    let i : length c.args.args.now ≡ c.loop-i.i = omega arith in
    sym (c.loop-i.invariant ∙ all_given P (env_in P c.args.body.0) (at_place c.args.place) c.args.args.now us c.loop-i.i c.loop-i-test.false
    (ap (slice_get us) (sym i) ∙ sym c.param_at-2.ensures ∙ c.in-None.is))

pub check_args-returns-in-Some-param_at : goal.check_args-returns-in-Some-param_at
check_args-returns-in-Some-param_at t c =
    let P = program_of c.args.p.now in
    let us = (signature_of P c.args.callee).params in
    let i : length c.args.args.now ≡ c.loop-i.i = omega arith in
    sym (c.loop-i.invariant ∙ more_wanted P (env_in P c.args.body.0) (at_place c.args.place) c.args.args.now us c.loop-i.i c.in-Some-param_at.field-0
    c.loop-i-test.false (ap (slice_get us) (sym i) ∙ sym c.param_at-2.ensures ∙ c.in-Some-param_at.is))

pub type_of-returns-in-Ok : goal.type_of-returns-in-Ok
type_of-returns-in-Ok t c =
    let P = program_of c.args.p.now in
    let g = env_in P c.args.body.0 in
    let k = c.in-Call in
    c.type_of_call.ensures ∙ ap (λ r. call_answer r (option_map (signature_of P) c.called.result) (args_answer P g (exprs k.args.items) (at_place k.place)) (at_place k.place))
    c.none_called.ensures
    ∙ ap (λ s. call_answer (none_called k.name) s (args_answer P g (exprs k.args.items) (at_place k.place)) (at_place k.place))
    c.called.ensures ∙ named_answer P g k.base k.name k.args k.place k.is (c.type_of_base.ensures k.place) c.in-Ok.is

pub type_of-returns-in-Err : goal.type_of-returns-in-Err
type_of-returns-in-Err t c = named_fault (program_of c.args.p.now) (env_in (program_of c.args.p.now) c.args.body.0) c.in-Call.base
    c.in-Call.name c.in-Call.args c.in-Call.place c.in-Call.is (c.type_of_base.ensures c.in-Call.place) c.in-Err.is

pub type_of-returns-in-StaticCall : goal.type_of-returns-in-StaticCall
type_of-returns-in-StaticCall t c =
    let P = program_of c.args.p.now in
    let g = env_in P c.args.body.0 in
    let k = c.in-StaticCall in
    c.type_of_call-in-StaticCall.ensures ∙ ap (λ s. call_answer NoMember s (args_answer P g (exprs k.args.items) (at_place k.place))
    (at_place k.place)) c.method_called.ensures ∙ static_answer P g k.method k.args k.place k.is

pub type_of-returns-in-SuperCall : goal.type_of-returns-in-SuperCall
type_of-returns-in-SuperCall t c =
    let P = program_of c.args.p.now in
    c.type_of_super.ensures ∙ super_call_answer P (env_in P c.args.body.0) c.in-SuperCall.name c.in-SuperCall.args c.in-SuperCall.place c.in-SuperCall.is

pub type_of-returns-in-New : goal.type_of-returns-in-New
type_of-returns-in-New t c =
    let P = program_of c.args.p.now in
    c.creation.ensures ∙ new_answer P (env_in P c.args.body.0) c.in-New.number c.in-New.class c.in-New.args c.in-New.place c.in-New.is

pub check_made-returns-in-None : goal.check_made-returns-in-None
check_made-returns-in-None t c =
    let P = program_of c.args.p.now in
    let g = env_in P c.args.body.0 in
    c.ask.ensures ∙ ap (λ b. asked b Arguments (at_place c.args.place) (tt {0})) c.is_empty.ensures ∙ none_given P g (at_place c.args.place) c.args.args.now
    ∙ ap (λ o. args_answer P g (exprs c.args.args.now) (at_place c.args.place) (made_params P (option_map (λ m. m.0) o))) (sym c.in-None.is)
