use Rattle.std.proofs.Common.{◌≡◌, drop}
use Rattle.java_core.specs.Trees.{at_place, exprs}
use Rattle.java_core.specs.Programs.{program_of}
use Rattle.java_check.specs.Callees.{signature_of}
use Rattle.java_check.specs.Outcome.{env_in, args_answer}
use Rattle.java_check.proofs.expressions.+expressions.Given as goal

abbrev pub invariant-check_args-loop-i : goal.invariant-check_args-loop-i
invariant-check_args-loop-i l =
    let P = program_of l.p in
    let us = (signature_of P l.callee).params in
    let g = env_in P l.body.0 in
    args_answer P g (exprs l.args) (at_place l.place) us ≡ args_answer P g (exprs (drop l.i l.args)) (at_place l.place) (drop l.i us)
