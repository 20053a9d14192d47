use Rattle.std.proofs.Common.{false, ◌∷◌, ap, ◌∙◌}
use Rattle.std.specs.Option.{option_map_or}
use Rattle.java_core.specs.Trees.{stmts}
use Rattle.java_meaning.specs.Moment.{Nothing}
use Rattle.java_meaning.specs.Values.{default_of}
use Rattle.run_code.specs.Ops.{Operand, constant, give}
use Rattle.run_compile.specs.Scopes.{plain, env}
use Rattle.run_compile.proofs.Built.{body_made}
use Rattle.run_compile.proofs.bodies.compile_body.Goals as goal

pub returns : goal.returns
unfolding env
returns c =
    let s = c.args.scope.now in
    let xs = stmts c.args.body.now.items in
    let old = c.args.code.now in
    let ends = constant (option_map_or default_of s.code.result Nothing) in
    body_made (plain s) (env s) xs (give false ends) old c.put.new.self c.compile_stmts.new.code _ _ c.len-end.result
    (c.in_ok-put.ensures ∙ ap (λ (o : Operand). give false o ∷ old) c.default_operand.ensures) c.len-end.ensures (c.in_ok-slots.ensures xs)
    c.in_ok-compile_stmts.ensures
