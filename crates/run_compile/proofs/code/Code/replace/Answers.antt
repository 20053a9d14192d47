use Rattle.std.proofs.Common.{◌++◌, ◌∷◌, ap, ◌∙◌}
use Rattle.run_code.specs.Ops.{Op}
use Rattle.run_compile.proofs.Lists.{replaced}
use Rattle.run_compile.proofs.code.Code.replace.Goals as goal

pub returns-clause-code : goal.returns-clause-code
returns-clause-code c = λ xs ys x n e.
    replaced c.self.inside.items.items c.args.last c.special.result xs ys x n (c.self.view_is ∙ e) ∙ ap (λ (o : Op). xs ++ o ∷ ys) c.special.ensures
