use Rattle.std.proofs.Common.{◌≡◌, ap, ◌∙◌}
use Rattle.fact_model.specs.Classes.{reaches, below}
use Rattle.fact_model.proofs.ClassLemmas.{below-exact}
use Rattle.fact_model.proofs.classes.below.Goals as goal

pub returns-clause-exact : goal.returns-clause-exact
returns-clause-exact c =
    let facts = c.args.facts.now in
    let count = c.len.ensures ∙ facts.classes.ok.0 in
    let e : c.reaches.result ≡ below facts c.args.a.0 c.args.b.0 = c.reaches.ensures ∙ ap (λ n. reaches facts n c.args.a.0 c.args.b.0) count in
    rw e (below-exact facts c.requires.facts.acyclic c.args.a.0 c.args.b.0)
