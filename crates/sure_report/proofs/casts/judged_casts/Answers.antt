use Rattle.std.proofs.Common.{◌<◌, ◌∙◌, length, sym, subst}
use Rattle.std.specs.Prelude.{All}
use Rattle.sure_report.proofs.Judged.{tests_numbered}
use Rattle.sure_report.proofs.casts.judged_casts.Goals as goal

pub judge-requires-clause-spots : goal.judge-requires-clause-spots
judge-requires-clause-spots c =
    subst (λ z. All (λ x. x.at < length c.args.facts.now.tests.items) z) (sym (c.deref.ensures.value ∙ c.in_ok-spots.ensures))
    (tests_numbered c.args.facts.now c.requires.spots)
