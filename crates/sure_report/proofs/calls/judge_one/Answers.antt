use Rattle.std.proofs.Common.{◌≡◌, Some, sym, ap, ◌∙◌, subst}
use Rattle.std.specs.Prelude.{slice_get}
use Rattle.std.proofs.lemmas.Option.{same_Some, slice_get-get_or}
use Rattle.sure_report.specs.Report.{MayRunThese}
use Rattle.sure_report.proofs.calls.judge_one.Goals as goal

pub returns : goal.returns
returns c = λ k e.
    let at : slice_get c.args.facts.now.calls.items c.args.x.now.at ≡ Some c.index.result.now =
    slice_get-get_or c.args.facts.now.calls.items c.args.x.now.at c.index.result.now c.requires.number ∙ ap (λ z. Some z) (sym c.index.ensures) in
    subst (λ z. MayRunThese c.args.facts.now c.args.pt.now z c.bodies_of.result) (same_Some c.index.result.now k (sym at ∙ e)) c.bodies_of.ensures
