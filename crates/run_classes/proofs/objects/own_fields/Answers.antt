use Rattle.std.proofs.Common.{◌≤◌, ◌++◌, length, sym, ap, ◌∙◌, arith}
use Rattle.std.proofs.lemmas.List.{append-nil}
use Rattle.std.proofs.Math.ListN.{drop_of_length-le}
use Rattle.run_classes.specs.Lines.{instances}
use Rattle.run_classes.proofs.Layouts.{own_instances}
use Rattle.run_classes.proofs.objects.own_fields.Goals as goal

pub returns : goal.returns
returns c =
    let fields = c.args.p.now.fields.items in
    let own = c.declared_fields-at-items.result.now in
    let end : length own ≤ c.loop-at.at-index = omega (arith, c.loop-at-test.false) in
    sym (append-nil c.loop-at.fields.items) ∙ ap (λ l. c.loop-at.fields.items ++ instances fields l) (sym (drop_of_length-le own end))
    ∙ c.loop-at.invariant
    ∙ ap (λ l. c.args.fields.now.items ++ instances fields l) c.declared_fields-at-items.ensures
    ∙ ap (λ l. c.args.fields.now.items ++ l) (own_instances c.args.class.0 fields)
