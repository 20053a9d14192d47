use Rattle.std.proofs.Common.{◌≡◌, ◌++◌, drop}
use Rattle.run_classes.specs.Lines.{instances}
use Rattle.run_classes.proofs.objects.own_fields.Given as goal

abbrev pub invariant-loop-at : goal.invariant-loop-at
invariant-loop-at l =
    l.fields.items ++ instances l.p.fields.items (drop l.at-index l.at-items) ≡ l.initial.fields.items ++ instances l.p.fields.items l.at-items
