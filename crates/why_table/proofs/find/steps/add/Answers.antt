use Rattle.std.proofs.Common.{◌<◌, [], ◌∷◌, length, subst, sym, ap, arith}
use Rattle.std.proofs.lemmas.List.{length-append}
use Rattle.why_table.specs.Search.{AreSteps}
use Rattle.why_table.proofs.StepLemmas.{steps_push}
use Rattle.why_table.proofs.find.steps.add.Goals as goal

pub returns : goal.returns
returns c =
    let F = c.args.facts.now in
    let xs = c.args.steps.now.items in
    let few : length xs < 4294967294 = omega (arith, c.len.ensures, c.if-len-ge4294967294.false) in
    record {
      steps = subst (AreSteps F) (sym c.in_ok-push.ensures.items) (steps_push F xs c.args.step c.requires.steps c.requires.step few);
      more = omega (arith, ap length c.in_ok-push.ensures.items, length-append xs (c.args.step ∷ []));
    }
