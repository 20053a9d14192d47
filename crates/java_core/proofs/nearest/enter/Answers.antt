use Rattle.std.proofs.Common.{ap, ◌∙◌, sym, subst}
use Rattle.std.specs.Option.{IfSome}
use Rattle.kaba_versions.specs.Held.{holds}
use Rattle.java_core.specs.Classes.{first_or}
use Rattle.java_core.specs.Nearest.{numbered_among, AreVersions, IsVersionAbove}
use Rattle.java_core.proofs.NearestLemmas.{versions-entered}
use Rattle.java_core.proofs.nearest.enter.Goals as goal

pub returns : goal.returns
returns c =
    let parents = c.args.parents.now in
    let above : IsVersionAbove c.args.all.now c.parent_at.result (holds c.in-Some.above) =
    subst (λ o. IfSome o (λ m. IsVersionAbove c.args.all.now c.parent_at.result (holds m))) c.in-Some.is c.in_ok-above.ensures in
    subst (AreVersions parents c.args.numbers.now c.args.own.now.items) (sym c.put.ensures)
    (versions-entered parents c.args.numbers.now c.args.own.now.items c.args.all.now c.requires.before c.args.at c.in_ok-map.map (holds c.in-Some.above)
    (λ i. c.in_ok-map.ensures i ∙ ap (λ l. first_or (numbered_among c.args.numbers.now i l) (holds c.in-Some.above i)) c.listed_under.ensures)
    (subst (λ o. IsVersionAbove c.args.all.now o (holds c.in-Some.above)) c.parent_at.ensures above))
