use Rattle.std.proofs.Common.{◌+◌, Ok, [], map, refl, sym, ap, subst, ◌∙◌, arith}
use Rattle.name_laws.specs.Answers.{GivesValue, unless}
use Rattle.name_types.specs.Clashes.{clash_after}
use Rattle.name_tables.specs.Spots.{spots_from}
use Rattle.name_types.specs.Marks.{AreTested}
use Rattle.name_types.proofs.ClashSpots.{earlier}
use Rattle.name_types.proofs.MarkLemmas.{not-suspected}
use Rattle.name_types.proofs.clashes.clash_step.Goals as goal

pub returns-then-is_suspect-clause-gives : goal.returns-then-is_suspect-clause-gives
returns-then-is_suspect-clause-gives c =
    let rows = c.args.rows.now in
    let all = c.args.all.now.items in
    let b = c.args.b.now in
    subst (λ o. GivesValue (λ n. n) c.after_unless.result o)
    (ap (λ clash. unless clash (Ok (c.args.k + 1))) c.in_ok-clash.ensures ∙ ap (clash_after rows all c.args.k b) (c.at.ensures ∙ c.requires.spots.exact b.name)
    ∙ sym (earlier rows c.args.k b [] all 0 refl (omega arith)))
    c.after_unless.ensures.gives

pub returns-clause-gives : goal.returns-clause-gives
returns-clause-gives c =
    let rows = c.args.rows.now in
    let all = c.args.all.now.items in
    let b = c.args.b.now in
    let tested : AreTested rows all (spots_from 0 b.name (map (λ h. h.name) all)) c.args.suspects.now =
    subst (λ l. AreTested rows all l c.args.suspects.now) (c.requires.spots.exact b.name) (c.requires.tested b.name) in
    subst (λ o. GivesValue (λ n. n) c.after.result o)
    (sym (not-suspected rows all c.args.k b c.args.suspects.now tested c.requires.stands (sym c.is_suspect.ensures ∙ c.if-is_suspect.false))
    ∙ sym (earlier rows c.args.k b [] all 0 refl (omega arith)))
    c.after.ensures
