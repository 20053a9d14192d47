use Rattle.std.proofs.Common.{◌≡◌, ◌<◌, length, All, sym, ap, ◌∙◌, subst}
use Rattle.std.specs.Prelude.{IfOk}
use Rattle.hier_model.specs.Places.{JoinsNodes, joined_nodes}
use Rattle.hier_rules.proofs.JoinLemmas.{merge_local, put_local, type_after, member_after}
use Rattle.hier_rules.proofs.LocalLemmas.{one_in}
use Rattle.hier_rules.proofs.after.first_broken_after.Goals as goal

pub first_after-requires-clause-join : goal.first_after-requires-clause-join
first_after-requires-clause-join c = subst JoinsNodes (sym c.in-Merge.is) tt

pub first_after-requires-clause-joined : goal.first_after-requires-clause-joined
first_after-requires-clause-joined c = c.deref.ensures.value ∙ ap joined_nodes (sym c.in-Merge.is)

pub first_after-requires-clause-nodes : goal.first_after-requires-clause-nodes
first_after-requires-clause-nodes c =
    let w = c.requires.after in
    subst (All (λ s. s.0 < length c.args.asked.now.hier.now.order.live)) (sym c.deref.ensures.value)
    (merge_local c.args.asked.now.facts.now w.before w.fits c.args.asked.now.hier.now c.args.edit.now w.made c.in-Merge.set c.in-Merge.is c.requires.some).1

pub first_after-requires-in-Under-clause-join : goal.first_after-requires-in-Under-clause-join
first_after-requires-in-Under-clause-join c = subst JoinsNodes (sym c.in-Under.is) tt

pub first_after-requires-in-Under-clause-joined : goal.first_after-requires-in-Under-clause-joined
first_after-requires-in-Under-clause-joined c = ap joined_nodes (sym c.in-Under.is)

pub first_after-requires-in-Under-clause-nodes : goal.first_after-requires-in-Under-clause-nodes
first_after-requires-in-Under-clause-nodes c =
    let w = c.requires.after in
    one_in c.in-Under.n
    (put_local c.args.asked.now.facts.now w.before w.fits c.args.asked.now.hier.now c.args.edit.now w.made c.in-Under.n c.in-Under.field-1 c.in-Under.is).1

pub returns-in-TypeName : goal.returns-in-TypeName
returns-in-TypeName c =
    let F = c.args.asked.now.facts.now in
    let K = c.args.asked.now.hier.now in
    let after = type_after F c.requires.after.before c.requires.after.fits c.args.asked.now.pt.now c.requires.after.meets K c.args.edit.now c.requires.after.made
    c.in-TypeName.field-0 c.in-TypeName.field-1 c.in-TypeName.is in
    record { first = subst (λ o. IfOk c.first_misnamed.result (λ b. b ≡ o)) (sym after) c.first_misnamed.ensures }

pub returns-in-MemberName : goal.returns-in-MemberName
returns-in-MemberName c =
    let F = c.args.asked.now.facts.now in
    let K = c.args.asked.now.hier.now in
    let after = member_after F c.requires.after.before c.requires.after.fits c.args.asked.now.pt.now c.requires.after.meets K c.args.edit.now c.requires.after.made
    c.in-MemberName.field-0 c.in-MemberName.field-1 c.in-MemberName.is in
    record { first = subst (λ o. IfOk c.first_misnamed-in-MemberName.result (λ b. b ≡ o)) (sym after) c.first_misnamed-in-MemberName.ensures }
