use Rattle.std.proofs.Common.{◌≡◌, [], ◌∷◌, sym, subst}
use Rattle.std.specs.Prelude.{IfOk}
use Rattle.kaba_order.specs.Formers.{AreBelow}
use Rattle.hier_model.specs.Places.{joined_nodes}
use Rattle.hier_rules.specs.After.{AreApartOutside}
use Rattle.hier_rules.proofs.IndexLemmas.{all_hold}
use Rattle.hier_rules.proofs.JoinLemmas.{merge_after, under_after, merge_kept, under_kept}
use Rattle.hier_rules.proofs.after.first_broken_joined.Goals as goal

pub first_after_join-requires-clause-others : goal.first_after_join-requires-clause-others
first_after_join-requires-clause-others c =
    let F = c.args.asked.now.facts.now in
    let K = c.args.asked.now.hier.now in
    let after = merge_after F c.requires.after.before c.requires.after.fits c.args.asked.now.pt.now c.requires.after.meets K c.args.edit.now c.requires.after.made
    c.in-Merge.set c.in-Merge.is c.requires.some in
    subst (AreApartOutside F K) (sym c.deref.ensures.value) after.1

pub first_after_join-requires-in-Under-clause-others : goal.first_after_join-requires-in-Under-clause-others
first_after_join-requires-in-Under-clause-others c =
    (under_after c.args.asked.now.facts.now c.requires.after.before c.requires.after.fits c.args.asked.now.pt.now c.requires.after.meets c.args.asked.now.hier.now
    c.args.edit.now c.requires.after.made c.in-Under.field-0 c.in-Under.field-1 c.in-Under.is).1

pub first_after_join-requires-clause-kept : goal.first_after_join-requires-clause-kept
first_after_join-requires-clause-kept c =
    let F = c.args.asked.now.facts.now in
    let K = c.args.asked.now.hier.now in
    let kept = merge_kept F c.requires.after.before c.requires.after.fits c.args.asked.now.pt.now c.requires.after.meets K
    c.args.edit.now c.requires.after.made c.requires.asked.hier c.in-Merge.set c.in-Merge.is c.requires.some in
    all_hold F c.args.asked.now.pt.now K c.requires.asked.facts c.requires.asked.hier c.in-Merge.set.items c.args.low.now
    (subst (λ e. AreBelow K.order (joined_nodes e) c.args.low.now) c.in-Merge.is c.requires.low) kept.0

pub first_after_join-requires-in-Under-clause-kept : goal.first_after_join-requires-in-Under-clause-kept
first_after_join-requires-in-Under-clause-kept c =
    let F = c.args.asked.now.facts.now in
    let K = c.args.asked.now.hier.now in
    let n = c.in-Under.field-0 in
    let kept = under_kept F c.requires.after.before c.requires.after.fits c.args.asked.now.pt.now c.requires.after.meets K
    c.args.edit.now c.requires.after.made c.requires.asked.hier n c.in-Under.field-1 c.in-Under.is in
    all_hold F c.args.asked.now.pt.now K c.requires.asked.facts c.requires.asked.hier (n ∷ []) c.args.low.now
    (subst (λ e. AreBelow K.order (joined_nodes e) c.args.low.now) c.in-Under.is c.requires.low) kept.0

pub returns-in-Merge : goal.returns-in-Merge
returns-in-Merge c =
    let F = c.args.asked.now.facts.now in
    let K = c.args.asked.now.hier.now in
    let after = merge_after F c.requires.after.before c.requires.after.fits c.args.asked.now.pt.now c.requires.after.meets K c.args.edit.now c.requires.after.made
    c.in-Merge.set c.in-Merge.is c.requires.some in
    record { first = subst (λ o. IfOk c.first_after_join.result (λ b. b ≡ o)) (sym after.0) c.first_after_join.ensures }

pub returns-in-Under : goal.returns-in-Under
returns-in-Under c =
    let F = c.args.asked.now.facts.now in
    let K = c.args.asked.now.hier.now in
    let after = under_after F c.requires.after.before c.requires.after.fits c.args.asked.now.pt.now c.requires.after.meets K c.args.edit.now c.requires.after.made
    c.in-Under.field-0 c.in-Under.field-1 c.in-Under.is in
    record { first = subst (λ o. IfOk c.first_after_join-in-Under.result (λ b. b ≡ o)) (sym after.0) c.first_after_join-in-Under.ensures }
