use Rattle.std.proofs.Common.{◌≡◌, true, subst, length, arith, sym, ◌∙◌, None, rules}
use Rattle.kaba_bits.specs.Sets.{ListsBelow, first_below, or_else}
use Rattle.kaba_bits.proofs.FirstLemmas.{first_below_found, first_below_more}
use Rattle.hier_rules.specs.Names.{unwritable_type, unwritable}
use Rattle.hier_rules.specs.Namesakes.{is_unwritable_member}
use Rattle.hier_rules.proofs.names.first_unwritable.Goals as goal

pub first_unwritable_at-requires-clause-list : goal.first_unwritable_at-requires-clause-list
first_unwritable_at-requires-clause-list c =
    let F = c.args.asked.now.facts.now in
    let H = c.args.asked.now.hier.now in
    subst (λ l. ListsBelow (λ k. is_unwritable_member F H k ≡ true) (length F.columns.items) l) (sym c.deref.ensures.value) c.in_ok-list.ensures

pub returns-in-Some : goal.returns-in-Some
returns-in-Some c =
    let F = c.args.asked.now.facts.now in
    let H = c.args.asked.now.hier.now in
    sym (first_below_found (λ n. or_else (unwritable_type F H n) (first_below (length F.columns.items) (unwritable F H n))) c.loop-n.n
    (length H.order.live) c.in-Some.found (omega arith) c.loop-n.invariant (sym c.in-Some.ensures))

pub loop-n-preserved : goal.loop-n-preserved
loop-n-preserved c =
    let F = c.args.asked.now.facts.now in
    let H = c.args.asked.now.hier.now in
    let none : c.first_unwritable_at.result ≡ None = search rules in
    first_below_more (λ n. or_else (unwritable_type F H n) (first_below (length F.columns.items) (unwritable F H n))) c.loop-n.n c.loop-n.invariant
    (sym c.first_unwritable_at.ensures ∙ none)
