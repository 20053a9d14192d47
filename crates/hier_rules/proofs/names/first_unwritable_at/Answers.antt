use Rattle.std.proofs.Common.{◌≡◌, true, length, sym, ap, ◌∙◌, None, rules}
use Rattle.kaba_bits.specs.Sets.{or_else, first_below}
use Rattle.hier_rules.specs.Names.{unwritable, unwritable_type}
use Rattle.hier_rules.specs.Namesakes.{is_unwritable_member}
use Rattle.hier_rules.proofs.StandingLemmas.{listed_below, standing_unwritable}
use Rattle.hier_rules.proofs.names.first_unwritable_at.Goals as goal

pub first_standing-requires-clause-list : goal.first_standing-requires-clause-list
first_standing-requires-clause-list c =
    listed_below (λ k. is_unwritable_member c.args.asked.now.facts.now c.args.asked.now.hier.now k ≡ true)
    (length c.args.asked.now.facts.now.columns.items) c.args.list.now c.requires.list

pub returns : goal.returns
returns c =
    let F = c.args.asked.now.facts.now in
    let H = c.args.asked.now.hier.now in
    let same = c.first_standing.ensures (is_unwritable_member F H) c.requires.list ∙ standing_unwritable F H c.args.n in
    let none : unwritable_type F H c.args.n ≡ None = search rules in
    same ∙ sym (ap (λ o. or_else o (first_below (length F.columns.items) (unwritable F H c.args.n))) none)
