use Rattle.std.proofs.Common.{◌≡◌, None, true, length, arith, sym, ◌∙◌, rules}
use Rattle.kaba_bits.specs.Sets.{first_below}
use Rattle.kaba_bits.proofs.FirstLemmas.{first_below_more}
use Rattle.hier_rules.specs.Names.{taken_field}
use Rattle.hier_rules.specs.Namesakes.{is_taken_field}
use Rattle.hier_rules.proofs.FoundLemmas.{found_in}
use Rattle.hier_rules.proofs.StandingLemmas.{listed_below, standing_taken}
use Rattle.hier_rules.proofs.names.first_taken_field.Goals as goal

pub first_standing-requires-clause-list : goal.first_standing-requires-clause-list
first_standing-requires-clause-list c =
    listed_below (λ k. is_taken_field c.args.asked.now.facts.now c.args.asked.now.hier.now k ≡ true) (length c.args.asked.now.facts.now.columns.items)
    c.args.list.now c.requires.list

pub returns-in-Some : goal.returns-in-Some
returns-in-Some c =
    let F = c.args.asked.now.facts.now in
    let H = c.args.asked.now.hier.now in
    found_in (length F.columns.items) c.loop-n.n (length H.order.live) (taken_field F H) c.loop-n.invariant
    (c.in-Some.ensures (is_taken_field F H) c.requires.list ∙ standing_taken F H c.loop-n.n) (omega arith)

pub loop-n-preserved : goal.loop-n-preserved
loop-n-preserved c =
    let F = c.args.asked.now.facts.now in
    let H = c.args.asked.now.hier.now in
    let none : c.first_standing.result ≡ None = search rules in
    first_below_more (λ n. first_below (length F.columns.items) (taken_field F H n)) c.loop-n.n c.loop-n.invariant
    (sym (c.first_standing.ensures (is_taken_field F H) c.requires.list ∙ standing_taken F H c.loop-n.n) ∙ none)
