use Rattle.std.proofs.Common.{◌≡◌, ◌<◌, get_or, length, ap, sym, ◌∙◌, arith}
use Rattle.std.proofs.lemmas.List.{get_or_default}
use Rattle.hier_rules.specs.Obligations.{first_wrong_of_place}
use Rattle.hier_rules.proofs.NeedLemmas.{place_found, place_none}
use Rattle.hier_rules.proofs.met.first_wrong_outcome_among.Goals as goal

pub returns-in-Some : goal.returns-in-Some
returns-in-Some c =
    let F = c.args.asked.now.facts.now in
    let pt = c.args.asked.now.pt.now in
    let H = c.args.asked.now.hier.now in
    let ix = c.requires.index in
    let places = c.args.index.now.places.items in
    let lt : c.loop-k.k < length places = omega arith in
    let at : get_or places c.loop-k.k 0 ≡ c.index.result.now = get_or_default places c.loop-k.k 0 c.index.result.now lt ∙ sym c.index.ensures in
    sym (place_found F pt H places ix.sorted ix.places c.loop-k.k c.in-Some.found lt c.loop-k.invariant
    (ap (first_wrong_of_place F pt H) at ∙ (sym c.in_ok-found.ensures ∙ c.in-Some.is)))

pub returns : goal.returns
returns c =
    let ix = c.requires.index in
    sym (place_none c.args.asked.now.facts.now c.args.asked.now.pt.now c.args.asked.now.hier.now c.args.index.now.places.items ix.sorted ix.places
    (λ j lt. c.loop-k.invariant j (omega arith)))
