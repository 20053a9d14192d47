use Rattle.std.proofs.Common.{◌≡◌, ◌<◌, ◌&&◌, not, true, Some, None, length, sym, ap, ◌∙◌, subst, arith, inr}
use Rattle.std.proofs.lemmas.Bool.{and_parts}
use Rattle.kaba_bits.specs.Sets.{bit, row, first_below}
use Rattle.kaba_bits.proofs.SetLemmas.{bit-below}
use Rattle.kaba_bits.proofs.FirstLemmas.{first_below_found}
use Rattle.kaba_order.specs.Orders.{Ordered, is_live}
use Rattle.hier_rules.specs.Obligations.{unchained}
use Rattle.hier_rules.proofs.ChainLemmas.{search_past, search_more, none_before, over_within, over_live, ordered, unordered}
use Rattle.hier_rules.proofs.AboveLemmas.{not_up, none_but}
use Rattle.hier_rules.proofs.chains.first_unchained_with.Goals as goal

pub above-up-requires : goal.above-up-requires
above-up-requires c =
    subst (λ (o : Ordered). is_live o c.args.x ≡ true) (sym c.order.ensures)
    (over_live c.args.nodes.now.facts.now c.args.nodes.now.hier.now c.requires.nodes.hier.sized.order c.args.n c.args.x c.requires.first)

pub scan-init : goal.scan-init
scan-init c =
    let F = c.args.nodes.now.facts.now in
    let H = c.args.nodes.now.hier.now in
    let lt = over_within F H c.requires.nodes.hier.sized.order c.args.n c.args.x c.requires.first in
    record { after = omega arith; below = omega (arith, lt, c.requires.width); none = none_before F H c.args.n c.args.x }

pub returns-then-not-class_le : goal.returns-then-not-class_le
returns-then-not-class_le c =
    let F = c.args.nodes.now.facts.now in
    let H = c.args.nodes.now.hier.now in
    let set = c.args.set.now in
    let x = c.args.x in
    let y = c.in-Some.y in
    let up = c.above-up.result.now in
    let is = c.above-up.ensures ∙ ap (λ (o : Ordered). row o.le x) c.order.ensures in
    let p = and_parts (bit set y) (not (bit up y)) c.in-Some.ensures.holds in
    let lt = bit-below set y p.0 in
    let after : x < y = omega (arith, c.scan.invariant.after, c.in-Some.ensures.low) in
    sym (first_below_found (unchained F H c.args.n x) y (length H.order.live) c.of_three.result (omega (arith, lt, c.requires.width))
    (search_past (unchained F H c.args.n x) (λ i. bit set i && not (bit up i)) (none_but F H c.args.n x set up is c.requires.others) c.scan.at y
    c.scan.invariant.none c.in-Some.ensures.least)
    (unordered F H c.args.n x y c.requires.first (c.requires.each y p.0) after
    (not_up H x up is y p.1) (sym c.class_le.ensures ∙ c.if-not-class_le.true)
    ∙ ap Some (sym c.of_three.ensures)))

pub scan-preserved : goal.scan-preserved
scan-preserved c =
    let F = c.args.nodes.now.facts.now in
    let H = c.args.nodes.now.hier.now in
    let set = c.args.set.now in
    let x = c.args.x in
    let y = c.in-Some.y in
    let up = c.above-up.result.now in
    let is = c.above-up.ensures ∙ ap (λ (o : Ordered). row o.le x) c.order.ensures in
    let lt = bit-below set y (and_parts (bit set y) (not (bit up y)) c.in-Some.ensures.holds).0 in
    record {
      after = omega (arith, c.scan.invariant.after, c.in-Some.ensures.low);
      below = omega (arith, lt);
      none = search_more (unchained F H c.args.n x) (λ i. bit set i && not (bit up i)) (none_but F H c.args.n x set up is c.requires.others) c.scan.at y
          c.scan.invariant.none c.in-Some.ensures.least (ordered F H c.args.n x y (inr (sym c.class_le.ensures ∙ c.if-not-class_le.false)));
    }

pub returns : goal.returns
returns c =
    let F = c.args.nodes.now.facts.now in
    let H = c.args.nodes.now.hier.now in
    let set = c.args.set.now in
    let x = c.args.x in
    let up = c.above-up.result.now in
    let is = c.above-up.ensures ∙ ap (λ (o : Ordered). row o.le x) c.order.ensures in
    let f = unchained F H c.args.n x in
    sym (subst (λ k. first_below k f ≡ None) c.requires.width
    (search_past f (λ i. bit set i && not (bit up i)) (none_but F H c.args.n x set up is c.requires.others) c.scan.at (length set) c.scan.invariant.none
    c.in_default.ensures))
