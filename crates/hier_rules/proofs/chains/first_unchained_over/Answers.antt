use Rattle.std.proofs.Common.{◌≡◌, ℕ, Option, None, length, sym, subst, arith}
use Rattle.kaba_bits.specs.Sets.{bit, first_below}
use Rattle.kaba_bits.proofs.SetLemmas.{bit-below}
use Rattle.kaba_bits.proofs.FirstLemmas.{first_below_found}
use Rattle.hier_rules.specs.declared.broken.Broken.{Broken}
use Rattle.hier_rules.specs.Obligations.{unchained}
use Rattle.hier_rules.proofs.ChainLemmas.{search_past, search_more, no_first}
use Rattle.hier_rules.proofs.chains.first_unchained_over.Goals as goal

pub returns-in-Some-first_unchained_of : goal.returns-in-Some-first_unchained_of
returns-in-Some-first_unchained_of c =
    let F = c.args.nodes.now.facts.now in
    let H = c.args.nodes.now.hier.now in
    let over = c.args.above.now.over in
    let x = c.in-Some.x in
    let f : ℕ → Option Broken = λ x. first_below (length H.order.live) (unchained F H c.args.n x) in
    let lt = bit-below over x c.in-Some.ensures.holds in
    sym (first_below_found f x (length H.order.live) c.in-Some-first_unchained_of.found (omega (arith, lt, c.requires.above.widths.over))
    (search_past f (bit over) (no_first F H c.requires.nodes.hier.sized.order c.args.n over c.requires.above.over) c.scan.at x c.scan.invariant.none
    c.in-Some.ensures.least)
    (sym c.in-Some-first_unchained_of.ensures))

pub scan-preserved : goal.scan-preserved
scan-preserved c =
    let F = c.args.nodes.now.facts.now in
    let H = c.args.nodes.now.hier.now in
    let over = c.args.above.now.over in
    let x = c.in-Some.x in
    let f : ℕ → Option Broken = λ x. first_below (length H.order.live) (unchained F H c.args.n x) in
    let lt = bit-below over x c.in-Some.ensures.holds in
    record {
      below = omega (arith, lt);
      none = search_more f (bit over) (no_first F H c.requires.nodes.hier.sized.order c.args.n over c.requires.above.over) c.scan.at x c.scan.invariant.none
          c.in-Some.ensures.least (sym c.in_default-first_unchained_of.ensures);
    }

pub returns : goal.returns
returns c =
    let F = c.args.nodes.now.facts.now in
    let H = c.args.nodes.now.hier.now in
    let over = c.args.above.now.over in
    let f : ℕ → Option Broken = λ x. first_below (length H.order.live) (unchained F H c.args.n x) in
    sym (subst (λ k. first_below k f ≡ None) c.requires.above.widths.over
    (search_past f (bit over) (no_first F H c.requires.nodes.hier.sized.order c.args.n over c.requires.above.over) c.scan.at (length over) c.scan.invariant.none
    c.in_default.ensures))
