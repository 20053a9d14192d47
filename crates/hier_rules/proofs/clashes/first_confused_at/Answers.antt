use Rattle.std.proofs.Common.{◌≡◌, ℕ, ◌<◌, length, get_or, Some, refl, sym, ap, ◌∙◌, arith, ⊎_elim}
use Rattle.std.proofs.lemmas.Bool.{cases_lt}
use Rattle.std.proofs.lemmas.List.{get_or_default}
use Rattle.hier_rules.specs.declared.clashes.ClashPair.{ClashPair}
use Rattle.hier_rules.specs.Namesakes.{offers_both}
use Rattle.hier_rules.proofs.NameLemmas.{dead_confused}
use Rattle.hier_rules.proofs.ClashLemmas.{pair, both_below, none_confused, one_confused}
use Rattle.hier_rules.proofs.clashes.first_confused_at.Goals as goal

pub returns-then-not-is_live : goal.returns-then-not-is_live
returns-then-not-is_live c =
    sym (dead_confused c.args.asked.now.facts.now c.args.asked.now.hier.now c.requires.asked.hier.sized.order c.args.n (sym c.is_live.ensures
    ∙ c.if-not-is_live.true))

pub offers_both-requires-clause-first : goal.offers_both-requires-clause-first
offers_both-requires-clause-first c = (both_below c.args.asked.now.facts.now c.args.asked.now.hier.now
    (length c.args.asked.now.facts.now.columns.items) c.args.clashes.now c.requires.clashes c.loop-x.x-index (omega arith)).0

pub offers_both-requires-clause-second : goal.offers_both-requires-clause-second
offers_both-requires-clause-second c = (both_below c.args.asked.now.facts.now c.args.asked.now.hier.now
    (length c.args.asked.now.facts.now.columns.items) c.args.clashes.now c.requires.clashes c.loop-x.x-index (omega arith)).1

pub returns-then-offers_both : goal.returns-then-offers_both
returns-then-offers_both c =
    let xs = c.args.clashes.now in
    let i : ℕ = c.loop-x.x-index in
    let x : ClashPair = get_or xs i (pair 0 0) in
    let lt : i < length xs = omega arith in
    sym (one_confused c.args.asked.now.facts.now c.args.asked.now.hier.now (length c.args.asked.now.facts.now.columns.items) xs c.requires.clashes c.args.n i
    (λ j y jlt ln. c.loop-x.invariant j y jlt ln) x lt (get_or_default xs i (pair 0 0) x lt) (sym c.offers_both.ensures ∙ c.if-offers_both.true)
    ∙ ap Some (sym c.of_column.ensures))

pub loop-x-preserved : goal.loop-x-preserved
loop-x-preserved c = λ j y lt ln.
    let xs = c.args.clashes.now in
    let i : ℕ = c.loop-x.x-index in
    let H = c.args.asked.now.hier.now in
    ⊎_elim
    (λ before. c.loop-x.invariant j y before ln)
    (λ late.
    let here : j ≡ i = omega (arith, lt, late) in
    ap (λ k. offers_both H c.args.n (get_or xs k y)) here
    ∙ (ap (λ (z : ClashPair). offers_both H c.args.n z) (get_or_default xs i y (pair 0 0) (omega arith))
    ∙ (sym c.offers_both.ensures ∙ c.if-offers_both.false)))
    (cases_lt j i)

pub returns : goal.returns
returns c =
    let xs = c.args.clashes.now in
    sym (none_confused c.args.asked.now.facts.now c.args.asked.now.hier.now (length c.args.asked.now.facts.now.columns.items) xs c.requires.clashes
    c.args.n (length xs)
    (λ j y jlt ln. c.loop-x.invariant j y (omega (arith, jlt)) ln) refl)
