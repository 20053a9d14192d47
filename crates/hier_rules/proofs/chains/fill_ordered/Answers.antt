use Rattle.std.proofs.Common.{◌≡◌, true, List, Bool, sym, ap, ◌∙◌, subst, arith}
use Rattle.std.proofs.lemmas.Bool.{and_parts, or_cases, false≢true}
use Rattle.std.proofs.Common.{⊎_elim}
use Rattle.kaba_bits.specs.Sets.{bit, row}
use Rattle.kaba_bits.proofs.SetLemmas.{bit-below}
use Rattle.kaba_order.specs.Orders.{Ordered}
use Rattle.hier_rules.proofs.AboveLemmas.{ordered_above}
use Rattle.hier_rules.proofs.chains.fill_ordered.Goals as goal

pub returns-in_default-clause-ordered : goal.returns-in_default-clause-ordered
returns-in_default-clause-ordered c = λ x y hx hy.
    absurd (false≢true (sym (c.in_default.ensures x (omega arith) (bit-below c.and_into.new.self x hx)) ∙ hx))

pub returns-clause-ordered : goal.returns-clause-ordered
returns-clause-ordered c =
    let H = c.args.nodes.now.hier.now in
    let over = c.args.over.now in
    let low = c.lowest-low.result in
    let found = and_parts (bit c.or_into.new.self low) (bit c.args.chained.now low) (sym (c.and_into.ensures.meet low) ∙ c.lowest-low.ensures) in
    let here = ⊎_elim (λ t. absurd (false≢true (sym (c.clear.ensures.empty low) ∙ t))) (λ t. t)
    (or_cases (bit c.clear.new.self low) (bit over low) (sym (c.or_into.ensures.join low) ∙ found.0)) in
    let up = c.above.ensures ∙ ap (λ (o : Ordered). row o.le low) c.order.ensures in
    ordered_above c.args.nodes.now.facts.now H c.requires.nodes.hier.sized.order c.args.n over c.requires.over low here (c.requires.chained.each low found.1)
    c.and_into-2.new.self
    (λ x h.
    let p = and_parts (bit c.or_into-2.new.self x) (bit over x) (sym (c.and_into-2.ensures.meet x) ∙ h) in (
      p.1,
      ⊎_elim (λ t. absurd (false≢true (sym (c.clear-2.ensures.empty x) ∙ t))) (λ t. subst (λ (r : List Bool). bit r x ≡ true) up t)
          (or_cases (bit c.clear-2.new.self x) (bit c.above.result.now x) (sym (c.or_into-2.ensures.join x) ∙ p.0)),
    ))
