use Rattle.std.proofs.Common.{◌≡◌, ℕ, ◌<◌, true, length, ap, ◌∙◌, subst}
use Rattle.kaba_bits.specs.Sets.{bit}
use Rattle.kaba_order.specs.Orders.{Ordered}
use Rattle.hier_rules.proofs.KnownLemmas.{none_known}
use Rattle.tree_merge.proofs.trees.prepare.Goals as goal

pub returns-clause-known : goal.returns-clause-known
returns-clause-known c =
    let new = c.in_ok-new.ensures in
    let count = c.count.ensures ∙ ap (λ (o : Ordered). length o.live) c.order.ensures in
    none_known c.args.facts.now c.args.hier.now c.requires.hierarchy.sized.order _
    (new.chained.0 ∙ count, new.chained.1) (new.classes.0 ∙ count, new.classes.1)
    (new.unasked.0 ∙ count, subst (λ (k : ℕ). (n : ℕ) → n < k → bit c.in_ok-new.field-0.unasked n ≡ true) count new.unasked.1)
