use Rattle.std.proofs.Common.{◌≡◌, ℕ, ◌<◌, true, ◌∙◌, subst}
use Rattle.kaba_bits.specs.Sets.{bit}
use Rattle.hier_rules.proofs.KnownLemmas.{none_known}
use Rattle.hier_rules.proofs.chains.first_unchained.Goals as goal

pub first_unchained_beyond-requires-clause-known : goal.first_unchained_beyond-requires-clause-known
first_unchained_beyond-requires-clause-known c =
    let new = c.in_ok-known.ensures in
    let count = c.node_count.ensures in
    none_known c.args.facts.now c.args.hier.now c.requires.hier.sized.order c.in_ok-known.known
    (new.chained.0 ∙ count, new.chained.1) (new.classes.0 ∙ count, new.classes.1)
    (new.unasked.0 ∙ count, subst (λ (k : ℕ). (n : ℕ) → n < k → bit c.in_ok-known.known.unasked n ≡ true) count new.unasked.1)
