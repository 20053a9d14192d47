use Rattle.std.proofs.Common.{◌≡◌, ◌↔◌, sym, subst, true, Contains}
use Rattle.std.proofs.lemmas.List.Sorted.{IsNonDecreasingBy-from_sort}
use Rattle.hier_rules.specs.Asked.{is_asked}
use Rattle.hier_rules.proofs.KeyLemmas.{sorted_same}
use Rattle.hier_rules.proofs.OutcomeLemmas.{places_asked}
use Rattle.hier_rules.proofs.outcomes.asked_places.Goals as goal

pub returns-clause-sorted : goal.returns-clause-sorted
returns-clause-sorted c = IsNonDecreasingBy-from_sort (λ x. x) c.sort.new.self.items c.in_ok-sort.ensures.sorted

pub returns-clause-places : goal.returns-clause-places
returns-clause-places c =
    let F = c.args.facts.now in
    sorted_same {P = λ p. is_asked F p ≡ true} c.in_ok-places.places.items c.sort.new.self.items c.in_ok-sort.ensures.permutation
    (λ p. subst (λ xs. Contains xs p ↔ (is_asked F p ≡ true)) (sym c.in_ok-places.ensures) (places_asked F p))
