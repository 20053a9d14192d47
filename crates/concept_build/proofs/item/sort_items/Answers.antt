use Rattle.std.proofs.Common.{◌≡◌, rules}
use Rattle.std.specs.Ordering.{is_lt}
use Rattle.std.proofs.lemmas.Fn.{always_returns_same}
use Rattle.std.proofs.lemmas.List.MinMax.{ranks_by}
use Rattle.fact_model.specs.Concepts.{concept_cmp}
use Rattle.concept_build.proofs.OrderLemmas.{concept_cmp-total}
use Rattle.concept_build.proofs.SortLemmas.{ordered_from_sort}
use Rattle.concept_build.proofs.item.sort_items.Goals as goal

pub returns-clause-ordered : goal.returns-clause-ordered
returns-clause-ordered c =
    let o = c.in_ok-sort_by.ensures in
    ordered_from_sort c.args.items.now.items c.sort_by.new.self.items c.requires.differ o.permutation (o.sorted (λ a b. is_lt (concept_cmp a b))
    (ranks_by concept_cmp-total (λ x. x)) (always_returns_same _ (λ a r. is_lt r ≡ is_lt (concept_cmp a.0.now a.1.0.now)) _
    (λ a r f k. search rules)))
