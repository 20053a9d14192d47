use Rattle.std.proofs.Common.{length, get_or}
use Rattle.hier_rules.specs.Touched.{is_at_place}
use Rattle.hier_rules.specs.Index.{AreTestRows}
use Rattle.hier_rules.proofs.index.sites_of_places.Given as goal

abbrev pub invariant-loop-k : goal.invariant-loop-k
invariant-loop-k l = AreTestRows l.k (length l.asked.facts.now.sites.items)
    (λ k. is_at_place l.asked.facts.now l.asked.pt.now (get_or l.places k 0)) l.rows.items
