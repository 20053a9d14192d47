use Rattle.std.proofs.Common.{◌≡◌, ◌++◌, drop, map}
use Rattle.fact_model.specs.Concepts.{Pair, pair_of}
use Rattle.hier_model.specs.Start.{start_origin}
use Rattle.hier_model.proofs.begin.origins_of.Given as goal

-- with those that are left, it is the whole
abbrev pub invariant-loop-k : goal.invariant-loop-k
invariant-loop-k l = l.origins.items ++ map (λ (x : Pair). start_origin l.facts x.1) (drop l.k (map pair_of l.concepts))
    ≡ map (λ (x : Pair). start_origin l.facts x.1) (map pair_of l.concepts)
