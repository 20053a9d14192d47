use Rattle.std.proofs.Common.{rules}
use Rattle.std.specs.Cmp.{IsTotalOrder}
use Rattle.std.specs.Cmp.Rules.{comparing}
use Rattle.fact_model.specs.Concepts.{concept_cmp}

pub concept_cmp-total : IsTotalOrder concept_cmp
concept_cmp-total = search (comparing, rules) depth 9
