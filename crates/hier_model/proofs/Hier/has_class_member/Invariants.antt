use Rattle.std.proofs.Common.{◌≡◌, ◌&&◌, false}
use Rattle.fact_model.specs.Items.{column_kind}
use Rattle.hier_model.specs.Hierarchies.{any_below, is_of_class, is_offered}
use Rattle.hier_model.proofs.Hier.has_class_member.Given as goal

abbrev pub invariant-loop-c : goal.invariant-loop-c
invariant-loop-c l = any_below l.c (λ c. is_of_class (column_kind l.facts c) && is_offered l.self l.n.0 c) ≡ false
