use Rattle.std.proofs.Common.{◌≡◌, ◌++◌, not, drop, map, All}
use Rattle.std.specs.Prelude.{filter}
use Rattle.fact_model.specs.Items.{column_at}
use Rattle.fact_model.specs.Classes.{is_interface}
use Rattle.fact_model.specs.InRange.{IsClass}
use Rattle.kaba_base.specs.declared.ClassId.{ClassId}
use Rattle.hier_model.proofs.begin.owners.Given as goal

-- with those that are left, it is the whole
abbrev pub invariant-loop-c : goal.invariant-loop-c
invariant-loop-c l = record {
  list : l.classes.items ++ filter (λ (k : ClassId). not (is_interface l.facts k.0)) (map (λ c. (column_at l.facts c).class) (drop l.c-index l.c-items))
      ≡ filter (λ (k : ClassId). not (is_interface l.facts k.0)) (map (λ c. (column_at l.facts c).class) l.c-items);
  classes : All (IsClass l.facts) l.classes.items;
}
