use Rattle.std.proofs.Common.{◌≡◌, ℕ, ◌||◌, List, take}
use Rattle.std.specs.List.{list_any}
use Rattle.std.specs.Str.{bytes_eq}
use Rattle.fact_model.specs.FreeNames.{is_taken}
use Rattle.fact_model.specs.Taken.{texts}
use Rattle.hier_rules.proofs.taken.add_names.Given as goal

abbrev pub invariant-loop-name : goal.invariant-loop-name
invariant-loop-name l = (x : List ℕ) → is_taken (texts l.set.keys) x ≡ (is_taken (texts l.initial.set.keys) x || list_any (λ v. bytes_eq v x)
    (take l.name-index l.names))
