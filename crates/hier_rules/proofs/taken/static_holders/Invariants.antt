use Rattle.std.proofs.Common.{◌≡◌, ℕ, ◌&&◌, List, take}
use Rattle.std.specs.List.{list_any}
use Rattle.std.specs.Str.{bytes_eq}
use Rattle.fact_model.specs.FreeNames.{is_taken}
use Rattle.fact_model.specs.Taken.{texts}
use Rattle.hier_rules.proofs.taken.static_holders.Given as goal

abbrev pub invariant-loop-class : goal.invariant-loop-class
invariant-loop-class l = (x : List ℕ) → is_taken (texts l.names.keys) x ≡ list_any (λ k. k.holder && bytes_eq k.name x)
    (take l.class-index l.facts.classes.items)
