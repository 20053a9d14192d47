-- Mirror. The names that types and fields cannot have, as sets.
use Rattle.std.specs.Prelude.{◌≡◌, ℕ, List, length}
use Rattle.fact_model.specs.declared.facts.Facts.{Facts}
use Rattle.hier_model.specs.Hierarchies.{Hierarchy}
use Rattle.fact_model.specs.FreeNames.{is_taken}
use Rattle.fact_model.specs.Taken.{texts}
use Rattle.hier_rules.specs.Names.{is_reserved, is_variable, is_type}
use Rattle.hier_rules.specs.Namesakes.{is_twice}
use Rattle.hier_rules.specs.declared.taken.Taken.{Taken}

-- the sets of the names of types, of those that two types have, and of those that are reserved or a variable's
pub record AreTaken (F : Facts) (H : Hierarchy) (t : Taken) : Type 0 where
  pub types : (x : List ℕ) → is_taken (texts t.types.keys) x ≡ is_type F H x
  pub twice : (x : List ℕ) → is_taken (texts t.twice.keys) x ≡ is_twice H x (length H.order.live)
  pub reserved : (x : List ℕ) → is_taken (texts t.reserved.keys) x ≡ is_reserved F x
  pub variables : (x : List ℕ) → is_taken (texts t.variables.keys) x ≡ is_variable F x
