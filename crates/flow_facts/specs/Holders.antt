-- Mirror. Which classes have static members.
use Rattle.std.specs.Prelude.{◌≡◌, ℕ, ◌<◌, Bool, false, List, length, get_or}
use Rattle.java_core.specs.Programs.{Plain}
use Rattle.flow_rules.specs.Facts.{is_holder}

-- for each class, whether it has static members
pub record AreStaticHolders (P : Plain) (holders : List Bool) : Type 0 where
  pub count : length holders ≡ length P.classes
  pub value : (c : ℕ) → c < length holders → get_or holders c false ≡ is_holder P c
