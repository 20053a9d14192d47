-- Believed. The facts of a program, and its lattice as it is shown.
use Rattle.std.specs.Prelude.{ℕ, Bool, List, if◌then◌else◌}
use Rattle.java_core.specs.Programs.{Plain}
use Rattle.fact_model.specs.declared.facts.Facts.{Facts}
use Rattle.fact_model.specs.declared.sets.Lattice.{Lattice}
use Rattle.flow_rules.specs.Facts.{AreNamesOf, IsFactsOf, IsWithinLimits}
use Rattle.lattice_view.specs.Text.{lattice_text}
use Rattle.lattice_view.specs.Json.{lattice_json}

-- the program is within the limits, and the facts are those of its text, each list in its order or as a set
pub record HasTextFacts (P : Plain) (F : Facts) : Type 0 where
  pub within : IsWithinLimits P
  pub is : IsFactsOf P F
  pub names : AreNamesOf P F

-- the text of the lattice, or its JSON
abbrev pub shown : Bool → Facts → Lattice → List ℕ
shown json facts lattice = if json then lattice_json facts lattice else lattice_text lattice
