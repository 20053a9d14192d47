-- Mirror. What rows with one set of sites have together.
use Rattle.std.specs.Prelude.{◌≡◌, ℕ, Bool, true, List, length}
use Rattle.kaba_bits.specs.Sets.{bit}
use Rattle.fact_model.specs.Items.{site_row}
use Rattle.fact_model.specs.Flowing.{IsInRow}
use Rattle.fact_model.specs.Entries.{IsEntry}
use Rattle.fact_model.specs.declared.facts.Facts.{Facts}

-- a set of columns, each of which the row of each site in the set of the row g must have
pub record HaveAllSites (F : Facts) (g : ℕ) (columns : List Bool) : Type 0 where
  pub width : length columns ≡ length F.columns.items
  pub entries : (c : ℕ) → bit columns c ≡ true → (o : ℕ) → IsInRow F g o → IsEntry F (site_row F o) c
