-- Mirror. Sets so far: they show only what holds.
use Rattle.std.specs.Prelude.{◌≡◌, ℕ, ◌+◌, ◌-◌, Bool, true, cond, nat_lt, List, length}
use Rattle.kaba_bits.specs.Sets.{bit, row, HasWidth}
use Rattle.fact_model.specs.Flowing.{Fact, in_point, in_cell, Holds, IsInRow}
use Rattle.fact_model.specs.declared.facts.Facts.{Facts}

-- how many sets there are: those of the points, and then those of the cells
abbrev pub node_count : Facts → ℕ
node_count F = length F.points.items + length F.cells.items

-- a site is in the set of a number
unfoldable pub InNode : Facts → ℕ → ℕ → Type 0
InNode F n s = Holds F (cond (nat_lt n (length F.points.items)) (in_point n s) (in_cell (n - length F.points.items) s))

-- a set of sites for each point and cell, that show only what holds
pub record AreSound (F : Facts) (sets : List (List Bool)) : Type 0 where
  pub len : length sets ≡ node_count F
  pub widths : HasWidth (length F.sites.items) sets
  pub sound : (n s : ℕ) → bit (row sets n) s ≡ true → InNode F n s

-- sets of sites, one for each number below n, that show only what holds of it
pub record AreSetsOf (F : Facts) (of : ℕ → ℕ → Fact) (n : ℕ) (rows : List (List Bool)) : Type 0 where
  pub len : length rows ≡ n
  pub widths : HasWidth (length F.sites.items) rows
  pub sound : (k s : ℕ) → bit (row rows k) s ≡ true → Holds F (of k s)

-- one set for each point, with only sites that the inclusions give to it
abbrev pub ArePoints : Facts → List (List Bool) → Type 0
ArePoints F points = AreSetsOf F in_point (length F.points.items) points

-- one set for each cell, with only sites that the inclusions give to it
abbrev pub AreCells : Facts → List (List Bool) → Type 0
AreCells F cells = AreSetsOf F in_cell (length F.cells.items) cells

-- unions so far: each row shows only what is in one of its points or cells
pub record AreUnions (F : Facts) (rows : List (List Bool)) : Type 0 where
  pub len : length rows ≡ length F.rows.items
  pub widths : HasWidth (length F.sites.items) rows
  pub sound : (r s : ℕ) → bit (row rows r) s ≡ true → IsInRow F r s
