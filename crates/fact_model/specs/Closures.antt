-- Mirror. What closed sets and tables are, in terms of what they show.
use Rattle.std.specs.Prelude.{◌≡◌, ℕ, ◌<◌, ◌⊎◌, Bool, true, false, length}
use Rattle.kaba_bits.specs.Sets.{bit, row}
use Rattle.kaba_derivations.specs.Laws.{IsClosed}
use Rattle.fact_model.specs.Items.{cell_at, point_row}
use Rattle.fact_model.specs.Classes.{IsBelow, is_interface}
use Rattle.fact_model.specs.Flowing.{Fact, in_point, in_cell, Inclusion}
use Rattle.fact_model.specs.Entries.{Entry, Entails}
use Rattle.fact_model.specs.declared.facts.Facts.{Facts}
use Rattle.fact_model.specs.declared.sets.PointsTo.{PointsTo}
use Rattle.fact_model.specs.declared.sets.Table.{Table}

-- whether the sets have a site in a point or in a cell
abbrev pub shown : PointsTo → Fact → Bool
shown t (in_point p s) = bit (row t.points.items p) s
shown t (in_cell c s) = bit (row t.cells.items c) s

-- the site s stands in a point or a cell of the row r
pub data ShownInRow (F : Facts) (t : PointsTo) (r s : ℕ) : Type 0 where
  in_a_point : (p : ℕ) → p < length F.points.items → point_row F p ≡ r → bit (row t.points.items p) s ≡ true → ShownInRow F t r s
  in_a_cell : (c : ℕ) → c < length F.cells.items → (cell_at F c).row.0 ≡ r → bit (row t.cells.items c) s ≡ true → ShownInRow F t r s

-- the sets are closed under the inclusions, and the set of a row is the union over its points and cells
pub record AreClosedSets (F : Facts) (t : PointsTo) : Type 0 where
  pub inclusions : IsClosed (Inclusion F) (λ f. shown t f ≡ true)
  pub rows : (r s : ℕ) → ShownInRow F t r s → bit (row t.rows.items r) s ≡ true
  pub back : (r s : ℕ) → bit (row t.rows.items r) s ≡ true → ShownInRow F t r s

-- whether a table has an entry
abbrev pub has : Table → Entry → Bool
has t e = bit (row t.rows.items e.0) e.1

-- the table is closed under the rules T1 to T11
abbrev pub IsClosedTable : Facts → Table → Type 0
IsClosedTable F t = IsClosed (Entails F) (λ e. has t e ≡ true)

-- b is a class, and no interface
pub record IsPlainClass (F : Facts) (b : ℕ) : Type 0 where
  pub below : b < length F.classes.items
  pub kind : is_interface F b ≡ false

-- the classes at or above one type form a chain; above an interface there is only class 0
pub record AreChains (F : Facts) : Type 0 where
  pub chain : (a b c : ℕ) → IsPlainClass F b → IsPlainClass F c → IsBelow F a b → IsBelow F a c → IsBelow F b c ⊎ IsBelow F c b
  pub above_interface : (a b : ℕ) → is_interface F a ≡ true → IsPlainClass F b → IsBelow F a b → b ≡ 0
