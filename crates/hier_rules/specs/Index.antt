-- Mirror. What is found once for the tests after joins.
use Rattle.std.specs.Prelude.{◌≡◌, ℕ, ◌<◌, ◌↔◌, ◌==◌, ◌&&◌, true, false, Bool, List, length, Contains, Option, Some, None, slice_index_or}
use Rattle.std.specs.List.{list_any}
use Rattle.std.specs.List.Sorted.{IsNonDecreasing}
use Rattle.kaba_bits.specs.Sets.{bit, row}
use Rattle.fact_model.specs.Items.{site_class}
use Rattle.fact_model.specs.Classes.{finds}
use Rattle.fact_model.specs.declared.facts.Facts.{Facts}
use Rattle.fact_model.specs.declared.sets.PointsTo.{PointsTo}
use Rattle.hier_model.specs.Hierarchies.{Hierarchy}
use Rattle.hier_rules.specs.Asked.{is_super, is_other_body, is_asked}
use Rattle.hier_rules.specs.Pairs.{ArePairRows}
use Rattle.hier_rules.specs.Namesakes.{AreClashes}
use Rattle.hier_rules.specs.Touched.{is_at_place}
use Rattle.hier_rules.specs.declared.clashes.ClashPair.{ClashPair}
use Rattle.hier_rules.specs.declared.index.JoinIndex.{JoinIndex}

-- whether a number is there, and is d
abbrev pub is_number : Option ℕ → ℕ → Bool
is_number None d = false
is_number (Some x) d = x == d

-- whether the site s is in the receiver of a call that runs the body d for its class
abbrev pub is_needed : Facts → PointsTo → ℕ → ℕ → Bool
is_needed F t s d = list_any (λ k. bit (row t.points.items k.receiver) s && is_number (finds F (site_class F s) k.slot) d) F.calls.items

-- a row of this width: the numbers below it that pass a test
pub record IsTestRow (width : ℕ) (is : ℕ → Bool) (numbers : List Bool) : Type 0 where
  pub width_is : length numbers ≡ width
  pub exact : (b : ℕ) → b < width → bit numbers b ≡ is b

-- so many rows, each of the numbers that pass a test with its own
pub record AreTestRows (count width : ℕ) (are : ℕ → ℕ → Bool) (rows : List (List Bool)) : Type 0 where
  pub len : length rows ≡ count
  pub each : (a : ℕ) → a < length rows → IsTestRow width (are a) (row rows a)

-- all clashes, where the members have these names
abbrev pub AreClashesOf : Facts → List (List ℕ) → List ClashPair → Type 0
AreClashesOf F members clashes = (H : Hierarchy) → H.members ≡ members → AreClashes F H (length F.columns.items) (length F.columns.items) clashes

-- the bodies that each site needs, the other bodies of each column's slot, the bodies that super calls run, and the places that are asked with
-- the sites that are asked of there
pub record IsIndexOf (F : Facts) (pt : PointsTo) (index : JoinIndex) : Type 0 where
  pub needs : AreTestRows (length F.sites.items) (length F.columns.items) (is_needed F pt) index.needs.items
  pub rivals : AreTestRows (length F.columns.items) (length F.columns.items) (is_other_body F) index.rivals.items
  pub supers : ArePairRows (length F.rows.items) (length F.columns.items) (is_super F) index.supers.items
  pub sorted : IsNonDecreasing index.places.items
  pub places : (p : ℕ) → Contains index.places.items p ↔ (is_asked F p ≡ true)
  pub sites : AreTestRows (length index.places.items) (length F.sites.items)
      (λ k. is_at_place F pt (slice_index_or index.places.items k 0)) index.sites.items
