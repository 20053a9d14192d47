-- Mirror. What an edit touched, and what holds outside of it.
use Rattle.std.specs.Prelude.{◌≡◌, ℕ, ◌<◌, ◌==◌, ◌&&◌, ◌||◌, false, Bool, List, length, None}
use Rattle.std.specs.List.{list_any}
use Rattle.kaba_bits.specs.Sets.{bit, row, first_below}
use Rattle.fact_model.specs.declared.facts.Facts.{Facts}
use Rattle.fact_model.specs.declared.sets.PointsTo.{PointsTo}
use Rattle.hier_model.specs.Hierarchies.{Hierarchy, place_of_row}
use Rattle.hier_rules.specs.Asked.{slots_of, is_element}
use Rattle.hier_rules.specs.Names.{confused}
use Rattle.hier_rules.specs.Obligations.{place_of_site, wrong_need, wrong_super, wrong_outcome}

-- no need of a site is broken at a node outside a set
pub record NeedsHold (F : Facts) (pt : PointsTo) (H : Hierarchy) (low : List Bool) : Type 0 where
  pub width : length low ≡ length H.order.live
  pub each : (s : ℕ) → s < length F.sites.items → bit low (place_of_site F H s) ≡ false → first_below (slots_of F) (wrong_need F pt H s) ≡ None

-- no super call of a row's method is broken at a node outside a set
pub record SupersHold (F : Facts) (H : Hierarchy) (low : List Bool) : Type 0 where
  pub width : length low ≡ length H.order.live
  pub each : (r : ℕ) → r < length F.rows.items → bit low (place_of_row H r) ≡ false → first_below (length F.columns.items) (wrong_super F H r) ≡ None

-- no site at a node outside a set meets a target with another outcome
abbrev pub TestsHold : Facts → PointsTo → Hierarchy → List Bool → Type 0
TestsHold F pt H low = (p t s : ℕ) → t < length F.rows.items → s < length F.sites.items → bit low (place_of_site F H s) ≡ false → wrong_outcome F pt H p t s ≡ None

-- no site outside a set meets a target with another outcome
pub record OutcomesHold (F : Facts) (pt : PointsTo) (H : Hierarchy) (sites : List Bool) : Type 0 where
  pub width : length sites ≡ length F.sites.items
  pub each : (p t s : ℕ) → t < length F.rows.items → s < length F.sites.items → bit sites s ≡ false → wrong_outcome F pt H p t s ≡ None

-- no node outside a set offers two columns of one name that clash
pub record NamesHold (F : Facts) (H : Hierarchy) (low : List Bool) : Type 0 where
  pub width : length low ≡ length H.order.live
  pub each : (n : ℕ) → bit low n ≡ false → first_below (length F.columns.items) (confused F H n) ≡ None

-- whether a site is in the operand of a test, or in the value of a store of an element, at a place
abbrev pub is_at_place : Facts → PointsTo → ℕ → ℕ → Bool
is_at_place F pt p s = list_any (λ x. (x.place.at == p) && bit (row pt.points.items x.from) s) F.tests.items
    || list_any (λ x. is_element x.column && (x.place.at == p) && bit (row pt.points.items x.value) s) F.stores.items

-- no need of a site, no super call of a row's method, no outcome of a site and no name is broken at a node outside a set
pub record AllHold (F : Facts) (pt : PointsTo) (H : Hierarchy) (low : List Bool) : Type 0 where
  pub needs : NeedsHold F pt H low
  pub supers : SupersHold F H low
  pub outcomes : TestsHold F pt H low
  pub names : NamesHold F H low
