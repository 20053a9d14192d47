-- Mirror. What is known of a hierarchy after an edit, and after nodes were joined.
use Rattle.std.specs.Prelude.{◌≡◌, ℕ, ◌<◌, true, false, List, length, None, Ok}
use Rattle.kaba_base.specs.declared.NodeId.{NodeId}
use Rattle.kaba_bits.specs.Sets.{first_below}
use Rattle.kaba_order.specs.Orders.{is_live, is_among, is_below_some}
use Rattle.fact_model.specs.declared.facts.Facts.{Facts}
use Rattle.fact_model.specs.declared.sets.PointsTo.{PointsTo}
use Rattle.hier_model.specs.Hierarchies.{Hierarchy, IsHierarchyOf, place_of_row}
use Rattle.hier_model.specs.Edits.{changed}
use Rattle.hier_model.specs.declared.edits.Edit.{Edit}
use Rattle.hier_rules.specs.Asked.{slots_of}
use Rattle.hier_rules.specs.Obligations.{place_of_site, wrong_need, wrong_super, wrong_outcome, two_bodies}
use Rattle.hier_rules.specs.Names.{confused}
use Rattle.hier_rules.specs.First.{MeetsEdit}

-- an edit made this hierarchy of one that met its obligations
pub record IsAfterEdit (F : Facts) (pt : PointsTo) (K : Hierarchy) (edit : Edit) : Type 0 where
  pub before : Hierarchy
  pub fits : IsHierarchyOf F before
  pub meets : MeetsEdit F pt before
  pub made : changed F before edit ≡ Ok K

-- no node outside a list has two bodies of one slot
abbrev pub AreApartOutside : Facts → Hierarchy → List NodeId → Type 0
AreApartOutside F H set = (n : ℕ) → n < length H.order.live → is_among set n ≡ false
    → first_below (length F.columns.items) (λ c. first_below (length F.columns.items) (two_bodies F H n c)) ≡ None

-- no need of a site, no super call of a row's method, no outcome of a site and no name is broken at a node that is at or below none of a list
pub record AreKeptOutside (F : Facts) (pt : PointsTo) (H : Hierarchy) (roots : List NodeId) : Type 0 where
  pub needs : (s : ℕ) → s < length F.sites.items → is_live H.order (place_of_site F H s) ≡ true → is_below_some H.order roots (place_of_site F H s) ≡ false
      → first_below (slots_of F) (wrong_need F pt H s) ≡ None
  pub supers : (r : ℕ) → r < length F.rows.items → is_live H.order (place_of_row H r) ≡ true → is_below_some H.order roots (place_of_row H r) ≡ false
      → first_below (length F.columns.items) (wrong_super F H r) ≡ None
  pub outcomes : (p t s : ℕ) → t < length F.rows.items → s < length F.sites.items → is_live H.order (place_of_site F H s) ≡ true
      → is_below_some H.order roots (place_of_site F H s) ≡ false → wrong_outcome F pt H p t s ≡ None
  pub names : (n : ℕ) → is_live H.order n ≡ true → is_below_some H.order roots n ≡ false → first_below (length F.columns.items) (confused F H n) ≡ None
