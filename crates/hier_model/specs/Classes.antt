-- Mirror. What the search for the class nodes makes.
use Rattle.std.specs.Prelude.{◌≡◌, ℕ, ◌==◌, ◌&&◌, ◌||◌, Bool, false, List, length}
use Rattle.kaba_bits.specs.Sets.{bit}
use Rattle.fact_model.specs.Items.{site_at, site_row, column_kind}
use Rattle.fact_model.specs.declared.facts.Facts.{Facts}
use Rattle.hier_model.specs.Hierarchies.{Hierarchy, any_below, place_of_column, place_of_row, is_at, is_of_class, is_class_node}

-- whether a column is a field or a body, and stands at a node
abbrev pub is_member_at : Facts → Hierarchy → ℕ → ℕ → Bool
is_member_at F H p c = is_of_class (column_kind F c) && is_at p (place_of_column H c)

-- whether an object is created at a site, and the row of the site stands at a node
abbrev pub is_object_at : Facts → Hierarchy → ℕ → ℕ → Bool
is_object_at F H p s = ((site_at F s).dim == 0) && (place_of_row H (site_row F s) == p)

-- whether a field, a body or an object site stands at a node
abbrev pub is_holder : Facts → Hierarchy → ℕ → Bool
is_holder F H p = any_below (length F.columns.items) (is_member_at F H p) || any_below (length F.sites.items) (is_object_at F H p)

-- the set of the nodes where one stands
pub record AreHolders (F : Facts) (H : Hierarchy) (nodes : List Bool) : Type 0 where
  pub width : length nodes ≡ length H.order.live
  pub exact : (p : ℕ) → bit nodes p ≡ is_holder F H p

-- the set of the class nodes
pub record AreClassNodes (F : Facts) (H : Hierarchy) (nodes : List Bool) : Type 0 where
  pub width : length nodes ≡ length H.order.live
  pub exact : (n : ℕ) → bit nodes n ≡ is_class_node F H n

-- the same but for some unasked nodes
pub record AreClassNodesBut (F : Facts) (H : Hierarchy) (unasked nodes : List Bool) : Type 0 where
  pub unasked_width : length unasked ≡ length H.order.live
  pub width : length nodes ≡ length H.order.live
  pub exact : (n : ℕ) → bit unasked n ≡ false → bit nodes n ≡ is_class_node F H n
