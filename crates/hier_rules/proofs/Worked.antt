-- Worked hierarchies of three class nodes, of which one stands below the two others: these unordered, and one below the other.
use Rattle.std.proofs.Common.{◌≡◌, ℕ, Bool, true, false, List, [], ◌∷◌, Some, None, refl, lit≤, lit<}
use Rattle.std.specs.declared.vec.Vec.{Vec}
use Rattle.std.specs.declared.alloc.Global.{Global}
use Rattle.fact_model.specs.declared.facts.Facts.{Facts}
use Rattle.fact_model.specs.declared.facts.ColumnInfo.{ColumnInfo}
use Rattle.fact_model.specs.declared.facts.ColKind.TheVariants.{Fld}
use Rattle.hier_model.specs.Hierarchies.{Hierarchy, node}
use Rattle.hier_rules.specs.declared.broken.Rule.TheVariants.{B9}
use Rattle.hier_rules.specs.Instances.{of_three}
use Rattle.hier_rules.specs.Obligations.{first_unchained}

abbrev field : List ℕ → ColumnInfo
field name = record { kind = Fld; class = record { 0 = 1 }; slot = None; name = name; label = [] }

-- two fields stand at the nodes 0 and 1; the second row of the order says whether the node 1 is below the node 0
abbrev three : List Bool → Hierarchy
three second = record {
  order = record { live = true ∷ true ∷ true ∷ []; le = (true ∷ false ∷ false ∷ []) ∷ second ∷ (true ∷ true ∷ true ∷ []) ∷ [] };
  columns = Some (node 0) ∷ Some (node 1) ∷ [];
  rows = [];
  types = [];
  members = [];
  origins = [];
  table = [];
}

module _ (others : Facts) where
  abbrev columns : Vec ColumnInfo Global → Vec ColumnInfo Global
  columns v = record { ptr = v.ptr; len = 2; cap = 2; alloc = v.alloc; items = field (102 ∷ []) ∷ field (103 ∷ []) ∷ []; ok = (refl, lit≤ tt); small = lit< tt }

  abbrev facts : Facts
  facts = record others { columns = columns others.columns }

  pub unordered : first_unchained facts (three (false ∷ true ∷ false ∷ [])) ≡ Some (of_three B9 2 0 1)
  unordered = refl

  pub ordered : first_unchained facts (three (true ∷ true ∷ false ∷ [])) ≡ None
  ordered = refl
