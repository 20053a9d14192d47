-- The worked program once more: what is kept of a type's new name, and of a merge.
use Rattle.std.proofs.Common.{◌≡◌, ℕ, true, List, [], ◌∷◌, length, Some, Ok, refl, lit≤}
use Rattle.std.specs.Prelude.{slice_set}
use Rattle.std.specs.Fmt.{digits}
use Rattle.std.specs.declared.vec.Vec.{Vec}
use Rattle.std.specs.declared.alloc.Global.{Global}
use Rattle.kaba_base.specs.declared.ClassId.{ClassId}
use Rattle.kaba_base.specs.declared.NodeId.{NodeId}
use Rattle.kaba_order.specs.Orders.{has_any, any_has}
use Rattle.fact_model.specs.declared.facts.Facts.{Facts}
use Rattle.hier_model.specs.Hierarchies.{Hierarchy, node}
use Rattle.hier_model.specs.Edits.{changed, merged}
use Rattle.hier_model.specs.Differences.{changes}
use Rattle.hier_model.specs.declared.edits.Edit.TheVariants as edit
use Rattle.hier_model.specs.declared.differences.Change.TheVariants.{Node, Pair, Column, Row, TypeName}
use Rattle.hier_model.proofs.Worked.{facts, begun, listed}

module _ (others : Facts) (faces : Vec ClassId Global) (nodes : Vec NodeId Global) where
  abbrev thing : List ℕ
  thing = 84 ∷ []

  -- the type of node 1 is named T
  abbrev renamed : Hierarchy
  renamed = record (begun others faces) { types = slice_set (begun others faces).types 1 thing }

  pub names_type : changed (facts others faces) (begun others faces) (edit.TypeName (node 1) thing) ≡ Ok renamed
  names_type = refl

  pub name_kept : changes (begun others faces) renamed ≡ TypeName (node 1) (65 ∷ 95 ∷ 49 ∷ []) ∷ []
  unfolding digits
  name_kept = refl

  -- nodes 1 and 2 are one
  abbrev one : Hierarchy
  one = merged (facts others faces) renamed (node 1 ∷ node 2 ∷ [])

  pub merges : changed (facts others faces) renamed (edit.Merge (listed nodes (node 1 ∷ node 2 ∷ []) (lit≤ tt))) ≡ Ok one
  unfolding has_any any_has
  merges = refl

  -- node 2 is gone, with its pairs, and its two columns and its row stand at node 1
  pub merge_kept : changes renamed one
      ≡ (Node (node 2) (65 ∷ 95 ∷ 50 ∷ []) (Some (record { 0 = 1 })) ∷ Pair (node 2) (node 0) true ∷ Pair (node 2) (node 1) true
      ∷ Column (record { 0 = 1 }) (node 2) ∷ Column (record { 0 = 2 }) (node 2) ∷ Row (record { 0 = 0 }) (node 2) ∷ [])
  unfolding digits has_any any_has
  merge_kept = refl

  pub merge_size : length (changes renamed one) ≡ 6
  unfolding digits has_any any_has
  merge_size = refl
