-- Mirror. What the parts of the generator give.
use Rattle.std.specs.Prelude.{◌≡◌, ℕ, ◌&&◌, ◌||◌, not, Bool, List, [], ◌∷◌, length, Option, Some, None}
use Rattle.java_tree.specs.declared.Head.{Head}
use Rattle.java_tree.specs.Syntax.{HeadTree, head_of}
use Rattle.kaba_bits.specs.Sets.{bit}
use Rattle.fact_model.specs.declared.facts.Facts.{Facts}
use Rattle.fact_model.specs.Items.{column_kind, column_slot}
use Rattle.fact_model.specs.Classes.{is_def, is_slot}
use Rattle.hier_model.specs.Hierarchies.{Hierarchy, is_offered}
use Rattle.write_model.specs.Supers.{is_class_above}

-- at most one head
abbrev pub head_if : Option Head → List HeadTree
head_if None = []
head_if (Some h) = head_of h ∷ []

-- the set of the class nodes strictly above a node
pub record AreClassesAbove (F : Facts) (H : Hierarchy) (n : ℕ) (nodes : List Bool) : Type 0 where
  pub width : length nodes ≡ length H.order.live
  pub exact : (a : ℕ) → bit nodes a ≡ is_class_above F H n a

-- whether a column is of a slot and a node offers it, where only bodies may be asked for
abbrev pub is_offered_as : Facts → Hierarchy → ℕ → ℕ → Bool → ℕ → Bool
is_offered_as F H n x bodies c = (not bodies || is_def (column_kind F c)) && (is_slot (column_slot F c) x && is_offered H n c)
