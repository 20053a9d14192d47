-- Mirror. What the search for unordered class nodes knows, and what an edit leaves of it.
use Rattle.std.specs.Prelude.{◌≡◌, ℕ, ◌==◌, ◌&&◌, ◌||◌, not, length, List, Bool, Option, None, Ok, true}
use Rattle.kaba_bits.specs.Sets.{bit, first_below}
use Rattle.kaba_order.specs.Orders.{is_le}
use Rattle.fact_model.specs.declared.facts.Facts.{Facts}
use Rattle.hier_model.specs.Hierarchies.{Hierarchy, IsHierarchyOf}
use Rattle.hier_model.specs.Classes.{AreClassNodes, AreClassNodesBut}
use Rattle.hier_model.specs.Edits.{changed}
use Rattle.hier_model.specs.declared.edits.Edit.{Edit}
use Rattle.hier_rules.specs.declared.broken.Broken.{Broken}
use Rattle.hier_rules.specs.declared.chains.Above.{Above}
use Rattle.hier_rules.specs.declared.chains.ClassNodes.{ClassNodes}
use Rattle.hier_rules.specs.declared.kept.KnownNodes.{KnownNodes}
use Rattle.hier_rules.specs.Obligations.{is_class_above, unchained}

-- a hierarchy, and the set of its class nodes
pub record HasClassNodes (nodes : ClassNodes) : Type 0 where
  pub hier : IsHierarchyOf nodes.facts.now nodes.hier.now
  pub classes : AreClassNodes nodes.facts.now nodes.hier.now nodes.classes.now

module _ (F : Facts) (H : Hierarchy) where
  -- whether a class node is strictly above another
  abbrev pub is_over : ℕ → ℕ → Bool
  is_over n x = is_class_above F H n x && not (x == n)

  -- the first two class nodes at or above a node that are not ordered
  abbrev pub first_unchained_at : ℕ → Option Broken
  first_unchained_at n = first_below (length H.order.live) (λ x. first_below (length H.order.live) (unchained F H n x))

  -- the nodes of the set are chained: the class nodes at or above each of them form a chain
  pub record AreChained (chained : List Bool) : Type 0 where
    pub width : length chained ≡ length H.order.live
    pub each : (n : ℕ) → bit chained n ≡ true → first_unchained_at n ≡ None

-- the nodes of a set are ordered with each other
abbrev pub AreOrdered : Hierarchy → List Bool → Type 0
AreOrdered H set = (x y : ℕ) → bit set x ≡ true → bit set y ≡ true → (is_le H.order x y || is_le H.order y x) ≡ true

-- sets as wide as there are nodes
pub record AreWide (count : ℕ) (above : Above) : Type 0 where
  pub over : length above.over ≡ count
  pub ordered : length above.ordered ≡ count
  pub rest : length above.rest ≡ count

-- the class nodes strictly above a node, some that are ordered with each other, and the others
pub record IsAbove (nodes : ClassNodes) (n : ℕ) (above : Above) : Type 0 where
  pub widths : AreWide (length nodes.hier.now.order.live) above
  pub over : (x : ℕ) → bit above.over x ≡ is_over nodes.facts.now nodes.hier.now n x
  pub ordered : AreOrdered nodes.hier.now above.ordered
  pub rest : (x : ℕ) → bit above.rest x ≡ (bit above.over x && not (bit above.ordered x))

-- what is known of the nodes of a hierarchy holds of them
pub record AreKnown (F : Facts) (H : Hierarchy) (known : KnownNodes) : Type 0 where
  pub chained : AreChained F H known.chained
  pub classes : AreClassNodesBut F H known.unasked known.classes

-- an edit made this hierarchy of one of whose nodes all that held
pub record WereKnown (F : Facts) (K : Hierarchy) (edit : Edit) (known : KnownNodes) : Type 0 where
  pub before : Hierarchy
  pub fits : IsHierarchyOf F before
  pub were : AreKnown F before known
  pub made : changed F before edit ≡ Ok K
