-- Mirror. What a text is read as is one program, whatever its places.
use Rattle.std.specs.Prelude.{◌≡◌, ℕ, List}
use Rattle.java_tree.specs.Syntax.{DeclTree}
use Rattle.java_tree.specs.Places.{unplaced}
use Rattle.java_tree.specs.Formed.{IsFormedTree, IsGiven, IsReadAs}
use Rattle.java_core.specs.Programs.{Plain}
use Rattle.java_core.specs.Formed.{HasSmallNumbers, IsFormed}
use Rattle.java_core.specs.Untagged.{untagged}
use Rattle.name_rules.specs.Resolves.{Resolves}
use Rattle.name_rules.specs.Causes.{HasNoCondition}

-- where no condition that refuses names holds of a tree, none holds of it without its places
unfoldable pub NoConditionAside : Type 0
NoConditionAside = (tree : List DeclTree) → HasNoCondition tree → HasNoCondition (unplaced tree)

-- and where none holds of it without its places, none holds of it
unfoldable pub NoConditionKept : Type 0
NoConditionKept = (tree : List DeclTree) → HasNoCondition (unplaced tree) → HasNoCondition tree

-- two trees that are one, places aside, resolve to programs that are one, places aside; one of them is of a text, and no condition of a refusal holds of it
unfoldable pub PlacesAside : Type 0
PlacesAside = (tree other : List DeclTree) (P Q : Plain) → unplaced tree ≡ unplaced other → IsGiven other → HasNoCondition other
    → Resolves tree P → Resolves other Q → untagged P ≡ untagged Q

-- so a text is read as one program, places aside, however the trees are placed that it is read as
unfoldable pub HasOneProgram : Type 0
HasOneProgram = (bytes : List ℕ) (tree other : List DeclTree) (P Q : Plain) → IsReadAs bytes tree → IsReadAs bytes other → HasNoCondition other
    → Resolves tree P → Resolves other Q → untagged P ≡ untagged Q

-- a tree without places, of a text and refused by no condition, resolves to a program without places
unfoldable pub HasNoPlaces : Type 0
HasNoPlaces = (tree : List DeclTree) (P : Plain) → unplaced tree ≡ tree → IsGiven tree → HasNoCondition tree → Resolves tree P → untagged P ≡ P

-- a tree resolves to a program that is formed, no condition refuses the tree, and the program is another one, places aside
pub record IsProgramAside (tree : List DeclTree) (other P : Plain) : Type 0 where
  pub resolves : Resolves tree P
  pub none : HasNoCondition tree
  pub formed : IsFormed P
  pub same : untagged P ≡ untagged other

-- a tree of a text that is one, places aside, with a tree that resolves to a program and that no condition refuses, resolves to that program, places aside
unfoldable pub HasProgramAside : Type 0
HasProgramAside = (tree other : List DeclTree) (Q : Plain) → unplaced tree ≡ unplaced other → IsGiven tree → IsFormedTree tree
    → HasNoCondition other → Resolves other Q → HasSmallNumbers Q → (P : Plain) × IsProgramAside tree Q P
