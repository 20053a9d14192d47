-- Mirror. Equality of trees has one answer.
use Rattle.std.specs.Prelude.{◌≡◌, ◌↔◌, Bool, IsTrue}
use Rattle.java_tree.specs.declared.Tree.{Tree}
use Rattle.java_tree.specs.Syntax.{tree_of}
use Rattle.java_tree.specs.Places.{unplaced}

-- the answer tells whether the two trees are equal, places aside
abbrev pub Tells : Tree → Tree → Bool → Type 0
Tells a b answer = IsTrue answer ↔ (unplaced (tree_of a) ≡ unplaced (tree_of b))

-- two answers that tell it of the same trees are equal
abbrev pub OneComparison : Type 0
OneComparison = (a b : Tree) (x y : Bool) → Tells a b x → Tells a b y → x ≡ y
