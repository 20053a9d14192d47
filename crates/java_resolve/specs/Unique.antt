-- Mirror. A tree has one program.
use Rattle.std.specs.Prelude.{◌≡◌, List}
use Rattle.java_tree.specs.Syntax.{DeclTree}
use Rattle.java_tree.specs.Formed.{IsFormedTree}
use Rattle.java_core.specs.Programs.{Plain}
use Rattle.name_rules.specs.Resolves.{Resolves}
use Rattle.name_rules.specs.Causes.{HasNoCondition}

-- a tree that the grammar gives, and of which no condition of a refusal holds, resolves to at most one program
abbrev pub OneProgram : Type 0
OneProgram = (tree : List DeclTree) (P Q : Plain) → IsFormedTree tree → HasNoCondition tree → Resolves tree P → Resolves tree Q → P ≡ Q
