-- Believed. Which tokens begin a program, and the first token that cannot stand where it does.
use Rattle.std.specs.Prelude.{ℕ, suc, ◌≤◌, ◌<◌, List, ◌++◌, length, take}
use Rattle.java_lex.specs.declared.Token.{Token}
use Rattle.java_tree.specs.Syntax.{DeclTree}
use Rattle.java_tree.specs.Declarations.{Derives}

-- some tokens behind these make a list that derives a tree, however deep that nests
abbrev pub Begins : List Token → Type 0
Begins ts = (behind : List Token) × (tree : List DeclTree) × Derives (ts ++ behind) tree

-- the token k, counted from 0, is the first that cannot stand where it does; or each may stand where it does, the tokens
-- are no program, and k is their count
pub record IsExact (ts : List Token) (k : ℕ) : Type 0 where
  pub within : k ≤ length ts
  -- the tokens before the token k begin a program, and so do fewer of them
  pub begins : Begins (take k ts)
  -- with the token k they begin none
  pub stuck : k < length ts → Begins (take (suc k) ts) → ⊥
  pub none : (tree : List DeclTree) → Derives ts tree → ⊥
