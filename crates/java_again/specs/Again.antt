-- Mirror. Two texts of one program.
use Rattle.std.specs.Prelude.{◌≡◌, ◌⊎◌, ℕ, List, Ok}
use Rattle.java_lex.specs.declared.Token.{Token}
use Rattle.java_lex.specs.Lexing.{tokens_of}
use Rattle.std.specs.Str.{encode_utf8_all}
use Rattle.java_tree.specs.Syntax.{DeclTree}
use Rattle.java_tree.specs.Places.{unplaced}
use Rattle.java_tree.specs.Declarations.{IsPlaced, Derives}
use Rattle.java_tree.specs.Nesting.{IsTooDeep}
use Rattle.java_tree.specs.Formed.{IsReadAs, IsGiven}
use Rattle.java_print.specs.Layout.{tree_text}

-- some tree is what both texts are read as
pub record IsSameTree (first second : List ℕ) : Type 0 where
  pub tree : List DeclTree
  pub one : IsReadAs first tree
  pub other : IsReadAs second tree

-- the second text is the layout of the tree that the first one's tokens derive
pub record IsWrittenAgain (first second : List ℕ) : Type 0 where
  pub tokens : List Token
  pub lexed : tokens_of first ≡ Ok tokens
  pub tree : List DeclTree
  pub placed : IsPlaced tokens tree
  pub written : second ≡ encode_utf8_all (tree_text tree)

-- a text is written again in one way
abbrev pub OneText : Type 0
OneText = (text a b : List ℕ) → IsWrittenAgain text a → IsWrittenAgain text b → a ≡ b

-- programs of one text are one program, places aside
abbrev pub TextsApart : Type 0
TextsApart = (a b : List DeclTree) → IsGiven a → IsGiven b → tree_text a ≡ tree_text b → unplaced a ≡ unplaced b

-- the text has no tokens, or they nest too deep, or no tree derives them
abbrev pub HasNoTree : List ℕ → Type 0
HasNoTree bytes = (tokens : List Token) → tokens_of bytes ≡ Ok tokens → ((k : ℕ) × IsTooDeep tokens k) ⊎ ((tree : List DeclTree) → Derives tokens tree → ⊥)
