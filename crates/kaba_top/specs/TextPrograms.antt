-- Believed. Which program a text is: how it is read, which tree it has, and to which typed program that resolves.
use Rattle.std.specs.Prelude.{◌≡◌, ℕ, ◌≤◌, List, Ok}
use Rattle.java_lex.specs.declared.Token.{Token}
use Rattle.java_lex.specs.Lexing.{tokens_of}
use Rattle.java_tree.specs.Nesting.{nesting_of}
use Rattle.java_tree.specs.Syntax.{DeclTree}
use Rattle.java_tree.specs.Declarations.{IsPlaced}
use Rattle.java_core.specs.Programs.{Plain}
use Rattle.java_core.specs.Formed.{IsFormed}
use Rattle.java_core.specs.Typing.{IsTyped}
use Rattle.name_rules.specs.Causes.{HasNoCondition}
use Rattle.name_rules.specs.Resolves.{Resolves}

-- the most entries that the nesting stack may have
abbrev pub most_nesting : ℕ
most_nesting = 128

-- the text is read as this tree with its places, and its nesting is within the limit
pub record IsParsedAs (bytes : List ℕ) (tree : List DeclTree) : Type 0 where
  pub tokens : List Token
  pub lexed : tokens_of bytes ≡ Ok tokens
  pub nested : nesting_of tokens ≤ most_nesting
  pub placed : IsPlaced tokens tree

-- the text has this tree, no condition that refuses names holds of it, and it is resolved to this program
pub record HasProgram (bytes : List ℕ) (tree : List DeclTree) (program : Plain) : Type 0 where
  pub read : IsParsedAs bytes tree
  pub resolves : Resolves tree program
  pub none : HasNoCondition tree

-- the text is that of this program, which is typed
pub record IsTypedText (bytes : List ℕ) (program : Plain) : Type 0 where
  pub tree : List DeclTree
  pub has : HasProgram bytes tree program
  pub formed : IsFormed program
  pub typed : IsTyped program
