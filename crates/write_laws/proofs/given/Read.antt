-- A tree that a text is read as has the parts that the grammar gives, with its places.
use Rattle.std.proofs.Common.{◌≡◌, ℕ, List, refl, subst, Ok}
use Rattle.java_lex.specs.declared.Token.{Token}
use Rattle.java_lex.specs.Lexing.{tokens_of}
use Rattle.java_tree.specs.Syntax.{DeclTree}
use Rattle.java_tree.specs.Declarations.{IsPlaced}
use Rattle.java_tree.specs.Formed.{IsFormedTree, IsGiven}
use Rattle.java_tree.proofs.Gives.{given_formed}
use Rattle.write_laws.proofs.given.Unplaced.{places_aside}

-- the tree of a text is one that the grammar gives
pub read_given : (bytes : List ℕ) (tokens : List Token) (tree : List DeclTree) → tokens_of bytes ≡ Ok tokens → IsPlaced tokens tree → IsGiven tree
read_given bytes tokens tree h d = record {
  bytes = bytes;
  read = record { tokens = tokens; lexed = h; derived = record { placed = tree; derived = d; same = refl } };
}

-- so it has the parts that the grammar gives
pub read_formed : (bytes : List ℕ) (tokens : List Token) (tree : List DeclTree) → tokens_of bytes ≡ Ok tokens → IsPlaced tokens tree → IsFormedTree tree
read_formed bytes tokens tree h d = subst (λ (A : Type 0). A) (places_aside tree) (given_formed tree (read_given bytes tokens tree h d))
