-- A tree that was read is one that a text gives; a fault says that there is none.
use Rattle.std.proofs.Common.{◌≡◌, ◌⊎◌, inl, inr, ℕ, List, Ok, Err, refl, sym, subst, ◌∙◌}
use Rattle.java_lex.specs.declared.Token.{Token}
use Rattle.java_lex.specs.declared.LexFault.{LexFault}
use Rattle.java_lex.specs.Lexing.{tokens_of}
use Rattle.java_tree.specs.Syntax.{DeclTree}
use Rattle.java_tree.specs.Declarations.{IsPlaced, Derives}
use Rattle.java_tree.specs.Nesting.{IsTooDeep}
use Rattle.java_tree.specs.Formed.{IsReadAs, IsGiven}
use Rattle.java_again.specs.Again.{HasNoTree}

pub is_read : (bytes : List ℕ) (tokens : List Token) (tree : List DeclTree) → tokens_of bytes ≡ Ok tokens → IsPlaced tokens tree → IsReadAs bytes tree
is_read bytes tokens tree h p = record { tokens = tokens; lexed = h; derived = record { placed = tree; derived = p; same = refl } }

pub given : (bytes : List ℕ) (tokens : List Token) (tree : List DeclTree) → tokens_of bytes ≡ Ok tokens → IsPlaced tokens tree → IsGiven tree
given bytes tokens tree h p = record { bytes = bytes; read = is_read bytes tokens tree h p }

pub no_tokens : (bytes : List ℕ) (fault : LexFault) → tokens_of bytes ≡ Err fault → HasNoTree bytes
no_tokens bytes fault h = λ tokens e. let g : Err fault ≡ Ok tokens = sym h ∙ e in absurd (cc)

module _ (bytes : List ℕ) (tokens : List Token) (lexed : tokens_of bytes ≡ Ok tokens) where
  -- the tokens of a text are no others
  only : ((k : ℕ) × IsTooDeep tokens k) ⊎ ((tree : List DeclTree) → Derives tokens tree → ⊥) → HasNoTree bytes
  only none = λ others e.
      let g : Ok tokens ≡ Ok others = sym lexed ∙ e in
      let t : tokens ≡ others = cc in
      subst (λ ts. ((k : ℕ) × IsTooDeep ts k) ⊎ ((tree : List DeclTree) → Derives ts tree → ⊥)) t none

  pub too_deep : (k : ℕ) → IsTooDeep tokens k → HasNoTree bytes
  too_deep k deep = only (inl (k, deep))

  pub no_tree : ((tree : List DeclTree) → Derives tokens tree → ⊥) → HasNoTree bytes
  no_tree none = only (inr none)
