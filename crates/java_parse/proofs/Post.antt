-- What each part is, where it is read: the grammar's.
use Rattle.std.proofs.Common.{◌+◌, ◌≡◌, ℕ, List, [], ◌∷◌, ◌++◌, Option, None, Bool, true, false}
use Rattle.kaba_base.specs.declared.Place.{Place}
use Rattle.kaba_base.specs.declared.words.Keyword.TheVariants as keys
use Rattle.java_lex.specs.declared.Token.{Token}
use Rattle.java_lex.specs.declared.Mark.TheVariants as marks
use Rattle.java_tree.specs.Syntax.{Expression, NameRef, NewOf, Expressions, Statement, Statements, Arms, Else, OptionalStatement, DeclTree}
use Rattle.java_tree.specs.Tokens.{mark, key, word, first_place}
use Rattle.java_tree.specs.Nesting.{next_is}
use Rattle.java_tree.proofs.Appended.{append_exprs, append_stmts, append_arms}
use Rattle.java_parse.specs.declared.End.{End}
use Rattle.java_parse.specs.declared.End.TheVariants as ends
use Rattle.java_parse.specs.Want.{Want, NExpr, NMore, NPrefixed, NPost, NAtom, NSuper, NNew, NSized, NDims, NType, NTail, NArgs, NMoreArgs, NInit, NLocal, NValue, NAct, NActRest, NTested, NItem, NItems, NStmt, NForHead, NFirst, NStep, NBranches, NMods, NIds, NParent, NList, NParam, NParams, NMoreParams, NResult, NHead, NBody, NMember, NTyped, NMethod, NMaker, NMakerBody, NMembers, NHeads, NClass, NInterface, NDecl, NDecls, Val}
use Rattle.java_parse.specs.Front.{after_key}
use Rattle.java_tree.specs.Expressions.{IsBase, IsDims, IsType, IsExpr, IsPrefixed, IsPost, IsArgs, IsMoreArgs}
use Rattle.java_tree.specs.Statements.{is_word, IsValue, IsInit, IsLocal, IsTarget, IsCall, IsAct, IsForFirst, IsForStep, IsItem, IsItems, IsStmt, IsArms}
use Rattle.java_tree.specs.Declarations.{IsMods, IsIds, IsParent, IsList, IsParam, IsMoreParams, IsParams, IsResult, IsHead, IsBody, IsUp, IsMember, IsMembers, IsHeads, IsDecl, IsPlaced}

-- an expression without operators, by how it ends
pub data Ended : End → List Token → List Token → Expression → Type 0 where
  by_name : {n : List ℕ} {p : Place} {rest : List Token} → Ended ends.Name (word n p ∷ rest) rest (NameRef n p)
  by_target : {ts rest : List Token} {e : Expression} → IsTarget ts rest e → Ended ends.Target ts rest e
  by_call : {ts rest : List Token} {e : Expression} → IsCall ts rest e → Ended ends.Call ts rest e
  by_new : {n : List ℕ} {es : Expressions} {p q r : Place} {us rest : List Token} → IsArgs us rest es →
      Ended ends.New (key keys.New p ∷ word n q ∷ mark marks.OpenRound r ∷ us) rest (NewOf (record { name = n; place = q }) es p)
  by_array : {ts rest : List Token} {e : Expression} → IsPost false ts rest e → Ended ends.Array ts rest e
  by_other : {ts rest : List Token} {e : Expression} → IsPost true ts rest e → Ended ends.Other ts rest e

-- what was counted from `first` on
pub record Counted (first : ℕ) (ts : List Token) (d : ℕ) (rest : List Token) : Type 0 where
  pub more : ℕ
  pub is : d ≡ first + more
  pub dims : IsDims ts rest more

pub record MoreArgs (before : Expressions) (ts : List Token) (es : Expressions) (rest : List Token) : Type 0 where
  pub more : Expressions
  pub is : es ≡ append_exprs before more
  pub args : IsMoreArgs ts rest more

pub record Tested (ts : List Token) (e : Expression) (rest : List Token) : Type 0 where
  pub open_at : Place
  pub close_at : Place
  pub inner : List Token
  pub starts : ts ≡ mark marks.OpenRound open_at ∷ inner
  pub test : IsExpr 1 inner (mark marks.CloseRound close_at ∷ rest) e

pub record Itemed (before : Statements) (ts : List Token) (ss : Statements) (rest : List Token) : Type 0 where
  pub more : Statements
  pub is : ss ≡ append_stmts before more
  pub items : IsItems ts rest more

-- a statement, and that no `else` behind it would belong to it
pub record Stmted (ts : List Token) (s : Statement) (rest : List Token) : Type 0 where
  pub flag : Bool
  pub fact : IsStmt flag ts rest s
  pub closed : flag ≡ true → after_key keys.Else rest ≡ None

-- the head of a `for`, by its three parts
pub data Headed : List Token → OptionalStatement → Option Expression → OptionalStatement → List Token → Type 0 where
  headed : {o p q r : Place} {inner middle last rest : List Token} {f : OptionalStatement} {v : Option Expression} {g : OptionalStatement} →
      IsForFirst inner (mark marks.Semi p ∷ middle) f → IsValue middle (mark marks.Semi q ∷ last) v → IsForStep last (mark marks.CloseRound r ∷ rest) g →
      Headed (mark marks.OpenRound o ∷ inner) f v g rest

pub record Branched (before : Arms) (ts : List Token) (a : Arms) (l : Else) (rest : List Token) : Type 0 where
  pub flag : Bool
  pub more : Arms
  pub is : a ≡ append_arms before more
  pub fact : IsArms flag ts rest more l
  pub closed : flag ≡ true → after_key keys.Else rest ≡ None

-- the body of a constructor behind its brace
pub record Built (ts : List Token) (u : Option Expressions) (ss : Statements) (rest : List Token) : Type 0 where
  pub middle : List Token
  pub first : IsUp ts middle u
  pub items : IsItems middle rest ss

-- those before, and more of a kind that stand here
pub record Longer {A : Type 0} (Are : List Token → List Token → List A → Type 0) (before : List A) (ts : List Token) (xs : List A) (rest : List Token)
    : Type 0 where
  pub more : List A
  pub is : xs ≡ before ++ more
  pub are : Are ts rest more

pub record Declared (before : List DeclTree) (ts : List Token) (ds : List DeclTree) (rest : List Token) : Type 0 where
  pub more : List DeclTree
  pub is : ds ≡ before ++ more
  pub ended : rest ≡ []
  pub decls : IsPlaced ts more

-- what a part is from the first of these tokens up to the rest
abbrev pub Post : (n : Want) → List Token → Val n → List Token → Type 0
Post (NExpr l) ts e rest = IsExpr l ts rest e
Post (NMore l c a) ts e rest = (us : List Token) → IsExpr l us ts a → IsExpr c us ts a → IsExpr l us rest e
Post NPrefixed ts e rest = IsPrefixed ts rest e
Post NPost ts x rest = Ended x.1 ts rest x.0
Post NAtom ts x rest = Ended x.1 ts rest x.0
Post NSuper ts x rest = (q : Place) → Ended x.1 (key keys.Super q ∷ ts) rest x.0
Post (NNew p) ts x rest = Ended x.1 (key keys.New p ∷ ts) rest x.0
Post (NSized p b q) ts x rest = (us : List Token) → IsBase us ts b q → Ended x.1 (key keys.New p ∷ us) rest x.0
Post (NDims d) ts n rest = Counted d ts n rest
Post NType ts t rest = IsType ts rest t
Post (NTail e z) ts x rest = (us : List Token) → Ended z us ts e → Ended x.1 us rest x.0
Post NArgs ts es rest = IsArgs ts rest es
Post (NMoreArgs es) ts fs rest = MoreArgs es ts fs rest
Post NInit ts v rest = IsInit ts rest v
Post NLocal ts s rest = IsLocal ts rest s
Post NValue ts v rest = IsValue ts rest v
Post NAct ts s rest = IsAct ts rest s
Post (NActRest w p e z) ts s rest = (us : List Token) → next_is is_word us ≡ w → first_place us ≡ p → Ended z us ts e → IsAct us rest s
Post NTested ts e rest = Tested ts e rest
Post NItem ts s rest = IsItem ts rest s
Post (NItems ss) ts x rest = Itemed ss ts x rest
Post NStmt ts s rest = Stmted ts s rest
Post NForHead ts x rest = Headed ts x.0 x.1 x.2 rest
Post NFirst ts o rest = IsForFirst ts rest o
Post NStep ts o rest = IsForStep ts rest o
Post (NBranches a) ts x rest = Branched a ts x.0 x.1 rest
Post (NMods ms) ts x rest = Longer IsMods ms ts x rest
Post (NIds is) ts x rest = Longer IsIds is ts x rest
Post NParent ts x rest = IsParent ts rest x
Post (NList k) ts x rest = IsList k ts rest x
Post NParam ts x rest = IsParam ts rest x
Post NParams ts x rest = IsParams ts rest x
Post (NMoreParams qs) ts x rest = Longer IsMoreParams qs ts x rest
Post NResult ts x rest = IsResult ts rest x
Post NHead ts x rest = IsHead ts rest x
Post NBody ts x rest = IsBody ts rest x
Post NMember ts x rest = IsMember ts rest x
Post (NTyped ms) ts x rest = (us : List Token) → IsMods us ts ms → IsMember us rest x
Post (NMethod ms t n p) ts x rest = (us vs : List Token) (q : Place) → IsMods us vs ms → IsResult vs (word n p ∷ mark marks.OpenRound q ∷ ts) t
    → IsMember us rest x
Post (NMaker ms n p) ts x rest = (us : List Token) (q : Place) → IsMods us (word n p ∷ mark marks.OpenRound q ∷ ts) ms → IsMember us rest x
Post NMakerBody ts x rest = Built ts x.0 x.1 rest
Post (NMembers bs) ts x rest = Longer IsMembers bs ts x rest
Post (NHeads hs) ts x rest = Longer IsHeads hs ts x rest
Post (NClass ms) ts x rest = (us : List Token) (q : Place) → IsMods us (key keys.Class q ∷ ts) ms → IsDecl us rest x
Post (NInterface ms) ts x rest = (us : List Token) (q : Place) → IsMods us (key keys.Interface q ∷ ts) ms → IsDecl us rest x
Post NDecl ts x rest = IsDecl ts rest x
Post (NDecls ds) ts x rest = Declared ds ts x rest
