-- Mirror. What the reader reads, and a reading as plain data: it gives a tree and the rest, or fails at a rest, or asks
-- for a
-- part and goes on with it.
use Rattle.std.specs.Prelude.{ℕ, List, Option, Bool}
use Rattle.kaba_base.specs.declared.Place.{Place}
use Rattle.kaba_base.specs.declared.words.Keyword.{Keyword}
use Rattle.java_lex.specs.declared.Token.{Token}
use Rattle.java_tree.specs.declared.Id.{Id}
use Rattle.java_tree.specs.declared.Modifier.{Modifier}
use Rattle.java_tree.specs.declared.TypeBase.{TypeBase}
use Rattle.java_tree.specs.declared.TypeName.{TypeName}
use Rattle.java_tree.specs.declared.Param.{Param}
use Rattle.java_tree.specs.Syntax.{Expression, Expressions, Statement, Statements, Arms, Else, OptionalStatement, HeadTree, MemberTree, DeclTree}
use Rattle.java_parse.specs.declared.End.{End}

-- the parts of a text, with what has been read of them so far
pub data Want : Type 0 where
  NExpr : ℕ → Want
  NMore : ℕ → ℕ → Expression → Want
  NPrefixed : Want
  NPost : Want
  NAtom : Want
  NSuper : Want
  NNew : Place → Want
  NSized : Place → TypeBase → Place → Want
  NDims : ℕ → Want
  NType : Want
  NTail : Expression → End → Want
  NArgs : Want
  NMoreArgs : Expressions → Want
  NInit : Want
  NLocal : Want
  NValue : Want
  NAct : Want
  NActRest : Bool → Place → Expression → End → Want
  NTested : Want
  NItem : Want
  NItems : Statements → Want
  NStmt : Want
  NForHead : Want
  NFirst : Want
  NStep : Want
  NBranches : Arms → Want
  NMods : List Modifier → Want
  NIds : List Id → Want
  NParent : Want
  NList : Keyword → Want
  NParam : Want
  NParams : Want
  NMoreParams : List Param → Want
  NResult : Want
  NHead : Want
  NBody : Want
  NMember : Want
  NTyped : List Modifier → Want
  NMethod : List Modifier → Option TypeName → List ℕ → Place → Want
  NMaker : List Modifier → List ℕ → Place → Want
  NMakerBody : Want
  NMembers : List MemberTree → Want
  NHeads : List HeadTree → Want
  NClass : List Modifier → Want
  NInterface : List Modifier → Want
  NDecl : Want
  NDecls : List DeclTree → Want

-- what each part is read as
abbrev pub Val : Want → Type 0
Val (NExpr l) = Expression
Val (NMore l c e) = Expression
Val NPrefixed = Expression
Val NPost = Expression × End
Val NAtom = Expression × End
Val NSuper = Expression × End
Val (NNew p) = Expression × End
Val (NSized p b q) = Expression × End
Val (NDims d) = ℕ
Val NType = TypeName
Val (NTail e z) = Expression × End
Val NArgs = Expressions
Val (NMoreArgs es) = Expressions
Val NInit = Option Expression
Val NLocal = Statement
Val NValue = Option Expression
Val NAct = Statement
Val (NActRest w p e z) = Statement
Val NTested = Expression
Val NItem = Statement
Val (NItems ss) = Statements
Val NStmt = Statement
Val NForHead = OptionalStatement × Option Expression × OptionalStatement
Val NFirst = OptionalStatement
Val NStep = OptionalStatement
Val (NBranches a) = Arms × Else
Val (NMods ms) = List Modifier
Val (NIds is) = List Id
Val NParent = Option Id
Val (NList k) = List Id
Val NParam = Param
Val NParams = List Param
Val (NMoreParams qs) = List Param
Val NResult = Option TypeName
Val NHead = HeadTree
Val NBody = Option Statements
Val NMember = MemberTree
Val (NTyped ms) = MemberTree
Val (NMethod ms t n p) = MemberTree
Val (NMaker ms n p) = MemberTree
Val NMakerBody = Option Expressions × Statements
Val (NMembers bs) = List MemberTree
Val (NHeads hs) = List HeadTree
Val (NClass ms) = DeclTree
Val (NInterface ms) = DeclTree
Val NDecl = DeclTree
Val (NDecls ds) = List DeclTree

-- what reading does: it gives a tree and the tokens behind it, fails at these, or asks for a part and goes on with it
pub data ReadStep (A : Type 0) : Type 0 where
  Give : A → List Token → ReadStep A
  Fail : List Token → ReadStep A
  Ask : (n : Want) → List Token → (Val n → List Token → ReadStep A) → ReadStep A
