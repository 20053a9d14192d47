-- Believed. Trees that the grammar gives: what their parts may be.
use Rattle.std.specs.Prelude.{◌≡◌, ℕ, ◌<◌, ◌≤◌, ℤ, negsuc, Bool, true, false, ◌||◌, List, [], ◌∷◌, Option, Some, None, is_some, Ok}
use Rattle.java_lex.specs.declared.Token.{Token}
use Rattle.java_lex.specs.Lexing.{tokens_of}
use Rattle.java_lex.specs.Writable.{IsName, IsText, IsSmall, IsUnit}
use Rattle.java_tree.specs.declared.Id.{Id}
use Rattle.java_tree.specs.declared.Modifier.{Modifier}
use Rattle.java_tree.specs.declared.TypeBase.{TypeBase}
use Rattle.java_tree.specs.declared.TypeBase.TheVariants as bases
use Rattle.java_tree.specs.declared.TypeName.{TypeName}
use Rattle.java_tree.specs.declared.Param.{Param}
use Rattle.java_tree.specs.Syntax.{Expression, IntLit, CharLit, StrLit, BoolLit, NullLit, ThisRef, NameRef, FieldOf, IndexOf, CallOf, CallOn, SuperCallOf, NewOf, NewArrayOf, CastOf, InstanceOfClass, UnaryOf, BinaryOf, Expressions, no_more, and_more, Statement, LocalOf, BlockOf, AssignOf, DoOf, PrintOf, IfOf, WhileOf, ForOf, ReturnOf, BreakOf, ContinueOf, Statements, no_statements, and_then, Arms, no_arms, and_arm, Else, no_else, otherwise, OptionalStatement, absent, present, HeadTree, MemberTree, FieldTree, MethodTree, MakerTree, DeclTree, ClassTree, InterfaceTree}
use Rattle.java_tree.specs.Tokens.{level, is_sign, is_modifier}
use Rattle.java_tree.specs.Declarations.{Derives}

-- the bytes are lexed, and the tokens derive the tree
pub record IsReadAs (bytes : List ℕ) (tree : List DeclTree) : Type 0 where
  pub tokens : List Token
  pub lexed : tokens_of bytes ≡ Ok tokens
  pub derived : Derives tokens tree

-- a tree that the tokens of some text derive
pub record IsGiven (tree : List DeclTree) : Type 0 where
  pub bytes : List ℕ
  pub read : IsReadAs bytes tree

-- a number of an expression: small, or the least one
pub data IsNumber : ℤ → Type 0 where
  a_small : {z : ℤ} → IsSmall z → IsNumber z
  the_least : IsNumber (negsuc 2147483647)

-- a type without brackets: `int`, `boolean`, `char`, or a name that tokens have
abbrev pub IsFormedBase : TypeBase → Type 0
IsFormedBase (bases.Named n) = IsName n
IsFormedBase bases.Int = Unit {0}
IsFormedBase bases.Boolean = Unit {0}
IsFormedBase bases.Char = Unit {0}

-- the type of a cast
abbrev pub IsCastBase : TypeBase → Type 0
IsCastBase bases.Boolean = ⊥
IsCastBase (bases.Named n) = IsName n
IsCastBase bases.Int = Unit {0}
IsCastBase bases.Char = Unit {0}

-- whether an assignment may change it: a name, a field or an element of an array
abbrev pub is_target : Expression → Bool
is_target (NameRef n p) = true
is_target (FieldOf e n p) = true
is_target (IndexOf e i p) = true
is_target _ = false

-- whether it may be a statement: a call or a new object
abbrev pub is_call : Expression → Bool
is_call (CallOf n es p) = true
is_call (CallOn e n es p) = true
is_call (SuperCallOf n es p) = true
is_call (NewOf c es p) = true
is_call _ = false

abbrev mutual
  -- an expression that the grammar gives: its names, literals, types and operators are those of tokens
  pub IsFormedExpression : Expression → Type 0
  IsFormedExpression (IntLit z p) = IsNumber z
  IsFormedExpression (CharLit u p) = IsUnit u
  IsFormedExpression (StrLit us p) = IsText us
  IsFormedExpression (BoolLit b p) = Unit {0}
  IsFormedExpression (NullLit p) = Unit {0}
  IsFormedExpression (ThisRef p) = Unit {0}
  IsFormedExpression (NameRef n p) = IsName n
  IsFormedExpression (FieldOf e n p) = IsFormedExpression e × IsName n
  IsFormedExpression (IndexOf e i p) = IsFormedExpression e × IsFormedExpression i
  IsFormedExpression (CallOf n es p) = IsName n × AreFormed es
  IsFormedExpression (CallOn e n es p) = IsFormedExpression e × IsName n × AreFormed es
  IsFormedExpression (SuperCallOf n es p) = IsName n × AreFormed es
  IsFormedExpression (NewOf c es p) = IsName c.name × AreFormed es
  IsFormedExpression (NewArrayOf t e p) = IsFormedBase t.base × (1 ≤ t.dim) × IsFormedExpression e
  IsFormedExpression (CastOf t e p) = IsCastBase t.base × (t.dim ≡ 0) × IsFormedExpression e
  IsFormedExpression (InstanceOfClass e c p) = IsFormedExpression e × IsName c.name
  IsFormedExpression (UnaryOf m e p) = (is_sign m ≡ true) × IsFormedExpression e
  IsFormedExpression (BinaryOf m a b p) = (0 < level m) × IsFormedExpression a × IsFormedExpression b

  -- each expression of a list is one that the grammar gives
  pub AreFormed : Expressions → Type 0
  AreFormed no_more = Unit {0}
  AreFormed (and_more e es) = IsFormedExpression e × AreFormed es

-- no expression, or one that the grammar gives
abbrev pub IsFormedValue : Option Expression → Type 0
IsFormedValue None = Unit {0}
IsFormedValue (Some e) = IsFormedExpression e

-- whether a statement is an assignment, a call or a printing: what may also step a `for`
abbrev pub is_act : Statement → Bool
is_act (AssignOf t v p) = true
is_act (DoOf c p) = true
is_act (PrintOf l v p) = true
is_act _ = false

-- whether a statement may begin a `for`: the declaration of a local, or what may also step it
abbrev pub is_simple : Statement → Bool
is_simple (LocalOf f t n v p) = true
is_simple s = is_act s

-- whether there is an arm at all
abbrev pub has_arm : Arms → Bool
has_arm no_arms = false
has_arm (and_arm e ss a) = true

abbrev mutual
  -- a statement that the grammar gives: targets, calls and the parts of a `for` are of the forms that it asks for
  pub IsFormedStmt : Statement → Type 0
  IsFormedStmt (LocalOf f t n v p) = IsFormedBase t.base × IsName n × IsFormedValue v
  IsFormedStmt (BlockOf ss p) = AreFormedStmts ss
  IsFormedStmt (AssignOf t v p) = (is_target t ≡ true) × IsFormedExpression t × IsFormedExpression v
  IsFormedStmt (DoOf c p) = (is_call c ≡ true) × IsFormedExpression c
  IsFormedStmt (PrintOf l v p) = ((l || is_some v) ≡ true) × IsFormedValue v
  IsFormedStmt (IfOf a l p) = (has_arm a ≡ true) × AreFormedArms a × IsFormedElse l
  IsFormedStmt (WhileOf e ss p) = IsFormedExpression e × AreFormedStmts ss
  IsFormedStmt (ForOf f v g ss p) = IsFormedFirst f × IsFormedValue v × IsFormedStep g × AreFormedStmts ss
  IsFormedStmt (ReturnOf v p) = IsFormedValue v
  IsFormedStmt (BreakOf p) = Unit {0}
  IsFormedStmt (ContinueOf p) = Unit {0}

  -- each statement of a list is one that the grammar gives
  pub AreFormedStmts : Statements → Type 0
  AreFormedStmts no_statements = Unit {0}
  AreFormedStmts (and_then s ss) = IsFormedStmt s × AreFormedStmts ss

  -- the test and the body of each arm are such as the grammar gives
  pub AreFormedArms : Arms → Type 0
  AreFormedArms no_arms = Unit {0}
  AreFormedArms (and_arm e ss a) = IsFormedExpression e × AreFormedStmts ss × AreFormedArms a

  -- no `else`, or one whose body the grammar gives
  pub IsFormedElse : Else → Type 0
  IsFormedElse no_else = Unit {0}
  IsFormedElse (otherwise ss) = AreFormedStmts ss

  -- how a `for` begins: with nothing, or a simple statement that the grammar gives
  pub IsFormedFirst : OptionalStatement → Type 0
  IsFormedFirst absent = Unit {0}
  IsFormedFirst (present s) = (is_simple s ≡ true) × IsFormedStmt s

  -- how a `for` steps: with nothing, or an act that the grammar gives
  pub IsFormedStep : OptionalStatement → Type 0
  IsFormedStep absent = Unit {0}
  IsFormedStep (present s) = (is_act s ≡ true) × IsFormedStmt s

-- each of them
abbrev pub Each : {A : Type 0} → (A → Type 0) → List A → Type 0
Each P [] = Unit {0}
Each P (x ∷ xs) = P x × Each P xs

-- a modifier: its keyword is one that the grammar takes as a modifier
abbrev pub IsFormedMod : Modifier → Type 0
IsFormedMod m = is_modifier m.word ≡ true

-- a name that refers to a class or an interface is one that tokens have
abbrev pub IsFormedId : Id → Type 0
IsFormedId i = IsName i.name

-- a parameter whose type and name the grammar gives
abbrev pub IsFormedParam : Param → Type 0
IsFormedParam q = IsFormedBase q.ty.base × IsName q.name

-- what a method gives: nothing, or a type that the grammar gives
abbrev pub IsFormedResult : Option TypeName → Type 0
IsFormedResult None = Unit {0}
IsFormedResult (Some t) = IsFormedBase t.base

-- a method up to its body whose modifiers, result, name and parameters the grammar gives
abbrev pub IsFormedHead : HeadTree → Type 0
IsFormedHead h = Each IsFormedMod h.mods × IsFormedResult h.type × IsName h.name × Each IsFormedParam h.params

-- no body, or one whose statements the grammar gives
abbrev pub IsFormedBody : Option Statements → Type 0
IsFormedBody None = Unit {0}
IsFormedBody (Some ss) = AreFormedStmts ss

-- no `super(..)`, or one whose arguments the grammar gives
abbrev pub IsFormedUp : Option Expressions → Type 0
IsFormedUp None = Unit {0}
IsFormedUp (Some es) = AreFormed es

-- a field, a method or a constructor whose parts the grammar gives
abbrev pub IsFormedMember : MemberTree → Type 0
IsFormedMember (FieldTree ms t n p) = Each IsFormedMod ms × IsFormedBase t.base × IsName n
IsFormedMember (MethodTree h b p) = IsFormedHead h × IsFormedBody b
IsFormedMember (MakerTree ms n qs u ss p) = Each IsFormedMod ms × IsName n × Each IsFormedParam qs × IsFormedUp u × AreFormedStmts ss

-- no class that is extended, or one whose name tokens have
abbrev pub IsFormedParent : Option Id → Type 0
IsFormedParent None = Unit {0}
IsFormedParent (Some i) = IsName i.name

-- a class or an interface whose parts the grammar gives
abbrev pub IsFormedDecl : DeclTree → Type 0
IsFormedDecl (ClassTree ms n c fs bs p) = Each IsFormedMod ms × IsName n × IsFormedParent c × Each IsFormedId fs × Each IsFormedMember bs
IsFormedDecl (InterfaceTree ms n fs hs p) = Each IsFormedMod ms × IsName n × Each IsFormedId fs × Each IsFormedHead hs

-- a program whose parts are such as the grammar gives
abbrev pub IsFormedTree : List DeclTree → Type 0
IsFormedTree ds = Each IsFormedDecl ds
