-- Mirror. How many declarations, members, statements and expressions a tree has.
use Rattle.std.specs.Prelude.{ℕ, ◌+◌, List, [], ◌∷◌, Option, Some, None}
use Rattle.java_tree.specs.Syntax.{Expression, IntLit, CharLit, StrLit, BoolLit, NullLit, ThisRef, NameRef, FieldOf, IndexOf, CallOf, CallOn, SuperCallOf, NewOf, NewArrayOf, CastOf, InstanceOfClass, UnaryOf, BinaryOf, Expressions, no_more, and_more, Statement, LocalOf, BlockOf, AssignOf, DoOf, PrintOf, IfOf, WhileOf, ForOf, ReturnOf, BreakOf, ContinueOf, Statements, no_statements, and_then, Arms, no_arms, and_arm, Else, no_else, otherwise, OptionalStatement, absent, present, HeadTree, MemberTree, FieldTree, MethodTree, MakerTree, DeclTree, ClassTree, InterfaceTree}

abbrev mutual
  -- how many expressions an expression has, itself among them
  pub expr_size : Expression → ℕ
  expr_size (IntLit v p) = 1
  expr_size (CharLit c p) = 1
  expr_size (StrLit u p) = 1
  expr_size (BoolLit b p) = 1
  expr_size (NullLit p) = 1
  expr_size (ThisRef p) = 1
  expr_size (NameRef n p) = 1
  expr_size (FieldOf e n p) = expr_size e + 1
  expr_size (IndexOf e i p) = expr_size e + expr_size i + 1
  expr_size (CallOf n es p) = exprs_size es + 1
  expr_size (CallOn e n es p) = expr_size e + exprs_size es + 1
  expr_size (SuperCallOf n es p) = exprs_size es + 1
  expr_size (NewOf c es p) = exprs_size es + 1
  expr_size (NewArrayOf t e p) = expr_size e + 1
  expr_size (CastOf t e p) = expr_size e + 1
  expr_size (InstanceOfClass e c p) = expr_size e + 1
  expr_size (UnaryOf m e p) = expr_size e + 1
  expr_size (BinaryOf m a b p) = expr_size a + expr_size b + 1

  -- how many expressions a list of them has, those inside its own among them
  pub exprs_size : Expressions → ℕ
  exprs_size no_more = 0
  exprs_size (and_more e es) = expr_size e + exprs_size es

-- how many expressions an optional expression has, none where it is absent
abbrev pub value_size : Option Expression → ℕ
value_size None = 0
value_size (Some e) = expr_size e

abbrev mutual
  -- how many statements and expressions a statement has, itself among them
  pub stmt_size : Statement → ℕ
  stmt_size (LocalOf f t n v p) = value_size v + 1
  stmt_size (BlockOf ss p) = stmts_size ss + 1
  stmt_size (AssignOf t v p) = expr_size t + expr_size v + 1
  stmt_size (DoOf c p) = expr_size c + 1
  stmt_size (PrintOf l v p) = value_size v + 1
  stmt_size (IfOf a o p) = arms_size a + else_size o + 1
  stmt_size (WhileOf t ss p) = expr_size t + stmts_size ss + 1
  stmt_size (ForOf f t g ss p) = step_size f + value_size t + step_size g + stmts_size ss + 1
  stmt_size (ReturnOf v p) = value_size v + 1
  stmt_size (BreakOf p) = 1
  stmt_size (ContinueOf p) = 1

  -- how many statements and expressions a list of statements has
  pub stmts_size : Statements → ℕ
  stmts_size no_statements = 0
  stmts_size (and_then s ss) = stmt_size s + stmts_size ss

  -- how many statements and expressions arms have, in their tests and bodies
  pub arms_size : Arms → ℕ
  arms_size no_arms = 0
  arms_size (and_arm t ss a) = expr_size t + stmts_size ss + arms_size a

  -- how many statements and expressions an optional `else` has, in its body
  pub else_size : Else → ℕ
  else_size no_else = 0
  else_size (otherwise ss) = stmts_size ss

  -- how many statements and expressions an optional statement has, none where it is absent
  pub step_size : OptionalStatement → ℕ
  step_size absent = 0
  step_size (present s) = stmt_size s

-- how many expressions the arguments of a `super(..)` have, none where it is absent
abbrev pub up_size : Option Expressions → ℕ
up_size None = 0
up_size (Some es) = exprs_size es

-- the size of a member: one for itself, and the statements and expressions of its body, those of a `super(..)` among them
abbrev pub member_size : MemberTree → ℕ
member_size (FieldTree m t n p) = 1
member_size (MethodTree h None p) = 1
member_size (MethodTree h (Some ss) p) = stmts_size ss + 1
member_size (MakerTree m n qs u ss p) = up_size u + stmts_size ss + 1

-- the sizes of all members of a list together
abbrev pub members_size : List MemberTree → ℕ
members_size [] = 0
members_size (m ∷ ms) = member_size m + members_size ms

-- each head of an interface is one member
abbrev pub heads_size : List HeadTree → ℕ
heads_size [] = 0
heads_size (h ∷ hs) = 1 + heads_size hs

-- the size of a class or an interface: one for itself, and its members' sizes
abbrev pub decl_size : DeclTree → ℕ
decl_size (ClassTree m n c f ms p) = members_size ms + 1
decl_size (InterfaceTree m n f hs p) = heads_size hs + 1

-- the size of a program: the sizes of all its classes and interfaces together
abbrev pub tree_size : List DeclTree → ℕ
tree_size [] = 0
tree_size (d ∷ ds) = decl_size d + tree_size ds
