-- Believed. Trees without their places.
use Rattle.std.specs.Prelude.{ℕ, List, [], ◌∷◌, Option, Some, None}
use Rattle.kaba_base.specs.declared.Place.{Place}
use Rattle.java_tree.specs.declared.Id.{Id}
use Rattle.java_tree.specs.declared.Modifier.{Modifier}
use Rattle.java_tree.specs.declared.TypeName.{TypeName}
use Rattle.java_tree.specs.declared.Param.{Param}
use Rattle.java_tree.specs.Syntax.{Expression, IntLit, CharLit, StrLit, BoolLit, NullLit, ThisRef, NameRef, FieldOf, IndexOf, CallOf, CallOn, SuperCallOf, NewOf, NewArrayOf, CastOf, InstanceOfClass, UnaryOf, BinaryOf, Expressions, no_more, and_more, Statement, LocalOf, BlockOf, AssignOf, DoOf, PrintOf, IfOf, WhileOf, ForOf, ReturnOf, BreakOf, ContinueOf, Statements, no_statements, and_then, Arms, no_arms, and_arm, Else, no_else, otherwise, OptionalStatement, absent, present, HeadTree, MemberTree, FieldTree, MethodTree, MakerTree, DeclTree, ClassTree, InterfaceTree}

-- the place that every part of a tree without places has
abbrev pub nowhere : Place
nowhere = record { at = 0; line = 0 }

-- a name of a tree without places
abbrev pub id_nowhere : List ℕ → Id
id_nowhere n = record { name = n; place = nowhere }

-- a name without its place
abbrev pub id_unplaced : Id → Id
id_unplaced i = id_nowhere i.name

-- a modifier without its place
abbrev pub modifier_unplaced : Modifier → Modifier
modifier_unplaced m = record { word = m.word; place = nowhere }

-- a type without its place
abbrev pub type_unplaced : TypeName → TypeName
type_unplaced t = record { base = t.base; dim = t.dim; place = nowhere }

-- a parameter without its place and its type's
abbrev pub param_unplaced : Param → Param
param_unplaced q = record { is_final = q.is_final; ty = type_unplaced q.ty; name = q.name; place = nowhere }

abbrev mutual
  -- an expression without its place and those of its parts
  pub expr_unplaced : Expression → Expression
  expr_unplaced (IntLit v p) = IntLit v nowhere
  expr_unplaced (CharLit c p) = CharLit c nowhere
  expr_unplaced (StrLit u p) = StrLit u nowhere
  expr_unplaced (BoolLit b p) = BoolLit b nowhere
  expr_unplaced (NullLit p) = NullLit nowhere
  expr_unplaced (ThisRef p) = ThisRef nowhere
  expr_unplaced (NameRef n p) = NameRef n nowhere
  expr_unplaced (FieldOf e n p) = FieldOf (expr_unplaced e) n nowhere
  expr_unplaced (IndexOf e i p) = IndexOf (expr_unplaced e) (expr_unplaced i) nowhere
  expr_unplaced (CallOf n es p) = CallOf n (exprs_unplaced es) nowhere
  expr_unplaced (CallOn e n es p) = CallOn (expr_unplaced e) n (exprs_unplaced es) nowhere
  expr_unplaced (SuperCallOf n es p) = SuperCallOf n (exprs_unplaced es) nowhere
  expr_unplaced (NewOf c es p) = NewOf (id_unplaced c) (exprs_unplaced es) nowhere
  expr_unplaced (NewArrayOf t e p) = NewArrayOf (type_unplaced t) (expr_unplaced e) nowhere
  expr_unplaced (CastOf t e p) = CastOf (type_unplaced t) (expr_unplaced e) nowhere
  expr_unplaced (InstanceOfClass e c p) = InstanceOfClass (expr_unplaced e) (id_unplaced c) nowhere
  expr_unplaced (UnaryOf m e p) = UnaryOf m (expr_unplaced e) nowhere
  expr_unplaced (BinaryOf m a b p) = BinaryOf m (expr_unplaced a) (expr_unplaced b) nowhere

  -- the expressions of a list without their places
  pub exprs_unplaced : Expressions → Expressions
  exprs_unplaced no_more = no_more
  exprs_unplaced (and_more e es) = and_more (expr_unplaced e) (exprs_unplaced es)

-- an optional expression without its places
abbrev pub value_unplaced : Option Expression → Option Expression
value_unplaced None = None
value_unplaced (Some e) = Some (expr_unplaced e)

abbrev mutual
  -- a statement without its place and those of its parts
  pub stmt_unplaced : Statement → Statement
  stmt_unplaced (LocalOf f t n v p) = LocalOf f (type_unplaced t) n (value_unplaced v) nowhere
  stmt_unplaced (BlockOf ss p) = BlockOf (stmts_unplaced ss) nowhere
  stmt_unplaced (AssignOf t v p) = AssignOf (expr_unplaced t) (expr_unplaced v) nowhere
  stmt_unplaced (DoOf c p) = DoOf (expr_unplaced c) nowhere
  stmt_unplaced (PrintOf l v p) = PrintOf l (value_unplaced v) nowhere
  stmt_unplaced (IfOf a o p) = IfOf (arms_unplaced a) (else_unplaced o) nowhere
  stmt_unplaced (WhileOf t ss p) = WhileOf (expr_unplaced t) (stmts_unplaced ss) nowhere
  stmt_unplaced (ForOf f t g ss p) = ForOf (step_unplaced f) (value_unplaced t) (step_unplaced g) (stmts_unplaced ss) nowhere
  stmt_unplaced (ReturnOf v p) = ReturnOf (value_unplaced v) nowhere
  stmt_unplaced (BreakOf p) = BreakOf nowhere
  stmt_unplaced (ContinueOf p) = ContinueOf nowhere

  -- the statements of a list without their places
  pub stmts_unplaced : Statements → Statements
  stmts_unplaced no_statements = no_statements
  stmts_unplaced (and_then s ss) = and_then (stmt_unplaced s) (stmts_unplaced ss)

  -- the tests and bodies of arms without their places
  pub arms_unplaced : Arms → Arms
  arms_unplaced no_arms = no_arms
  arms_unplaced (and_arm t ss a) = and_arm (expr_unplaced t) (stmts_unplaced ss) (arms_unplaced a)

  -- an optional `else` without the places in its body
  pub else_unplaced : Else → Else
  else_unplaced no_else = no_else
  else_unplaced (otherwise ss) = otherwise (stmts_unplaced ss)

  -- an optional statement without its places
  pub step_unplaced : OptionalStatement → OptionalStatement
  step_unplaced absent = absent
  step_unplaced (present s) = present (stmt_unplaced s)

-- each item without its place
abbrev pub all_unplaced : {A : Type 0} → (A → A) → List A → List A
all_unplaced f [] = []
all_unplaced f (x ∷ xs) = f x ∷ all_unplaced f xs

-- the item without its place, where there is one
abbrev pub may_unplaced : {A : Type 0} → (A → A) → Option A → Option A
may_unplaced f None = None
may_unplaced f (Some x) = Some (f x)

-- a method up to its body without its place and those of its parts
abbrev pub head_unplaced : HeadTree → HeadTree
head_unplaced h = record {
  mods = all_unplaced modifier_unplaced h.mods;
  type = may_unplaced type_unplaced h.type;
  name = h.name;
  params =
      all_unplaced param_unplaced h.params;
  place = nowhere;
}

-- a field, a method or a constructor without its place and those of its parts
abbrev pub member_unplaced : MemberTree → MemberTree
member_unplaced (FieldTree m t n p) = FieldTree (all_unplaced modifier_unplaced m) (type_unplaced t) n nowhere
member_unplaced (MethodTree h b p) = MethodTree (head_unplaced h) (may_unplaced stmts_unplaced b) nowhere
member_unplaced (MakerTree m n qs u ss p) = MakerTree (all_unplaced modifier_unplaced m) n (all_unplaced param_unplaced qs)
    (may_unplaced exprs_unplaced u) (stmts_unplaced ss) nowhere

-- a class or an interface without its place and those of its parts
abbrev pub decl_unplaced : DeclTree → DeclTree
decl_unplaced (ClassTree m n c f ms p) = ClassTree (all_unplaced modifier_unplaced m) n (may_unplaced id_unplaced c) (all_unplaced id_unplaced f)
    (all_unplaced member_unplaced ms) nowhere
decl_unplaced (InterfaceTree m n f hs p) = InterfaceTree (all_unplaced modifier_unplaced m) n (all_unplaced id_unplaced f)
    (all_unplaced head_unplaced hs) nowhere

-- a program without its places
abbrev pub unplaced : List DeclTree → List DeclTree
unplaced ds = all_unplaced decl_unplaced ds
