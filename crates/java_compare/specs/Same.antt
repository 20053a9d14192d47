-- Mirror. Whether two trees are equal, places aside.
use Rattle.std.specs.Prelude.{◌&&◌, ◌==◌, List, [], ◌∷◌, Option, Some, None, Bool, true, false}
use Rattle.std.specs.Ordering.{int_eq}
use Rattle.std.specs.Bool.{beq}
use Rattle.std.specs.Str.{bytes_eq}
use denote.Enum.Bare.{sameb}
use Rattle.kaba_base.specs.contracts.words.Keyword.{the_type as key_type}
use Rattle.java_lex.specs.contracts.Mark.{the_type as mark_type}
use Rattle.java_tree.specs.declared.Id.{Id}
use Rattle.java_tree.specs.declared.Modifier.{Modifier}
use Rattle.java_tree.specs.declared.TypeBase.{TypeBase}
use Rattle.java_tree.specs.declared.TypeBase.TheVariants as bases
use Rattle.java_tree.specs.declared.TypeName.{TypeName}
use Rattle.java_tree.specs.declared.Param.{Param}
use Rattle.java_tree.specs.declared.Arm.{Arm}
use Rattle.java_tree.specs.Syntax.{expr_of, stmts, Expression, IntLit, CharLit, StrLit, BoolLit, NullLit, ThisRef, NameRef, FieldOf, IndexOf, CallOf, CallOn, SuperCallOf, NewOf, NewArrayOf, CastOf, InstanceOfClass, UnaryOf, BinaryOf, Expressions, no_more, and_more, Statement, LocalOf, BlockOf, AssignOf, DoOf, PrintOf, IfOf, WhileOf, ForOf, ReturnOf, BreakOf, ContinueOf, Statements, no_statements, and_then, Arms, no_arms, and_arm, Else, no_else, otherwise, OptionalStatement, absent, present, HeadTree, MemberTree, FieldTree, MethodTree, MakerTree, DeclTree, ClassTree, InterfaceTree}

-- two references by the same name
abbrev pub same_id : Id → Id → Bool
same_id a b = bytes_eq a.name b.name

-- two modifiers of the same keyword
abbrev pub same_modifier : Modifier → Modifier → Bool
same_modifier a b = sameb key_type a.word b.word

-- two types without brackets that are one type
abbrev pub same_base : TypeBase → TypeBase → Bool
same_base bases.Int bases.Int = true
same_base bases.Boolean bases.Boolean = true
same_base bases.Char bases.Char = true
same_base (bases.Named n) (bases.Named m) = bytes_eq n m
same_base _ _ = false

-- two types with the same base and as many pairs of brackets
abbrev pub same_type : TypeName → TypeName → Bool
same_type a b = same_base a.base b.base && (a.dim == b.dim)

-- two parameters of the same name and type, both final or neither
abbrev pub same_param : Param → Param → Bool
same_param a b = beq a.is_final b.is_final && same_type a.ty b.ty && bytes_eq a.name b.name

abbrev mutual
  -- two expressions of the same form with equal parts
  pub same_expr : Expression → Expression → Bool
  same_expr (IntLit v p) (IntLit w q) = int_eq v w
  same_expr (CharLit c p) (CharLit d q) = c == d
  same_expr (StrLit u p) (StrLit v q) = bytes_eq u v
  same_expr (BoolLit b p) (BoolLit c q) = beq b c
  same_expr (NullLit p) (NullLit q) = true
  same_expr (ThisRef p) (ThisRef q) = true
  same_expr (NameRef n p) (NameRef m q) = bytes_eq n m
  same_expr (FieldOf e n p) (FieldOf f m q) = bytes_eq n m && same_expr e f
  same_expr (IndexOf e i p) (IndexOf f j q) = same_expr e f && same_expr i j
  same_expr (CallOf n es p) (CallOf m fs q) = bytes_eq n m && same_exprs es fs
  same_expr (CallOn e n es p) (CallOn f m fs q) = bytes_eq n m && same_expr e f && same_exprs es fs
  same_expr (SuperCallOf n es p) (SuperCallOf m fs q) = bytes_eq n m && same_exprs es fs
  same_expr (NewOf c es p) (NewOf d fs q) = same_id c d && same_exprs es fs
  same_expr (NewArrayOf t e p) (NewArrayOf u f q) = same_type t u && same_expr e f
  same_expr (CastOf t e p) (CastOf u f q) = same_type t u && same_expr e f
  same_expr (InstanceOfClass e c p) (InstanceOfClass f d q) = same_id c d && same_expr e f
  same_expr (UnaryOf m e p) (UnaryOf k f q) = sameb mark_type m k && same_expr e f
  same_expr (BinaryOf m a b p) (BinaryOf k c d q) = sameb mark_type m k && same_expr a c && same_expr b d
  same_expr _ _ = false

  -- two lists of expressions, equal one after another
  pub same_exprs : Expressions → Expressions → Bool
  same_exprs no_more no_more = true
  same_exprs (and_more e es) (and_more f fs) = same_expr e f && same_exprs es fs
  same_exprs _ _ = false

-- two equal expressions, or none on both sides
abbrev pub same_value : Option Expression → Option Expression → Bool
same_value None None = true
same_value (Some e) (Some f) = same_expr e f
same_value _ _ = false

abbrev mutual
  -- two statements of the same form with equal parts
  pub same_stmt : Statement → Statement → Bool
  same_stmt (LocalOf f t n v p) (LocalOf g u m w q) = beq f g && same_type t u && bytes_eq n m && same_value v w
  same_stmt (BlockOf ss p) (BlockOf rs q) = same_stmts ss rs
  same_stmt (AssignOf t v p) (AssignOf u w q) = same_expr t u && same_expr v w
  same_stmt (DoOf c p) (DoOf d q) = same_expr c d
  same_stmt (PrintOf l v p) (PrintOf m w q) = beq l m && same_value v w
  same_stmt (IfOf a o p) (IfOf b r q) = same_arms a b && same_else o r
  same_stmt (WhileOf t ss p) (WhileOf u rs q) = same_expr t u && same_stmts ss rs
  same_stmt (ForOf f t g ss p) (ForOf h u k rs q) = same_step f h && same_value t u && same_step g k && same_stmts ss rs
  same_stmt (ReturnOf v p) (ReturnOf w q) = same_value v w
  same_stmt (BreakOf p) (BreakOf q) = true
  same_stmt (ContinueOf p) (ContinueOf q) = true
  same_stmt _ _ = false

  -- two lists of statements, equal one after another
  pub same_stmts : Statements → Statements → Bool
  same_stmts no_statements no_statements = true
  same_stmts (and_then s ss) (and_then r rs) = same_stmt s r && same_stmts ss rs
  same_stmts _ _ = false

  -- as many arms on both sides, with equal tests and bodies one after another
  pub same_arms : Arms → Arms → Bool
  same_arms no_arms no_arms = true
  same_arms (and_arm t ss a) (and_arm u rs b) = same_expr t u && same_stmts ss rs && same_arms a b
  same_arms _ _ = false

  -- two equal bodies of an `else`, or none on both sides
  pub same_else : Else → Else → Bool
  same_else no_else no_else = true
  same_else (otherwise ss) (otherwise rs) = same_stmts ss rs
  same_else _ _ = false

  -- two equal statements, or none on both sides
  pub same_step : OptionalStatement → OptionalStatement → Bool
  same_step absent absent = true
  same_step (present s) (present r) = same_stmt s r
  same_step _ _ = false

-- the tests and the bodies of two arms are equal
abbrev pub same_arm : Arm → Arm → Bool
same_arm a b = same_expr (expr_of a.test) (expr_of b.test) && same_stmts (stmts a.body.items) (stmts b.body.items)

-- two lists with equal items, one after another
abbrev pub all_same : {A : Type 0} → (A → A → Bool) → List A → List A → Bool
all_same f [] [] = true
all_same f (x ∷ xs) (y ∷ ys) = f x y && all_same f xs ys
all_same f _ _ = false

-- two equal items, or none on both sides
abbrev pub may_same : {A : Type 0} → (A → A → Bool) → Option A → Option A → Bool
may_same f None None = true
may_same f (Some x) (Some y) = f x y
may_same f _ _ = false

-- two methods up to their bodies with equal modifiers, results, names and parameters
abbrev pub same_head : HeadTree → HeadTree → Bool
same_head a b = all_same same_modifier a.mods b.mods && may_same same_type a.type b.type && bytes_eq a.name b.name && all_same same_param a.params b.params

-- two fields, two methods, or two constructors, with equal parts
abbrev pub same_member : MemberTree → MemberTree → Bool
same_member (FieldTree m t n p) (FieldTree k u l q) = all_same same_modifier m k && same_type t u && bytes_eq n l
same_member (MethodTree h b p) (MethodTree g c q) = same_head h g && may_same same_stmts b c
same_member (MakerTree m n qs u ss p) (MakerTree k l rs v ts q) = all_same same_modifier m k && bytes_eq n l && all_same same_param qs rs && may_same same_exprs u
    v && same_stmts ss ts
same_member _ _ = false

-- two classes, or two interfaces, with equal parts
abbrev pub same_decl : DeclTree → DeclTree → Bool
same_decl (ClassTree m n c f ms p) (ClassTree k l d g rs q) = all_same same_modifier m k && bytes_eq n l && may_same same_id c d && all_same same_id f
    g && all_same same_member ms rs
same_decl (InterfaceTree m n f hs p) (InterfaceTree k l g js q) = all_same same_modifier m k && bytes_eq n l && all_same same_id f g && all_same same_head hs js
same_decl _ _ = false

-- two programs with equal classes and interfaces in the same order
abbrev pub same_tree : List DeclTree → List DeclTree → Bool
same_tree a b = all_same same_decl a b
