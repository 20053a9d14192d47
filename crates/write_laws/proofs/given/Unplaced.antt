-- Places do not matter to what parts the grammar gives a tree.
use Rattle.std.proofs.Common.{◌≡◌, ◌||◌, Bool, List, [], ◌∷◌, Option, Some, None, refl, is_some}
use Rattle.java_tree.specs.declared.Id.{Id}
use Rattle.java_tree.specs.declared.Modifier.{Modifier}
use Rattle.java_tree.specs.declared.TypeName.{TypeName}
use Rattle.java_tree.specs.Syntax.{Expression, NameRef, FieldOf, IndexOf, CallOf, CallOn, SuperCallOf, NewOf, NewArrayOf, CastOf, InstanceOfClass, UnaryOf, BinaryOf, Expressions, no_more, and_more, Statement, LocalOf, BlockOf, AssignOf, DoOf, PrintOf, IfOf, WhileOf, ForOf, ReturnOf, BreakOf, Statements, no_statements, and_then, Arms, no_arms, and_arm, Else, no_else, otherwise, OptionalStatement, absent, present, HeadTree, MemberTree, FieldTree, MethodTree, MakerTree, DeclTree, ClassTree, InterfaceTree}
use Rattle.java_tree.specs.Places.{expr_unplaced, exprs_unplaced, value_unplaced, stmt_unplaced, stmts_unplaced, arms_unplaced, else_unplaced, step_unplaced, all_unplaced, may_unplaced, id_unplaced, modifier_unplaced, type_unplaced, param_unplaced, head_unplaced, member_unplaced, decl_unplaced, unplaced}
use Rattle.java_tree.specs.Formed.{is_target, is_call, IsFormedExpression, AreFormed, IsFormedValue, is_act, is_simple, has_arm, IsFormedStmt, AreFormedStmts, AreFormedArms, IsFormedElse, IsFormedFirst, IsFormedStep, Each, IsFormedMod, IsFormedId, IsFormedParam, IsFormedResult, IsFormedHead, IsFormedBody, IsFormedUp, IsFormedMember, IsFormedParent, IsFormedDecl, IsFormedTree}

mutual
  expr : (e : Expression) → IsFormedExpression (expr_unplaced e) ≡ IsFormedExpression e
  expr (FieldOf e n p) = rw (expr e) refl
  expr (IndexOf e i p) = rw (expr e, expr i) refl
  expr (CallOf n es p) = rw (exprs es) refl
  expr (CallOn e n es p) = rw (expr e, exprs es) refl
  expr (SuperCallOf n es p) = rw (exprs es) refl
  expr (NewOf c es p) = rw (exprs es) refl
  expr (NewArrayOf t e p) = rw (expr e) refl
  expr (CastOf t e p) = rw (expr e) refl
  expr (InstanceOfClass e c p) = rw (expr e) refl
  expr (UnaryOf m e p) = rw (expr e) refl
  expr (BinaryOf m a b p) = rw (expr a, expr b) refl
  expr _ = refl

  exprs : (es : Expressions) → AreFormed (exprs_unplaced es) ≡ AreFormed es
  exprs no_more = refl
  exprs (and_more e es) = rw (expr e, exprs es) refl

value : (v : Option Expression) → IsFormedValue (value_unplaced v) ≡ IsFormedValue v
value None = refl
value (Some e) = expr e

-- what a statement or an expression is does not depend on places
target : (e : Expression) → is_target (expr_unplaced e) ≡ is_target e
target (NameRef n p) = refl
target _ = refl

call : (e : Expression) → is_call (expr_unplaced e) ≡ is_call e
call (CallOf n es p) = refl
call _ = refl

act : (s : Statement) → is_act (stmt_unplaced s) ≡ is_act s
act (BreakOf p) = refl
act _ = refl

simple : (s : Statement) → is_simple (stmt_unplaced s) ≡ is_simple s
simple (BreakOf p) = refl
simple _ = refl

arm : (a : Arms) → has_arm (arms_unplaced a) ≡ has_arm a
arm no_arms = refl
arm (and_arm e ss a) = refl

printed : (l : Bool) (v : Option Expression) → (l || is_some (value_unplaced v)) ≡ (l || is_some v)
printed l None = refl
printed l (Some e) = refl

mutual
  stmt : (s : Statement) → IsFormedStmt (stmt_unplaced s) ≡ IsFormedStmt s
  stmt (LocalOf f t n v p) = rw (value v) refl
  stmt (BlockOf ss p) = stmts ss
  stmt (AssignOf t v p) = rw (target t, expr t, expr v) refl
  stmt (DoOf c p) = rw (call c, expr c) refl
  stmt (PrintOf l v p) = rw (printed l v, value v) refl
  stmt (IfOf a l p) = rw (arm a, arms a, else l) refl
  stmt (WhileOf e ss p) = rw (expr e, stmts ss) refl
  stmt (ForOf f v g ss p) = rw (first f, value v, step g, stmts ss) refl
  stmt (ReturnOf v p) = value v
  stmt _ = refl

  stmts : (ss : Statements) → AreFormedStmts (stmts_unplaced ss) ≡ AreFormedStmts ss
  stmts no_statements = refl
  stmts (and_then s ss) = rw (stmt s, stmts ss) refl

  arms : (a : Arms) → AreFormedArms (arms_unplaced a) ≡ AreFormedArms a
  arms no_arms = refl
  arms (and_arm e ss a) = rw (expr e, stmts ss, arms a) refl

  else : (l : Else) → IsFormedElse (else_unplaced l) ≡ IsFormedElse l
  else no_else = refl
  else (otherwise ss) = stmts ss

  first : (f : OptionalStatement) → IsFormedFirst (step_unplaced f) ≡ IsFormedFirst f
  first absent = refl
  first (present s) = rw (simple s, stmt s) refl

  step : (f : OptionalStatement) → IsFormedStep (step_unplaced f) ≡ IsFormedStep f
  step absent = refl
  step (present s) = rw (act s, stmt s) refl

-- each item of a list, where the same is asked of a part with its place and without it
each : {A : Type 0} (P : A → Type 0) (f : A → A) → ((x : A) → P (f x) ≡ P x) → (xs : List A) → Each P (all_unplaced f xs) ≡ Each P xs
each P f k [] = refl
each P f k (x ∷ xs) = rw (k x, each P f k xs) refl

mods : (ms : List Modifier) → Each IsFormedMod (all_unplaced modifier_unplaced ms) ≡ Each IsFormedMod ms
mods ms = each IsFormedMod modifier_unplaced (λ m. refl) ms

body : (b : Option Statements) → IsFormedBody (may_unplaced stmts_unplaced b) ≡ IsFormedBody b
body None = refl
body (Some ss) = stmts ss

result : (t : Option TypeName) → IsFormedResult (may_unplaced type_unplaced t) ≡ IsFormedResult t
result None = refl
result (Some t) = refl

head : (d : HeadTree) → IsFormedHead (head_unplaced d) ≡ IsFormedHead d
head d = rw (mods d.mods, result d.type, each IsFormedParam param_unplaced (λ q. refl) d.params) refl

up : (u : Option Expressions) → IsFormedUp (may_unplaced exprs_unplaced u) ≡ IsFormedUp u
up None = refl
up (Some es) = exprs es

member : (m : MemberTree) → IsFormedMember (member_unplaced m) ≡ IsFormedMember m
member (FieldTree ms t n p) = rw (mods ms) refl
member (MethodTree d b p) = rw (head d, body b) refl
member (MakerTree ms n qs u ss p) = rw (mods ms, each IsFormedParam param_unplaced (λ q. refl) qs, up u, stmts ss) refl

parent : (c : Option Id) → IsFormedParent (may_unplaced id_unplaced c) ≡ IsFormedParent c
parent None = refl
parent (Some i) = refl

faces : (fs : List Id) → Each IsFormedId (all_unplaced id_unplaced fs) ≡ Each IsFormedId fs
faces fs = each IsFormedId id_unplaced (λ i. refl) fs

decl : (d : DeclTree) → IsFormedDecl (decl_unplaced d) ≡ IsFormedDecl d
decl (ClassTree ms n c fs bs p) = rw (mods ms, parent c, faces fs, each IsFormedMember member_unplaced member bs) refl
decl (InterfaceTree ms n fs hs p) = rw (mods ms, faces fs, each IsFormedHead head_unplaced head hs) refl

-- the same is asked of a tree with its places and without them
pub places_aside : (ds : List DeclTree) → IsFormedTree (unplaced ds) ≡ IsFormedTree ds
places_aside ds = each IsFormedDecl decl_unplaced decl ds
