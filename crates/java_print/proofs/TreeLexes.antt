-- The text of statements and declarations is read as their kinds.
use Rattle.std.proofs.Common.{ℕ, ◌+◌, Bool, true, false, List, [], ◌∷◌, Option, Some, None, refl}
use Rattle.std.proofs.lemmas.Bool.{cond_both}
use Rattle.unicode_ident.proofs.Computing.{unicode_ident}
use Rattle.kaba_base.specs.declared.Keyword.{Keyword}
use Rattle.kaba_base.specs.declared.Keyword.TheVariants as keys
use Rattle.java_lex.specs.declared.Mark.TheVariants as marks
use Rattle.java_lex.proofs.Spelled as tokens
use Rattle.java_tree.specs.declared.Id.{Id}
use Rattle.java_tree.specs.declared.Modifier.{Modifier}
use Rattle.java_tree.specs.declared.TypeName.{TypeName}
use Rattle.java_tree.specs.declared.Param.{Param}
use Rattle.java_tree.specs.Syntax.{Expression, CallOn, Expressions, Statement, LocalOf, BlockOf, AssignOf, DoOf, PrintOf, IfOf, WhileOf, ForOf, ReturnOf, BreakOf, ContinueOf, Statements, no_statements, and_then, Arms, no_arms, and_arm, Else, no_else, otherwise, OptionalStatement, absent, present, HeadTree, MemberTree, FieldTree, MethodTree, MakerTree, DeclTree, ClassTree, InterfaceTree}
use Rattle.java_tree.specs.Places.{expr_unplaced, exprs_unplaced, value_unplaced, stmt_unplaced, stmts_unplaced, arms_unplaced, else_unplaced, step_unplaced, all_unplaced, may_unplaced, id_unplaced, modifier_unplaced, type_unplaced, param_unplaced, head_unplaced, member_unplaced, decl_unplaced, unplaced}
use Rattle.java_print.specs.Items.{Item}
use Rattle.java_print.specs.Layout.{expr_items, value_items, spaced_items, init_items, final_items, prints, bracketed_items, call_items, simple_items, first_items, step_items, else_then, open_body, close_body, stmt_items, stmts_items, arms_items, else_items, mods_items, result_items, params_items, head_items, body_items, up_items, member_items, members_items, heads_items, ids_items, parent_items, list_items, decl_items, decls_items}
use Rattle.java_tree.specs.Formed.{IsFormedExpression, IsFormedValue, IsFormedStmt, AreFormedStmts, AreFormedArms, IsFormedElse, IsFormedFirst, IsFormedStep, Each, IsFormedMod, IsFormedId, IsFormedParam, IsFormedResult, IsFormedHead, IsFormedBody, IsFormedUp, IsFormedMember, IsFormedParent, IsFormedDecl, IsFormedTree}
use Rattle.java_print.proofs.Lexes.{Lexes, Loose, word, key, closed, space, line, margin, spaced, system_out, print_names}
use Rattle.java_print.proofs.ExprLexes.{expr, args, a_type, commas}

value : (v : Option Expression) → IsFormedValue (value_unplaced v) → (r : List Item) → Loose r → Lexes r → Lexes (value_items v r)
value None w r a s = s
value (Some e) w r a s = (expr e w r a s).lexes

spaced_value : (v : Option Expression) → IsFormedValue (value_unplaced v) → (r : List Item) → Loose r → Lexes r → Lexes (spaced_items v r)
spaced_value None w r a s = s
spaced_value (Some e) w r a s = space (expr e w r a s).lexes

spaced_loose : (v : Option Expression) (r : List Item) → Loose r → Loose (spaced_items v r)
unfolding unicode_ident
spaced_loose None r a = a
spaced_loose (Some e) r a = refl

init : (v : Option Expression) → IsFormedValue (value_unplaced v) → (r : List Item) → Loose r → Lexes r → Lexes (init_items v r)
init None w r a s = s
init (Some e) w r a s = space (spaced marks.Assign (expr e w r a s).lexes)

init_loose : (v : Option Expression) (r : List Item) → Loose r → Loose (init_items v r)
unfolding unicode_ident
init_loose None r a = a
init_loose (Some e) r a = refl

final : (f : Bool) (r : List Item) → Lexes r → Lexes (final_items f r)
unfolding unicode_ident
final true r s = key keys.Final refl (space s)
final false r s = s

bracketed : (e : Expression) → IsFormedExpression (expr_unplaced e) → (r : List Item) → Loose r → Lexes r → Lexes (bracketed_items e r)
unfolding unicode_ident
bracketed (CallOn e n es p) w r a s =
    closed tokens.cOpenRound (word system_out.0 refl
    (closed tokens.cCloseRound (closed tokens.cDot
    (word system_out.1 refl (closed tokens.cDot (word w.1 refl (closed tokens.cOpenRound (args false es w.2 r s))))))))
bracketed e w r a s = (expr e w r a s).lexes

call : (e : Expression) → IsFormedExpression (expr_unplaced e) → (r : List Item) → Loose r → Lexes r → Lexes (call_items e r)
call e w r a s = cond_both (prints e) (bracketed_items e r) (expr_items e r) Lexes (λ h. bracketed e w r a s) (λ h. (expr e w r a s).lexes)

simple : (s : Statement) → IsFormedStmt (stmt_unplaced s) → (r : List Item) → Loose r → Lexes r → Lexes (simple_items s r)
unfolding unicode_ident
simple (LocalOf f t n v p) w r a s = final f _ (a_type t w.0 _ refl (space (word w.1 (init_loose v r a) (init v w.2 r a s))))
simple (AssignOf t v p) w r a s = (expr t w.1 _ refl (space (spaced marks.Assign (expr v w.2 r a s).lexes))).lexes
simple (DoOf c p) w r a s = call c w.1 r a s
simple (PrintOf l v p) w r a s =
    word system_out.0 refl (closed tokens.cDot
    (word system_out.1 refl (closed tokens.cDot
    (word (print_names l) refl (closed tokens.cOpenRound (value v w.1 _ refl (closed tokens.cCloseRound s)))))))
simple _ w r a s = s

first : (f : OptionalStatement) → IsFormedFirst (step_unplaced f) → (r : List Item) → Loose r → Lexes r → Lexes (first_items f r)
first absent w r a s = s
first (present x) w r a s = simple x w.1 r a s

step : (g : OptionalStatement) → IsFormedStep (step_unplaced g) → (r : List Item) → Loose r → Lexes r → Lexes (step_items g r)
step absent w r a s = s
step (present x) w r a s = space (simple x w.1 r a s)

else_word : (b : Bool) (r : List Item) → Lexes r → Lexes (else_then b r)
unfolding unicode_ident
else_word false r s = s
else_word true r s = space (key keys.Else refl (space s))

opened : {r : List Item} → Lexes r → Lexes (open_body r)
opened s = space (closed tokens.cOpenBrace (line s))

shut : {r : List Item} (d : ℕ) → Lexes r → Lexes (close_body d r)
shut d s = margin d (closed tokens.cCloseBrace s)

mutual
  unfolding unicode_ident

  stmt : (s : Statement) → IsFormedStmt (stmt_unplaced s) → (d : ℕ) (r : List Item) → Lexes r → Lexes (stmt_items d s r)
  stmt (BlockOf ss p) w d r s = margin d (closed tokens.cOpenBrace (line (stmts ss w (d + 2) _ (shut d (line s)))))
  stmt (IfOf a l p) w d r s = margin d (arms a w.1 d false _ (else_part l w.2 d r s))
  stmt (WhileOf e ss p) w d r s =
      margin d (key keys.While refl
      (space (closed tokens.cOpenRound (expr e w.0 _ refl (closed tokens.cCloseRound (opened (stmts ss w.1 (d + 2) _ (shut d (line s)))))).lexes)))
  stmt (ForOf f v g ss p) w d r s =
      margin d (key keys.For refl (space
      (closed tokens.cOpenRound (first f w.0 _ refl (closed tokens.cSemi (spaced_value v w.1 _ refl (closed tokens.cSemi
      (step g w.2 _ refl (closed tokens.cCloseRound (opened (stmts ss w.3 (d + 2) _ (shut d (line s)))))))))))))
  stmt (ReturnOf v p) w d r s = margin d (key keys.Return (spaced_loose v _ refl) (spaced_value v w _ refl (closed tokens.cSemi (line s))))
  stmt (BreakOf p) w d r s = margin d (key keys.Break refl (closed tokens.cSemi (line s)))
  stmt (ContinueOf p) w d r s = margin d (key keys.Continue refl (closed tokens.cSemi (line s)))
  stmt x w d r s = margin d (simple x w _ refl (closed tokens.cSemi (line s)))

  pub stmts : (ss : Statements) → AreFormedStmts (stmts_unplaced ss) → (d : ℕ) (r : List Item) → Lexes r → Lexes (stmts_items d ss r)
  stmts no_statements w d r s = s
  stmts (and_then x xs) w d r s = stmt x w.0 d _ (stmts xs w.1 d r s)

  arms : (a : Arms) → AreFormedArms (arms_unplaced a) → (d : ℕ) (b : Bool) (r : List Item) → Lexes r → Lexes (arms_items d b a r)
  arms no_arms w d b r s = s
  arms (and_arm e ss a) w d b r s =
      else_word b _ (key keys.If refl
      (space (closed tokens.cOpenRound
      (expr e w.0 _ refl (closed tokens.cCloseRound (opened (stmts ss w.1 (d + 2) _ (shut d (arms a w.2 d true r s)))))).lexes)))

  else_part : (l : Else) → IsFormedElse (else_unplaced l) → (d : ℕ) (r : List Item) → Lexes r → Lexes (else_items d l r)
  else_part no_else w d r s = line s
  else_part (otherwise ss) w d r s = space (key keys.Else refl (opened (stmts ss w (d + 2) _ (shut d (line s)))))

mods : (ms : List Modifier) → Each IsFormedMod (all_unplaced modifier_unplaced ms) → (r : List Item) → Lexes r → Lexes (mods_items ms r)
unfolding unicode_ident
mods [] w r s = s
mods (m ∷ ms) w r s = key m.word refl (space (mods ms w.1 r s))

result : (t : Option TypeName) → IsFormedResult (may_unplaced type_unplaced t) → (r : List Item) → Loose r → Lexes r → Lexes (result_items t r)
result None w r a s = key keys.Void a s
result (Some t) w r a s = a_type t w r a s

params_loose : (qs : List Param) (r : List Item) → Loose (params_items true qs r)
unfolding unicode_ident
params_loose [] r = refl
params_loose (q ∷ qs) r = refl

params : (b : Bool) (qs : List Param) → Each IsFormedParam (all_unplaced param_unplaced qs) → (r : List Item) → Lexes r → Lexes (params_items b qs r)
unfolding unicode_ident
params b [] w r s = closed tokens.cCloseRound s
params b (q ∷ qs) w r s = commas b _ (final q.is_final _ (a_type q.ty w.0.0 _ refl (space (word w.0.1 (params_loose qs r) (params true qs w.1 r s)))))

head : (h : HeadTree) → IsFormedHead (head_unplaced h) → (r : List Item) → Lexes r → Lexes (head_items h r)
unfolding unicode_ident
head h w r s = mods h.mods w.0 _ (result h.type w.1 _ refl (space (word w.2 refl (closed tokens.cOpenRound (params false h.params w.3 r s)))))

body : (b : Option Statements) → IsFormedBody (may_unplaced stmts_unplaced b) → (r : List Item) → Lexes r → Lexes (body_items b r)
body None w r s = closed tokens.cSemi (line s)
body (Some ss) w r s = opened (stmts ss w 4 _ (shut 2 (line s)))

up : (u : Option Expressions) → IsFormedUp (may_unplaced exprs_unplaced u) → (r : List Item) → Lexes r → Lexes (up_items u r)
unfolding unicode_ident
up None w r s = s
up (Some es) w r s = margin 4 (key keys.Super refl (closed tokens.cOpenRound (args false es w _ (closed tokens.cSemi (line s)))))

member : (m : MemberTree) → IsFormedMember (member_unplaced m) → (r : List Item) → Lexes r → Lexes (member_items m r)
unfolding unicode_ident
member (FieldTree ms t n p) w r s = margin 2 (mods ms w.0 _ (a_type t w.1 _ refl (space (word w.2 refl (closed tokens.cSemi (line s))))))
member (MethodTree h b p) w r s = margin 2 (head h w.0 _ (body b w.1 r s))
member (MakerTree ms n qs u ss p) w r s =
    margin 2 (mods ms w.0 _ (word w.1 refl (closed tokens.cOpenRound
    (params false qs w.2 _ (opened (up u w.3 _ (stmts ss w.4 4 _ (shut 2 (line s)))))))))

members : (ms : List MemberTree) → Each IsFormedMember (all_unplaced member_unplaced ms) → (r : List Item) → Lexes r → Lexes (members_items ms r)
members [] w r s = s
members (m ∷ ms) w r s = member m w.0 _ (members ms w.1 r s)

heads : (hs : List HeadTree) → Each IsFormedHead (all_unplaced head_unplaced hs) → (r : List Item) → Lexes r → Lexes (heads_items hs r)
heads [] w r s = s
heads (h ∷ hs) w r s = margin 2 (head h w.0 _ (closed tokens.cSemi (line (heads hs w.1 r s))))

ids_loose : (is : List Id) (r : List Item) → Loose r → Loose (ids_items true is r)
unfolding unicode_ident
ids_loose [] r a = a
ids_loose (i ∷ is) r a = refl

ids : (b : Bool) (is : List Id) → Each IsFormedId (all_unplaced id_unplaced is) → (r : List Item) → Loose r → Lexes r → Lexes (ids_items b is r)
ids b [] w r a s = s
ids b (i ∷ is) w r a s = commas b _ (word w.0 (ids_loose is r a) (ids true is w.1 r a s))

parent : (c : Option Id) → IsFormedParent (may_unplaced id_unplaced c) → (r : List Item) → Loose r → Lexes r → Lexes (parent_items c r)
unfolding unicode_ident
parent None w r a s = s
parent (Some i) w r a s = space (key keys.Extends refl (space (word w a s)))

parent_loose : (c : Option Id) (r : List Item) → Loose r → Loose (parent_items c r)
unfolding unicode_ident
parent_loose None r a = a
parent_loose (Some i) r a = refl

list : (k : Keyword) (is : List Id) → Each IsFormedId (all_unplaced id_unplaced is) → (r : List Item) → Loose r → Lexes r → Lexes (list_items k is r)
unfolding unicode_ident
list k [] w r a s = s
list k (i ∷ is) w r a s = space (key k refl (space (ids false (i ∷ is) w r a s)))

list_loose : (k : Keyword) (is : List Id) (r : List Item) → Loose r → Loose (list_items k is r)
unfolding unicode_ident
list_loose k [] r a = a
list_loose k (i ∷ is) r a = refl

decl : (d : DeclTree) → IsFormedDecl (decl_unplaced d) → (r : List Item) → Lexes r → Lexes (decl_items d r)
unfolding unicode_ident
decl (ClassTree ms n c fs bs p) w r s =
    mods ms w.0 _ (key keys.Class refl
    (space (word w.1 (parent_loose c _ (list_loose keys.Implements fs _ refl)) (parent c w.2 _ (list_loose keys.Implements fs _ refl)
    (list keys.Implements fs w.3 _ refl (opened (members bs w.4 _ (closed tokens.cCloseBrace (line s)))))))))
decl (InterfaceTree ms n fs hs p) w r s = mods ms w.0 _ (key keys.Interface refl (space (word w.1 (list_loose keys.Extends fs _ refl)
    (list keys.Extends fs w.2 _ refl (opened (heads hs w.3 _ (closed tokens.cCloseBrace (line s))))))))

-- the text of a program is read as its kinds
pub decls : (ds : List DeclTree) → IsFormedTree (unplaced ds) → (r : List Item) → Lexes r → Lexes (decls_items ds r)
decls [] w r s = s
decls (d ∷ ds) w r s = decl d w.0 _ (decls ds w.1 r s)
