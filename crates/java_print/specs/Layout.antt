-- Believed. The layout of a tree, as items. `x_items x r` are the items of x before the items r.
use Rattle.std.specs.Prelude.{ℕ, zero, suc, ◌+◌, ℤ, pos, negsuc, Bool, true, false, not, ◌&&◌, ◌||◌, ◌==◌, nat_lt, List, [], ◌∷◌, Option, Some, None, codes, nat_le, is_some, if◌then◌else◌}
use Rattle.kaba_base.specs.declared.Keyword.{Keyword}
use Rattle.kaba_base.specs.declared.Keyword.TheVariants as keys
use Rattle.java_lex.specs.declared.Mark.{Mark}
use Rattle.java_lex.specs.declared.Mark.TheVariants as marks
use Rattle.java_lex.specs.declared.TokenKind.TheVariants as kinds
use Rattle.java_tree.specs.declared.Id.{Id}
use Rattle.java_tree.specs.declared.Modifier.{Modifier}
use Rattle.java_tree.specs.declared.TypeBase.{TypeBase}
use Rattle.java_tree.specs.declared.TypeBase.TheVariants as bases
use Rattle.java_tree.specs.declared.TypeName.{TypeName}
use Rattle.java_tree.specs.declared.Param.{Param}
use Rattle.java_tree.specs.Syntax.{Expression, IntLit, CharLit, StrLit, BoolLit, NullLit, ThisRef, NameRef, FieldOf, IndexOf, CallOf, CallOn, SuperCallOf, NewOf, NewArrayOf, CastOf, InstanceOfClass, UnaryOf, BinaryOf, Expressions, no_more, and_more, Statement, LocalOf, BlockOf, AssignOf, DoOf, PrintOf, IfOf, WhileOf, ForOf, ReturnOf, BreakOf, ContinueOf, Statements, no_statements, and_then, Arms, no_arms, and_arm, Else, no_else, otherwise, OptionalStatement, absent, present, HeadTree, MemberTree, FieldTree, MethodTree, MakerTree, DeclTree, ClassTree, InterfaceTree}
use Rattle.java_tree.specs.Tokens.{level}
use Rattle.java_tree.specs.Statements.{is_called, printed_by}
use Rattle.java_print.specs.Items.{Item, Lexeme, Space, End, Margin, text}

-- a mark before these items
abbrev pub mark_then : Mark → List Item → List Item
mark_then m r = Lexeme (kinds.Mark m) ∷ r

-- a keyword before these items
abbrev pub key_then : Keyword → List Item → List Item
key_then k r = Lexeme (kinds.Key k) ∷ r

-- a name before these items
abbrev pub word_then : List ℕ → List Item → List Item
word_then n r = Lexeme (kinds.Word n) ∷ r

-- how tightly a number binds: as what needs no brackets anywhere, but a negative one, which stands for
-- -2147483648, is always put in brackets as an operand
abbrev pub int_rank : ℤ → ℕ
int_rank (pos n) = 13
int_rank (negsuc n) = 0

-- how tightly an expression binds: 1 to 10 by its operator, 11 a prefix operator or a cast, 12 a new array,
-- 13 what needs no brackets anywhere
abbrev pub rank : Expression → ℕ
rank (IntLit z p) = int_rank z
rank (NewArrayOf t e p) = 12
rank (CastOf t e p) = 11
rank (UnaryOf m e p) = 11
rank (InstanceOfClass e c p) = 7
rank (BinaryOf m a b p) = level m
rank (CharLit u p) = 13
rank (StrLit us p) = 13
rank (BoolLit b p) = 13
rank (NullLit p) = 13
rank (ThisRef p) = 13
rank (NameRef n p) = 13
rank (FieldOf e n p) = 13
rank (IndexOf e i p) = 13
rank (CallOf n es p) = 13
rank (CallOn e n es p) = 13
rank (SuperCallOf n es p) = 13
rank (NewOf c es p) = 13

-- the prefix operator that an expression begins with
abbrev pub sign_of : Expression → Option Mark
sign_of (UnaryOf m e p) = Some m
sign_of _ = None

-- whether both are a plus, or both a minus
abbrev pub same_sign : Mark → Option Mark → Bool
same_sign marks.Plus (Some marks.Plus) = true
same_sign marks.Minus (Some marks.Minus) = true
same_sign _ _ = false

-- whether the prefix operator, if there is one, is a plus or a minus
abbrev pub is_plus_or_minus : Option Mark → Bool
is_plus_or_minus (Some marks.Plus) = true
is_plus_or_minus (Some marks.Minus) = true
is_plus_or_minus _ = false

-- whether a type without brackets is a class or an interface
abbrev pub is_named : TypeBase → Bool
is_named (bases.Named n) = true
is_named _ = false

-- whether an expression stands without brackets: where a level is asked, behind a prefix operator, behind a cast
abbrev pub fits : ℕ → Expression → Bool
fits k e = nat_le k (rank e)

-- whether an expression stands without brackets behind the prefix operator m: in `-(-x)` it does not
abbrev pub fits_sign : Mark → Expression → Bool
fits_sign m e = fits 11 e && not (same_sign m (sign_of e))

-- whether an expression stands without brackets behind a cast to b: in `(T) (-x)` it does not
abbrev pub fits_cast : TypeBase → Expression → Bool
fits_cast b e = fits 11 e && not (is_named b && is_plus_or_minus (sign_of e))

-- what f lays out: as it is, or in round brackets where the flag is false
abbrev pub in_round : Bool → (List Item → List Item) → List Item → List Item
in_round true f r = f r
in_round false f r = mark_then marks.OpenRound (f (mark_then marks.CloseRound r))

-- a comma and a space, where something stands before
abbrev pub comma : Bool → List Item → List Item
comma false r = r
comma true r = mark_then marks.Comma (Space ∷ r)

-- a number; a negative one, which is the least, as a minus and 2147483648
abbrev pub int_items : ℤ → List Item → List Item
int_items (pos n) r = Lexeme (kinds.Int (pos n)) ∷ r
int_items (negsuc n) r = mark_then marks.Minus (Lexeme kinds.Least ∷ r)

-- `true` or `false`
abbrev pub bool_items : Bool → List Item → List Item
bool_items true r = key_then keys.True r
bool_items false r = key_then keys.False r

-- a type without brackets
abbrev pub base_items : TypeBase → List Item → List Item
base_items bases.Int r = key_then keys.Int r
base_items bases.Boolean r = key_then keys.Boolean r
base_items bases.Char r = key_then keys.Char r
base_items (bases.Named n) r = word_then n r

-- pairs of square brackets
abbrev pub dims_items : ℕ → List Item → List Item
dims_items zero r = r
dims_items (suc d) r = mark_then marks.OpenSquare (mark_then marks.CloseSquare (dims_items d r))

-- those behind the size of a new array
abbrev pub more_dims_items : ℕ → List Item → List Item
more_dims_items zero r = r
more_dims_items (suc d) r = dims_items d r

-- a type: its base and its pairs of square brackets
abbrev pub type_items : TypeName → List Item → List Item
type_items t r = base_items t.base (dims_items t.dim r)

abbrev mutual
  -- an expression, with round brackets about each operand that does not fit where it stands
  pub expr_items : Expression → List Item → List Item
  expr_items (IntLit z p) r = int_items z r
  expr_items (CharLit u p) r = Lexeme (kinds.Char u) ∷ r
  expr_items (StrLit us p) r = Lexeme (kinds.Str us) ∷ r
  expr_items (BoolLit b p) r = bool_items b r
  expr_items (NullLit p) r = key_then keys.Null r
  expr_items (ThisRef p) r = key_then keys.This r
  expr_items (NameRef n p) r = word_then n r
  expr_items (FieldOf e n p) r = in_round (fits 12 e) (expr_items e) (mark_then marks.Dot (word_then n r))
  expr_items (IndexOf e i p) r = in_round (fits 13 e) (expr_items e) (mark_then marks.OpenSquare (expr_items i (mark_then marks.CloseSquare r)))
  expr_items (CallOf n es p) r = word_then n (mark_then marks.OpenRound (args_items false es r))
  expr_items (CallOn e n es p) r = in_round (fits 12 e) (expr_items e) (mark_then marks.Dot (word_then n (mark_then marks.OpenRound (args_items false es r))))
  expr_items (SuperCallOf n es p) r = key_then keys.Super (mark_then marks.Dot (word_then n (mark_then marks.OpenRound (args_items false es r))))
  expr_items (NewOf c es p) r = key_then keys.New (Space ∷ word_then c.name (mark_then marks.OpenRound (args_items false es r)))
  expr_items (NewArrayOf t e p) r =
      key_then keys.New (Space ∷ base_items t.base
      (mark_then marks.OpenSquare (expr_items e (mark_then marks.CloseSquare (more_dims_items t.dim r)))))
  expr_items (CastOf t e p) r =
      mark_then marks.OpenRound (base_items t.base (mark_then marks.CloseRound (Space ∷ in_round (fits_cast t.base e) (expr_items e) r)))
  expr_items (InstanceOfClass e c p) r = in_round (fits 7 e) (expr_items e) (Space ∷ key_then keys.InstanceOf (Space ∷ word_then c.name r))
  expr_items (UnaryOf m e p) r = mark_then m (in_round (fits_sign m e) (expr_items e) r)
  expr_items (BinaryOf m a b p) r =
      in_round (fits (level m) a) (expr_items a) (Space ∷ mark_then m (Space ∷ in_round (fits (suc (level m)) b) (expr_items b) r))

  -- the arguments, and the bracket that closes them
  pub args_items : Bool → Expressions → List Item → List Item
  args_items b no_more r = mark_then marks.CloseRound r
  args_items b (and_more e es) r = comma b (expr_items e (args_items true es r))

-- the same parts by themselves
abbrev pub called_items : List ℕ → Expressions → List Item → List Item
called_items n es r = word_then n (mark_then marks.OpenRound (args_items false es r))

-- an access to a field
abbrev pub field_items : Expression → List ℕ → List Item → List Item
field_items e n r = in_round (fits 12 e) (expr_items e) (mark_then marks.Dot (word_then n r))

-- an access to an element of an array
abbrev pub index_items : Expression → Expression → List Item → List Item
index_items e i r = in_round (fits 13 e) (expr_items e) (mark_then marks.OpenSquare (expr_items i (mark_then marks.CloseSquare r)))

-- `new` of an array
abbrev pub new_array_items : TypeName → Expression → List Item → List Item
new_array_items t e r = key_then keys.New
    (Space ∷ base_items t.base (mark_then marks.OpenSquare (expr_items e (mark_then marks.CloseSquare (more_dims_items t.dim r)))))

-- a cast
abbrev pub cast_items : TypeName → Expression → List Item → List Item
cast_items t e r = mark_then marks.OpenRound (base_items t.base (mark_then marks.CloseRound (Space ∷ in_round (fits_cast t.base e) (expr_items e) r)))

-- an `instanceof`
abbrev pub test_items : Expression → List ℕ → List Item → List Item
test_items e n r = in_round (fits 7 e) (expr_items e) (Space ∷ key_then keys.InstanceOf (Space ∷ word_then n r))

-- a binary operator between its operands
abbrev pub binary_items : Mark → Expression → Expression → List Item → List Item
binary_items m a b r = in_round (fits (level m) a) (expr_items a) (Space ∷ mark_then m (Space ∷ in_round (fits (suc (level m)) b) (expr_items b) r))

-- an expression, where there is one
abbrev pub value_items : Option Expression → List Item → List Item
value_items None r = r
value_items (Some e) r = expr_items e r

-- a space and the value, where there is one
abbrev pub spaced_items : Option Expression → List Item → List Item
spaced_items None r = r
spaced_items (Some e) r = Space ∷ expr_items e r

-- ` = ` and the first value of a local
abbrev pub initial_items : Expression → List Item → List Item
initial_items e r = Space ∷ mark_then marks.Assign (Space ∷ expr_items e r)

-- ` = ` and the first value of a local, where it has one
abbrev pub init_items : Option Expression → List Item → List Item
init_items None r = r
init_items (Some e) r = initial_items e r

-- `final` and a space, where it stands
abbrev pub final_items : Bool → List Item → List Item
final_items true r = key_then keys.Final (Space ∷ r)
final_items false r = r

-- whether a call would be read as the printing of a value
abbrev pub prints : Expression → Bool
prints e = is_some (printed_by e)

-- whether a call of `System.out` by this name with so many arguments prints
abbrev pub is_printing : List ℕ → ℕ → Bool
is_printing n k = (nat_lt k 2 && is_called n (codes "println")) || ((k == 1) && is_called n (codes "print"))

-- such a call, with brackets that keep it a call
abbrev pub upon_system : List ℕ → Expressions → List Item → List Item
upon_system n es r = mark_then marks.OpenRound
    (word_then (codes "System") (mark_then marks.CloseRound
    (mark_then marks.Dot (word_then (codes "out") (mark_then marks.Dot (called_items n es r))))))

-- a call that would be read as a printing, with brackets that keep it a call
abbrev pub bracketed_items : Expression → List Item → List Item
bracketed_items (CallOn e n es p) r = upon_system n es r
bracketed_items e r = expr_items e r

-- a call as a statement, such that it is read as a call and not as a printing
abbrev pub call_items : Expression → List Item → List Item
call_items e r = if prints e then bracketed_items e r else expr_items e r

-- the name of the method that prints: `println` where a line ends, or else `print`
abbrev pub print_name : Bool → List ℕ
print_name true = codes "println"
print_name false = codes "print"

-- the declaration of a local, without its semicolon
abbrev pub local_items : Bool → TypeName → List ℕ → Option Expression → List Item → List Item
local_items f t n v r = final_items f (type_items t (Space ∷ word_then n (init_items v r)))

-- an assignment, without its semicolon
abbrev pub assign_items : Expression → Expression → List Item → List Item
assign_items t v r = expr_items t (Space ∷ mark_then marks.Assign (Space ∷ expr_items v r))

-- a printing, without its semicolon
abbrev pub print_items : Bool → Option Expression → List Item → List Item
print_items l v r = word_then (codes "System")
    (mark_then marks.Dot (word_then (codes "out")
    (mark_then marks.Dot (word_then (print_name l) (mark_then marks.OpenRound (value_items v (mark_then marks.CloseRound r)))))))

-- how a printing begins
abbrev pub print_head : Bool → List ℕ
print_head true = codes "System.out.println("
print_head false = codes "System.out.print("

-- a statement that may stand in the round brackets of a `for`, without its margin and its semicolon; of others nothing
abbrev pub simple_items : Statement → List Item → List Item
simple_items (LocalOf f t n v p) r = local_items f t n v r
simple_items (AssignOf t v p) r = assign_items t v r
simple_items (DoOf c p) r = call_items c r
simple_items (PrintOf l v p) r = print_items l v r
simple_items (BlockOf xs p) r = r
simple_items (IfOf arms o p) r = r
simple_items (WhileOf c xs p) r = r
simple_items (ForOf i c s xs p) r = r
simple_items (ReturnOf v p) r = r
simple_items (BreakOf p) r = r
simple_items (ContinueOf p) r = r

-- the parts of a for
abbrev pub first_items : OptionalStatement → List Item → List Item
first_items absent r = r
first_items (present s) r = simple_items s r

-- a space and the step of a `for`, where there is one
abbrev pub step_items : OptionalStatement → List Item → List Item
step_items absent r = r
step_items (present s) r = Space ∷ simple_items s r

-- ` else `, where an arm stands before
abbrev pub else_then : Bool → List Item → List Item
else_then false r = r
else_then true r = Space ∷ key_then keys.Else (Space ∷ r)

-- the opening brace of a body, at the end of its line
abbrev pub open_body : List Item → List Item
open_body r = Space ∷ mark_then marks.OpenBrace (End ∷ r)

-- the closing brace of a body
abbrev pub close_body : ℕ → List Item → List Item
close_body d r = Margin d ∷ mark_then marks.CloseBrace r

-- statements behind a margin of d spaces
abbrev mutual
  -- a statement in lines of its own, the first behind a margin of d spaces
  pub stmt_items : ℕ → Statement → List Item → List Item
  stmt_items d (BlockOf ss p) r = Margin d ∷ mark_then marks.OpenBrace (End ∷ stmts_items (d + 2) ss (close_body d (End ∷ r)))
  stmt_items d (IfOf a l p) r = Margin d ∷ arms_items d false a (else_items d l r)
  stmt_items d (WhileOf e ss p) r =
      Margin d ∷ key_then keys.While
      (Space ∷ mark_then marks.OpenRound (expr_items e (mark_then marks.CloseRound (open_body (stmts_items (d + 2) ss (close_body d (End ∷ r)))))))
  stmt_items d (ForOf f v g ss p) r =
      Margin d ∷ key_then keys.For (Space ∷ mark_then marks.OpenRound
      (first_items f (mark_then marks.Semi
      (spaced_items v (mark_then marks.Semi
      (step_items g (mark_then marks.CloseRound (open_body (stmts_items (d + 2) ss (close_body d (End ∷ r)))))))))))
  stmt_items d (ReturnOf v p) r = Margin d ∷ key_then keys.Return (spaced_items v (mark_then marks.Semi (End ∷ r)))
  stmt_items d (BreakOf p) r = Margin d ∷ key_then keys.Break (mark_then marks.Semi (End ∷ r))
  stmt_items d (ContinueOf p) r = Margin d ∷ key_then keys.Continue (mark_then marks.Semi (End ∷ r))
  stmt_items d s r = Margin d ∷ simple_items s (mark_then marks.Semi (End ∷ r))

  -- statements one after another
  pub stmts_items : ℕ → Statements → List Item → List Item
  stmts_items d no_statements r = r
  stmts_items d (and_then s ss) r = stmt_items d s (stmts_items d ss r)

  -- the arms of an `if`; the flag says that one stands before
  pub arms_items : ℕ → Bool → Arms → List Item → List Item
  arms_items d b no_arms r = r
  arms_items d b (and_arm e ss a) r =
      else_then b (key_then keys.If
      (Space ∷ mark_then marks.OpenRound
      (expr_items e (mark_then marks.CloseRound (open_body (stmts_items (d + 2) ss (close_body d (arms_items d true a r))))))))

  -- the `else` behind the arms, where there is one, and the end of the line
  pub else_items : ℕ → Else → List Item → List Item
  else_items d no_else r = End ∷ r
  else_items d (otherwise ss) r = Space ∷ key_then keys.Else (open_body (stmts_items (d + 2) ss (close_body d (End ∷ r))))

-- the parts of statements by themselves
abbrev pub stop_then : List Item → List Item
stop_then r = mark_then marks.Semi (End ∷ r)

-- a space and an expression in round brackets
abbrev pub condition_items : Expression → List Item → List Item
condition_items e r = Space ∷ mark_then marks.OpenRound (expr_items e (mark_then marks.CloseRound r))

-- a space and a body in its braces, without the end of its last line
abbrev pub body_block : ℕ → Statements → List Item → List Item
body_block d ss r = open_body (stmts_items (d + 2) ss (close_body d r))

-- a block behind its margin
abbrev pub block_items : ℕ → Statements → List Item → List Item
block_items d ss r = mark_then marks.OpenBrace (End ∷ stmts_items (d + 2) ss (close_body d (End ∷ r)))

-- a `while` behind its margin
abbrev pub while_items : ℕ → Expression → Statements → List Item → List Item
while_items d e ss r = key_then keys.While (condition_items e (body_block d ss (End ∷ r)))

-- `if`, a condition and a body: one arm, without the end of its last line
abbrev pub arm_items : ℕ → Expression → Statements → List Item → List Item
arm_items d e ss r = key_then keys.If (condition_items e (body_block d ss r))

-- ` else ` and its body, with the end of its last line
abbrev pub last_items : ℕ → Statements → List Item → List Item
last_items d ss r = Space ∷ key_then keys.Else (body_block d ss (End ∷ r))

-- `for` and what stands in its round brackets
abbrev pub for_head_items : OptionalStatement → Option Expression → OptionalStatement → List Item → List Item
for_head_items f v g r = key_then keys.For
    (Space ∷ mark_then marks.OpenRound
    (first_items f (mark_then marks.Semi (spaced_items v (mark_then marks.Semi (step_items g (mark_then marks.CloseRound r)))))))

-- a `for` behind its margin
abbrev pub for_items : ℕ → OptionalStatement → Option Expression → OptionalStatement → Statements → List Item → List Item
for_items d f v g ss r = for_head_items f v g (body_block d ss (End ∷ r))

-- an `if` behind its margin: its arms and its `else`
abbrev pub if_items : ℕ → Arms → Else → List Item → List Item
if_items d a l r = arms_items d false a (else_items d l r)

-- a `return` behind its margin, with its semicolon and the end of the line
abbrev pub return_items : Option Expression → List Item → List Item
return_items v r = key_then keys.Return (spaced_items v (stop_then r))

-- what follows the margin
abbrev pub behind_margin : List Item → List Item
behind_margin [] = []
behind_margin (x ∷ r) = r

-- a statement behind its margin
abbrev pub bare_items : ℕ → Statement → List Item → List Item
bare_items d s r = behind_margin (stmt_items d s r)

-- a modifier and a space
abbrev pub mod_items : Modifier → List Item → List Item
mod_items m r = key_then m.word (Space ∷ r)

-- modifiers, each with a space behind it
abbrev pub mods_items : List Modifier → List Item → List Item
mods_items [] r = r
mods_items (m ∷ ms) r = mod_items m (mods_items ms r)

-- the type that a method gives, or `void`
abbrev pub result_items : Option TypeName → List Item → List Item
result_items None r = key_then keys.Void r
result_items (Some t) r = type_items t r

-- a parameter: its `final`, its type and its name
abbrev pub param_items : Param → List Item → List Item
param_items q r = final_items q.is_final (type_items q.ty (Space ∷ word_then q.name r))

-- the parameters, and the bracket that closes them
abbrev pub params_items : Bool → List Param → List Item → List Item
params_items b [] r = mark_then marks.CloseRound r
params_items b (q ∷ qs) r = comma b (param_items q (params_items true qs r))

-- a method up to its body
abbrev pub head_items : HeadTree → List Item → List Item
head_items h r = mods_items h.mods (result_items h.type (Space ∷ word_then h.name (mark_then marks.OpenRound (params_items false h.params r))))

-- the body of a method, or a semicolon where it has none, and the end of the line
abbrev pub body_items : Option Statements → List Item → List Item
body_items None r = mark_then marks.Semi (End ∷ r)
body_items (Some ss) r = open_body (stmts_items 4 ss (close_body 2 (End ∷ r)))

-- a field as a member, in a line of its own
abbrev pub field_member_items : List Modifier → TypeName → List ℕ → List Item → List Item
field_member_items ms t n r = Margin 2 ∷ mods_items ms (type_items t (Space ∷ word_then n (stop_then r)))

-- a method as a member, in lines of its own
abbrev pub method_items : HeadTree → Option Statements → List Item → List Item
method_items h b r = Margin 2 ∷ head_items h (body_items b r)

-- `super(..)` in a constructor's body, in a line of its own
abbrev pub up_line_items : Expressions → List Item → List Item
up_line_items es r = Margin 4 ∷ key_then keys.Super (mark_then marks.OpenRound (args_items false es (stop_then r)))

-- the `super(..)` that a constructor's body begins with, where there is one
abbrev pub up_items : Option Expressions → List Item → List Item
up_items None r = r
up_items (Some es) r = up_line_items es r

-- a constructor up to its body: its modifiers, its name and its parameters
abbrev pub maker_head_items : List Modifier → List ℕ → List Param → List Item → List Item
maker_head_items ms n qs r = mods_items ms (word_then n (mark_then marks.OpenRound (params_items false qs r)))

-- the body of a constructor, and the end of the line
abbrev pub maker_body_items : Option Expressions → Statements → List Item → List Item
maker_body_items u ss r = open_body (up_items u (stmts_items 4 ss (close_body 2 (End ∷ r))))

-- a constructor as a member, in lines of its own
abbrev pub maker_items : List Modifier → List ℕ → List Param → Option Expressions → Statements → List Item → List Item
maker_items ms n qs u ss r = Margin 2 ∷ maker_head_items ms n qs (maker_body_items u ss r)

-- a member, in lines of its own
abbrev pub member_items : MemberTree → List Item → List Item
member_items (FieldTree ms t n p) r = field_member_items ms t n r
member_items (MethodTree h b p) r = method_items h b r
member_items (MakerTree ms n qs u ss p) r = maker_items ms n qs u ss r

-- members one after another
abbrev pub members_items : List MemberTree → List Item → List Item
members_items [] r = r
members_items (m ∷ ms) r = member_items m (members_items ms r)

-- the heads of an interface, each in a line of its own
abbrev pub heads_items : List HeadTree → List Item → List Item
heads_items [] r = r
heads_items (h ∷ hs) r = Margin 2 ∷ head_items h (mark_then marks.Semi (End ∷ heads_items hs r))

-- names with commas between them; the flag says that one stands before
abbrev pub ids_items : Bool → List Id → List Item → List Item
ids_items b [] r = r
ids_items b (i ∷ is) r = comma b (word_then i.name (ids_items true is r))

-- ` extends ` and a name
abbrev pub extends_items : List ℕ → List Item → List Item
extends_items n r = Space ∷ key_then keys.Extends (Space ∷ word_then n r)

-- ` extends M`, ` implements I, J`
abbrev pub parent_items : Option Id → List Item → List Item
parent_items None r = r
parent_items (Some i) r = extends_items i.name r

-- a keyword and names with commas between them, with spaces before both: ` implements I, J`
abbrev pub listed_items : Keyword → List Id → List Item → List Item
listed_items k is r = Space ∷ key_then k (Space ∷ ids_items false is r)

-- a keyword and names with commas between them, or nothing where there is no name
abbrev pub list_items : Keyword → List Id → List Item → List Item
list_items k [] r = r
list_items k (i ∷ is) r = listed_items k (i ∷ is) r

-- modifiers, a keyword and a name
abbrev pub named_items : List Modifier → Keyword → List ℕ → List Item → List Item
named_items ms k n r = mods_items ms (key_then k (Space ∷ word_then n r))

-- a class or an interface up to its name
abbrev pub front_items : DeclTree → List Item → List Item
front_items (ClassTree ms n c fs bs p) r = named_items ms keys.Class n r
front_items (InterfaceTree ms n fs hs p) r = named_items ms keys.Interface n r

-- what it extends and implements
abbrev pub class_supers_items : Option Id → List Id → List Item → List Item
class_supers_items c fs r = parent_items c (list_items keys.Implements fs r)

-- what a class or an interface extends and implements
abbrev pub supers_items : DeclTree → List Item → List Item
supers_items (ClassTree ms n c fs bs p) r = class_supers_items c fs r
supers_items (InterfaceTree ms n fs hs p) r = list_items keys.Extends fs r

-- its members
abbrev pub inside_items : DeclTree → List Item → List Item
inside_items (ClassTree ms n c fs bs p) r = members_items bs r
inside_items (InterfaceTree ms n fs hs p) r = heads_items hs r

-- a class or an interface, in lines of its own
abbrev pub decl_items : DeclTree → List Item → List Item
decl_items d r = front_items d (supers_items d (open_body (inside_items d (mark_then marks.CloseBrace (End ∷ r)))))

-- classes and interfaces one after another
abbrev pub decls_items : List DeclTree → List Item → List Item
decls_items [] r = r
decls_items (d ∷ ds) r = decl_items d (decls_items ds r)

-- the text of a program
abbrev pub tree_text : List DeclTree → List ℕ
tree_text ds = text (decls_items ds [])
