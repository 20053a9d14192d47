-- A tree has at most four parts for each token.
use Rattle.std.proofs.Common.{arith, subst, ◌+◌, ◌≡◌, ℕ, suc, ◌≤◌, List, [], ◌∷◌, Option, Some, None, Bool, true, false}
use Rattle.kaba_base.specs.declared.Place.{Place}
use Rattle.kaba_base.specs.declared.words.Keyword.{Keyword}
use Rattle.java_lex.specs.declared.Token.{Token}
use Rattle.java_tree.specs.declared.Id.{Id}
use Rattle.java_tree.specs.declared.Modifier.{Modifier}
use Rattle.java_tree.specs.declared.TypeBase.{TypeBase}
use Rattle.java_tree.specs.declared.TypeName.{TypeName}
use Rattle.java_tree.specs.declared.Param.{Param}
use Rattle.java_tree.specs.Syntax.{Expression, CallOn, Expressions, no_more, and_more, Statement, LocalOf, BlockOf, AssignOf, DoOf, PrintOf, IfOf, WhileOf, ForOf, ReturnOf, BreakOf, ContinueOf, Statements, Arms, Else, OptionalStatement, HeadTree, MemberTree, DeclTree}
use Rattle.java_tree.specs.Statements.{as_body, printed}
use Rattle.java_tree.specs.Expressions.{IsBase, named_base, IsDims, no_dims, one_dim, IsType, a_type, IsExpr, binary, instance_of, operand, IsPrefixed, signed, least, cast_named, cast_int, cast_char, bare, IsPost, field, call_on, index, name, call, super_call, round, new_object, new_array, IsArgs, no_args, some_args, IsMoreArgs, last_arg, next_arg}
use Rattle.java_tree.specs.Statements.{printed, IsFinal, IsValue, no_value, a_value, IsInit, no_init, an_init, IsLocal, a_local, IsTarget, to_name, to_field, to_index, IsCall, plain_call, call_upon, call_above, IsAct, assign, assign_by, step_after, step_before, do_call, print, do_new, IsForFirst, no_first, first_local, first_act, IsForStep, no_step, a_step, IsItem, local_item, stmt_item, IsItems, no_items, next_item, IsStmt, block, empty, acting, choice, while_loop, for_loop, return_word, break_word, continue_word, IsArms, last_arm, else_arm, more_arms}
use Rattle.java_tree.specs.Declarations.{IsMods, no_mods, next_mod, IsIds, last_id, next_id, IsParent, no_parent, a_parent, IsList, no_list, a_list, IsParam, a_param, IsMoreParams, last_param, next_param, IsParams, no_params, some_params, IsResult, no_result, a_result, IsHead, a_head, no_body, a_body, IsUp, no_up, an_up, IsMember, a_field, a_method, a_maker, IsMembers, no_members, next_member, IsHeads, no_heads, next_head, IsDecl, a_class, an_interface, IsPlaced, no_decls, next_decl}
use Rattle.java_parse.proofs.Fronts.{bool_cases}
use Rattle.java_tree.specs.Expressions.{int_base, boolean_base, char_base, int_literal, char_literal, string_literal, true_literal, false_literal, null_literal, this_word}
use Rattle.java_tree.specs.Statements.{not_final, is_final, printed_by, printed_args, is_out, is_called, is_word}
use Rattle.java_tree.specs.Size.{expr_size, exprs_size, value_size, stmt_size, stmts_size, arms_size, else_size, step_size, up_size, member_size, members_size, heads_size, decl_size, tree_size}
use Rattle.std.proofs.Common.{◌*◌, length, codes}

base_small : {ts rest : List Token} {b : TypeBase} {p : Place} → IsBase ts rest b p → suc (length rest) ≤ length ts
base_small int_base = omega arith
base_small boolean_base = omega arith
base_small char_base = omega arith
base_small named_base = omega arith

dims_small : {ts rest : List Token} {d : ℕ} → IsDims ts rest d → length rest ≤ length ts
dims_small no_dims = omega arith
dims_small (one_dim p q d) = omega (arith, dims_small d)

type_small : {ts rest : List Token} {t : TypeName} → IsType ts rest t → suc (length rest) ≤ length ts
type_small (a_type b d) = omega (arith, base_small b, dims_small d)

mutual
  expr_small : {l : ℕ} {ts rest : List Token} {e : Expression} → IsExpr l ts rest e → expr_size e + length rest ≤ length ts
  expr_small (binary a b d e) = omega (arith, expr_small d, expr_small e)
  expr_small (instance_of a d) = omega (arith, expr_small d)
  expr_small (operand d) = prefixed_small d

  prefixed_small : {ts rest : List Token} {e : Expression} → IsPrefixed ts rest e → expr_size e + length rest ≤ length ts
  prefixed_small (signed h d) = omega (arith, prefixed_small d)
  prefixed_small least = omega arith
  prefixed_small (cast_named h d) = omega (arith, prefixed_small d)
  prefixed_small (cast_int d) = omega (arith, prefixed_small d)
  prefixed_small (cast_char d) = omega (arith, prefixed_small d)
  prefixed_small (bare d) = post_small d

  post_small : {b : Bool} {ts rest : List Token} {e : Expression} → IsPost b ts rest e → expr_size e + length rest ≤ length ts
  post_small (field d) = omega (arith, post_small d)
  post_small (call_on d a) = omega (arith, post_small d, args_small a)
  post_small (index d i) = omega (arith, post_small d, expr_small i)
  post_small int_literal = omega arith
  post_small char_literal = omega arith
  post_small string_literal = omega arith
  post_small true_literal = omega arith
  post_small false_literal = omega arith
  post_small null_literal = omega arith
  post_small this_word = omega arith
  post_small name = omega arith
  post_small (call a) = omega (arith, args_small a)
  post_small (super_call a) = omega (arith, args_small a)
  post_small (round d) = omega (arith, expr_small d)
  post_small (new_object a) = omega (arith, args_small a)
  post_small (new_array b e d) = omega (arith, base_small b, expr_small e, dims_small d)

  args_small : {ts rest : List Token} {es : Expressions} → IsArgs ts rest es → exprs_size es + length rest ≤ length ts
  args_small no_args = omega arith
  args_small (some_args d m) = omega (arith, expr_small d, more_small m)

  more_small : {ts rest : List Token} {es : Expressions} → IsMoreArgs ts rest es → exprs_size es + length rest ≤ length ts
  more_small last_arg = omega arith
  more_small (next_arg d m) = omega (arith, expr_small d, more_small m)

value_small : {ts rest : List Token} {v : Option Expression} → IsValue ts rest v → value_size v + length rest ≤ length ts
value_small no_value = omega arith
value_small (a_value d) = expr_small d

init_small : {ts rest : List Token} {v : Option Expression} → IsInit ts rest v → value_size v + length rest ≤ length ts
init_small no_init = omega arith
init_small (an_init d) = omega (arith, expr_small d)

final_small : {ts rest : List Token} {f : Bool} → IsFinal ts rest f → length rest ≤ length ts
final_small not_final = omega arith
final_small is_final = omega arith

local_small : {ts rest : List Token} {s : Statement} → IsLocal ts rest s → stmt_size s + length rest ≤ length ts
local_small (a_local f t i) = omega (arith, final_small f, type_small t, init_small i)

target_small : {ts rest : List Token} {e : Expression} → IsTarget ts rest e → expr_size e + length rest ≤ length ts
target_small to_name = omega arith
target_small (to_field d) = omega (arith, post_small d)
target_small (to_index d i) = omega (arith, post_small d, expr_small i)

call_small : {ts rest : List Token} {e : Expression} → IsCall ts rest e → suc (expr_size e + length rest) ≤ length ts
call_small (plain_call a) = omega (arith, args_small a)
call_small (call_upon d a) = omega (arith, post_small d, args_small a)
call_small (call_above a) = omega (arith, args_small a)

args_printed : (n : List ℕ) (es : Expressions) (l : Bool) (v : Option Expression) → printed_args n es ≡ Some (l, v) → value_size v ≤ exprs_size es
args_printed n no_more l v h = bool_cases (is_called n (codes "println"))
    (λ yes. let g = rw yes at h in let e : ◌≡◌ {A = Bool × Option Expression} (true, None) (l, v) = cc in subst
    (λ (x : Bool × Option Expression). value_size x.1 ≤ 0) e (omega arith))
    (λ no. let g = rw no at h in cc)
args_printed n (and_more e no_more) l v h = bool_cases (is_called n (codes "println"))
    (λ yes. let g = rw yes at h in let f : ◌≡◌ {A = Bool × Option Expression} (true, Some e) (l, v) = cc in subst
    (λ (x : Bool × Option Expression). value_size x.1 ≤ expr_size e + 0) f (omega arith))
    (λ no. let g = rw no at h in bool_cases (is_called n (codes "print"))
    (λ yes. let k = rw yes at g in let f : ◌≡◌ {A = Bool × Option Expression} (false, Some e) (l, v) = cc in subst
    (λ (x : Bool × Option Expression). value_size x.1 ≤ expr_size e + 0) f (omega arith))
    (λ no2. let k = rw no2 at g in cc))
args_printed n (and_more e (and_more f es)) l v h = cc

by_printed : (e : Expression) (l : Bool) (v : Option Expression) → printed_by e ≡ Some (l, v) → value_size v ≤ expr_size e
by_printed (CallOn b n es p) l v h = bool_cases (is_out b)
    (λ yes. let g = rw yes at h in omega (arith, args_printed n es l v g))
    (λ no. let g = rw no at h in cc)
by_printed _ l v h = cc

printed_small : (ts : List Token) (e : Expression) (l : Bool) (v : Option Expression) → printed ts e ≡ Some (l, v) → value_size v ≤ expr_size e
printed_small [] e l v h = cc
printed_small (t ∷ ts) e l v h = bool_cases (is_word t.kind)
    (λ yes. let g = rw yes at h in by_printed e l v g)
    (λ no. let g = rw no at h in cc)

act_small : {ts rest : List Token} {s : Statement} → IsAct ts rest s → stmt_size s + 4 * length rest ≤ 4 * length ts
act_small (assign t e) = omega (arith, target_small t, expr_small e)
act_small (assign_by h e) = omega (arith, expr_small e)
act_small (step_after h) = omega arith
act_small (step_before h) = omega arith
act_small (do_call c h) = omega (arith, call_small c)
act_small (print {e = e} {l = l} {v = v} {ts = ts} c h) = omega (arith, call_small c, printed_small ts e l v h)
act_small (do_new a) = omega (arith, args_small a)

first_small : {ts rest : List Token} {o : OptionalStatement} → IsForFirst ts rest o → step_size o + 4 * length rest ≤ 4 * length ts
first_small no_first = omega arith
first_small (first_local d) = omega (arith, local_small d)
first_small (first_act d) = act_small d

step_small : {ts rest : List Token} {o : OptionalStatement} → IsForStep ts rest o → step_size o + 4 * length rest ≤ 4 * length ts
step_small no_step = omega arith
step_small (a_step d) = act_small d

body_small : (s : Statement) → stmts_size (as_body s) ≤ stmt_size s
body_small (BlockOf ss p) = omega arith
body_small (LocalOf f t n v p) = omega arith
body_small (AssignOf t v p) = omega arith
body_small (DoOf c p) = omega arith
body_small (PrintOf l v p) = omega arith
body_small (IfOf a o p) = omega arith
body_small (WhileOf t ss p) = omega arith
body_small (ForOf f t g ss p) = omega arith
body_small (ReturnOf v p) = omega arith
body_small (BreakOf p) = omega arith
body_small (ContinueOf p) = omega arith

mutual
  item_small : {ts rest : List Token} {s : Statement} → IsItem ts rest s → stmt_size s + 4 * length rest ≤ 4 * length ts
  item_small (local_item d) = omega (arith, local_small d)
  item_small (stmt_item d) = stmt_small d

  items_small : {ts rest : List Token} {ss : Statements} → IsItems ts rest ss → stmts_size ss + 4 * length rest + 4 ≤ 4 * length ts
  items_small no_items = omega arith
  items_small (next_item d ds) = omega (arith, item_small d, items_small ds)

  stmt_small : {o : Bool} {ts rest : List Token} {s : Statement} → IsStmt o ts rest s → stmt_size s + 4 * length rest ≤ 4 * length ts
  stmt_small (block d) = omega (arith, items_small d)
  stmt_small empty = omega arith
  stmt_small (acting d) = omega (arith, act_small d)
  stmt_small (choice d) = omega (arith, arms_small d)
  stmt_small (while_loop {s = s} e d) = omega (arith, expr_small e, stmt_small d, body_small s)
  stmt_small (for_loop {s = s} a b c d) = omega (arith, first_small a, value_small b, step_small c, stmt_small d, body_small s)
  stmt_small (return_word v) = omega (arith, value_small v)
  stmt_small break_word = omega arith
  stmt_small continue_word = omega arith

  arms_small : {o : Bool} {ts rest : List Token} {a : Arms} {l : Else} → IsArms o ts rest a l → arms_size a + else_size l + 4 * length rest ≤ 4 * length ts
  arms_small (last_arm {s = s} e d) = omega (arith, expr_small e, stmt_small d, body_small s)
  arms_small (else_arm {s = s} {t = t} e d u n) = omega (arith, expr_small e, stmt_small d, stmt_small u, body_small s, body_small t)
  arms_small (more_arms {s = s} e d r) = omega (arith, expr_small e, stmt_small d, arms_small r, body_small s)

mods_small : {ts rest : List Token} {ms : List Modifier} → IsMods ts rest ms → length rest ≤ length ts
mods_small no_mods = omega arith
mods_small (next_mod m d) = omega (arith, mods_small d)

ids_small : {ts rest : List Token} {is : List Id} → IsIds ts rest is → length rest ≤ length ts
ids_small last_id = omega arith
ids_small (next_id d) = omega (arith, ids_small d)

parent_small : {ts rest : List Token} {c : Option Id} → IsParent ts rest c → length rest ≤ length ts
parent_small no_parent = omega arith
parent_small a_parent = omega arith

list_small : {k : Keyword} {ts rest : List Token} {is : List Id} → IsList k ts rest is → length rest ≤ length ts
list_small no_list = omega arith
list_small (a_list d) = omega (arith, ids_small d)

param_small : {ts rest : List Token} {q : Param} → IsParam ts rest q → length rest ≤ length ts
param_small (a_param f t) = omega (arith, final_small f, type_small t)

more_params_small : {ts rest : List Token} {qs : List Param} → IsMoreParams ts rest qs → length rest ≤ length ts
more_params_small last_param = omega arith
more_params_small (next_param a d) = omega (arith, param_small a, more_params_small d)

params_small : {ts rest : List Token} {qs : List Param} → IsParams ts rest qs → length rest ≤ length ts
params_small no_params = omega arith
params_small (some_params a d) = omega (arith, param_small a, more_params_small d)

result_small : {ts rest : List Token} {t : Option TypeName} → IsResult ts rest t → length rest ≤ length ts
result_small no_result = omega arith
result_small (a_result t) = omega (arith, type_small t)

head_small : {ts rest : List Token} {h : HeadTree} → IsHead ts rest h → suc (length rest) ≤ length ts
head_small (a_head m r ps) = omega (arith, mods_small m, result_small r, params_small ps)

up_small : {ts rest : List Token} {u : Option Expressions} → IsUp ts rest u → up_size u + length rest ≤ length ts
up_small no_up = omega arith
up_small (an_up a) = omega (arith, args_small a)

member_small : {ts rest : List Token} {m : MemberTree} → IsMember ts rest m → member_size m + 4 * length rest ≤ 4 * length ts
member_small (a_field m t) = omega (arith, mods_small m, type_small t)
member_small (a_method h no_body) = omega (arith, head_small h)
member_small (a_method h (a_body d)) = omega (arith, head_small h, items_small d)
member_small (a_maker m ps u d) = omega (arith, mods_small m, params_small ps, up_small u, items_small d)

members_small : {ts rest : List Token} {bs : List MemberTree} → IsMembers ts rest bs → members_size bs + 4 * length rest + 4 ≤ 4 * length ts
members_small no_members = omega arith
members_small (next_member a d) = omega (arith, member_small a, members_small d)

heads_small : {ts rest : List Token} {hs : List HeadTree} → IsHeads ts rest hs → heads_size hs + 4 * length rest + 4 ≤ 4 * length ts
heads_small no_heads = omega arith
heads_small (next_head a d) = omega (arith, head_small a, heads_small d)

decl_small : {ts rest : List Token} {d : DeclTree} → IsDecl ts rest d → decl_size d + 4 * length rest ≤ 4 * length ts
decl_small (a_class m p l bs) = omega (arith, mods_small m, parent_small p, list_small l, members_small bs)
decl_small (an_interface m l hs) = omega (arith, mods_small m, list_small l, heads_small hs)

pub program_small : {ts : List Token} {ds : List DeclTree} → IsPlaced ts ds → tree_size ds ≤ 4 * length ts
program_small no_decls = omega arith
program_small (next_decl a d) = omega (arith, decl_small a, program_small d)
