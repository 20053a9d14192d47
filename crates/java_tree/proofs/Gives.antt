-- A tree that the grammar gives is formed.
use Rattle.std.proofs.Common.{◌≡◌, ℕ, ◌<◌, ◌||◌, Bool, true, false, List, [], ◌∷◌, Option, Some, None, refl, subst, arith, codes, is_some, if◌then◌else◌}
use Rattle.java_lex.specs.declared.Token.{Token}
use Rattle.java_lex.specs.Writable.{AllWritable}
use Rattle.java_lex.proofs.Written.{text_good}
use Rattle.kaba_base.specs.declared.Place.{Place}
use Rattle.kaba_base.specs.declared.Keyword.{Keyword}
use Rattle.java_lex.specs.declared.Mark.{Mark}
use Rattle.java_lex.specs.declared.Mark.TheVariants as marks
use Rattle.java_tree.specs.declared.Id.{Id}
use Rattle.java_tree.specs.declared.Modifier.{Modifier}
use Rattle.java_tree.specs.declared.TypeBase.{TypeBase}
use Rattle.java_tree.specs.declared.TypeName.{TypeName}
use Rattle.java_tree.specs.declared.Param.{Param}
use Rattle.java_tree.specs.Syntax.{Expression, CallOn, Expressions, no_more, and_more, Statement, LocalOf, BlockOf, Statements, Arms, Else, OptionalStatement, HeadTree, MemberTree, DeclTree}
use Rattle.java_tree.specs.Places.{expr_unplaced, exprs_unplaced, value_unplaced, stmt_unplaced, stmts_unplaced, arms_unplaced, else_unplaced, step_unplaced, all_unplaced, may_unplaced, id_unplaced, modifier_unplaced, type_unplaced, param_unplaced, head_unplaced, member_unplaced, decl_unplaced, unplaced}
use Rattle.java_tree.specs.Tokens.{level}
use Rattle.java_tree.specs.Formed.{a_small, the_least, IsFormedBase, is_target, is_call, IsFormedExpression, AreFormed, IsFormedValue, is_act, is_simple, has_arm, IsFormedStmt, AreFormedStmts, AreFormedArms, IsFormedElse, IsFormedFirst, IsFormedStep, Each, IsFormedMod, IsFormedId, IsFormedParam, IsFormedResult, IsFormedHead, IsFormedBody, IsFormedUp, IsFormedMember, IsFormedParent, IsFormedDecl, IsFormedTree}
use Rattle.java_tree.specs.Tokens.{compound, stepping}
use Rattle.java_tree.specs.Expressions.{IsBase, int_base, boolean_base, char_base, named_base, IsDims, no_dims, one_dim, IsType, a_type, IsExpr, binary, instance_of, operand, IsPrefixed, signed, least, cast_named, cast_int, cast_char, bare, IsPost, field, call_on, index, int_literal, char_literal, string_literal, true_literal, false_literal, null_literal, this_word, name, call, super_call, round, new_object, new_array, IsArgs, no_args, some_args, IsMoreArgs, last_arg, next_arg}
use Rattle.java_tree.specs.Statements.{is_called, is_out, as_body, printed_args, printed_by, is_word, printed, IsFinal, not_final, is_final, IsValue, no_value, a_value, IsInit, no_init, an_init, IsLocal, a_local, IsTarget, to_name, to_field, to_index, IsCall, plain_call, call_upon, call_above, IsAct, assign, assign_by, step_after, step_before, do_call, print, do_new, IsForFirst, no_first, first_local, first_act, IsForStep, no_step, a_step, IsItem, local_item, stmt_item, IsItems, no_items, next_item, IsStmt, block, empty, acting, choice, while_loop, for_loop, return_word, break_word, continue_word, IsArms, last_arm, else_arm, more_arms}
use Rattle.java_tree.specs.Declarations.{IsMods, no_mods, next_mod, IsIds, last_id, next_id, IsParent, no_parent, a_parent, IsList, no_list, a_list, IsParam, a_param, IsMoreParams, last_param, next_param, IsParams, no_params, some_params, IsResult, no_result, a_result, IsHead, a_head, IsBody, no_body, a_body, IsUp, no_up, an_up, IsMember, a_field, a_method, a_maker, IsMembers, no_members, next_member, IsHeads, no_heads, next_head, IsDecl, a_class, an_interface, IsPlaced, no_decls, next_decl}
use Rattle.java_tree.specs.Formed.{IsGiven}

-- what holds of a part of the text, and that the rest can be written too
abbrev And : Type 0 → List Token → Type 0
And F rest = F × AllWritable rest

base : {ts rest : List Token} {b : TypeBase} {p : Place} → IsBase ts rest b p → AllWritable ts → And (IsFormedBase b) rest
base int_base w = (tt, w.1)
base boolean_base w = (tt, w.1)
base char_base w = (tt, w.1)
base named_base w = (w.0, w.1)

dims : {ts rest : List Token} {d : ℕ} → IsDims ts rest d → AllWritable ts → AllWritable rest
dims no_dims w = w
dims (one_dim p q d) w = dims d w.1.1

a_formed_type : {ts rest : List Token} {t : TypeName} → IsType ts rest t → AllWritable ts → And (IsFormedBase t.base) rest
a_formed_type (a_type b d) w = let x = base b w in (x.0, dims d x.1)

mutual
  pub expr : {l : ℕ} {ts rest : List Token} {e : Expression} → IsExpr l ts rest e → AllWritable ts → And (IsFormedExpression (expr_unplaced e)) rest
  expr (binary h i a b) w = let x = expr a w in let y = expr b x.1.1 in ((h, x.0, y.0), y.1)
  expr (instance_of h a) w = let x = expr a w in ((x.0, x.1.1.0), x.1.1.1)
  expr (operand d) w = prefixed d w

  prefixed : {ts rest : List Token} {e : Expression} → IsPrefixed ts rest e → AllWritable ts → And (IsFormedExpression (expr_unplaced e)) rest
  prefixed (signed h d) w = let x = prefixed d w.1 in ((h, x.0), x.1)
  prefixed least w = (the_least, w.1.1)
  prefixed (cast_named h d) w = let x = prefixed d w.1.1.1 in ((w.1.0, refl, x.0), x.1)
  prefixed (cast_int d) w = let x = prefixed d w.1.1.1 in ((tt, refl, x.0), x.1)
  prefixed (cast_char d) w = let x = prefixed d w.1.1.1 in ((tt, refl, x.0), x.1)
  prefixed (bare d) w = post d w

  post : {b : Bool} {ts rest : List Token} {e : Expression} → IsPost b ts rest e → AllWritable ts → And (IsFormedExpression (expr_unplaced e)) rest
  post (field d) w = let x = post d w in ((x.0, x.1.1.0), x.1.1.1)
  post (call_on d a) w = let x = post d w in let y = args a x.1.1.1.1 in ((x.0, x.1.1.0, y.0), y.1)
  post (index d i) w = let x = post d w in let y = expr i x.1.1 in ((x.0, y.0), y.1.1)
  post int_literal w = (a_small w.0, w.1)
  post char_literal w = (w.0, w.1)
  post string_literal w = (w.0, w.1)
  post true_literal w = (tt, w.1)
  post false_literal w = (tt, w.1)
  post null_literal w = (tt, w.1)
  post this_word w = (tt, w.1)
  post name w = (w.0, w.1)
  post (call a) w = let y = args a w.1.1 in ((w.0, y.0), y.1)
  post (super_call a) w = let y = args a w.1.1.1.1 in ((w.1.1.0, y.0), y.1)
  post (round d) w = let x = expr d w.1 in (x.0, x.1.1)
  post (new_object a) w = let y = args a w.1.1.1 in ((w.1.0, y.0), y.1)
  post (new_array {d = d} b e k) w = let x = base b w.1 in let y = expr e x.1.1 in ((x.0, omega arith, y.0), dims k y.1.1)

  args : {ts rest : List Token} {es : Expressions} → IsArgs ts rest es → AllWritable ts → And (AreFormed (exprs_unplaced es)) rest
  args no_args w = (tt, w.1)
  args (some_args d m) w = let x = expr d w in let y = more m x.1 in ((x.0, y.0), y.1)

  more : {ts rest : List Token} {es : Expressions} → IsMoreArgs ts rest es → AllWritable ts → And (AreFormed (exprs_unplaced es)) rest
  more last_arg w = (tt, w.1)
  more (next_arg d m) w = let x = expr d w.1 in let y = more m x.1 in ((x.0, y.0), y.1)

value : {ts rest : List Token} {v : Option Expression} → IsValue ts rest v → AllWritable ts → And (IsFormedValue (value_unplaced v)) rest
value no_value w = (tt, w)
value (a_value d) w = expr d w

init : {ts rest : List Token} {v : Option Expression} → IsInit ts rest v → AllWritable ts → And (IsFormedValue (value_unplaced v)) rest
init no_init w = (tt, w)
init (an_init d) w = expr d w.1

final : {ts rest : List Token} {f : Bool} → IsFinal ts rest f → AllWritable ts → AllWritable rest
final not_final w = w
final is_final w = w.1

abbrev Simple : Statement → Type 0
Simple s = (is_simple (stmt_unplaced s) ≡ true) × IsFormedStmt (stmt_unplaced s)

abbrev Acting : Statement → Type 0
Acting s = (is_act (stmt_unplaced s) ≡ true) × IsFormedStmt (stmt_unplaced s)

local : {ts rest : List Token} {s : Statement} → IsLocal ts rest s → AllWritable ts → And (Simple s) rest
local (a_local f t v) w = let x = a_formed_type t (final f w) in let y = init v x.1.1 in ((refl, (x.0, x.1.0, y.0)), y.1)

target : {ts rest : List Token} {t : Expression} → IsTarget ts rest t → AllWritable ts
    → And ((is_target (expr_unplaced t) ≡ true) × IsFormedExpression (expr_unplaced t)) rest
target to_name w = ((refl, w.0), w.1)
target (to_field d) w = let x = post d w in ((refl, (x.0, x.1.1.0)), x.1.1.1)
target (to_index d i) w = let x = post d w in let y = expr i x.1.1 in ((refl, (x.0, y.0)), y.1.1)

a_call : {ts rest : List Token} {e : Expression} → IsCall ts rest e → AllWritable ts
    → And ((is_call (expr_unplaced e) ≡ true) × IsFormedExpression (expr_unplaced e)) rest
a_call (plain_call a) w = let y = args a w.1.1 in ((refl, (w.0, y.0)), y.1)
a_call (call_upon d a) w = let x = post d w in let y = args a x.1.1.1.1 in ((refl, (x.0, x.1.1.0, y.0)), y.1)
a_call (call_above a) w = let y = args a w.1.1.1.1 in ((refl, (w.1.1.0, y.0)), y.1)

compound_level : (m o : Mark) → compound m ≡ Some o → 0 < level o
compound_level marks.PlusAssign o h = let e : marks.Plus ≡ o = cc in subst (λ k. 0 < level k) e (omega arith)
compound_level marks.MinusAssign o h = let e : marks.Minus ≡ o = cc in subst (λ k. 0 < level k) e (omega arith)
compound_level marks.StarAssign o h = let e : marks.Star ≡ o = cc in subst (λ k. 0 < level k) e (omega arith)
compound_level marks.SlashAssign o h = let e : marks.Slash ≡ o = cc in subst (λ k. 0 < level k) e (omega arith)
compound_level marks.PercentAssign o h = let e : marks.Percent ≡ o = cc in subst (λ k. 0 < level k) e (omega arith)
compound_level _ o h = cc

stepping_level : (m o : Mark) → stepping m ≡ Some o → 0 < level o
stepping_level marks.PlusPlus o h = let e : marks.Plus ≡ o = cc in subst (λ k. 0 < level k) e (omega arith)
stepping_level marks.MinusMinus o h = let e : marks.Minus ≡ o = cc in subst (λ k. 0 < level k) e (omega arith)
stepping_level _ o h = cc

-- what a printing prints
abbrev Printed : Bool × Option Expression → Type 0
Printed x = ((x.0 || is_some (value_unplaced x.1)) ≡ true) × IsFormedValue (value_unplaced x.1)

guard_some : {A : Type 0} (b : Bool) (o : Option A) (x : A) → (if b then o else None) ≡ Some x → o ≡ Some x
guard_some true o x h = h
guard_some false o x h = cc

one_test : (b : Bool) (x z : Bool × Option Expression) → (if b then Some x else None) ≡ Some z → Printed x → Printed z
one_test true x z h f = let e : x ≡ z = cc in subst Printed e f
one_test false x z h f = cc

two_tests : (a b : Bool) (x y z : Bool × Option Expression) → (if a then Some x else if b then Some y else None) ≡ Some z → Printed x → Printed y → Printed z
two_tests true b x y z h f g = let e : x ≡ z = cc in subst Printed e f
two_tests false b x y z h f g = one_test b y z h g

printed_formed : (n : List ℕ) (es : Expressions) (z : Bool × Option Expression) → printed_args n es ≡ Some z → AreFormed (exprs_unplaced es) → Printed z
printed_formed n no_more z h f = one_test (is_called n (codes "println")) (true, None) z h (refl, tt)
printed_formed n (and_more e no_more) z h f = two_tests (is_called n (codes "println")) (is_called n (codes "print")) (true, Some e) (false, Some e) z
    h (refl, f.0) (refl, f.0)
printed_formed n (and_more e (and_more k es)) z h f = cc

printing : (e : Expression) (z : Bool × Option Expression) → printed_by e ≡ Some z → IsFormedExpression (expr_unplaced e) → Printed z
printing (CallOn b n es r) z h f = printed_formed n es z (guard_some (is_out b) (printed_args n es) z h) f.2
printing _ z h f = cc

printed_is : (ts : List Token) (e : Expression) (z : Bool × Option Expression) → printed ts e ≡ Some z → printed_by e ≡ Some z
printed_is [] e z h = cc
printed_is (t ∷ ts) e z h = guard_some (is_word t.kind) (printed_by e) z h

act : {ts rest : List Token} {s : Statement} → IsAct ts rest s → AllWritable ts → And (Acting s) rest
act (assign t v) w = let x = target t w in let y = expr v x.1.1 in ((refl, (x.0.0, x.0.1, y.0)), y.1)
act (assign_by {m = m} {o = o} h d) w = let y = expr d w.1.1 in ((refl, (refl, w.0, (compound_level m o h, w.0, y.0))), y.1)
act (step_after {m = m} {o = o} h) w = ((refl, (refl, w.0, (stepping_level m o h, w.0, a_small (record { value = 1; is = refl; small = omega arith })))), w.1.1)
act (step_before {m = m} {o = o} h) w =
    ((refl, (refl, w.1.0, (stepping_level m o h, w.1.0, a_small (record { value = 1; is = refl; small = omega arith })))), w.1.1)
act (do_call c h) w = let x = a_call c w in ((refl, x.0), x.1)
act (print {e = e} {l = l} {v = v} {ts = ts} c h) w = let x = a_call c w in ((refl, printing e (l, v) (printed_is ts e (l, v) h) x.0.1), x.1)
act (do_new a) w = let y = args a w.1.1.1 in ((refl, (refl, (w.1.0, y.0))), y.1)

act_simple : (s : Statement) → is_act s ≡ true → is_simple s ≡ true
act_simple (LocalOf f t n v p) h = refl
act_simple _ h = h

first : {ts rest : List Token} {f : OptionalStatement} → IsForFirst ts rest f → AllWritable ts → And (IsFormedFirst (step_unplaced f)) rest
first no_first w = (tt, w)
first (first_local d) w = local d w
first (first_act {s = s} d) w = let x = act d w in ((act_simple (stmt_unplaced s) x.0.0, x.0.1), x.1)

step : {ts rest : List Token} {g : OptionalStatement} → IsForStep ts rest g → AllWritable ts → And (IsFormedStep (step_unplaced g)) rest
step no_step w = (tt, w)
step (a_step d) w = act d w

body_formed : (s : Statement) → IsFormedStmt (stmt_unplaced s) → AreFormedStmts (stmts_unplaced (as_body s))
body_formed (BlockOf ss p) f = f
body_formed _ f = (f, tt)

mutual
  item : {ts rest : List Token} {s : Statement} → IsItem ts rest s → AllWritable ts → And (IsFormedStmt (stmt_unplaced s)) rest
  item (local_item d) w = let x = local d w in (x.0.1, x.1.1)
  item (stmt_item d) w = stmt d w

  pub items : {ts rest : List Token} {ss : Statements} → IsItems ts rest ss → AllWritable ts → And (AreFormedStmts (stmts_unplaced ss)) rest
  items no_items w = (tt, w.1)
  items (next_item d m) w = let x = item d w in let y = items m x.1 in ((x.0, y.0), y.1)

  stmt : {o : Bool} {ts rest : List Token} {s : Statement} → IsStmt o ts rest s → AllWritable ts → And (IsFormedStmt (stmt_unplaced s)) rest
  stmt (block d) w = items d w.1
  stmt empty w = (tt, w.1)
  stmt (acting d) w = let x = act d w in (x.0.1, x.1.1)
  stmt (choice d) w = arms d w.1
  stmt (while_loop {s = s} e b) w = let x = expr e w.1.1 in let y = stmt b x.1.1 in ((x.0, body_formed s y.0), y.1)
  stmt (for_loop {s = s} f v g b) w = let x = first f w.1.1 in let y = value v x.1.1 in let z = step g y.1.1 in let t = stmt b z.1.1 in
      ((x.0, y.0, z.0, body_formed s t.0), t.1)
  stmt (return_word v) w = let x = value v w.1 in (x.0, x.1.1)
  stmt break_word w = (tt, w.1.1)
  stmt continue_word w = (tt, w.1.1)

  arms : {o : Bool} {ts rest : List Token} {a : Arms} {l : Else} → IsArms o ts rest a l → AllWritable ts
      → And ((has_arm (arms_unplaced a) ≡ true) × AreFormedArms (arms_unplaced a) × IsFormedElse (else_unplaced l)) rest
  arms (last_arm {s = s} e b) w = let x = expr e w.1 in let y = stmt b x.1.1 in ((refl, (x.0, body_formed s y.0, tt), tt), y.1)
  arms (else_arm {s = s} {t = t} e b c h) w = let x = expr e w.1 in let y = stmt b x.1.1 in let z = stmt c y.1.1 in
      ((refl, (x.0, body_formed s y.0, tt), body_formed t z.0), z.1)
  arms (more_arms {s = s} e b c) w = let x = expr e w.1 in let y = stmt b x.1.1 in let z = arms c y.1.1.1 in
      ((refl, (x.0, body_formed s y.0, z.0.1), z.0.2), z.1)

mods : {ts rest : List Token} {ms : List Modifier} → IsMods ts rest ms → AllWritable ts → And (Each IsFormedMod (all_unplaced modifier_unplaced ms)) rest
mods no_mods w = (tt, w)
mods (next_mod h d) w = let x = mods d w.1 in ((h, x.0), x.1)

ids : {ts rest : List Token} {is : List Id} → IsIds ts rest is → AllWritable ts → And (Each IsFormedId (all_unplaced id_unplaced is)) rest
ids last_id w = ((w.0, tt), w.1)
ids (next_id d) w = let x = ids d w.1.1 in ((w.0, x.0), x.1)

parent : {ts rest : List Token} {c : Option Id} → IsParent ts rest c → AllWritable ts → And (IsFormedParent (may_unplaced id_unplaced c)) rest
parent no_parent w = (tt, w)
parent a_parent w = (w.1.0, w.1.1)

list : {k : Keyword} {ts rest : List Token} {is : List Id} → IsList k ts rest is → AllWritable ts → And (Each IsFormedId (all_unplaced id_unplaced is)) rest
list no_list w = (tt, w)
list (a_list d) w = ids d w.1

param : {ts rest : List Token} {q : Param} → IsParam ts rest q → AllWritable ts → And (IsFormedParam (param_unplaced q)) rest
param (a_param f t) w = let x = a_formed_type t (final f w) in ((x.0, x.1.0), x.1.1)

more_params : {ts rest : List Token} {qs : List Param} → IsMoreParams ts rest qs → AllWritable ts
    → And (Each IsFormedParam (all_unplaced param_unplaced qs)) rest
more_params last_param w = (tt, w.1)
more_params (next_param d m) w = let x = param d w.1 in let y = more_params m x.1 in ((x.0, y.0), y.1)

params : {ts rest : List Token} {qs : List Param} → IsParams ts rest qs → AllWritable ts → And (Each IsFormedParam (all_unplaced param_unplaced qs)) rest
params no_params w = (tt, w.1)
params (some_params d m) w = let x = param d w in let y = more_params m x.1 in ((x.0, y.0), y.1)

result : {ts rest : List Token} {t : Option TypeName} → IsResult ts rest t → AllWritable ts → And (IsFormedResult (may_unplaced type_unplaced t)) rest
result no_result w = (tt, w.1)
result (a_result d) w = a_formed_type d w

head : {ts rest : List Token} {h : HeadTree} → IsHead ts rest h → AllWritable ts → And (IsFormedHead (head_unplaced h)) rest
head (a_head m r q) w = let x = mods m w in let y = result r x.1 in let z = params q y.1.1.1 in ((x.0, y.0, y.1.0, z.0), z.1)

body : {ts rest : List Token} {b : Option Statements} → IsBody ts rest b → AllWritable ts → And (IsFormedBody (may_unplaced stmts_unplaced b)) rest
body no_body w = (tt, w.1)
body (a_body d) w = items d w.1

up : {ts rest : List Token} {u : Option Expressions} → IsUp ts rest u → AllWritable ts → And (IsFormedUp (may_unplaced exprs_unplaced u)) rest
up no_up w = (tt, w)
up (an_up a) w = let y = args a w.1.1 in (y.0, y.1.1)

member : {ts rest : List Token} {m : MemberTree} → IsMember ts rest m → AllWritable ts → And (IsFormedMember (member_unplaced m)) rest
member (a_field m t) w = let x = mods m w in let y = a_formed_type t x.1 in ((x.0, y.0, y.1.0), y.1.1.1)
member (a_method h b) w = let x = head h w in let y = body b x.1 in ((x.0, y.0), y.1)
member (a_maker m q u b) w = let x = mods m w in let y = params q x.1.1.1 in let z = up u y.1.1 in let v = items b z.1 in ((x.0, x.1.0, y.0, z.0, v.0), v.1)

members : {ts rest : List Token} {ms : List MemberTree} → IsMembers ts rest ms → AllWritable ts
    → And (Each IsFormedMember (all_unplaced member_unplaced ms)) rest
members no_members w = (tt, w.1)
members (next_member d m) w = let x = member d w in let y = members m x.1 in ((x.0, y.0), y.1)

heads : {ts rest : List Token} {hs : List HeadTree} → IsHeads ts rest hs → AllWritable ts → And (Each IsFormedHead (all_unplaced head_unplaced hs)) rest
heads no_heads w = (tt, w.1)
heads (next_head d m) w = let x = head d w in let y = heads m x.1.1 in ((x.0, y.0), y.1)

decl : {ts rest : List Token} {d : DeclTree} → IsDecl ts rest d → AllWritable ts → And (IsFormedDecl (decl_unplaced d)) rest
decl (a_class m c f b) w = let x = mods m w in let y = parent c x.1.1.1 in let z = list f y.1 in let v = members b z.1.1 in ((x.0, x.1.1.0, y.0, z.0, v.0), v.1)
decl (an_interface m f b) w = let x = mods m w in let z = list f x.1.1.1 in let v = heads b z.1.1 in ((x.0, x.1.1.0, z.0, v.0), v.1)

placed : {ts : List Token} {ds : List DeclTree} → IsPlaced ts ds → AllWritable ts → IsFormedTree (unplaced ds)
placed no_decls w = tt
placed (next_decl d m) w = let x = decl d w in (x.0, placed m x.1)

-- a tree that the grammar gives is formed
pub given_formed : (ds : List DeclTree) → IsGiven ds → IsFormedTree (unplaced ds)
given_formed ds g = subst IsFormedTree g.read.derived.same (placed g.read.derived.derived (text_good g.bytes g.read.tokens g.read.lexed))
