-- Each part leaves no more tokens than it is given.
use Rattle.std.proofs.Common.{◌≡◌, ℕ, suc, ◌<◌, ◌≤◌, List, [], ◌∷◌, length, Some, None, refl, sym, subst, arith}
use Rattle.kaba_base.specs.declared.Place.{Place}
use Rattle.kaba_base.specs.declared.words.Keyword.{Keyword}
use Rattle.kaba_base.specs.declared.words.Keyword.TheVariants as keys
use Rattle.java_lex.specs.declared.Token.{Token}
use Rattle.java_lex.specs.declared.TokenKind.{TokenKind}
use Rattle.java_lex.specs.declared.TokenKind.TheVariants as kinds
use Rattle.java_lex.specs.declared.Mark.{Mark}
use Rattle.java_lex.specs.declared.Mark.TheVariants as marks
use Rattle.java_lex.specs.Lexing.{token}
use Rattle.java_tree.specs.declared.Modifier.{Modifier}
use Rattle.java_tree.specs.declared.TypeName.{TypeName}
use Rattle.java_tree.specs.Syntax.{Expression, Statement, MemberTree, absent}
use Rattle.java_tree.specs.Tokens.{mark, casts}
use Rattle.java_parse.specs.Want.{Want, NPrefixed, NPost, ReadStep, NExpr, NMore, NAtom, NSuper, NNew, NSized, NDims, NType, NTail, NArgs, NMoreArgs, NInit, NLocal, NValue, NAct, NActRest, NTested, NItem, NItems, NStmt, NForHead, NFirst, NStep, NBranches, NMods, NIds, NParent, NList, NParam, NParams, NMoreParams, NResult, NHead, NBody, NMember, NTyped, NMethod, NMaker, NMakerBody, NMembers, NHeads, NClass, NInterface, NDecl, NDecls}
use Rattle.java_parse.specs.Front.{after, word_next, maker_next, up_next, opens_behind, cast_by, cast_end, starts_local}
use Rattle.java_parse.specs.Reading.{body}
use Rattle.java_parse.specs.ReadExpressions.{prefixed_step}
use Rattle.java_parse.specs.ReadStatements.{item_step, first_step, stmt_step}
use Rattle.java_parse.specs.ReadDeclarations.{member_step, maker_body_step}
use Rattle.java_parse.proofs.Fronts.{option_cases, bool_cases, maker_is, up_is}
use Rattle.java_parse.proofs.Leaves.{Leaves, on_option}
use Rattle.java_parse.proofs.Looks.{look_shorter, a_mark, a_word, an_opened}
use Rattle.java_parse.proofs.Plans.{Plan, Giving, Peeking, Testing, steps, leaves}
use Rattle.java_parse.proofs.ExpressionPlans.{minus_plan, operand_plan, opened_plan, casted_plan, bare_plan, args_plan, atom_plan, dims_plan, expr_plan, more_args_plan, more_plan, new_plan, post_plan, sized_plan, super_plan, tail_plan, type_plan}
use Rattle.java_parse.proofs.StatementPlans.{local_item_plan, stmt_item_plan, first_local_plan, first_act_plan, block_plan, empty_plan, if_plan, while_plan, for_plan, return_plan, break_plan, continue_plan, acting_plan, act_plan, act_rest_plan, branches_plan, for_head_plan, init_plan, items_plan, local_plan, step_plan, tested_plan, value_plan}
use Rattle.java_parse.proofs.DeclarationPlans.{body_plan, class_plan, decl_plan, decls_plan, head_plan, heads_plan, ids_plan, interface_plan, list_plan, as_maker_plan, as_typed_plan, typed_plan, maker_plan, up_plan, plain_plan, members_plan, method_plan, mods_plan, more_params_plan, param_plan, params_plan, parent_plan, result_type_plan}

-- behind a round bracket at p that opens no cast to `int` or `char`: a cast to a name, or an expression in brackets
abbrev pub cast_or : Place → List Token → ReadStep Expression
cast_or p xs = elim (cast_by p (word_next xs)) [
  | Some w ↦ steps (casted_plan w.0 w.1) w.2
  | None ↦ steps bare_plan (mark marks.OpenRound p ∷ xs)
]

pub end_shorter : (n : List ℕ) (q p : Place) (us : List Token) (w : TypeName × Place × List Token) → cast_end n q p (after marks.CloseRound us) ≡ Some w
    → length w.2 < length us
end_shorter n q p us w h = option_cases (after marks.CloseRound us)
    (λ no. let g = rw no at h in cc)
    (λ c yes. let g = rw yes at h in let lt = look_shorter (a_mark marks.CloseRound) us c yes in bool_cases (casts c.1)
    (λ y. let k = rw y at g in let e : c.1 ≡ w.2 = cc in subst (λ (r : List Token). length r < length us) e lt)
    (λ n. let k = rw n at g in cc))

pub cast_shorter : (p : Place) (xs : List Token) (w : TypeName × Place × List Token) → cast_by p (word_next xs) ≡ Some w → length w.2 < length xs
cast_shorter p xs w h = option_cases (word_next xs)
    (λ no. let g = rw no at h in cc)
    (λ b yes. let g = rw yes at h in let k = end_shorter b.0 b.1 p b.2 w g in let lt = look_shorter a_word xs b yes in omega (arith, k, lt))

pub cast_leaves : (n : ℕ) (p : Place) (xs : List Token) → length xs < n → Leaves n (cast_or p xs)
cast_leaves n p xs h = on_option (Leaves n) (cast_by p (word_next xs)) (λ w. steps (casted_plan w.0 w.1) w.2) (steps bare_plan (mark marks.OpenRound p ∷ xs))
    (λ no. leaves bare_plan n (mark marks.OpenRound p ∷ xs) (omega (arith, h)))
    (λ w yes. leaves (casted_plan w.0 w.1) n w.2 (let lt = cast_shorter p xs w yes in omega (arith, h, lt)))

opened_leaves : (p : Place) (xs : List Token) → Leaves (suc (length xs)) (prefixed_step (mark marks.OpenRound p ∷ xs))
opened_leaves p xs = on_option (Leaves (suc (length xs))) (opens_behind p xs) (λ w. steps (opened_plan w.0 w.1) w.2) (cast_or p xs)
    (λ no. cast_leaves (suc (length xs)) p xs (omega arith))
    (λ w yes. leaves (opened_plan w.0 w.1) (suc (length xs)) w.2 (let lt = look_shorter (an_opened p) xs w yes in omega (arith, lt)))

prefixed_mark : (m : Mark) (p : Place) (xs : List Token) → Leaves (suc (length xs)) (prefixed_step (mark m p ∷ xs))
prefixed_mark marks.Minus p xs = leaves (minus_plan p) (suc (length xs)) xs (omega arith)
prefixed_mark marks.OpenRound p xs = opened_leaves p xs
prefixed_mark m p xs = leaves operand_plan (suc (length xs)) (mark m p ∷ xs) (omega arith)

prefixed_kind : (k : TokenKind) (p : Place) (xs : List Token) → Leaves (suc (length xs)) (prefixed_step (token k p ∷ xs))
prefixed_kind (kinds.Mark m) p xs = prefixed_mark m p xs
prefixed_kind k p xs = leaves operand_plan (suc (length xs)) (token k p ∷ xs) (omega arith)

prefixed_leaves : (ts : List Token) → Leaves (length ts) (prefixed_step ts)
prefixed_leaves [] = leaves operand_plan 0 [] (omega arith)
prefixed_leaves (x ∷ xs) = prefixed_kind x.kind x.place xs

item_leaves : (ts : List Token) → Leaves (length ts) (item_step ts)
item_leaves ts = leaves (Testing (starts_local ts) local_item_plan stmt_item_plan) (length ts) ts (omega arith)

first_leaves : (ts : List Token) → Leaves (length ts) (first_step ts)
first_leaves ts = leaves (Peeking (a_mark marks.Semi) (Giving absent) (Testing (starts_local ts) first_local_plan first_act_plan)) (length ts) ts (omega arith)

-- how a statement is read by its first token: behind it, or from it on
pub data Begun (k : TokenKind) (p : Place) : Type 1 where
  leads : (q : Plan Statement) → ((xs : List Token) → stmt_step (token k p ∷ xs) ≡ steps q xs) → Begun k p
  other : ((xs : List Token) → stmt_step (token k p ∷ xs) ≡ steps acting_plan (token k p ∷ xs)) → Begun k p

begun_mark : (m : Mark) (p : Place) → Begun (kinds.Mark m) p
begun_mark marks.OpenBrace p = leads (block_plan p) (λ xs. refl)
begun_mark marks.Semi p = leads (empty_plan p) (λ xs. refl)
begun_mark m p = other (λ xs. refl)

begun_key : (k : Keyword) (p : Place) → Begun (kinds.Key k) p
begun_key keys.If p = leads (if_plan p) (λ xs. refl)
begun_key keys.While p = leads (while_plan p) (λ xs. refl)
begun_key keys.For p = leads (for_plan p) (λ xs. refl)
begun_key keys.Return p = leads (return_plan p) (λ xs. refl)
begun_key keys.Break p = leads (break_plan p) (λ xs. refl)
begun_key keys.Continue p = leads (continue_plan p) (λ xs. refl)
begun_key k p = other (λ xs. refl)

pub begun : (k : TokenKind) (p : Place) → Begun k p
begun (kinds.Mark m) p = begun_mark m p
begun (kinds.Key k) p = begun_key k p
begun k p = other (λ xs. refl)

begun_leaves : (k : TokenKind) (p : Place) (xs : List Token) → Begun k p → Leaves (suc (length xs)) (stmt_step (token k p ∷ xs))
begun_leaves k p xs (leads q h) = subst (Leaves (suc (length xs))) (sym (h xs)) (leaves q (suc (length xs)) xs (omega arith))
begun_leaves k p xs (other h) = subst (Leaves (suc (length xs))) (sym (h xs)) (leaves acting_plan (suc (length xs)) (token k p ∷ xs) (omega arith))

stmt_leaves : (ts : List Token) → Leaves (length ts) (stmt_step ts)
stmt_leaves [] = leaves acting_plan 0 [] (omega arith)
stmt_leaves (x ∷ xs) = begun_leaves x.kind x.place xs (begun x.kind x.place)

-- a member behind its modifiers
abbrev pub made : List Modifier → List Token → ReadStep MemberTree
made ms ts = elim (maker_next ts) [
  | Some w ↦ steps (as_maker_plan ms w.0 w.1) w.2
  | None ↦ steps (as_typed_plan ms) ts
]

pub maker_shorter : (ts : List Token) (w : List ℕ × Place × List Token) → maker_next ts ≡ Some w → length w.2 < length ts
maker_shorter ts w h = let e = (maker_is ts w h).1 in rw e (omega arith)

pub made_leaves : (ms : List Modifier) (n : ℕ) (ts : List Token) → length ts ≤ n → Leaves n (made ms ts)
made_leaves ms n ts h = on_option (Leaves n) (maker_next ts) (λ w. steps (as_maker_plan ms w.0 w.1) w.2) (steps (as_typed_plan ms) ts)
    (λ no. leaves (as_typed_plan ms) n ts h)
    (λ w yes. leaves (as_maker_plan ms w.0 w.1) n w.2 (let lt = maker_shorter ts w yes in omega (arith, h, lt)))

member_leaves : (ts : List Token) → Leaves (length ts) (member_step ts)
member_leaves ts = (omega arith, λ v rest le. made_leaves v (length ts) rest le)

up_shorter : (ts : List Token) (w : Place × List Token) → up_next ts ≡ Some w → length w.1 < length ts
up_shorter ts w h = let e = (up_is ts w h).1 in rw e (omega arith)

maker_body_leaves : (ts : List Token) → Leaves (length ts) (maker_body_step ts)
maker_body_leaves ts = on_option (Leaves (length ts)) (up_next ts) (λ w. steps up_plan w.1) (steps plain_plan ts)
    (λ no. leaves plain_plan (length ts) ts (omega arith))
    (λ w yes. leaves up_plan (length ts) w.1 (let lt = up_shorter ts w yes in omega (arith, lt)))

pub part_leaves : (n : Want) (ts : List Token) → Leaves (length ts) (body n ts)
part_leaves (NExpr l) ts = leaves (expr_plan l) (length ts) ts (omega arith)
part_leaves (NMore l c e) ts = leaves (more_plan l c e) (length ts) ts (omega arith)
part_leaves NPrefixed ts = prefixed_leaves ts
part_leaves NPost ts = leaves post_plan (length ts) ts (omega arith)
part_leaves NAtom ts = leaves atom_plan (length ts) ts (omega arith)
part_leaves NSuper ts = leaves super_plan (length ts) ts (omega arith)
part_leaves (NNew p) ts = leaves (new_plan p) (length ts) ts (omega arith)
part_leaves (NSized p b q) ts = leaves (sized_plan p b q) (length ts) ts (omega arith)
part_leaves (NDims d) ts = leaves (dims_plan d) (length ts) ts (omega arith)
part_leaves NType ts = leaves type_plan (length ts) ts (omega arith)
part_leaves (NTail e z) ts = leaves (tail_plan e z) (length ts) ts (omega arith)
part_leaves NArgs ts = leaves args_plan (length ts) ts (omega arith)
part_leaves (NMoreArgs es) ts = leaves (more_args_plan es) (length ts) ts (omega arith)
part_leaves NInit ts = leaves init_plan (length ts) ts (omega arith)
part_leaves NLocal ts = leaves local_plan (length ts) ts (omega arith)
part_leaves NValue ts = leaves value_plan (length ts) ts (omega arith)
part_leaves NAct ts = leaves act_plan (length ts) ts (omega arith)
part_leaves (NActRest w p e z) ts = leaves (act_rest_plan w p e z) (length ts) ts (omega arith)
part_leaves NTested ts = leaves tested_plan (length ts) ts (omega arith)
part_leaves NItem ts = item_leaves ts
part_leaves (NItems ss) ts = leaves (items_plan ss) (length ts) ts (omega arith)
part_leaves NStmt ts = stmt_leaves ts
part_leaves NForHead ts = leaves for_head_plan (length ts) ts (omega arith)
part_leaves NFirst ts = first_leaves ts
part_leaves NStep ts = leaves step_plan (length ts) ts (omega arith)
part_leaves (NBranches a) ts = leaves (branches_plan a) (length ts) ts (omega arith)
part_leaves (NMods ms) ts = leaves (mods_plan ms) (length ts) ts (omega arith)
part_leaves (NIds is) ts = leaves (ids_plan is) (length ts) ts (omega arith)
part_leaves NParent ts = leaves parent_plan (length ts) ts (omega arith)
part_leaves (NList k) ts = leaves (list_plan k) (length ts) ts (omega arith)
part_leaves NParam ts = leaves param_plan (length ts) ts (omega arith)
part_leaves NParams ts = leaves params_plan (length ts) ts (omega arith)
part_leaves (NMoreParams qs) ts = leaves (more_params_plan qs) (length ts) ts (omega arith)
part_leaves NResult ts = leaves result_type_plan (length ts) ts (omega arith)
part_leaves NHead ts = leaves head_plan (length ts) ts (omega arith)
part_leaves NBody ts = leaves body_plan (length ts) ts (omega arith)
part_leaves NMember ts = member_leaves ts
part_leaves (NTyped ms) ts = leaves (typed_plan ms) (length ts) ts (omega arith)
part_leaves (NMethod ms t n p) ts = leaves (method_plan ms t n p) (length ts) ts (omega arith)
part_leaves (NMaker ms n p) ts = leaves (maker_plan ms n p) (length ts) ts (omega arith)
part_leaves NMakerBody ts = maker_body_leaves ts
part_leaves (NMembers bs) ts = leaves (members_plan bs) (length ts) ts (omega arith)
part_leaves (NHeads hs) ts = leaves (heads_plan hs) (length ts) ts (omega arith)
part_leaves (NClass ms) ts = leaves (class_plan ms) (length ts) ts (omega arith)
part_leaves (NInterface ms) ts = leaves (interface_plan ms) (length ts) ts (omega arith)
part_leaves NDecl ts = leaves decl_plan (length ts) ts (omega arith)
part_leaves (NDecls ds) ts = leaves (decls_plan ds) (length ts) ts (omega arith)
