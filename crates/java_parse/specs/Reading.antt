-- Mirror. Readings: what a part comes to from a list of tokens.
use Rattle.std.specs.Prelude.{List, Result, Ok, Err}
use Rattle.java_lex.specs.declared.Token.{Token}
use Rattle.java_parse.specs.Want.{Want, NExpr, NMore, NPrefixed, NPost, NAtom, NSuper, NNew, NSized, NDims, NType, NTail, NArgs, NMoreArgs, NInit, NLocal, NValue, NAct, NActRest, NTested, NItem, NItems, NStmt, NForHead, NFirst, NStep, NBranches, NMods, NIds, NParent, NList, NParam, NParams, NMoreParams, NResult, NHead, NBody, NMember, NTyped, NMethod, NMaker, NMakerBody, NMembers, NHeads, NClass, NInterface, NDecl, NDecls, Val, ReadStep, Give, Fail, Ask}
use Rattle.java_parse.specs.ReadExpressions.{expr_step, more_step, prefixed_step, post_step, atom_step, super_step, new_step, sized_step, dims_step, type_step, tail_step, args_step, more_args_step}
use Rattle.java_parse.specs.ReadStatements.{init_step, local_step, value_step, act_step, act_rest_step, tested_step, item_step, items_step, stmt_step, for_head_step, first_step, step_step, branches_step}
use Rattle.java_parse.specs.ReadDeclarations.{mods_step, ids_step, parent_step, list_step, param_step, params_step, more_params_step, result_type_step, head_step, body_step, member_step, typed_step, method_step, maker_step, maker_body_step, members_step, heads_step, class_step, interface_step, decl_step, decls_step}

-- how a part is read
abbrev pub body : (n : Want) → List Token → ReadStep (Val n)
body (NExpr l) ts = expr_step l ts
body (NMore l c e) ts = more_step l c e ts
body NPrefixed ts = prefixed_step ts
body NPost ts = post_step ts
body NAtom ts = atom_step ts
body NSuper ts = super_step ts
body (NNew p) ts = new_step p ts
body (NSized p b q) ts = sized_step p b q ts
body (NDims d) ts = dims_step d ts
body NType ts = type_step ts
body (NTail e z) ts = tail_step e z ts
body NArgs ts = args_step ts
body (NMoreArgs es) ts = more_args_step es ts
body NInit ts = init_step ts
body NLocal ts = local_step ts
body NValue ts = value_step ts
body NAct ts = act_step ts
body (NActRest w p e z) ts = act_rest_step w p e z ts
body NTested ts = tested_step ts
body NItem ts = item_step ts
body (NItems ss) ts = items_step ss ts
body NStmt ts = stmt_step ts
body NForHead ts = for_head_step ts
body NFirst ts = first_step ts
body NStep ts = step_step ts
body (NBranches a) ts = branches_step a ts
body (NMods ms) ts = mods_step ms ts
body (NIds is) ts = ids_step is ts
body NParent ts = parent_step ts
body (NList k) ts = list_step k ts
body NParam ts = param_step ts
body NParams ts = params_step ts
body (NMoreParams qs) ts = more_params_step qs ts
body NResult ts = result_type_step ts
body NHead ts = head_step ts
body NBody ts = body_step ts
body NMember ts = member_step ts
body (NTyped ms) ts = typed_step ms ts
body (NMethod ms t n p) ts = method_step ms t n p ts
body (NMaker ms n p) ts = maker_step ms n p ts
body NMakerBody ts = maker_body_step ts
body (NMembers bs) ts = members_step bs ts
body (NHeads hs) ts = heads_step hs ts
body (NClass ms) ts = class_step ms ts
body (NInterface ms) ts = interface_step ms ts
body NDecl ts = decl_step ts
body (NDecls ds) ts = decls_step ds ts

-- why nothing was read: the tokens from the first that cannot stand there, or no memory
pub data Fault : Type 0 where
  Left : List Token → Fault
  NoMemory : Fault

-- what reading comes to: a tree and the tokens behind it, or a fault
abbrev pub ParseOutcome : Type 0 → Type 0
ParseOutcome A = Result (A × List Token) Fault

-- a reading comes to an outcome; want of memory may come anywhere
pub data RunsTo : (m : Want) → ReadStep (Val m) → ParseOutcome (Val m) → Type 0 where
  give : {m : Want} {v : Val m} {rest : List Token} → RunsTo m (Give v rest) (Ok (v, rest))
  fail : {m : Want} {rest : List Token} → RunsTo m (Fail rest) (Err (Left rest))
  short : {m : Want} {s : ReadStep (Val m)} → RunsTo m s (Err NoMemory)
  ask : {m n : Want} {ts rest : List Token} {v : Val n} {k : Val n → List Token → ReadStep (Val m)} {o : ParseOutcome (Val m)} →
      RunsTo n (body n ts) (Ok (v, rest)) → RunsTo m (k v rest) o → RunsTo m (Ask n ts k) o
  ask_fails : {m n : Want} {ts : List Token} {k : Val n → List Token → ReadStep (Val m)} {f : Fault} →
      RunsTo n (body n ts) (Err f) → RunsTo m (Ask n ts k) (Err f)

-- the program may run out of memory anywhere
abbrev pub IsToldOutcome : (n : Want) → List Token → ParseOutcome (Val n) → Type 0
IsToldOutcome n ts (Ok x) = RunsTo n (body n ts) (Ok x)
IsToldOutcome n ts (Err (Left rest)) = RunsTo n (body n ts) (Err (Left rest))
IsToldOutcome n ts (Err NoMemory) = Unit {0}

-- a part is read from these tokens with this outcome
pub record Reads (n : Want) (ts : List Token) (o : ParseOutcome (Val n)) : Type 0 where
  pub runs : IsToldOutcome n ts o
