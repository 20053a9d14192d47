-- Where reading a program stops, the tokens before begin a program.
use Rattle.std.proofs.Common.{◌≡◌, List, [], ◌++◌, ◌∙◌, subst, refl, Err}
use Rattle.java_lex.specs.declared.Token.{Token}
use Rattle.java_tree.specs.Declarations.{IsPlaced}
use Rattle.java_parse.specs.Want.{Want, NExpr, NDecls}
use Rattle.java_parse.specs.Reading.{body, Reads, Left}
use Rattle.java_parse.specs.Beginnings.{Begins}
use Rattle.java_parse.proofs.Runs.{run}
use Rattle.java_parse.proofs.Stuck.{Stuck, Unfinished, bad_runs}
use Rattle.java_parse.proofs.StuckExpressions.{expr_stuck, more_stuck, prefixed_stuck, post_stuck, atom_stuck, super_stuck, new_stuck, sized_stuck, dims_stuck, type_stuck, tail_stuck, args_stuck, more_args_stuck}
use Rattle.java_parse.proofs.StuckStatements.{init_stuck, local_stuck, value_stuck, act_stuck, act_rest_stuck, tested_stuck, item_stuck, items_stuck, stmt_stuck, for_head_stuck, first_stuck, step_stuck, branches_stuck}
use Rattle.java_parse.proofs.StuckDeclarations.{mods_stuck, ids_stuck, parent_stuck, list_stuck, param_stuck, params_stuck, more_params_stuck, result_type_stuck, head_stuck, body_stuck, member_stuck, typed_stuck, method_stuck, maker_stuck, maker_body_stuck, members_stuck, heads_stuck, class_stuck, interface_stuck, decl_stuck, decls_stuck}

-- the parts of a kind
ruleset operands_stuck = (more_stuck, prefixed_stuck, post_stuck, atom_stuck, super_stuck, new_stuck, sized_stuck, dims_stuck)

ruleset arguments_stuck = (type_stuck, tail_stuck, args_stuck, more_args_stuck)

ruleset statements_stuck = (init_stuck, local_stuck, value_stuck, act_stuck, act_rest_stuck, tested_stuck, item_stuck, items_stuck)

ruleset loops_stuck = (stmt_stuck, for_head_stuck, first_stuck, step_stuck, branches_stuck)

ruleset lists_stuck = (mods_stuck, ids_stuck, parent_stuck, list_stuck, param_stuck, params_stuck, more_params_stuck, result_type_stuck)

ruleset members_of_kinds_stuck = (head_stuck, body_stuck, member_stuck, typed_stuck, method_stuck, maker_stuck, maker_body_stuck)

ruleset declarations_stuck = (members_stuck, heads_stuck, class_stuck, interface_stuck, decl_stuck, decls_stuck)

-- each part that stops can be completed, if its parts can
parts_stuck : (n : Want) (ts : List Token) → Unfinished (body n ts) (Stuck n ts)
parts_stuck (NExpr l) ts = expr_stuck l ts
parts_stuck n ts = search (operands_stuck, arguments_stuck, statements_stuck, loops_stuck, lists_stuck, members_of_kinds_stuck, declarations_stuck)

pub begun : {ts rest : List Token} → Reads (NDecls []) ts (Err (Left rest)) → (front : List Token) × (ts ≡ front ++ rest) × Begins front
begun {ts = ts} {rest = rest} r =
    let s = bad_runs parts_stuck (body (NDecls []) ts) (Stuck (NDecls []) ts) (Err (Left rest)) (run r) (parts_stuck (NDecls []) ts) in
    let d = s.ends [] in
    let placed : IsPlaced (s.cut.put [] ++ d.0) d.1.0 = subst (λ us. IsPlaced us d.1.0) (s.cut.puts [] d.0) d.1.1 in
    (s.cut.put [], s.cut.split ∙ s.cut.puts [] rest, (d.0, d.1.0, record { placed = d.1.0; derived = placed; same = refl }))
