-- What is read is in the grammar.
use Rattle.std.proofs.Common.{sym, subst, List, [], Ok}
use Rattle.java_lex.specs.declared.Token.{Token}
use Rattle.java_tree.specs.Syntax.{DeclTree}
use Rattle.java_parse.specs.Want.{Want, NExpr, NDecls, Val}
use Rattle.java_tree.specs.Declarations.{IsPlaced}
use Rattle.java_parse.proofs.Post.{Post}
use Rattle.java_parse.proofs.Runs.{Good, good_runs, run}
use Rattle.java_parse.specs.Reading.{body, Reads}
use Rattle.java_parse.proofs.SoundExpressions.{expr_good, more_good, prefixed_good, post_good, atom_good, super_good, new_good, sized_good, dims_good, type_good, tail_good, args_good, more_args_good}
use Rattle.java_parse.proofs.SoundStatements.{init_good, local_good, value_good, act_good, act_rest_good, tested_good, item_good, items_good, stmt_good, for_head_good, first_good, step_good, branches_good}
use Rattle.java_parse.proofs.SoundDeclarations.{mods_good, ids_good, parent_good, list_good, param_good, params_good, more_params_good, result_type_good, head_good, body_good, member_good, typed_good, method_good, maker_good, maker_body_good, members_good, heads_good, class_good, interface_good, decl_good, decls_good}

-- the parts of a kind
ruleset operands_good = (more_good, prefixed_good, post_good, atom_good, super_good, new_good, sized_good, dims_good)

ruleset arguments_good = (type_good, tail_good, args_good, more_args_good)

ruleset statements_good = (init_good, local_good, value_good, act_good, act_rest_good, tested_good, item_good, items_good)

ruleset loops_good = (stmt_good, for_head_good, first_good, step_good, branches_good)

ruleset lists_good = (mods_good, ids_good, parent_good, list_good, param_good, params_good, more_params_good, result_type_good)

ruleset members_of_kinds_good = (head_good, body_good, member_good, typed_good, method_good, maker_good, maker_body_good)

ruleset declarations_good = (members_good, heads_good, class_good, interface_good, decl_good, decls_good)

-- each part that is read is in the grammar, if its parts are
parts_good : (n : Want) (ts : List Token) → Good Post (body n ts) (Post n ts)
parts_good (NExpr l) ts = expr_good l ts
parts_good n ts = search (operands_good, arguments_good, statements_good, loops_good, lists_good, members_of_kinds_good, declarations_good)

pub sound : {n : Want} {ts rest : List Token} {v : Val n} → Reads n ts (Ok (v, rest)) → Post n ts v rest
sound {n = n} {ts = ts} {rest = rest} {v = v} a = good_runs Post parts_good (body n ts) (Post n ts) (Ok (v, rest)) (run a) (parts_good n ts)

-- a whole program
pub program_sound : {ts rest : List Token} {ds : List DeclTree} → Reads (NDecls []) ts (Ok (ds, rest)) → IsPlaced ts ds
program_sound {ts = ts} a = let d = sound a in subst (λ ds. IsPlaced ts ds) (sym d.is) d.decls
