-- The grammar of declarations does not look behind what it derives.
use Rattle.std.proofs.Common.{List, ◌∷◌, Option}
use Rattle.kaba_base.specs.declared.words.Keyword.{Keyword}
use Rattle.java_lex.specs.declared.Token.{Token}
use Rattle.java_tree.specs.declared.Id.{Id}
use Rattle.java_tree.specs.declared.Modifier.{Modifier}
use Rattle.java_tree.specs.declared.TypeName.{TypeName}
use Rattle.java_tree.specs.declared.Param.{Param}
use Rattle.java_tree.specs.Syntax.{Expressions, Statements, HeadTree, MemberTree, DeclTree}
use Rattle.java_tree.specs.Declarations.{IsMods, no_mods, next_mod, IsIds, last_id, next_id, IsParent, no_parent, a_parent, IsList, no_list, a_list, IsParam, a_param, IsMoreParams, last_param, next_param, IsParams, no_params, some_params, IsResult, no_result, a_result, IsHead, a_head, IsBody, no_body, a_body, IsUp, no_up, an_up, IsMember, a_field, a_method, a_maker, IsMembers, no_members, next_member, IsHeads, no_heads, next_head, IsDecl, a_class, an_interface}
use Rattle.java_parse.proofs.Cuts.{here, on, join, Alone}
use Rattle.java_parse.proofs.AloneExpressions.{type_alone, args_alone}
use Rattle.java_parse.proofs.AloneStatements.{final_alone, items_alone}

pub mods_alone : {ts rest : List Token} {x : List Modifier} → IsMods ts rest x → Alone (λ ts rest. IsMods ts rest x) ts rest
mods_alone no_mods = record { cut = here; again = λ tail. no_mods }
mods_alone (next_mod h0 d0) = let s0 = mods_alone d0 in record { cut = on s0.cut; again = λ tail. next_mod h0 (s0.again tail) }

pub ids_alone : {ts rest : List Token} {x : List Id} → IsIds ts rest x → Alone (λ ts rest. IsIds ts rest x) ts rest
ids_alone last_id = record { cut = on here; again = λ tail. last_id }
ids_alone (next_id d0) = let s0 = ids_alone d0 in record { cut = on (on s0.cut); again = λ tail. next_id (s0.again tail) }

pub parent_alone : {ts rest : List Token} {x : Option Id} → IsParent ts rest x → Alone (λ ts rest. IsParent ts rest x) ts rest
parent_alone no_parent = record { cut = here; again = λ tail. no_parent }
parent_alone a_parent = record { cut = on (on here); again = λ tail. a_parent }

pub list_alone : {x : Keyword} {ts rest : List Token} {y : List Id} → IsList x ts rest y → Alone (λ ts rest. IsList x ts rest y) ts rest
list_alone no_list = record { cut = here; again = λ tail. no_list }
list_alone (a_list d0) = let s0 = ids_alone d0 in record { cut = on s0.cut; again = λ tail. a_list (s0.again tail) }

pub param_alone : {ts rest : List Token} {x : Param} → IsParam ts rest x → Alone (λ ts rest. IsParam ts rest x) ts rest
param_alone (a_param d0 d1) =
    let s0 = final_alone d0 in let s1 = type_alone d1 in
    record { cut = join s0.cut (join s1.cut (on here)); again = λ tail. a_param (s0.again (s1.cut.put (_ ∷ tail))) (s1.again (_ ∷ tail)) }

pub more_params_alone : {ts rest : List Token} {x : List Param} → IsMoreParams ts rest x → Alone (λ ts rest. IsMoreParams ts rest x) ts rest
more_params_alone last_param = record { cut = on here; again = λ tail. last_param }
more_params_alone (next_param d0 d1) =
    let s0 = param_alone d0 in let s1 = more_params_alone d1 in
    record { cut = on (join s0.cut s1.cut); again = λ tail. next_param (s0.again (s1.cut.put tail)) (s1.again tail) }

pub params_alone : {ts rest : List Token} {x : List Param} → IsParams ts rest x → Alone (λ ts rest. IsParams ts rest x) ts rest
params_alone no_params = record { cut = on here; again = λ tail. no_params }
params_alone (some_params d0 d1) =
    let s0 = param_alone d0 in let s1 = more_params_alone d1 in
    record { cut = join s0.cut s1.cut; again = λ tail. some_params (s0.again (s1.cut.put tail)) (s1.again tail) }

pub result_alone : {ts rest : List Token} {x : Option TypeName} → IsResult ts rest x → Alone (λ ts rest. IsResult ts rest x) ts rest
result_alone no_result = record { cut = on here; again = λ tail. no_result }
result_alone (a_result d0) = let s0 = type_alone d0 in record { cut = s0.cut; again = λ tail. a_result (s0.again tail) }

pub head_alone : {ts rest : List Token} {x : HeadTree} → IsHead ts rest x → Alone (λ ts rest. IsHead ts rest x) ts rest
head_alone (a_head d0 d1 d2) =
    let s0 = mods_alone d0 in let s1 = result_alone d1 in let s2 = params_alone d2 in
    record {
      cut = join s0.cut (join s1.cut (on (on s2.cut)));
      again = λ tail. a_head
          (s0.again (s1.cut.put (_ ∷ _ ∷ s2.cut.put tail)))
          (s1.again (_ ∷ _ ∷ s2.cut.put tail))
          (s2.again tail);
    }

pub body_alone : {ts rest : List Token} {x : Option Statements} → IsBody ts rest x → Alone (λ ts rest. IsBody ts rest x) ts rest
body_alone no_body = record { cut = on here; again = λ tail. no_body }
body_alone (a_body d0) = let s0 = items_alone d0 in record { cut = on s0.cut; again = λ tail. a_body (s0.again tail) }

pub up_alone : {ts rest : List Token} {x : Option Expressions} → IsUp ts rest x → Alone (λ ts rest. IsUp ts rest x) ts rest
up_alone no_up = record { cut = here; again = λ tail. no_up }
up_alone (an_up d0) = let s0 = args_alone d0 in record { cut = on (on (join s0.cut (on here))); again = λ tail. an_up (s0.again (_ ∷ tail)) }

pub member_alone : {ts rest : List Token} {x : MemberTree} → IsMember ts rest x → Alone (λ ts rest. IsMember ts rest x) ts rest
member_alone (a_field d0 d1) =
    let s0 = mods_alone d0 in let s1 = type_alone d1 in
    record {
      cut = join s0.cut (join s1.cut (on (on here)));
      again = λ tail. a_field
          (s0.again (s1.cut.put (_ ∷ _ ∷ tail)))
          (s1.again (_ ∷ _ ∷ tail));
    }
member_alone (a_method d0 d1) =
    let s0 = head_alone d0 in let s1 = body_alone d1 in
    record { cut = join s0.cut s1.cut; again = λ tail. a_method (s0.again (s1.cut.put tail)) (s1.again tail) }
member_alone (a_maker d0 d1 d2 d3) =
    let s0 = mods_alone d0 in let s1 = params_alone d1 in let s2 = up_alone d2 in let s3 = items_alone d3 in
    record {
      cut = join s0.cut (on (on (join s1.cut (on (join s2.cut s3.cut)))));
      again = λ tail. a_maker
          (s0.again (_ ∷ _ ∷ s1.cut.put (_ ∷ s2.cut.put (s3.cut.put tail))))
          (s1.again (_ ∷ s2.cut.put (s3.cut.put tail)))
          (s2.again (s3.cut.put tail))
          (s3.again tail);
    }

pub members_alone : {ts rest : List Token} {x : List MemberTree} → IsMembers ts rest x → Alone (λ ts rest. IsMembers ts rest x) ts rest
members_alone no_members = record { cut = on here; again = λ tail. no_members }
members_alone (next_member d0 d1) =
    let s0 = member_alone d0 in let s1 = members_alone d1 in
    record { cut = join s0.cut s1.cut; again = λ tail. next_member (s0.again (s1.cut.put tail)) (s1.again tail) }

pub heads_alone : {ts rest : List Token} {x : List HeadTree} → IsHeads ts rest x → Alone (λ ts rest. IsHeads ts rest x) ts rest
heads_alone no_heads = record { cut = on here; again = λ tail. no_heads }
heads_alone (next_head d0 d1) =
    let s0 = head_alone d0 in let s1 = heads_alone d1 in
    record { cut = join s0.cut (on s1.cut); again = λ tail. next_head (s0.again (_ ∷ s1.cut.put tail)) (s1.again tail) }

pub decl_alone : {ts rest : List Token} {x : DeclTree} → IsDecl ts rest x → Alone (λ ts rest. IsDecl ts rest x) ts rest
decl_alone (a_class d0 d1 d2 d3) =
    let s0 = mods_alone d0 in let s1 = parent_alone d1 in let s2 = list_alone d2 in let s3 = members_alone d3 in
    record {
      cut = join s0.cut (on (on (join s1.cut (join s2.cut (on s3.cut)))));
      again = λ tail. a_class
          (s0.again (_ ∷ _ ∷ s1.cut.put (s2.cut.put (_ ∷ s3.cut.put tail))))
          (s1.again (s2.cut.put (_ ∷ s3.cut.put tail)))
          (s2.again (_ ∷ s3.cut.put tail))
          (s3.again tail);
    }
decl_alone (an_interface d0 d1 d2) =
    let s0 = mods_alone d0 in let s1 = list_alone d1 in let s2 = heads_alone d2 in
    record {
      cut = join s0.cut (on (on (join s1.cut (on s2.cut))));
      again = λ tail. an_interface
          (s0.again (_ ∷ _ ∷ s1.cut.put (_ ∷ s2.cut.put tail)))
          (s1.again (_ ∷ s2.cut.put tail))
          (s2.again tail);
    }
