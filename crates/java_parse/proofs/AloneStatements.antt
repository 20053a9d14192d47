-- The grammar of statements does not look behind what it derives.
use Rattle.std.proofs.Common.{◌≡◌, List, [], ◌∷◌, Bool, true, Option, refl, ◌∙◌, subst}
use Rattle.java_lex.specs.declared.Token.{Token}
use Rattle.java_tree.specs.Syntax.{Expression, Statement, DoOf, PrintOf, Statements, Arms, Else, OptionalStatement}
use Rattle.java_tree.specs.Tokens.{first_place}
use Rattle.java_tree.specs.Statements.{printed, IsFinal, not_final, is_final, IsValue, no_value, a_value, IsInit, no_init, an_init, IsLocal, a_local, IsTarget, to_name, to_field, to_index, IsCall, plain_call, call_upon, call_above, IsAct, assign, assign_by, step_after, step_before, do_call, print, do_new, IsForFirst, no_first, first_local, first_act, IsForStep, no_step, a_step, IsItem, local_item, stmt_item, IsItems, no_items, next_item, IsStmt, block, empty, acting, choice, while_loop, for_loop, return_word, break_word, continue_word, IsArms, last_arm, else_arm, more_arms}
use Rattle.java_parse.specs.declared.End.{End}
use Rattle.java_parse.proofs.Post.{Ended, by_name, by_target, by_call, by_new, by_array, by_other}
use Rattle.java_parse.proofs.Cuts.{here, on, join, Alone, filled, same_front}
use Rattle.java_parse.proofs.AloneExpressions.{post_filled, type_alone, expr_alone, post_alone, args_alone}

call_filled : {ts rest : List Token} {e : Expression} → IsCall ts rest e → filled ts ≡ true
call_filled (call_upon d a) = post_filled d
call_filled _ = refl

pub final_alone : {ts rest : List Token} {x : Bool} → IsFinal ts rest x → Alone (λ ts rest. IsFinal ts rest x) ts rest
final_alone not_final = record { cut = here; again = λ tail. not_final }
final_alone is_final = record { cut = on here; again = λ tail. is_final }

pub value_alone : {ts rest : List Token} {x : Option Expression} → IsValue ts rest x → Alone (λ ts rest. IsValue ts rest x) ts rest
value_alone no_value = record { cut = here; again = λ tail. no_value }
value_alone (a_value d0) = let s0 = expr_alone d0 in record { cut = s0.cut; again = λ tail. a_value (s0.again tail) }

pub init_alone : {ts rest : List Token} {x : Option Expression} → IsInit ts rest x → Alone (λ ts rest. IsInit ts rest x) ts rest
init_alone no_init = record { cut = here; again = λ tail. no_init }
init_alone (an_init d0) = let s0 = expr_alone d0 in record { cut = on s0.cut; again = λ tail. an_init (s0.again tail) }

pub local_alone : {ts rest : List Token} {x : Statement} → IsLocal ts rest x → Alone (λ ts rest. IsLocal ts rest x) ts rest
local_alone (a_local d0 d1 d2) =
    let s0 = final_alone d0 in let s1 = type_alone d1 in let s2 = init_alone d2 in
    record {
      cut = join s0.cut (join s1.cut (on s2.cut));
      again = λ tail. a_local
          (s0.again (s1.cut.put (_ ∷ s2.cut.put tail)))
          (s1.again (_ ∷ s2.cut.put tail))
          (s2.again tail);
    }

pub target_alone : {ts rest : List Token} {x : Expression} → IsTarget ts rest x → Alone (λ ts rest. IsTarget ts rest x) ts rest
target_alone to_name = record { cut = on here; again = λ tail. to_name }
target_alone (to_field d0) =
    let s0 = post_alone d0 in
    record { cut = join s0.cut (on (on here)); again = λ tail. to_field (s0.again (_ ∷ _ ∷ tail)) }
target_alone (to_index d0 d1) =
    let s0 = post_alone d0 in let s1 = expr_alone d1 in
    record {
      cut = join s0.cut (on (join s1.cut (on here)));
      again = λ tail. to_index
          (s0.again (_ ∷ s1.cut.put (_ ∷ tail)))
          (s1.again (_ ∷ tail));
    }

pub call_alone : {ts rest : List Token} {x : Expression} → IsCall ts rest x → Alone (λ ts rest. IsCall ts rest x) ts rest
call_alone (plain_call d0) = let s0 = args_alone d0 in record { cut = on (on s0.cut); again = λ tail. plain_call (s0.again tail) }
call_alone (call_upon d0 d1) =
    let s0 = post_alone d0 in let s1 = args_alone d1 in
    record { cut = join s0.cut (on (on (on s1.cut))); again = λ tail. call_upon (s0.again (_ ∷ _ ∷ _ ∷ s1.cut.put tail)) (s1.again tail) }
call_alone (call_above d0) = let s0 = args_alone d0 in record { cut = on (on (on (on s0.cut))); again = λ tail. call_above (s0.again tail) }

pub act_alone : {ts rest : List Token} {x : Statement} → IsAct ts rest x → Alone (λ ts rest. IsAct ts rest x) ts rest
act_alone (assign d0 d1) =
    let s0 = target_alone d0 in let s1 = expr_alone d1 in
    record { cut = join s0.cut (on s1.cut); again = λ tail. assign (s0.again (_ ∷ s1.cut.put tail)) (s1.again tail) }
act_alone (assign_by h0 d0) = let s0 = expr_alone d0 in record { cut = on (on s0.cut); again = λ tail. assign_by h0 (s0.again tail) }
act_alone (step_after h0) = record { cut = on (on here); again = λ tail. step_after h0 }
act_alone (step_before h0) = record { cut = on (on here); again = λ tail. step_before h0 }
act_alone (do_call {e = e} {ts = ts} d h) =
    let s = call_alone d in
    let g = call_filled (s.again []) in
    record {
      cut = s.cut;
      again = λ tail. subst (λ p. IsAct (s.cut.put tail) tail (DoOf e p)) (same_front first_place (λ t us vs. refl) s.cut g tail)
          (do_call (s.again tail) (same_front (λ ts. printed ts e) (λ t us vs. refl) s.cut g tail ∙ h));
    }
act_alone (print {e = e} {l = l} {v = v} {ts = ts} d h) =
    let s = call_alone d in
    let g = call_filled (s.again []) in
    record {
      cut = s.cut;
      again = λ tail. subst (λ p. IsAct (s.cut.put tail) tail (PrintOf l v p)) (same_front first_place (λ t us vs. refl) s.cut g tail)
          (print (s.again tail) (same_front (λ ts. printed ts e) (λ t us vs. refl) s.cut g tail ∙ h));
    }
act_alone (do_new d0) = let s0 = args_alone d0 in record { cut = on (on (on s0.cut)); again = λ tail. do_new (s0.again tail) }

pub first_alone : {ts rest : List Token} {x : OptionalStatement} → IsForFirst ts rest x → Alone (λ ts rest. IsForFirst ts rest x) ts rest
first_alone no_first = record { cut = here; again = λ tail. no_first }
first_alone (first_local d0) = let s0 = local_alone d0 in record { cut = s0.cut; again = λ tail. first_local (s0.again tail) }
first_alone (first_act d0) = let s0 = act_alone d0 in record { cut = s0.cut; again = λ tail. first_act (s0.again tail) }

pub step_alone : {ts rest : List Token} {x : OptionalStatement} → IsForStep ts rest x → Alone (λ ts rest. IsForStep ts rest x) ts rest
step_alone no_step = record { cut = here; again = λ tail. no_step }
step_alone (a_step d0) = let s0 = act_alone d0 in record { cut = s0.cut; again = λ tail. a_step (s0.again tail) }

pub ended_alone : {x : End} {ts rest : List Token} {y : Expression} → Ended x ts rest y → Alone (λ ts rest. Ended x ts rest y) ts rest
ended_alone by_name = record { cut = on here; again = λ tail. by_name }
ended_alone (by_target d0) = let s0 = target_alone d0 in record { cut = s0.cut; again = λ tail. by_target (s0.again tail) }
ended_alone (by_call d0) = let s0 = call_alone d0 in record { cut = s0.cut; again = λ tail. by_call (s0.again tail) }
ended_alone (by_new d0) = let s0 = args_alone d0 in record { cut = on (on (on s0.cut)); again = λ tail. by_new (s0.again tail) }
ended_alone (by_array d0) = let s0 = post_alone d0 in record { cut = s0.cut; again = λ tail. by_array (s0.again tail) }
ended_alone (by_other d0) = let s0 = post_alone d0 in record { cut = s0.cut; again = λ tail. by_other (s0.again tail) }

mutual
  pub item_alone : {ts rest : List Token} {x : Statement} → IsItem ts rest x → Alone (λ ts rest. IsItem ts rest x) ts rest
  item_alone (local_item d0) =
      let s0 = local_alone d0 in
      record { cut = join s0.cut (on here); again = λ tail. local_item (s0.again (_ ∷ tail)) }
  item_alone (stmt_item d0) = let s0 = stmt_alone d0 in record { cut = s0.cut; again = λ tail. stmt_item (s0.again tail) }

  pub items_alone : {ts rest : List Token} {x : Statements} → IsItems ts rest x → Alone (λ ts rest. IsItems ts rest x) ts rest
  items_alone no_items = record { cut = on here; again = λ tail. no_items }
  items_alone (next_item d0 d1) =
      let s0 = item_alone d0 in let s1 = items_alone d1 in
      record { cut = join s0.cut s1.cut; again = λ tail. next_item (s0.again (s1.cut.put tail)) (s1.again tail) }

  pub stmt_alone : {x : Bool} {ts rest : List Token} {y : Statement} → IsStmt x ts rest y → Alone (λ ts rest. IsStmt x ts rest y) ts rest
  stmt_alone (block d0) = let s0 = items_alone d0 in record { cut = on s0.cut; again = λ tail. block (s0.again tail) }
  stmt_alone empty = record { cut = on here; again = λ tail. empty }
  stmt_alone (acting d0) = let s0 = act_alone d0 in record { cut = join s0.cut (on here); again = λ tail. acting (s0.again (_ ∷ tail)) }
  stmt_alone (choice d0) = let s0 = arms_alone d0 in record { cut = on s0.cut; again = λ tail. choice (s0.again tail) }
  stmt_alone (while_loop d0 d1) =
      let s0 = expr_alone d0 in let s1 = stmt_alone d1 in
      record { cut = on (on (join s0.cut (on s1.cut))); again = λ tail. while_loop (s0.again (_ ∷ s1.cut.put tail)) (s1.again tail) }
  stmt_alone (for_loop d0 d1 d2 d3) =
      let s0 = first_alone d0 in let s1 = value_alone d1 in let s2 = step_alone d2 in let s3 = stmt_alone d3 in
      record {
        cut = on (on (join s0.cut (on (join s1.cut (on (join s2.cut (on s3.cut)))))));
        again = λ tail. for_loop
            (s0.again (_ ∷ s1.cut.put (_ ∷ s2.cut.put (_ ∷ s3.cut.put tail))))
            (s1.again (_ ∷ s2.cut.put (_ ∷ s3.cut.put tail)))
            (s2.again (_ ∷ s3.cut.put tail))
            (s3.again tail);
      }
  stmt_alone (return_word d0) =
      let s0 = value_alone d0 in
      record { cut = on (join s0.cut (on here)); again = λ tail. return_word (s0.again (_ ∷ tail)) }
  stmt_alone break_word = record { cut = on (on here); again = λ tail. break_word }
  stmt_alone continue_word = record { cut = on (on here); again = λ tail. continue_word }

  pub arms_alone : {x : Bool} {ts rest : List Token} {y : Arms} {z : Else} → IsArms x ts rest y z → Alone (λ ts rest. IsArms x ts rest y z) ts rest
  arms_alone (last_arm d0 d1) =
      let s0 = expr_alone d0 in let s1 = stmt_alone d1 in
      record { cut = on (join s0.cut (on s1.cut)); again = λ tail. last_arm (s0.again (_ ∷ s1.cut.put tail)) (s1.again tail) }
  arms_alone (else_arm d0 d1 d2 h0) =
      let s0 = expr_alone d0 in let s1 = stmt_alone d1 in let s2 = stmt_alone d2 in
      record {
        cut = on (join s0.cut (on (join s1.cut (on s2.cut))));
        again = λ tail. else_arm
            (s0.again (_ ∷ s1.cut.put (_ ∷ s2.cut.put tail)))
            (s1.again (_ ∷ s2.cut.put tail))
            (s2.again tail) h0;
      }
  arms_alone (more_arms d0 d1 d2) =
      let s0 = expr_alone d0 in let s1 = stmt_alone d1 in let s2 = arms_alone d2 in
      record {
        cut = on (join s0.cut (on (join s1.cut (on (on s2.cut)))));
        again = λ tail. more_arms
            (s0.again (_ ∷ s1.cut.put (_ ∷ _ ∷ s2.cut.put tail)))
            (s1.again (_ ∷ _ ∷ s2.cut.put tail))
            (s2.again tail);
      }
