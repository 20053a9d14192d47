-- Statements that are read are in the grammar.
use Rattle.std.proofs.Common.{refl, sym, ap, ◌∙◌, subst, ◌≡◌, ℕ, List, ◌∷◌, Option, Some, None, Bool, true, false}
use Rattle.kaba_base.specs.declared.Place.{Place}
use Rattle.kaba_base.specs.declared.words.Keyword.TheVariants as keys
use Rattle.java_lex.specs.declared.Token.{Token}
use Rattle.java_lex.specs.declared.Mark.{Mark}
use Rattle.java_lex.specs.declared.Mark.TheVariants as marks
use Rattle.java_tree.specs.Syntax.{Expression, NameRef, BinaryOf, Statement, BlockOf, AssignOf, IfOf, WhileOf, ForOf, Statements, no_statements, and_then, Arms, no_arms, and_arm, Else, no_else, otherwise, OptionalStatement}
use Rattle.java_tree.specs.Tokens.{mark, key, word, compound, stepping, first_place}
use Rattle.java_tree.specs.Nesting.{next_is}
use Rattle.java_tree.specs.Statements.{as_body, is_word, printed}
use Rattle.java_tree.proofs.Appended.{append_stmts, append_arms, stmts_end, arms_end}
use Rattle.java_parse.specs.declared.End.{End}
use Rattle.java_parse.specs.Want.{NInit, NLocal, NValue, NAct, NActRest, NTested, NItem, NItems, NStmt, NForHead, NFirst, NStep, NBranches}
use Rattle.java_parse.specs.Front.{after, after_key, word_next, stmt_snoc, arm_snoc, stepping_next, compound_next, named, is_target, is_call, stepped, done, starts_local, Start, start}
use Rattle.java_tree.specs.Expressions.{IsExpr}
use Rattle.java_tree.specs.Statements.{is_choice, no_value, a_value, no_init, an_init, a_local, IsTarget, to_name, IsCall, IsAct, assign, assign_by, step_after, step_before, do_call, print, do_new, no_first, first_local, first_act, no_step, a_step, local_item, stmt_item, IsItems, no_items, next_item, IsStmt, block, empty, acting, choice, while_loop, for_loop, return_word, break_word, continue_word, IsArms, last_arm, else_arm, more_arms}
use Rattle.java_parse.proofs.Fronts.{option_cases, bool_cases, after_is, after_key_is, word_is, final_is, stands_is, done_is, start_cases, Starts, start_is}
use Rattle.java_parse.proofs.Post.{Ended, by_name, by_target, by_call, by_new, by_array, by_other, Tested, Itemed, Stmted, Headed, headed, Branched, Post}
use Rattle.java_parse.proofs.Runs.{Good}
use Rattle.java_parse.specs.ReadStatements.{init_step, local_step, value_step, act_step, act_rest_step, tested_step, item_step, items_step, stmt_step, for_head_step, first_step, step_step, branches_step}

never : {P : Type 0} → false ≡ true → P
never h = absurd (let g : ⊥ = cc in g)

pub starts_at : (ts : List Token) {s : Start} → start ts ≡ s → Starts s ts
starts_at ts h = subst (λ s. Starts s ts) h (start_is ts)

pub target_of : {z : End} {ts rest : List Token} {e : Expression} → Ended z ts rest e → is_target z ≡ true → IsTarget ts rest e
target_of by_name h = to_name
target_of (by_target d) h = d
target_of (by_call d) h = cc
target_of (by_new a) h = cc
target_of (by_array d) h = cc
target_of (by_other d) h = cc

-- the name that an expression is
named_as : {z : End} {ts rest : List Token} {e : Expression} {w : List ℕ × Place} → named z e ≡ Some w → Ended z ts rest e → ts ≡ word w.0 w.1 ∷ rest
named_as h by_name = cc
named_as h (by_target d) = cc
named_as h (by_call d) = cc
named_as h (by_new a) = cc
named_as h (by_array d) = cc
named_as h (by_other d) = cc

pub compound_act : {z : End} {ss ts rest : List Token} {e v : Expression} {w : Mark × Place × List Token} {x : List ℕ × Place} →
    (n : Mark) × (ts ≡ mark n w.1 ∷ w.2) × (compound n ≡ Some w.0) → named z e ≡ Some x → Ended z ss ts e → IsExpr 1 w.2 rest v →
    IsAct ss rest (AssignOf (NameRef x.0 x.1) (BinaryOf w.0 (NameRef x.0 x.1) v w.1) w.1)
compound_act {rest = rest} {v = v} {w = w} {x = x} f g h d =
    subst (λ (ss : List Token). IsAct ss rest (AssignOf (NameRef x.0 x.1) (BinaryOf w.0 (NameRef x.0 x.1) v w.1) w.1))
    (sym (named_as g h ∙ ap (λ r. word x.0 x.1 ∷ r) f.1)) (assign_by f.2 d)

after_act : {z : End} {ss ts : List Token} {e : Expression} {w : Mark × Place × List Token} {x : List ℕ × Place} →
    (n : Mark) × (ts ≡ mark n w.1 ∷ w.2) × (stepping n ≡ Some w.0) → named z e ≡ Some x → Ended z ss ts e → IsAct ss w.2 (stepped w.0 x.0 x.1 w.1)
after_act {w = w} {x = x} f g h =
    subst (λ (ss : List Token). IsAct ss w.2 (stepped w.0 x.0 x.1 w.1)) (sym (named_as g h ∙ ap (λ r. word x.0 x.1 ∷ r) f.1)) (step_after f.2)

before_act : {ts : List Token} {w : Mark × Place × List Token} {x : List ℕ × Place × List Token} →
    (n : Mark) × (ts ≡ mark n w.1 ∷ w.2) × (stepping n ≡ Some w.0) → w.2 ≡ word x.0 x.1 ∷ x.2 → IsAct ts x.2 (stepped w.0 x.0 x.1 w.1)
before_act {w = w} {x = x} f g =
    subst (λ (ss : List Token). IsAct ss x.2 (stepped w.0 x.0 x.1 w.1)) (sym (f.1 ∙ ap (λ r. mark f.0 w.1 ∷ r) g)) (step_before f.2)

call_done : {ss ts : List Token} {e : Expression} → IsCall ss ts e → IsAct ss ts (done (next_is is_word ss) (first_place ss) e)
call_done {ss = ss} {ts = ts} {e = e} c = option_cases (printed ss e)
    (λ no. subst (λ (s : Statement). IsAct ss ts s) (sym (done_is ss e None no)) (do_call c no))
    (λ x yes. subst (λ (s : Statement). IsAct ss ts s) (sym (done_is ss e (Some x) yes)) (print c yes))

call_act : {z : End} {ss ts : List Token} {e : Expression} → Ended z ss ts e → is_call z ≡ true
    → IsAct ss ts (done (next_is is_word ss) (first_place ss) e)
call_act by_name h = cc
call_act (by_target d) h = cc
call_act (by_call d) h = call_done d
call_act (by_new a) h = do_new a
call_act (by_array d) h = cc
call_act (by_other d) h = cc

pub stmts_snoc : (a : Statements) (e : Statement) (b : Statements) → append_stmts (stmt_snoc a e) b ≡ append_stmts a (and_then e b)
stmts_snoc no_statements e b = refl
stmts_snoc (and_then x a) e b = ap (and_then x) (stmts_snoc a e b)

pub arms_snoc : (a : Arms) (e : Expression) (s : Statements) (b : Arms) → append_arms (arm_snoc a e s) b ≡ append_arms a (and_arm e s b)
arms_snoc no_arms e s b = refl
arms_snoc (and_arm x y a) e s b = ap (and_arm x y) (arms_snoc a e s b)

pub arms_one : (a : Arms) (e : Expression) (s : Statements) → arm_snoc a e s ≡ append_arms a (and_arm e s no_arms)
arms_one a e s = sym (arms_end (arm_snoc a e s)) ∙ arms_snoc a e s no_arms

pub items_all : {ts rest : List Token} {ss : Statements} → Itemed no_statements ts ss rest → IsItems ts rest ss
items_all {ts = ts} {rest = rest} d = subst (λ (ss : Statements). IsItems ts rest ss) (sym d.is) d.items

block_good : {ts us rest : List Token} {p : Place} {ss : Statements} → ts ≡ mark marks.OpenBrace p ∷ us → Itemed no_statements us ss rest
    → Stmted ts (BlockOf ss p) rest
block_good e d = rw e (record { flag = false; fact = block (items_all d); closed = never })

arms_good : {ts rest : List Token} {a : Arms} {l : Else} (d : Branched no_arms ts a l rest) → IsArms d.flag ts rest a l
arms_good {ts = ts} {rest = rest} {l = l} d = subst (λ (a : Arms). IsArms d.flag ts rest a l) (sym d.is) d.fact

choice_good : {ts us rest : List Token} {p : Place} {a : Arms} {l : Else} → ts ≡ key keys.If p ∷ us → Branched no_arms us a l rest → Stmted ts (IfOf a l p) rest
choice_good e d = rw e (record { flag = d.flag; fact = choice (arms_good d); closed = d.closed })

while_good : {ts us vs rest : List Token} {p : Place} {e : Expression} {s : Statement} → ts ≡ key keys.While p ∷ us → Tested us e vs
    → Stmted vs s rest → Stmted ts (WhileOf e (as_body s) p) rest
while_good e t d = rw (e, t.starts) (record { flag = d.flag; fact = while_loop t.test d.fact; closed = d.closed })

for_good : {ts us vs rest : List Token} {p : Place} {f g : OptionalStatement} {v : Option Expression} {s : Statement} → ts ≡ key keys.For p ∷ us
    → Headed us f v g vs → Stmted vs s rest → Stmted ts (ForOf f v g (as_body s) p) rest
for_good e (headed first test step) d = rw e (record { flag = d.flag; fact = for_loop first test step d.fact; closed = d.closed })

-- a body before an `else`
shut : {o : Bool} {ts us : List Token} {s : Statement} {p : Place} → (o ≡ true → after_key keys.Else (key keys.Else p ∷ us) ≡ None)
    → IsStmt o ts (key keys.Else p ∷ us) s → IsStmt false ts (key keys.Else p ∷ us) s
shut {o = false} c d = d
shut {o = true} c d = let n = c refl in cc

act_no_choice : {ts rest : List Token} {s : Statement} → IsAct ts rest s → is_choice s ≡ false
act_no_choice (assign t e) = refl
act_no_choice _ = refl

pub no_choice : {o : Bool} {ts rest : List Token} {s : Statement} → IsStmt o ts rest s → after_key keys.If ts ≡ None → is_choice s ≡ false
no_choice (acting d) h = act_no_choice d
no_choice (choice d) h = cc
no_choice _ h = refl

end_good : {ts us vs : List Token} {e : Expression} {s : Statement} (a : Arms) → after_key keys.Else vs ≡ None → Tested ts e us → Stmted us s vs
    → Branched a ts (arm_snoc a e (as_body s)) no_else vs
end_good {e = e} {s = s} a n t d =
    rw t.starts (record {
      flag = true;
      more = and_arm e (as_body s) no_arms;
      is = arms_one a e (as_body s);
      fact = last_arm t.test d.fact;
      closed = λ _. n;
    })

pub shut_at : {ts vs : List Token} {s : Statement} {w : Place × List Token} → vs ≡ key keys.Else w.0 ∷ w.1 → Stmted ts s vs
    → IsStmt false ts (key keys.Else w.0 ∷ w.1) s
shut_at {ts = ts} {s = s} e d = shut (subst (λ vs. d.flag ≡ true → after_key keys.Else vs ≡ None) e d.closed) (subst (λ vs. IsStmt d.flag ts vs s) e d.fact)

other_good : {ts us vs rest : List Token} {e : Expression} {s t : Statement} {w : Place × List Token} (a : Arms) → vs ≡ key keys.Else w.0 ∷ w.1
    → after_key keys.If w.1 ≡ None → Tested ts e us → Stmted us s vs → Stmted w.1 t rest →
    Branched a ts (arm_snoc a e (as_body s)) (otherwise (as_body t)) rest
other_good {e = e} {s = s} a x n t d o =
    rw t.starts (record {
      flag = o.flag;
      more = and_arm e (as_body s) no_arms;
      is = arms_one a e (as_body s);
      fact = else_arm t.test
          (shut_at x d) o.fact (no_choice o.fact n);
      closed = o.closed;
    })

again_good : {ts us vs rest : List Token} {e : Expression} {s : Statement} {w x : Place × List Token} {b : Arms} {l : Else} (a : Arms)
    → vs ≡ key keys.Else w.0 ∷ w.1 → w.1 ≡ key keys.If x.0 ∷ x.1 → Tested ts e us → Stmted us s vs →
    Branched (arm_snoc a e (as_body s)) x.1 b l rest → Branched a ts b l rest
again_good {us = us} {e = e} {s = s} {w = w} {x = x} a f g t d r =
    let body : IsStmt false us (key keys.Else w.0 ∷ key keys.If x.0 ∷ x.1) s = subst (λ r. IsStmt false us (key keys.Else w.0 ∷ r) s) g (shut_at f d) in
    rw t.starts (record {
      flag = r.flag;
      more = and_arm e (as_body s) r.more;
      is = r.is
          ∙ arms_snoc a e (as_body s) r.more;
      fact = more_arms t.test body r.fact;
      closed = r.closed;
    })

pub init_good : (ts : List Token) → Good Post (init_step ts) (Post NInit ts)
init_good ts = option_cases (after marks.Assign ts)
    (λ n0. rw (n0, init_step) no_init)
    (λ w0 y0. let e0 = after_is marks.Assign ts w0 y0 in rw (y0, init_step) (λ v1 r1 d1. (rw e0 (an_init d1))))

pub local_good : (ts : List Token) → Good Post (local_step ts) (Post NLocal ts)
local_good ts = λ v0 r0 d0. (option_cases (word_next r0)
    (λ n1. rw n1 tt)
    (λ w1 y1. let e1 = word_is r0 w1 y1 in rw y1 (λ v2 r2 d2. (a_local (final_is ts) (rw e1 at d0) d2))))

pub value_good : (ts : List Token) → Good Post (value_step ts) (Post NValue ts)
value_good ts = option_cases (after marks.Semi ts)
    (λ n0. rw (n0, value_step) (λ v1 r1 d1. (a_value d1)))
    (λ w0 y0. rw (y0, value_step) no_value)

pub act_good : (ts : List Token) → Good Post (act_step ts) (Post NAct ts)
act_good ts = option_cases (stepping_next ts)
    (λ n0. rw (n0, act_step) (λ v1 r1 d1. (λ v r d. d ts refl refl d1)))
    (λ w0 y0. let e0 = stands_is stepping ts w0 y0 in rw (y0, act_step) (option_cases (word_next w0.2)
    (λ n1. rw n1 tt)
    (λ w1 y1. let e1 = word_is w0.2 w1 y1 in rw y1 (before_act e0 e1))))

pub act_rest_good : (w : Bool) (p : Place) (e : Expression) (z : End) (ts : List Token) → Good Post (act_rest_step w p e z ts)
    (Post (NActRest w p e z) ts)
act_rest_good w p e z ts = option_cases (after marks.Assign ts)
    (λ n0. rw (n0, act_rest_step) (option_cases (compound_next ts)
    (λ n1. rw n1 (option_cases (stepping_next ts)
    (λ n2. rw n2 (bool_cases (is_call z)
    (λ y3. rw y3 (λ us f g h. let c = call_act h y3 in rw (f, g) at c))
    (λ y3. rw y3 tt)))
    (λ w2 y2. let e2 = stands_is stepping ts w2 y2 in rw y2 (option_cases (named z e)
    (λ n3. rw n3 tt)
    (λ w3 y3. rw y3 (λ us f g h. after_act e2 y3 h))))))
    (λ w1 y1. let e1 = stands_is compound ts w1 y1 in rw y1 (option_cases (named z e)
    (λ n2. rw n2 tt)
    (λ w2 y2. rw y2 (λ v3 r3 d3. (λ us f g h. compound_act e1 y2 h d3)))))))
    (λ w0 y0. let e0 = after_is marks.Assign ts w0 y0 in rw (y0, act_rest_step) (bool_cases (is_target z)
    (λ y1. rw y1 (λ v2 r2 d2. (λ us f g h. assign (rw e0 at (target_of h y1)) d2)))
    (λ y1. rw y1 tt)))

pub tested_good : (ts : List Token) → Good Post (tested_step ts) (Post NTested ts)
tested_good ts = option_cases (after marks.OpenRound ts)
    (λ n0. rw (n0, tested_step) tt)
    (λ w0 y0. let e0 = after_is marks.OpenRound ts w0 y0 in rw (y0, tested_step) (λ v1 r1 d1. (option_cases (after marks.CloseRound r1)
    (λ n2. rw n2 tt)
    (λ w2 y2. let e2 = after_is marks.CloseRound r1 w2 y2 in rw y2
    (record { open_at = w0.0; close_at = w2.0; inner = w0.1; starts = e0; test = rw e2 at d1 })))))

pub item_good : (ts : List Token) → Good Post (item_step ts) (Post NItem ts)
item_good ts = bool_cases (starts_local ts)
    (λ y0. rw (y0, item_step) (λ v1 r1 d1. (option_cases (after marks.Semi r1)
    (λ n2. rw n2 tt)
    (λ w2 y2. let e2 = after_is marks.Semi r1 w2 y2 in rw y2 (local_item (rw e2 at d1))))))
    (λ y0. rw (y0, item_step) (λ v r d. stmt_item d.fact))

pub items_good : (ss : Statements) (ts : List Token) → Good Post (items_step ss ts) (Post (NItems ss) ts)
items_good ss ts = option_cases (after marks.CloseBrace ts)
    (λ n0. rw (n0, items_step) (λ v1 r1 d1. (λ v r d. record {
      more = and_then v1 d.more;
      is = d.is
          ∙ stmts_snoc ss v1 d.more;
      items = next_item d1 d.items;
    })))
    (λ w0 y0. let e0 = after_is marks.CloseBrace ts w0 y0 in rw (y0, items_step)
    (record { more = no_statements; is = sym (stmts_end ss); items = rw e0 no_items }))

pub stmt_good : (ts : List Token) → Good Post (stmt_step ts) (Post NStmt ts)
stmt_good ts = start_cases (start ts)
    (λ p0 us0 y0. rw (y0, stmt_step) (λ v1 r1 d1. (block_good (starts_at ts y0) d1)))
    (λ p0 us0 y0. rw (y0, stmt_step) (rw (starts_at ts y0) (record { flag = false; fact = empty; closed = never })))
    (λ p0 us0 y0. rw (y0, stmt_step) (λ v1 r1 d1. (choice_good (starts_at ts y0) d1)))
    (λ p0 us0 y0. rw (y0, stmt_step) (λ v1 r1 d1. (λ v2 r2 d2. (while_good (starts_at ts y0) d1 d2))))
    (λ p0 us0 y0. rw (y0, stmt_step) (λ v1 r1 d1. (λ v2 r2 d2. (for_good (starts_at ts y0) d1 d2))))
    (λ p0 us0 y0. rw (y0, stmt_step) (λ v1 r1 d1. (option_cases (after marks.Semi r1)
    (λ n2. rw n2 tt)
    (λ w2 y2. let e2 = after_is marks.Semi r1 w2 y2 in rw y2
    (rw (starts_at ts y0) (record { flag = false; fact = return_word (rw e2 at d1); closed = never }))))))
    (λ p0 us0 y0. rw (y0, stmt_step) (option_cases (after marks.Semi us0)
    (λ n1. rw n1 tt)
    (λ w1 y1. let e1 = after_is marks.Semi us0 w1 y1 in rw y1 (rw (starts_at ts y0, e1) (record { flag = false; fact = break_word; closed = never })))))
    (λ p0 us0 y0. rw (y0, stmt_step) (option_cases (after marks.Semi us0)
    (λ n1. rw n1 tt)
    (λ w1 y1. let e1 = after_is marks.Semi us0 w1 y1 in rw y1 (rw (starts_at ts y0, e1) (record { flag = false; fact = continue_word; closed = never })))))
    (λ y0. rw (y0, stmt_step) (λ v1 r1 d1. (option_cases (after marks.Semi r1)
    (λ n2. rw n2 tt)
    (λ w2 y2. let e2 = after_is marks.Semi r1 w2 y2 in rw y2 (record { flag = false; fact = acting (rw e2 at d1); closed = never })))))

pub for_head_good : (ts : List Token) → Good Post (for_head_step ts) (Post NForHead ts)
for_head_good ts = option_cases (after marks.OpenRound ts)
    (λ n0. rw (n0, for_head_step) tt)
    (λ w0 y0. let e0 = after_is marks.OpenRound ts w0 y0 in rw (y0, for_head_step) (λ v1 r1 d1. (option_cases (after marks.Semi r1)
    (λ n2. rw n2 tt)
    (λ w2 y2. let e2 = after_is marks.Semi r1 w2 y2 in rw y2 (λ v3 r3 d3. (option_cases (after marks.Semi r3)
    (λ n4. rw n4 tt)
    (λ w4 y4. let e4 = after_is marks.Semi r3 w4 y4 in rw y4 (λ v5 r5 d5. (option_cases (after marks.CloseRound r5)
    (λ n6. rw n6 tt)
    (λ w6 y6. let e6 = after_is marks.CloseRound r5 w6 y6 in rw y6
    (rw e0 (headed (rw e2 at d1) (rw e4 at d3) (rw e6 at d5)))))))))))))

pub first_good : (ts : List Token) → Good Post (first_step ts) (Post NFirst ts)
first_good ts = option_cases (after marks.Semi ts)
    (λ n0. rw (n0, first_step) (bool_cases (starts_local ts)
    (λ y1. rw y1 (λ v2 r2 d2. (first_local d2)))
    (λ y1. rw y1 (λ v2 r2 d2. (first_act d2)))))
    (λ w0 y0. rw (y0, first_step) no_first)

pub step_good : (ts : List Token) → Good Post (step_step ts) (Post NStep ts)
step_good ts = option_cases (after marks.CloseRound ts)
    (λ n0. rw (n0, step_step) (λ v1 r1 d1. (a_step d1)))
    (λ w0 y0. rw (y0, step_step) no_step)

pub branches_good : (a : Arms) (ts : List Token) → Good Post (branches_step a ts) (Post (NBranches a) ts)
branches_good a ts = λ v0 r0 d0. (λ v1 r1 d1. (option_cases (after_key keys.Else r1)
    (λ n2. rw n2 (end_good a n2 d0 d1))
    (λ w2 y2. let e2 = after_key_is keys.Else r1 w2 y2 in rw y2 (option_cases (after_key keys.If w2.1)
    (λ n3. rw n3 (λ v4 r4 d4. (other_good a e2 n3 d0 d1 d4)))
    (λ w3 y3. let e3 = after_key_is keys.If w2.1 w3 y3 in rw y3 (λ v r d. again_good a e2 e3 d0 d1 d))))))
