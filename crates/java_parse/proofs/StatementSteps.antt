-- How reading steps: one rule for each path.
use Rattle.std.proofs.Common.{◌≡◌, refl, ℕ, List, Option, Some, None, Ok, Err, Bool, true, false}
use Rattle.kaba_base.specs.declared.Place.{Place}
use Rattle.kaba_base.specs.declared.words.Keyword.TheVariants as keys
use Rattle.java_lex.specs.declared.Token.{Token}
use Rattle.java_lex.specs.declared.Mark.{Mark}
use Rattle.java_lex.specs.declared.Mark.TheVariants as marks
use Rattle.java_tree.specs.declared.TypeName.{TypeName}
use Rattle.java_tree.specs.Syntax.{Expression, NameRef, BinaryOf, Statement, LocalOf, BlockOf, AssignOf, IfOf, WhileOf, ForOf, ReturnOf, BreakOf, ContinueOf, Statements, no_statements, Arms, no_arms, Else, no_else, otherwise, OptionalStatement, absent, present}
use Rattle.java_tree.specs.Tokens.{first_place}
use Rattle.java_tree.specs.Statements.{as_body, is_word}
use Rattle.java_tree.specs.Nesting.{next_is}
use Rattle.java_parse.specs.declared.End.{End}
use Rattle.java_parse.specs.Want.{NExpr, NPost, NType, NInit, NLocal, NValue, NAct, NActRest, NTested, NItem, NItems, NStmt, NForHead, NFirst, NStep, NBranches, Want, Val, Give, Fail}
use Rattle.java_parse.specs.Front.{after, after_key, word_next, stmt_snoc, arm_snoc, final_of, stepping_next, compound_next, named, is_target, is_call, stepped, done, starts_local, start, SBlock, SEmpty, SIf, SWhile, SFor, SReturn, SBreak, SContinue, SOther}
use Rattle.java_parse.proofs.Runs.{reads, run, found, missed}
use Rattle.java_parse.specs.Reading.{Fault, Left, ParseOutcome, RunsTo, give, fail, ask, ask_fails, Reads}
use Rattle.java_parse.specs.Seen.{before_by, before}
use Rattle.java_parse.specs.ReadStatements.{init_step, value_step, act_step, act_rest_step, tested_step, item_step, items_step, stmt_step, for_head_step, first_step, step_step}

-- what the mark behind it ends
ends_before : {m : Want} (v : Val m) (ts : List Token) (end : Option (Place × List Token))
    → RunsTo m (elim end [ Some e ↦ Give v e.1 | None ↦ Fail ts ]) (before_by v ts end)
ends_before v ts (Some end) = give
ends_before v ts None = fail

pub before_some : {A : Type 0} (m : Mark) (v : A) (ts : List Token) {p : Place} {us : List Token} → after m ts ≡ Some (p, us) → Ok (v, us) ≡ before m v ts
before_some m v ts h = rw h refl

pub before_none : {A : Type 0} (m : Mark) (v : A) (ts : List Token) → after m ts ≡ None → Err (Left ts) ≡ before m v ts
before_none m v ts h = rw h refl

pub init_some_fails : {ts : List Token} {p : Place} {us : List Token} {fl : Fault} → after marks.Assign ts ≡ Some (p, us)
    → Reads (NExpr 1) us (Err fl) → Reads NInit ts (Err fl)
init_some_fails h0 a1 = reads (rw (h0, init_step) (ask_fails (run a1)))

pub init_some : {ts : List Token} {p : Place} {us : List Token} {e : Expression} {vs : List Token} → after marks.Assign ts ≡ Some (p, us)
    → Reads (NExpr 1) us (Ok (e, vs)) → Reads NInit ts (Ok (Some e, vs))
init_some h0 a1 = reads (rw (h0, init_step) (ask (run a1) give))

pub init_none : {ts : List Token} → after marks.Assign ts ≡ None → Reads NInit ts (Ok (None, ts))
init_none h0 = reads (rw (h0, init_step) give)

pub local_is_fails : {ts : List Token} {fl : Fault} → Reads NType ((final_of ts).1) (Err fl) → Reads NLocal ts (Err fl)
local_is_fails a0 = reads (ask_fails (run a0))

pub local_is_fails2 : {ts : List Token} {t : TypeName} {us : List Token} {n : List ℕ} {p : Place} {vs : List Token} {fl : Fault}
    → Reads NType ((final_of ts).1) (Ok (t, us)) → word_next us ≡ Some (n, p, vs) → Reads NInit vs (Err fl) → Reads NLocal ts (Err fl)
local_is_fails2 a0 h1 a2 = reads (ask (run a0) (rw h1 (ask_fails (run a2))))

pub local_is : {ts : List Token} {t : TypeName} {us : List Token} {n : List ℕ} {p : Place} {vs : List Token} {v : Option Expression} {ws : List Token}
    → Reads NType ((final_of ts).1) (Ok (t, us)) → word_next us ≡ Some (n, p, vs) → Reads NInit vs (Ok (v, ws))
    → Reads NLocal ts (Ok (LocalOf (final_of ts).0 t n v p, ws))
local_is a0 h1 a2 = reads (ask (run a0) (rw h1 (ask (run a2) give)))

pub local_no_name : {ts : List Token} {t : TypeName} {us : List Token} → Reads NType ((final_of ts).1) (Ok (t, us)) → word_next us ≡ None
    → Reads NLocal ts (Err (Left us))
local_no_name a0 h1 = reads (ask (run a0) (rw h1 fail))

pub value_none : {ts : List Token} {p : Place} {us : List Token} → after marks.Semi ts ≡ Some (p, us) → Reads NValue ts (Ok (None, ts))
value_none h0 = reads (rw (h0, value_step) give)

pub value_some_fails : {ts : List Token} {fl : Fault} → after marks.Semi ts ≡ None → Reads (NExpr 1) ts (Err fl) → Reads NValue ts (Err fl)
value_some_fails h0 a1 = reads (rw (h0, value_step) (ask_fails (run a1)))

pub value_some : {ts : List Token} {e : Expression} {us : List Token} → after marks.Semi ts ≡ None → Reads (NExpr 1) ts (Ok (e, us))
    → Reads NValue ts (Ok (Some e, us))
value_some h0 a1 = reads (rw (h0, value_step) (ask (run a1) give))

pub act_before : {ts : List Token} {j : Mark} {q : Place} {us : List Token} {n : List ℕ} {p : Place} {vs : List Token}
    → stepping_next ts ≡ Some (j, q, us) → word_next us ≡ Some (n, p, vs) → Reads NAct ts (Ok (stepped j n p q, vs))
act_before h0 h1 = reads (rw (h0, act_step, h1) give)

pub act_no_name : {ts : List Token} {j : Mark} {q : Place} {us : List Token} → stepping_next ts ≡ Some (j, q, us) → word_next us ≡ None
    → Reads NAct ts (Err (Left us))
act_no_name h0 h1 = reads (rw (h0, act_step, h1) fail)

pub act_post_fails : {ts : List Token} {fl : Fault} → stepping_next ts ≡ None → Reads NPost ts (Err fl) → Reads NAct ts (Err fl)
act_post_fails h0 a1 = reads (rw (h0, act_step) (ask_fails (run a1)))

pub act_post : {ts : List Token} {e : Expression} {z : End} {us : List Token} {o : ParseOutcome Statement} → stepping_next ts ≡ None
    → Reads NPost ts (Ok ((e, z), us)) → Reads (NActRest (next_is is_word ts) (first_place ts) e z) us o → Reads NAct ts o
act_post {o = Ok given} h0 a1 a2 = reads (rw (h0, act_step) (ask (run a1) (ask (run a2) give)))
act_post {o = Err fault} h0 a1 a2 = reads (rw (h0, act_step) (ask (run a1) (ask_fails (run a2))))

pub act_rest_assign_fails : {w : Bool} {r : Place} {e : Expression} {z : End} {ts : List Token} {p : Place} {us : List Token} {fl : Fault}
    → after marks.Assign ts ≡ Some (p, us) → is_target z ≡ true → Reads (NExpr 1) us (Err fl) → Reads (NActRest w r e z) ts (Err fl)
act_rest_assign_fails h0 h1 a2 = reads (rw (h0, act_rest_step, h1) (ask_fails (run a2)))

pub act_rest_assign : {w : Bool} {r : Place} {e : Expression} {z : End} {ts : List Token} {p : Place} {us : List Token} {v : Expression} {vs : List Token}
    → after marks.Assign ts ≡ Some (p, us) → is_target z ≡ true → Reads (NExpr 1) us (Ok (v, vs))
    → Reads (NActRest w r e z) ts (Ok (AssignOf e v p, vs))
act_rest_assign h0 h1 a2 = reads (rw (h0, act_rest_step, h1) (ask (run a2) give))

pub act_rest_no_target : {w : Bool} {r : Place} {e : Expression} {z : End} {ts : List Token} {p : Place} {us : List Token}
    → after marks.Assign ts ≡ Some (p, us) → is_target z ≡ false → Reads (NActRest w r e z) ts (Err (Left ts))
act_rest_no_target h0 h1 = reads (rw (h0, act_rest_step, h1) fail)

pub act_rest_compound_fails : {w : Bool} {r : Place} {e : Expression} {z : End} {ts : List Token} {j : Mark} {q : Place} {us : List Token} {n : List ℕ}
    {p : Place} {fl : Fault} → after marks.Assign ts ≡ None → compound_next ts ≡ Some (j, q, us) → named z e ≡ Some (n, p)
    → Reads (NExpr 1) us (Err fl) → Reads (NActRest w r e z) ts (Err fl)
act_rest_compound_fails h0 h1 h2 a3 = reads (rw (h0, act_rest_step, h1, h2) (ask_fails (run a3)))

pub act_rest_compound : {w : Bool} {r : Place} {e : Expression} {z : End} {ts : List Token} {j : Mark} {q : Place} {us : List Token} {n : List ℕ}
    {p : Place} {v : Expression} {vs : List Token} → after marks.Assign ts ≡ None → compound_next ts ≡ Some (j, q, us) → named z e ≡ Some (n, p)
    → Reads (NExpr 1) us (Ok (v, vs)) → Reads (NActRest w r e z) ts (Ok (AssignOf (NameRef n p) (BinaryOf j (NameRef n p) v q) q, vs))
act_rest_compound h0 h1 h2 a3 = reads (rw (h0, act_rest_step, h1, h2) (ask (run a3) give))

pub act_rest_compound_none : {w : Bool} {r : Place} {e : Expression} {z : End} {ts : List Token} {j : Mark} {q : Place} {us : List Token}
    → after marks.Assign ts ≡ None → compound_next ts ≡ Some (j, q, us) → named z e ≡ None → Reads (NActRest w r e z) ts (Err (Left ts))
act_rest_compound_none h0 h1 h2 = reads (rw (h0, act_rest_step, h1, h2) fail)

pub act_rest_after : {w : Bool} {r : Place} {e : Expression} {z : End} {ts : List Token} {j : Mark} {q : Place} {us : List Token} {n : List ℕ} {p : Place}
    → after marks.Assign ts ≡ None → compound_next ts ≡ None → stepping_next ts ≡ Some (j, q, us) → named z e ≡ Some (n, p)
    → Reads (NActRest w r e z) ts (Ok (stepped j n p q, us))
act_rest_after h0 h1 h2 h3 = reads (rw (h0, act_rest_step, h1, h2, h3) give)

pub act_rest_after_none : {w : Bool} {r : Place} {e : Expression} {z : End} {ts : List Token} {j : Mark} {q : Place} {us : List Token}
    → after marks.Assign ts ≡ None → compound_next ts ≡ None → stepping_next ts ≡ Some (j, q, us) → named z e ≡ None
    → Reads (NActRest w r e z) ts (Err (Left ts))
act_rest_after_none h0 h1 h2 h3 = reads (rw (h0, act_rest_step, h1, h2, h3) fail)

pub act_rest_call : {w : Bool} {r : Place} {e : Expression} {z : End} {ts : List Token} → after marks.Assign ts ≡ None → compound_next ts ≡ None
    → stepping_next ts ≡ None → is_call z ≡ true → Reads (NActRest w r e z) ts (Ok (done w r e, ts))
act_rest_call h0 h1 h2 h3 = reads (rw (h0, act_rest_step, h1, h2, h3) give)

pub act_rest_none : {w : Bool} {r : Place} {e : Expression} {z : End} {ts : List Token} → after marks.Assign ts ≡ None → compound_next ts ≡ None
    → stepping_next ts ≡ None → is_call z ≡ false → Reads (NActRest w r e z) ts (Err (Left ts))
act_rest_none h0 h1 h2 h3 = reads (rw (h0, act_rest_step, h1, h2, h3) fail)

pub tested_is_fails : {ts : List Token} {p : Place} {us : List Token} {fl : Fault} → after marks.OpenRound ts ≡ Some (p, us)
    → Reads (NExpr 1) us (Err fl) → Reads NTested ts (Err fl)
tested_is_fails h0 a1 = reads (rw (h0, tested_step) (ask_fails (run a1)))

pub tested_is : {ts : List Token} {p : Place} {us : List Token} {e : Expression} {vs : List Token} {zq : Place} {ws : List Token}
    → after marks.OpenRound ts ≡ Some (p, us) → Reads (NExpr 1) us (Ok (e, vs)) → after marks.CloseRound vs ≡ Some (zq, ws)
    → Reads NTested ts (Ok (e, ws))
tested_is h0 a1 h2 = reads (rw (h0, tested_step) (ask (run a1) (found _ _ h2 give)))

pub tested_open : {ts : List Token} {p : Place} {us : List Token} {e : Expression} {vs : List Token} → after marks.OpenRound ts ≡ Some (p, us)
    → Reads (NExpr 1) us (Ok (e, vs)) → after marks.CloseRound vs ≡ None → Reads NTested ts (Err (Left vs))
tested_open h0 a1 h2 = reads (rw (h0, tested_step) (ask (run a1) (missed _ h2 fail)))

pub tested_none : {ts : List Token} → after marks.OpenRound ts ≡ None → Reads NTested ts (Err (Left ts))
tested_none h0 = reads (rw (h0, tested_step) fail)

pub item_local_fails : {ts : List Token} {fl : Fault} → starts_local ts ≡ true → Reads NLocal ts (Err fl) → Reads NItem ts (Err fl)
item_local_fails h0 a1 = reads (rw (h0, item_step) (ask_fails (run a1)))

pub item_local : {ts : List Token} {s : Statement} {us : List Token} {o : ParseOutcome Statement} → starts_local ts ≡ true → Reads NLocal ts (Ok (s, us))
    → o ≡ before marks.Semi s us → Reads NItem ts o
item_local h0 a1 e = reads (rw (h0, item_step, e) (ask (run a1) (ends_before _ _ _)))

pub item_stmt : {ts : List Token} {o : ParseOutcome Statement} → starts_local ts ≡ false → Reads NStmt ts o → Reads NItem ts o
item_stmt {o = Ok given} h0 a1 = reads (rw (h0, item_step) (ask (run a1) give))
item_stmt {o = Err fault} h0 a1 = reads (rw (h0, item_step) (ask_fails (run a1)))

pub items_end : {ss : Statements} {ts : List Token} {p : Place} {us : List Token} → after marks.CloseBrace ts ≡ Some (p, us)
    → Reads (NItems ss) ts (Ok (ss, us))
items_end h0 = reads (rw (h0, items_step) give)

pub items_next_fails : {ss : Statements} {ts : List Token} {fl : Fault} → after marks.CloseBrace ts ≡ None → Reads NItem ts (Err fl)
    → Reads (NItems ss) ts (Err fl)
items_next_fails h0 a1 = reads (rw (h0, items_step) (ask_fails (run a1)))

pub items_next : {ss : Statements} {ts : List Token} {s : Statement} {us : List Token} {o : ParseOutcome Statements} → after marks.CloseBrace ts ≡ None
    → Reads NItem ts (Ok (s, us)) → Reads (NItems (stmt_snoc ss s)) us o → Reads (NItems ss) ts o
items_next {o = Ok given} h0 a1 a2 = reads (rw (h0, items_step) (ask (run a1) (ask (run a2) give)))
items_next {o = Err fault} h0 a1 a2 = reads (rw (h0, items_step) (ask (run a1) (ask_fails (run a2))))

pub stmt_block_fails : {ts : List Token} {p : Place} {us : List Token} {fl : Fault} → start ts ≡ SBlock p us
    → Reads (NItems no_statements) us (Err fl) → Reads NStmt ts (Err fl)
stmt_block_fails h0 a1 = reads (rw (h0, stmt_step) (ask_fails (run a1)))

pub stmt_block : {ts : List Token} {p : Place} {us : List Token} {ss : Statements} {vs : List Token} → start ts ≡ SBlock p us
    → Reads (NItems no_statements) us (Ok (ss, vs)) → Reads NStmt ts (Ok (BlockOf ss p, vs))
stmt_block h0 a1 = reads (rw (h0, stmt_step) (ask (run a1) give))

pub stmt_empty : {ts : List Token} {p : Place} {us : List Token} → start ts ≡ SEmpty p us → Reads NStmt ts (Ok (BlockOf no_statements p, us))
stmt_empty h0 = reads (rw (h0, stmt_step) give)

pub stmt_choice_fails : {ts : List Token} {p : Place} {us : List Token} {fl : Fault} → start ts ≡ SIf p us → Reads (NBranches no_arms) us (Err fl)
    → Reads NStmt ts (Err fl)
stmt_choice_fails h0 a1 = reads (rw (h0, stmt_step) (ask_fails (run a1)))

pub stmt_choice : {ts : List Token} {p : Place} {us : List Token} {a : Arms} {l : Else} {vs : List Token} → start ts ≡ SIf p us
    → Reads (NBranches no_arms) us (Ok ((a, l), vs)) → Reads NStmt ts (Ok (IfOf a l p, vs))
stmt_choice h0 a1 = reads (rw (h0, stmt_step) (ask (run a1) give))

pub stmt_while_fails : {ts : List Token} {p : Place} {us : List Token} {fl : Fault} → start ts ≡ SWhile p us → Reads NTested us (Err fl)
    → Reads NStmt ts (Err fl)
stmt_while_fails h0 a1 = reads (rw (h0, stmt_step) (ask_fails (run a1)))

pub stmt_while_fails2 : {ts : List Token} {p : Place} {us : List Token} {e : Expression} {vs : List Token} {fl : Fault} → start ts ≡ SWhile p us
    → Reads NTested us (Ok (e, vs)) → Reads NStmt vs (Err fl) → Reads NStmt ts (Err fl)
stmt_while_fails2 h0 a1 a2 = reads (rw (h0, stmt_step) (ask (run a1) (ask_fails (run a2))))

pub stmt_while : {ts : List Token} {p : Place} {us : List Token} {e : Expression} {vs : List Token} {s : Statement} {ws : List Token}
    → start ts ≡ SWhile p us → Reads NTested us (Ok (e, vs)) → Reads NStmt vs (Ok (s, ws)) → Reads NStmt ts (Ok (WhileOf e (as_body s) p, ws))
stmt_while h0 a1 a2 = reads (rw (h0, stmt_step) (ask (run a1) (ask (run a2) give)))

pub stmt_for_fails : {ts : List Token} {p : Place} {us : List Token} {fl : Fault} → start ts ≡ SFor p us → Reads NForHead us (Err fl) → Reads NStmt ts (Err fl)
stmt_for_fails h0 a1 = reads (rw (h0, stmt_step) (ask_fails (run a1)))

pub stmt_for_fails2 : {ts : List Token} {p : Place} {us : List Token} {f : OptionalStatement} {v : Option Expression} {g : OptionalStatement}
    {vs : List Token} {fl : Fault} → start ts ≡ SFor p us → Reads NForHead us (Ok ((f, v, g), vs)) → Reads NStmt vs (Err fl) → Reads NStmt ts (Err fl)
stmt_for_fails2 h0 a1 a2 = reads (rw (h0, stmt_step) (ask (run a1) (ask_fails (run a2))))

pub stmt_for : {ts : List Token} {p : Place} {us : List Token} {f : OptionalStatement} {v : Option Expression} {g : OptionalStatement}
    {vs : List Token} {s : Statement} {ws : List Token} → start ts ≡ SFor p us → Reads NForHead us (Ok ((f, v, g), vs)) → Reads NStmt vs (Ok (s, ws))
    → Reads NStmt ts (Ok (ForOf f v g (as_body s) p, ws))
stmt_for h0 a1 a2 = reads (rw (h0, stmt_step) (ask (run a1) (ask (run a2) give)))

pub stmt_return_fails : {ts : List Token} {p : Place} {us : List Token} {fl : Fault} → start ts ≡ SReturn p us → Reads NValue us (Err fl)
    → Reads NStmt ts (Err fl)
stmt_return_fails h0 a1 = reads (rw (h0, stmt_step) (ask_fails (run a1)))

pub stmt_return : {ts : List Token} {p : Place} {us : List Token} {v : Option Expression} {vs : List Token} {o : ParseOutcome Statement}
    → start ts ≡ SReturn p us → Reads NValue us (Ok (v, vs)) → o ≡ before marks.Semi (ReturnOf v p) vs → Reads NStmt ts o
stmt_return h0 a1 e = reads (rw (h0, stmt_step, e) (ask (run a1) (ends_before _ _ _)))

pub stmt_break : {ts : List Token} {p : Place} {us : List Token} {o : ParseOutcome Statement} → start ts ≡ SBreak p us → o ≡ before marks.Semi (BreakOf p) us
    → Reads NStmt ts o
stmt_break h0 e = reads (rw (h0, stmt_step, e) (ends_before _ _ _))

pub stmt_continue : {ts : List Token} {p : Place} {us : List Token} {o : ParseOutcome Statement} → start ts ≡ SContinue p us
    → o ≡ before marks.Semi (ContinueOf p) us → Reads NStmt ts o
stmt_continue h0 e = reads (rw (h0, stmt_step, e) (ends_before _ _ _))

pub stmt_act_fails : {ts : List Token} {fl : Fault} → start ts ≡ SOther → Reads NAct ts (Err fl) → Reads NStmt ts (Err fl)
stmt_act_fails h0 a1 = reads (rw (h0, stmt_step) (ask_fails (run a1)))

pub stmt_act : {ts : List Token} {s : Statement} {us : List Token} {o : ParseOutcome Statement} → start ts ≡ SOther → Reads NAct ts (Ok (s, us))
    → o ≡ before marks.Semi s us → Reads NStmt ts o
stmt_act h0 a1 e = reads (rw (h0, stmt_step, e) (ask (run a1) (ends_before _ _ _)))

pub for_head_is_fails : {ts : List Token} {p : Place} {us : List Token} {fl : Fault} → after marks.OpenRound ts ≡ Some (p, us)
    → Reads NFirst us (Err fl) → Reads NForHead ts (Err fl)
for_head_is_fails h0 a1 = reads (rw (h0, for_head_step) (ask_fails (run a1)))

pub for_head_is_fails2 : {ts : List Token} {p : Place} {us : List Token} {f : OptionalStatement} {vs : List Token} {q : Place} {ws : List Token}
    {fl : Fault} → after marks.OpenRound ts ≡ Some (p, us) → Reads NFirst us (Ok (f, vs)) → after marks.Semi vs ≡ Some (q, ws)
    → Reads NValue ws (Err fl) → Reads NForHead ts (Err fl)
for_head_is_fails2 h0 a1 h2 a3 = reads (rw (h0, for_head_step) (ask (run a1) (found _ _ h2 (ask_fails (run a3)))))

pub for_head_is_fails3 : {ts : List Token} {p : Place} {us : List Token} {f : OptionalStatement} {vs : List Token} {q : Place} {ws : List Token}
    {v : Option Expression} {xs : List Token} {r : Place} {ys : List Token} {fl : Fault} → after marks.OpenRound ts ≡ Some (p, us)
    → Reads NFirst us (Ok (f, vs)) → after marks.Semi vs ≡ Some (q, ws) → Reads NValue ws (Ok (v, xs)) → after marks.Semi xs ≡ Some (r, ys)
    → Reads NStep ys (Err fl) → Reads NForHead ts (Err fl)
for_head_is_fails3 h0 a1 h2 a3 h4 a5 = reads (rw (h0, for_head_step) (ask (run a1) (found _ _ h2 (ask (run a3) (found _ _ h4 (ask_fails (run a5)))))))

pub for_head_is : {ts : List Token} {p : Place} {us : List Token} {f : OptionalStatement} {vs : List Token} {q : Place} {ws : List Token}
    {v : Option Expression} {xs : List Token} {r : Place} {ys : List Token} {g : OptionalStatement} {zs : List Token} {s : Place} {end : List Token}
    → after marks.OpenRound ts ≡ Some (p, us) → Reads NFirst us (Ok (f, vs)) → after marks.Semi vs ≡ Some (q, ws) → Reads NValue ws (Ok (v, xs))
    → after marks.Semi xs ≡ Some (r, ys) → Reads NStep ys (Ok (g, zs)) → after marks.CloseRound zs ≡ Some (s, end)
    → Reads NForHead ts (Ok ((f, v, g), end))
for_head_is h0 a1 h2 a3 h4 a5 h6 = reads (rw (h0, for_head_step) (ask (run a1) (found _ _ h2 (ask (run a3) (found _ _ h4 (ask (run a5) (found _ _ h6 give)))))))

pub for_head_open : {ts : List Token} {p : Place} {us : List Token} {f : OptionalStatement} {vs : List Token} {q : Place} {ws : List Token}
    {v : Option Expression} {xs : List Token} {r : Place} {ys : List Token} {g : OptionalStatement} {zs : List Token} → after marks.OpenRound ts
    ≡ Some (p, us) → Reads NFirst us (Ok (f, vs)) → after marks.Semi vs ≡ Some (q, ws) → Reads NValue ws (Ok (v, xs))
    → after marks.Semi xs ≡ Some (r, ys) → Reads NStep ys (Ok (g, zs)) → after marks.CloseRound zs ≡ None → Reads NForHead ts (Err (Left zs))
for_head_open h0 a1 h2 a3 h4 a5 h6 =
    reads (rw (h0, for_head_step) (ask (run a1) (found _ _ h2 (ask (run a3) (found _ _ h4 (ask (run a5) (missed _ h6 fail)))))))

pub for_head_no_second : {ts : List Token} {p : Place} {us : List Token} {f : OptionalStatement} {vs : List Token} {q : Place} {ws : List Token}
    {v : Option Expression} {xs : List Token} → after marks.OpenRound ts ≡ Some (p, us) → Reads NFirst us (Ok (f, vs))
    → after marks.Semi vs ≡ Some (q, ws) → Reads NValue ws (Ok (v, xs)) → after marks.Semi xs ≡ None → Reads NForHead ts (Err (Left xs))
for_head_no_second h0 a1 h2 a3 h4 = reads (rw (h0, for_head_step) (ask (run a1) (found _ _ h2 (ask (run a3) (missed _ h4 fail)))))

pub for_head_no_first : {ts : List Token} {p : Place} {us : List Token} {f : OptionalStatement} {vs : List Token} → after marks.OpenRound ts
    ≡ Some (p, us) → Reads NFirst us (Ok (f, vs)) → after marks.Semi vs ≡ None → Reads NForHead ts (Err (Left vs))
for_head_no_first h0 a1 h2 = reads (rw (h0, for_head_step) (ask (run a1) (missed _ h2 fail)))

pub for_head_none : {ts : List Token} → after marks.OpenRound ts ≡ None → Reads NForHead ts (Err (Left ts))
for_head_none h0 = reads (rw (h0, for_head_step) fail)

pub first_none : {ts : List Token} {p : Place} {us : List Token} → after marks.Semi ts ≡ Some (p, us) → Reads NFirst ts (Ok (absent, ts))
first_none h0 = reads (rw (h0, first_step) give)

pub first_local_fails : {ts : List Token} {fl : Fault} → after marks.Semi ts ≡ None → starts_local ts ≡ true → Reads NLocal ts (Err fl)
    → Reads NFirst ts (Err fl)
first_local_fails h0 h1 a2 = reads (rw (h0, first_step, h1) (ask_fails (run a2)))

pub first_local : {ts : List Token} {s : Statement} {us : List Token} → after marks.Semi ts ≡ None → starts_local ts ≡ true
    → Reads NLocal ts (Ok (s, us)) → Reads NFirst ts (Ok (present s, us))
first_local h0 h1 a2 = reads (rw (h0, first_step, h1) (ask (run a2) give))

pub first_act_fails : {ts : List Token} {fl : Fault} → after marks.Semi ts ≡ None → starts_local ts ≡ false → Reads NAct ts (Err fl) → Reads NFirst ts (Err fl)
first_act_fails h0 h1 a2 = reads (rw (h0, first_step, h1) (ask_fails (run a2)))

pub first_act : {ts : List Token} {s : Statement} {us : List Token} → after marks.Semi ts ≡ None → starts_local ts ≡ false
    → Reads NAct ts (Ok (s, us)) → Reads NFirst ts (Ok (present s, us))
first_act h0 h1 a2 = reads (rw (h0, first_step, h1) (ask (run a2) give))

pub step_none : {ts : List Token} {p : Place} {us : List Token} → after marks.CloseRound ts ≡ Some (p, us) → Reads NStep ts (Ok (absent, ts))
step_none h0 = reads (rw (h0, step_step) give)

pub step_act_fails : {ts : List Token} {fl : Fault} → after marks.CloseRound ts ≡ None → Reads NAct ts (Err fl) → Reads NStep ts (Err fl)
step_act_fails h0 a1 = reads (rw (h0, step_step) (ask_fails (run a1)))

pub step_act : {ts : List Token} {s : Statement} {us : List Token} → after marks.CloseRound ts ≡ None → Reads NAct ts (Ok (s, us))
    → Reads NStep ts (Ok (present s, us))
step_act h0 a1 = reads (rw (h0, step_step) (ask (run a1) give))

pub branches_again_fails : {a : Arms} {ts : List Token} {fl : Fault} → Reads NTested ts (Err fl) → Reads (NBranches a) ts (Err fl)
branches_again_fails a0 = reads (ask_fails (run a0))

pub branches_again_fails2 : {a : Arms} {ts : List Token} {e : Expression} {us : List Token} {fl : Fault} → Reads NTested ts (Ok (e, us))
    → Reads NStmt us (Err fl) → Reads (NBranches a) ts (Err fl)
branches_again_fails2 a0 a1 = reads (ask (run a0) (ask_fails (run a1)))

pub branches_again : {a : Arms} {ts : List Token} {e : Expression} {us : List Token} {s : Statement} {vs : List Token} {p : Place} {ws : List Token}
    {q : Place} {xs : List Token} {o : ParseOutcome (Arms × Else)} → Reads NTested ts (Ok (e, us)) → Reads NStmt us (Ok (s, vs)) → after_key keys.Else vs
    ≡ Some (p, ws) → after_key keys.If ws ≡ Some (q, xs) → Reads (NBranches (arm_snoc a e (as_body s))) xs o → Reads (NBranches a) ts o
branches_again {o = Ok given} a0 a1 h2 h3 a4 = reads (ask (run a0) (ask (run a1) (rw (h2, h3) (ask (run a4) give))))
branches_again {o = Err fault} a0 a1 h2 h3 a4 = reads (ask (run a0) (ask (run a1) (rw (h2, h3) (ask_fails (run a4)))))

pub branches_other_fails3 : {a : Arms} {ts : List Token} {e : Expression} {us : List Token} {s : Statement} {vs : List Token} {p : Place}
    {ws : List Token} {fl : Fault} → Reads NTested ts (Ok (e, us)) → Reads NStmt us (Ok (s, vs)) → after_key keys.Else vs ≡ Some (p, ws)
    → after_key keys.If ws ≡ None → Reads NStmt ws (Err fl) → Reads (NBranches a) ts (Err fl)
branches_other_fails3 a0 a1 h2 h3 a4 = reads (ask (run a0) (ask (run a1) (rw (h2, h3) (ask_fails (run a4)))))

pub branches_other : {a : Arms} {ts : List Token} {e : Expression} {us : List Token} {s : Statement} {vs : List Token} {p : Place} {ws : List Token}
    {t : Statement} {xs : List Token} → Reads NTested ts (Ok (e, us)) → Reads NStmt us (Ok (s, vs)) → after_key keys.Else vs ≡ Some (p, ws)
    → after_key keys.If ws ≡ None → Reads NStmt ws (Ok (t, xs)) → Reads (NBranches a) ts (Ok ((arm_snoc a e (as_body s), otherwise (as_body t)), xs))
branches_other a0 a1 h2 h3 a4 = reads (ask (run a0) (ask (run a1) (rw (h2, h3) (ask (run a4) give))))

pub branches_end : {a : Arms} {ts : List Token} {e : Expression} {us : List Token} {s : Statement} {vs : List Token} → Reads NTested ts (Ok (e, us))
    → Reads NStmt us (Ok (s, vs)) → after_key keys.Else vs ≡ None → Reads (NBranches a) ts (Ok ((arm_snoc a e (as_body s), no_else), vs))
branches_end a0 a1 h2 = reads (ask (run a0) (ask (run a1) (rw h2 give)))

pub ruleset statement_steps = (
  before_some,
  before_none,
  init_some_fails,
  init_some,
  init_none,
  local_is_fails,
  local_is_fails2,
  local_is,
  local_no_name,
  value_none,
  value_some_fails,
  value_some,
  act_before,
  act_no_name,
  act_post_fails,
  act_post,
  act_rest_assign_fails,
  act_rest_assign,
  act_rest_no_target,
  act_rest_compound_fails,
  act_rest_compound,
  act_rest_compound_none,
  act_rest_after,
  act_rest_after_none,
  act_rest_call,
  act_rest_none,
  tested_is_fails,
  tested_is,
  tested_open,
  tested_none,
  item_local_fails,
  item_local,
  item_stmt,
  items_end,
  items_next_fails,
  items_next,
  stmt_block_fails,
  stmt_block,
  stmt_empty,
  stmt_choice_fails,
  stmt_choice,
  stmt_while_fails,
  stmt_while_fails2,
  stmt_while,
  stmt_for_fails,
  stmt_for_fails2,
  stmt_for,
  stmt_return_fails,
  stmt_return,
  stmt_break,
  stmt_continue,
  stmt_act_fails,
  stmt_act,
  for_head_is_fails,
  for_head_is_fails2,
  for_head_is_fails3,
  for_head_is,
  for_head_open,
  for_head_no_second,
  for_head_no_first,
  for_head_none,
  first_none,
  first_local_fails,
  first_local,
  first_act_fails,
  first_act,
  step_none,
  step_act_fails,
  step_act,
  branches_again_fails,
  branches_again_fails2,
  branches_again,
  branches_other_fails3,
  branches_other,
  branches_end,
)
