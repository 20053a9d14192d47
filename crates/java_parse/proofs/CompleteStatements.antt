-- Statements of the grammar are read.
use Rattle.std.proofs.Common.{refl, sym, subst, ◌≡◌, ℕ, List, [], ◌∷◌, Option, Some, None, Ok, Bool, true, false}
use Rattle.kaba_base.specs.declared.Place.{Place}
use Rattle.kaba_base.specs.declared.words.Keyword.{Keyword}
use Rattle.kaba_base.specs.declared.words.Keyword.TheVariants as keys
use Rattle.java_lex.specs.declared.Token.{Token}
use Rattle.java_lex.specs.declared.TokenKind.{TokenKind}
use Rattle.java_lex.specs.declared.TokenKind.TheVariants as kinds
use Rattle.java_lex.specs.declared.Mark.{Mark}
use Rattle.java_lex.specs.declared.Mark.TheVariants as marks
use Rattle.java_lex.specs.Lexing.{token}
use Rattle.java_tree.specs.declared.TypeName.{TypeName}
use Rattle.java_tree.specs.Syntax.{Expression, NameRef, Statement, LocalOf, Statements, no_statements, Arms, no_arms, Else, OptionalStatement}
use Rattle.java_tree.specs.Tokens.{mark, key, word, compound, stepping, first_place}
use Rattle.java_tree.specs.Statements.{as_body, is_word}
use Rattle.java_parse.specs.declared.End.{End}
use Rattle.java_parse.specs.declared.End.TheVariants as ends
use Rattle.java_parse.specs.Want.{NPost, NType, NTail, NInit, NLocal, NValue, NAct, NTested, NItem, NItems, NStmt, NForHead, NFirst, NStep, NBranches}
use Rattle.java_parse.specs.Front.{after, after_key, word_next, up_next, index_next, stmt_snoc, arm_snoc, final_of, stepping_next, compound_next, is_target, is_call, done, starts_local, start, SOther}
use Rattle.java_tree.specs.Expressions.{named_base, IsDims, no_dims, one_dim, IsType, a_type, IsExpr, IsPost, field, call_on, index, name}
use Rattle.java_tree.specs.Statements.{is_choice, IsValue, no_value, a_value, IsInit, no_init, an_init, IsLocal, a_local, IsTarget, to_name, to_field, to_index, IsCall, plain_call, call_upon, call_above, IsAct, assign, assign_by, step_after, step_before, do_call, print, do_new, IsForFirst, no_first, first_local, first_act, IsForStep, no_step, a_step, IsItem, local_item, stmt_item, IsItems, no_items, next_item, IsStmt, block, empty, acting, choice, while_loop, for_loop, return_word, break_word, continue_word, IsArms, last_arm, else_arm, more_arms}
use Rattle.java_parse.proofs.Fronts.{Starts, start_is, done_is}
use Rattle.java_tree.specs.Nesting.{next_is}
use Rattle.java_parse.specs.Front.{index_next, follows_word}
use Rattle.java_tree.specs.Expressions.{int_base, boolean_base, char_base}
use Rattle.java_parse.specs.Reading.{Reads}
use Rattle.java_tree.proofs.Appended.{append_stmts, append_arms, stmts_end}
use Rattle.java_parse.proofs.SoundStatements.{stmts_snoc, arms_snoc, arms_one}
use Rattle.java_parse.proofs.Begins.{begins_post, post_begins, expr_begins, no_semi, no_closes, post_none}
use Rattle.java_parse.proofs.CompleteExpressions.{Ends, Stops, stops_round, stops_square, stops_semi, index_none, post_reads, closed_reads, args_reads, type_reads}
use Rattle.java_tree.specs.Statements.{not_final, is_final}
use Rattle.java_parse.proofs.ExpressionSteps as x
use Rattle.java_parse.proofs.StatementSteps as y

-- what follows an act
record ActEnds (rest : List Token) : Type 0 where
  stops : Stops 1 rest
  assign_ : after marks.Assign rest ≡ None
  compound_ : compound_next rest ≡ None
  stepping_ : stepping_next rest ≡ None

semi_ends : {p : Place} {us : List Token} → ActEnds (mark marks.Semi p ∷ us)
semi_ends = record { stops = stops_semi; assign_ = refl; compound_ = refl; stepping_ = refl }

round_ends : {p : Place} {us : List Token} → ActEnds (mark marks.CloseRound p ∷ us)
round_ends = record { stops = stops_round; assign_ = refl; compound_ = refl; stepping_ = refl }

-- the type of a local, without `final`
pub type_no_final : {ts rest : List Token} {t : TypeName} → IsType ts rest t → final_of ts ≡ (false, ts)
type_no_final (a_type int_base d) = refl
type_no_final (a_type boolean_base d) = refl
type_no_final (a_type char_base d) = refl
type_no_final (a_type named_base d) = refl

local_by_final : {ts us vs ws : List Token} {t : TypeName} {n : List ℕ} {v : Option Expression} {p : Place} (f : Bool × List Token) → final_of ts ≡ f
    → Reads NType f.1 (Ok (t, us)) → word_next us ≡ Some (n, p, vs) → Reads NInit vs (Ok (v, ws)) →
    Reads NLocal ts (Ok (LocalOf f.0 t n v p, ws))
local_by_final {ts = ts} {us = us} {vs = vs} {ws = ws} {t = t} {n = n} {v = v} {p = p} f e a h b =
    subst (λ (f : Bool × List Token). Reads NLocal ts (Ok (LocalOf f.0 t n v p, ws))) e
    (y.local_is (subst (λ (f : Bool × List Token). Reads NType f.1 (Ok (t, us))) (sym e) a) h b)

init_reads : {ts rest : List Token} {v : Option Expression} {q : Place} → IsInit ts (mark marks.Semi q ∷ rest) v
    → Reads NInit ts (Ok (v, mark marks.Semi q ∷ rest))
init_reads no_init = y.init_none refl
init_reads (an_init d) = y.init_some refl (closed_reads d stops_semi)

local_reads : {ts rest : List Token} {s : Statement} {q : Place} → IsLocal ts (mark marks.Semi q ∷ rest) s → Reads NLocal ts (Ok (s, mark marks.Semi q ∷ rest))
local_reads (a_local not_final t i) = local_by_final (false, _) (type_no_final t) (type_reads t refl) refl (init_reads i)
local_reads (a_local is_final t i) = local_by_final (true, _) refl (type_reads t refl) refl (init_reads i)

value_reads : {ts rest : List Token} {v : Option Expression} {q : Place} → IsValue ts (mark marks.Semi q ∷ rest) v
    → Reads NValue ts (Ok (v, mark marks.Semi q ∷ rest))
value_reads no_value = y.value_none refl
value_reads (a_value {ts = ts} d) = y.value_some (no_semi ts (expr_begins d)) (closed_reads d stops_semi)

-- an expression without operators that ends so, and how
record Ended (P : End → Bool) (ts rest : List Token) (e : Expression) : Type 0 where
  how : End
  kind : P how ≡ true
  reads : Reads NPost ts (Ok ((e, how), rest))

ends_here : {z : End} {e : Expression} {rest : List Token} → Ends rest → Reads (NTail e z) rest (Ok ((e, z), rest))
ends_here {z = z} {rest = rest} s = x.tail_ends s.dot (index_none z rest s.square)

no : {P : Type 0} → true ≡ false → P
no h = absurd (let g : ⊥ = cc in g)

target_reads : {ts rest : List Token} {e : Expression} → IsTarget ts rest e → Ends rest → Ended is_target ts rest e
target_reads to_name s = record { how = ends.Name; kind = refl; reads = x.post_steps (x.atom_name refl refl s.round) (ends_here s) }
target_reads (to_field d) s =
    let r = post_reads d refl (λ h. refl) in record {
      how = ends.Target;
      kind = refl;
      reads = r.goes _
          (x.tail_field refl refl s.round (ends_here s));
    }
target_reads (to_index {p = p} {us = us} d i) s =
    let r = post_reads d refl (λ h. no h) in
    let h : index_next r.end_ (mark marks.OpenSquare p ∷ us) ≡ Some (p, us) = rw (r.kind refl) refl in
    record { how = ends.Target; kind = refl; reads = r.goes _ (x.tail_index refl h (closed_reads i stops_square) refl (ends_here s)) }

call_reads : {ts rest : List Token} {e : Expression} → IsCall ts rest e → Ends rest → Ended is_call ts rest e
call_reads (plain_call a) s = record { how = ends.Call; kind = refl; reads = x.post_steps (x.atom_call refl refl refl (args_reads a)) (ends_here s) }
call_reads (call_upon d a) s =
    let r = post_reads d refl (λ h. refl) in record {
      how = ends.Call;
      kind = refl;
      reads = r.goes _ (x.tail_call refl refl refl (args_reads a)
          (ends_here s));
    }
call_reads (call_above a) s =
    record {
      how = ends.Call;
      kind = refl;
      reads = x.post_steps (x.atom_super refl refl refl refl refl (x.super_call refl refl refl (args_reads a)))
          (ends_here s);
    }

target_begins : {ts rest : List Token} {e : Expression} → IsTarget ts rest e → next_is begins_post ts ≡ true
target_begins to_name = refl
target_begins (to_field d) = post_begins d
target_begins (to_index d i) = post_begins d

call_begins : {ts rest : List Token} {e : Expression} → IsCall ts rest e → next_is begins_post ts ≡ true
call_begins (plain_call a) = refl
call_begins (call_upon d a) = post_begins d
call_begins (call_above a) = refl

-- a mark that is none of those that go on behind a name
record Free (m : Mark) (p : Place) (us : List Token) : Type 0 where
  ends_ : Ends (mark m p ∷ us)
  assign_ : after marks.Assign (mark m p ∷ us) ≡ None
  follows : follows_word (mark m p ∷ us) ≡ false

compound_free : (m o : Mark) (p : Place) (us : List Token) → compound m ≡ Some o → Free m p us
compound_free marks.PlusAssign o p us h = record { ends_ = record { dot = refl; round = refl; square = refl; cast = refl }; assign_ = refl; follows = refl }
compound_free marks.MinusAssign o p us h = record { ends_ = record { dot = refl; round = refl; square = refl; cast = refl }; assign_ = refl; follows = refl }
compound_free marks.StarAssign o p us h = record { ends_ = record { dot = refl; round = refl; square = refl; cast = refl }; assign_ = refl; follows = refl }
compound_free marks.SlashAssign o p us h = record { ends_ = record { dot = refl; round = refl; square = refl; cast = refl }; assign_ = refl; follows = refl }
compound_free marks.PercentAssign o p us h = record { ends_ = record { dot = refl; round = refl; square = refl; cast = refl }; assign_ = refl; follows = refl }
compound_free _ o p us h = cc

stepping_free : (m o : Mark) (p : Place) (us : List Token) → stepping m ≡ Some o → Free m p us × (compound m ≡ None)
stepping_free marks.PlusPlus o p us h =
    (record { ends_ = record { dot = refl; round = refl; square = refl; cast = refl }; assign_ = refl; follows = refl }, refl)
stepping_free marks.MinusMinus o p us h =
    (record { ends_ = record { dot = refl; round = refl; square = refl; cast = refl }; assign_ = refl; follows = refl }, refl)
stepping_free _ o p us h = cc

named_reads : {n : List ℕ} {p : Place} {rest : List Token} → Ends rest → Reads NPost (word n p ∷ rest) (Ok ((NameRef n p, ends.Name), rest))
named_reads s = x.post_steps (x.atom_name refl refl s.round) (ends_here s)

done_reads : {ts rest : List Token} {e : Expression} {s : Statement} → Ended is_call ts rest e → stepping_next ts ≡ None → ActEnds rest
    → done (next_is is_word ts) (first_place ts) e ≡ s → Reads NAct ts (Ok (s, rest))
done_reads {ts = ts} {rest = rest} r h n q =
    subst (λ (s : Statement). Reads NAct ts (Ok (s, rest))) q (y.act_post h r.reads (y.act_rest_call n.assign_ n.compound_ n.stepping_ r.kind))

act_reads : {ts rest : List Token} {s : Statement} → IsAct ts rest s → ActEnds rest → Reads NAct ts (Ok (s, rest))
act_reads (assign {ts = ts} t e) n =
    let r = target_reads t (record { dot = refl; round = refl; square = refl; cast = refl }) in
    y.act_post ((post_none ts (target_begins t)).2) r.reads (y.act_rest_assign refl r.kind (closed_reads e n.stops))
act_reads (assign_by {n = w} {m = m} {o = o} {p = p} {q = q} {us = us} h e) n =
    let f = compound_free m o q us h in
    let g : compound_next (mark m q ∷ us) ≡ Some (o, q, us) = rw h refl in
    y.act_post refl (named_reads f.ends_) (y.act_rest_compound f.assign_ g refl (closed_reads e n.stops))
act_reads (step_after {m = m} {o = o} {q = q} {rest = rest} h) n =
    let f = stepping_free m o q rest h in
    let g : compound_next (mark m q ∷ rest) ≡ None = rw f.1 refl in
    let k : stepping_next (mark m q ∷ rest) ≡ Some (o, q, rest) = rw h refl in
    y.act_post refl (named_reads f.0.ends_) (y.act_rest_after f.0.assign_ g k refl)
act_reads (step_before {n = w} {m = m} {o = o} {p = p} {q = q} {rest = rest} h) n =
    let f : stepping_next (mark m q ∷ word w p ∷ rest) ≡ Some (o, q, word w p ∷ rest) = rw h refl in y.act_before f refl
act_reads (do_call {e = e} {ts = ts} c h) n = done_reads (call_reads c n.stops.ends_) ((post_none ts (call_begins c)).2) n (done_is ts e None h)
act_reads (print {e = e} {l = l} {v = v} {ts = ts} c h) n = done_reads (call_reads c n.stops.ends_) ((post_none ts (call_begins c)).2) n
    (done_is ts e (Some (l, v)) h)
act_reads (do_new a) n = done_reads
    (record {
      how = ends.New;
      kind = refl;
      reads = x.post_steps (x.atom_new refl refl refl refl (x.new_object refl refl (args_reads a)))
          (ends_here n.stops.ends_);
    }) refl n refl

-- no statement begins as a declaration of a local
post_no_local : {b : Bool} {ts rest : List Token} {e : Expression} → IsPost b ts rest e → follows_word rest ≡ false → starts_local ts ≡ false
post_no_local (field d) h = post_no_local d refl
post_no_local (call_on d a) h = post_no_local d refl
post_no_local (index {us = us} d i) h = post_no_local d (no_closes us (expr_begins i))
post_no_local name h = h
post_no_local _ h = refl

target_no_local : {ts rest : List Token} {e : Expression} → IsTarget ts rest e → follows_word rest ≡ false → starts_local ts ≡ false
target_no_local to_name h = h
target_no_local (to_field d) h = post_no_local d refl
target_no_local (to_index {us = us} d i) h = post_no_local d (no_closes us (expr_begins i))

call_no_local : {ts rest : List Token} {e : Expression} → IsCall ts rest e → starts_local ts ≡ false
call_no_local (plain_call a) = refl
call_no_local (call_upon d a) = post_no_local d refl
call_no_local (call_above a) = refl

act_no_local : {ts rest : List Token} {s : Statement} → IsAct ts rest s → starts_local ts ≡ false
act_no_local (assign t e) = target_no_local t refl
act_no_local (assign_by {m = m} {o = o} {q = q} {us = us} h e) = (compound_free m o q us h).follows
act_no_local (step_after {m = m} {o = o} {q = q} {rest = rest} h) = (stepping_free m o q rest h).0.follows
act_no_local (step_before h) = refl
act_no_local (do_call c h) = call_no_local c
act_no_local (print c h) = call_no_local c
act_no_local (do_new a) = refl

dims_local : {ts rest : List Token} {d : ℕ} {n : List ℕ} {p : Place} → IsDims ts (word n p ∷ rest) d → follows_word ts ≡ true
dims_local no_dims = refl
dims_local (one_dim p q d) = refl

type_local : {ts rest : List Token} {t : TypeName} {n : List ℕ} {p : Place} → IsType ts (word n p ∷ rest) t → starts_local ts ≡ true
type_local (a_type int_base d) = refl
type_local (a_type boolean_base d) = refl
type_local (a_type char_base d) = refl
type_local (a_type named_base d) = dims_local d

type_no_semi : {ts rest : List Token} {t : TypeName} → IsType ts rest t → after marks.Semi ts ≡ None
type_no_semi (a_type int_base d) = refl
type_no_semi (a_type boolean_base d) = refl
type_no_semi (a_type char_base d) = refl
type_no_semi (a_type named_base d) = refl

local_starts : {ts rest : List Token} {s : Statement} → IsLocal ts rest s → (starts_local ts ≡ true) × (after marks.Semi ts ≡ None)
local_starts (a_local not_final t i) = (type_local t, type_no_semi t)
local_starts (a_local is_final t i) = (refl, refl)

-- how an act begins
record Acts (ts : List Token) : Type 0 where
  other : start ts ≡ SOther
  semi : after marks.Semi ts ≡ None
  round_ : after marks.CloseRound ts ≡ None
  brace : after marks.CloseBrace ts ≡ None
  else_ : after_key keys.Else ts ≡ None

post_key_acts : (k : Keyword) (p : Place) (ts : List Token) → begins_post (kinds.Key k) ≡ true → Acts (key k p ∷ ts)
post_key_acts keys.This p ts h = record { other = refl; semi = refl; round_ = refl; brace = refl; else_ = refl }
post_key_acts keys.Super p ts h = record { other = refl; semi = refl; round_ = refl; brace = refl; else_ = refl }
post_key_acts keys.New p ts h = record { other = refl; semi = refl; round_ = refl; brace = refl; else_ = refl }
post_key_acts keys.True p ts h = record { other = refl; semi = refl; round_ = refl; brace = refl; else_ = refl }
post_key_acts keys.False p ts h = record { other = refl; semi = refl; round_ = refl; brace = refl; else_ = refl }
post_key_acts keys.Null p ts h = record { other = refl; semi = refl; round_ = refl; brace = refl; else_ = refl }
post_key_acts _ p ts h = cc

post_mark_acts : (m : Mark) (p : Place) (ts : List Token) → begins_post (kinds.Mark m) ≡ true → Acts (mark m p ∷ ts)
post_mark_acts marks.OpenRound p ts h = record { other = refl; semi = refl; round_ = refl; brace = refl; else_ = refl }
post_mark_acts _ p ts h = cc

post_kind_acts : (k : TokenKind) (p : Place) (ts : List Token) → begins_post k ≡ true → Acts (token k p ∷ ts)
post_kind_acts (kinds.Key k) p ts h = post_key_acts k p ts h
post_kind_acts (kinds.Mark m) p ts h = post_mark_acts m p ts h
post_kind_acts kinds.Least p ts h = cc
post_kind_acts _ p ts h = record { other = refl; semi = refl; round_ = refl; brace = refl; else_ = refl }

post_acts : (ts : List Token) → next_is begins_post ts ≡ true → Acts ts
post_acts [] h = cc
post_acts (t ∷ ts) h = post_kind_acts t.kind t.place ts h

stepping_acts : (m o : Mark) (p : Place) (ts : List Token) → stepping m ≡ Some o → Acts (mark m p ∷ ts)
stepping_acts marks.PlusPlus o p ts h = record { other = refl; semi = refl; round_ = refl; brace = refl; else_ = refl }
stepping_acts marks.MinusMinus o p ts h = record { other = refl; semi = refl; round_ = refl; brace = refl; else_ = refl }
stepping_acts _ o p ts h = cc

act_starts : {ts rest : List Token} {s : Statement} → IsAct ts rest s → Acts ts
act_starts (assign {ts = ts} t e) = post_acts ts (target_begins t)
act_starts (assign_by h e) = record { other = refl; semi = refl; round_ = refl; brace = refl; else_ = refl }
act_starts (step_after h) = record { other = refl; semi = refl; round_ = refl; brace = refl; else_ = refl }
act_starts (step_before {n = n} {m = m} {o = o} {p = p} {q = q} {rest = rest} h) = stepping_acts m o q (word n p ∷ rest) h
act_starts (do_call {ts = ts} c h) = post_acts ts (call_begins c)
act_starts (print {ts = ts} c h) = post_acts ts (call_begins c)
act_starts (do_new a) = record { other = refl; semi = refl; round_ = refl; brace = refl; else_ = refl }

first_reads : {ts rest : List Token} {o : OptionalStatement} {q : Place} → IsForFirst ts (mark marks.Semi q ∷ rest) o
    → Reads NFirst ts (Ok (o, mark marks.Semi q ∷ rest))
first_reads no_first = y.first_none refl
first_reads (first_local d) = let s = local_starts d in y.first_local s.1 s.0 (local_reads d)
first_reads (first_act d) = y.first_act (act_starts d).semi (act_no_local d) (act_reads d semi_ends)

step_reads : {ts rest : List Token} {o : OptionalStatement} {q : Place} → IsForStep ts (mark marks.CloseRound q ∷ rest) o
    → Reads NStep ts (Ok (o, mark marks.CloseRound q ∷ rest))
step_reads no_step = y.step_none refl
step_reads (a_step d) = y.step_act (act_starts d).round_ (act_reads d round_ends)

tested_reads : {us vs : List Token} {e : Expression} {q r : Place} → IsExpr 1 us (mark marks.CloseRound r ∷ vs) e
    → Reads NTested (mark marks.OpenRound q ∷ us) (Ok (e, vs))
tested_reads d = y.tested_is refl (closed_reads d stops_round) refl

head_reads : {us vs ws xs : List Token} {f g : OptionalStatement} {v : Option Expression} {q r t w : Place} → IsForFirst us (mark marks.Semi r ∷ vs) f
    → IsValue vs (mark marks.Semi t ∷ ws) v → IsForStep ws (mark marks.CloseRound w ∷ xs) g →
    Reads NForHead (mark marks.OpenRound q ∷ us) (Ok ((f, v, g), xs))
head_reads a b c = y.for_head_is refl (first_reads a) refl (value_reads b) refl (step_reads c) refl

-- how an item begins
record Items (ts : List Token) : Type 0 where
  brace : after marks.CloseBrace ts ≡ None
  else_ : after_key keys.Else ts ≡ None

stmt_starts : {o : Bool} {ts rest : List Token} {s : Statement} → IsStmt o ts rest s → Items ts
stmt_starts (block d) = record { brace = refl; else_ = refl }
stmt_starts empty = record { brace = refl; else_ = refl }
stmt_starts (acting d) = record { brace = (act_starts d).brace; else_ = (act_starts d).else_ }
stmt_starts (choice d) = record { brace = refl; else_ = refl }
stmt_starts (while_loop e d) = record { brace = refl; else_ = refl }
stmt_starts (for_loop a b c d) = record { brace = refl; else_ = refl }
stmt_starts (return_word v) = record { brace = refl; else_ = refl }
stmt_starts break_word = record { brace = refl; else_ = refl }
stmt_starts continue_word = record { brace = refl; else_ = refl }

type_starts : {ts rest : List Token} {t : TypeName} → IsType ts rest t → Items ts
type_starts (a_type int_base d) = record { brace = refl; else_ = refl }
type_starts (a_type boolean_base d) = record { brace = refl; else_ = refl }
type_starts (a_type char_base d) = record { brace = refl; else_ = refl }
type_starts (a_type named_base d) = record { brace = refl; else_ = refl }

local_items : {ts rest : List Token} {s : Statement} → IsLocal ts rest s → Items ts
local_items (a_local not_final t i) = type_starts t
local_items (a_local is_final t i) = record { brace = refl; else_ = refl }

item_starts : {ts rest : List Token} {s : Statement} → IsItem ts rest s → Items ts
item_starts (local_item d) = local_items d
item_starts (stmt_item d) = stmt_starts d

items_no_else : {us rest : List Token} {ss : Statements} → IsItems us rest ss → after_key keys.Else us ≡ None
items_no_else no_items = refl
items_no_else (next_item d ds) = (item_starts d).else_

stmt_no_local : {o : Bool} {ts rest : List Token} {s : Statement} → IsStmt o ts rest s → starts_local ts ≡ false
stmt_no_local (block d) = refl
stmt_no_local empty = refl
stmt_no_local (acting d) = act_no_local d
stmt_no_local (choice d) = refl
stmt_no_local (while_loop e d) = refl
stmt_no_local (for_loop a b c d) = refl
stmt_no_local (return_word v) = refl
stmt_no_local break_word = refl
stmt_no_local continue_word = refl

-- no statement begins with `super` and a bracket
post_no_up : {b : Bool} {ts rest : List Token} {e : Expression} → IsPost b ts rest e → up_next ts ≡ None
post_no_up (field d) = post_no_up d
post_no_up (call_on d a) = post_no_up d
post_no_up (index d i) = post_no_up d
post_no_up _ = refl

target_no_up : {ts rest : List Token} {e : Expression} → IsTarget ts rest e → up_next ts ≡ None
target_no_up to_name = refl
target_no_up (to_field d) = post_no_up d
target_no_up (to_index d i) = post_no_up d

call_no_up : {ts rest : List Token} {e : Expression} → IsCall ts rest e → up_next ts ≡ None
call_no_up (plain_call a) = refl
call_no_up (call_upon d a) = post_no_up d
call_no_up (call_above a) = refl

act_no_up : {ts rest : List Token} {s : Statement} → IsAct ts rest s → up_next ts ≡ None
act_no_up (assign t e) = target_no_up t
act_no_up (assign_by h e) = refl
act_no_up (step_after h) = refl
act_no_up (step_before h) = refl
act_no_up (do_call c h) = call_no_up c
act_no_up (print c h) = call_no_up c
act_no_up (do_new a) = refl

type_no_up : {ts rest : List Token} {t : TypeName} → IsType ts rest t → up_next ts ≡ None
type_no_up (a_type int_base d) = refl
type_no_up (a_type boolean_base d) = refl
type_no_up (a_type char_base d) = refl
type_no_up (a_type named_base d) = refl

local_no_up : {ts rest : List Token} {s : Statement} → IsLocal ts rest s → up_next ts ≡ None
local_no_up (a_local not_final t i) = type_no_up t
local_no_up (a_local is_final t i) = refl

stmt_no_up : {o : Bool} {ts rest : List Token} {s : Statement} → IsStmt o ts rest s → up_next ts ≡ None
stmt_no_up (block d) = refl
stmt_no_up empty = refl
stmt_no_up (acting d) = act_no_up d
stmt_no_up (choice d) = refl
stmt_no_up (while_loop e d) = refl
stmt_no_up (for_loop a b c d) = refl
stmt_no_up (return_word v) = refl
stmt_no_up break_word = refl
stmt_no_up continue_word = refl

item_no_up : {ts rest : List Token} {s : Statement} → IsItem ts rest s → up_next ts ≡ None
item_no_up (local_item d) = local_no_up d
item_no_up (stmt_item d) = stmt_no_up d

pub items_no_up : {us rest : List Token} {ss : Statements} → IsItems us rest ss → up_next us ≡ None
items_no_up no_items = refl
items_no_up (next_item d ds) = item_no_up d

other_no_if : (ts : List Token) → start ts ≡ SOther → after_key keys.If ts ≡ None
other_no_if ts h = let z = start_is ts in subst (λ s. Starts s ts) h z

stmt_no_if : {o : Bool} {ts rest : List Token} {s : Statement} → IsStmt o ts rest s → is_choice s ≡ false → after_key keys.If ts ≡ None
stmt_no_if (acting {ts = ts} d) h = other_no_if ts (act_starts d).other
stmt_no_if (choice d) h = cc
stmt_no_if _ h = refl

never : {P : Type 0} → false ≡ true → P
never h = absurd (let g : ⊥ = cc in g)

mutual
  item_reads : {ts rest : List Token} {s : Statement} → IsItem ts rest s → after_key keys.Else rest ≡ None → Reads NItem ts (Ok (s, rest))
  item_reads (local_item d) h = y.item_local (local_starts d).0 (local_reads d) refl
  item_reads (stmt_item d) h = y.item_stmt (stmt_no_local d) (stmt_reads d (λ z. h))

  pub items_reads : {us rest : List Token} {ss : Statements} → IsItems us rest ss → (before : Statements)
      → Reads (NItems before) us (Ok (append_stmts before ss, rest))
  items_reads no_items before = rw stmts_end (y.items_end refl)
  items_reads (next_item {s = s} {ss = ss} d ds) before =
      rw (← stmts_snoc before s ss) (y.items_next (item_starts d).brace (item_reads d (items_no_else ds)) (items_reads ds (stmt_snoc before s)))

  stmt_reads : {o : Bool} {ts rest : List Token} {s : Statement} → IsStmt o ts rest s → (o ≡ true → after_key keys.Else rest ≡ None)
      → Reads NStmt ts (Ok (s, rest))
  stmt_reads (block d) h = y.stmt_block refl (items_reads d no_statements)
  stmt_reads empty h = y.stmt_empty refl
  stmt_reads (acting d) h = y.stmt_act (act_starts d).other (act_reads d semi_ends) refl
  stmt_reads (choice d) h = y.stmt_choice refl (arms_reads d h no_arms)
  stmt_reads (while_loop e d) h = y.stmt_while refl (tested_reads e) (stmt_reads d h)
  stmt_reads (for_loop a b c d) h = y.stmt_for refl (head_reads a b c) (stmt_reads d h)
  stmt_reads (return_word v) h = y.stmt_return refl (value_reads v) refl
  stmt_reads break_word h = y.stmt_break refl refl
  stmt_reads continue_word h = y.stmt_continue refl refl

  arms_reads : {o : Bool} {ts rest : List Token} {a : Arms} {l : Else} → IsArms o ts rest a l → (o ≡ true → after_key keys.Else rest ≡ None)
      → (before : Arms) → Reads (NBranches before) ts (Ok ((append_arms before a, l), rest))
  arms_reads (last_arm {o = false} {e = e} {s = s} t d) h before =
      rw (← arms_one before e (as_body s)) (y.branches_end (tested_reads t) (stmt_reads d (λ z. never z)) (h refl))
  arms_reads (last_arm {o = true} {e = e} {s = s} t d) h before =
      rw (← arms_one before e (as_body s)) (y.branches_end (tested_reads t) (stmt_reads d h) (h refl))
  arms_reads (else_arm {e = e} {s = s} t d u n) h before =
      rw (← arms_one before e (as_body s)) (y.branches_other (tested_reads t) (stmt_reads d (λ z. never z)) refl (stmt_no_if u n)
      (stmt_reads u h))
  arms_reads (more_arms {e = e} {s = s} {a = a} t d r) h before =
      rw (← arms_snoc before e (as_body s) a) (y.branches_again (tested_reads t) (stmt_reads d (λ z. never z)) refl refl
      (arms_reads r h (arm_snoc before e (as_body s))))
