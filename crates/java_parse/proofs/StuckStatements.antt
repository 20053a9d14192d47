-- Where reading a statement stops, it can be completed.
use Rattle.std.proofs.Common.{refl, ap, ◌∙◌, ◌≡◌, List, ◌∷◌, Option, Some, None, is_some, if◌then◌else◌, Bool, true, false, ⊎_elim}
use Rattle.kaba_base.specs.declared.Place.{Place}
use Rattle.kaba_base.specs.declared.words.Keyword.TheVariants as keys
use Rattle.kaba_base.proofs.TestLemmas.{none_of}
use Rattle.java_lex.specs.declared.Token.{Token}
use Rattle.java_lex.specs.declared.TokenKind.{TokenKind}
use Rattle.java_lex.specs.declared.TokenKind.TheVariants as kinds
use Rattle.java_lex.specs.declared.Mark.TheVariants as marks
use Rattle.java_tree.specs.Syntax.{Expression, Statement, BlockOf, WhileOf, ForOf, Statements, no_statements, Arms, no_arms, and_arm, no_else, OptionalStatement}
use Rattle.java_tree.specs.Places.{nowhere}
use Rattle.java_tree.specs.Tokens.{key, stepping, compound}
use Rattle.java_tree.specs.Expressions.{operand, bare, int_literal}
use Rattle.java_tree.specs.Statements.{is_choice, no_value, a_value, no_init, an_init, a_local, to_field, assign, step_before, no_first, first_local, first_act, no_step, a_step, local_item, stmt_item, no_items, next_item, IsStmt, block, empty, acting, choice, while_loop, for_loop, return_word, break_word, continue_word, IsArms, last_arm, else_arm, more_arms}
use Rattle.java_parse.specs.declared.End.{End}
use Rattle.java_parse.specs.Want.{NInit, NLocal, NValue, NAct, NActRest, NTested, NItem, NItems, NStmt, NForHead, NFirst, NStep, NBranches}
use denote.Enum.Bare.{sameb}
use Rattle.kaba_base.specs.contracts.words.Keyword.{the_type as key_type}
use Rattle.java_parse.specs.Front.{after, after_key, after_key_by, word_next, stepping_next, compound_next, named, is_target, is_call, starts_local, start}
use Rattle.java_parse.proofs.Fronts.{option_cases, bool_cases, after_is, after_key_is, word_is, final_is, stands_is, start_cases}
use Rattle.java_parse.proofs.Post.{Tested, Headed, headed}
use Rattle.java_parse.specs.ReadStatements.{init_step, local_step, value_step, act_step, act_rest_step, tested_step, item_step, items_step, stmt_step, for_head_step, first_step, step_step, branches_step}
use Rattle.java_parse.proofs.SoundExpressions.{post_of}
use Rattle.java_parse.proofs.SoundStatements.{target_of, compound_act, starts_at, shut_at, no_choice}
use Rattle.java_parse.proofs.Cuts.{here, led, join, Alone, taken, same_front}
use Rattle.java_parse.proofs.AloneExpressions.{type_alone, expr_alone}
use Rattle.java_parse.proofs.AloneStatements.{final_alone, value_alone, local_alone, act_alone, first_alone, step_alone, item_alone, stmt_alone, ended_alone}
use Rattle.java_parse.proofs.Stuck.{Stuck, Unfinished, carry, stops, same, zero, x_word, semi, dot, equals, open_round, close_round, close_brace}

tested_alone : {ts rest : List Token} {e : Expression} → Tested ts e rest → Alone (λ ts rest. Tested ts e rest) ts rest
tested_alone t =
    let s = expr_alone t.test in
    record {
      cut = led t.starts (join s.cut (led refl here));
      again = λ tail. record { open_at = t.open_at; close_at = t.close_at; inner = s.cut.put (_ ∷ tail); starts = refl; test = s.again (_ ∷ tail) };
    }

-- what completes any expression without operators to an act: a field of it is set
abbrev set_field : List Token → List Token
set_field tail = dot (x_word (equals (zero tail)))

pub init_stuck : (ts : List Token) → Unfinished (init_step ts) (Stuck NInit ts)
init_stuck ts = option_cases (after marks.Assign ts)
    (λ n0. rw (n0, init_step) tt)
    (λ w0 y0. let e0 = after_is marks.Assign ts w0 y0 in rw (y0, init_step) (
      λ rest s. carry (led e0 here) same s (λ us tail d. (_, an_init d.1)),
      λ v1 r1 d1. tt,
    ))

pub local_stuck : (ts : List Token) → Unfinished (local_step ts) (Stuck NLocal ts)
local_stuck ts = let f = final_alone (final_is ts) in (
  λ rest s. carry f.cut x_word s (λ us tail d. (_, a_local (f.again us) d.1 no_init)),
  λ v0 r0 d0. let t = type_alone d0 in option_cases (word_next r0)
      (λ n1. rw n1 (stops (join f.cut t.cut) x_word (λ tail. (_, a_local (f.again (t.cut.put (x_word tail))) (t.again (x_word tail)) no_init))))
      (λ w1 y1. let e1 = word_is r0 w1 y1 in rw y1 (
        λ rest s. carry (join f.cut (join t.cut (led e1 here))) same s
            (λ us tail d. (_, a_local (f.again (t.cut.put (_ ∷ us))) (t.again (_ ∷ us)) d.1)),
        λ v2 r2 d2. tt,
      )),
)

pub value_stuck : (ts : List Token) → Unfinished (value_step ts) (Stuck NValue ts)
value_stuck ts = option_cases (after marks.Semi ts)
    (λ n0. rw (n0, value_step) (λ rest s. carry here same s (λ us tail d. (_, a_value d.1)), λ v1 r1 d1. tt))
    (λ w0 y0. rw (y0, value_step) tt)

pub act_stuck : (ts : List Token) → Unfinished (act_step ts) (Stuck NAct ts)
act_stuck ts = option_cases (stepping_next ts)
    (λ n0. rw (n0, act_step) (
      λ rest s. carry here set_field s (λ us tail d. (_, assign (to_field d.2) (operand (bare int_literal)))),
      λ v1 r1 d1. let k = ended_alone d1 in (
        λ rest s. carry k.cut same s (λ us tail d. d (k.cut.put us) (k.again us)),
        λ v r d. tt,
      ),
    ))
    (λ w0 y0. let e0 = stands_is stepping ts w0 y0 in rw (y0, act_step) (option_cases (word_next w0.2)
    (λ n1. rw n1 (stops (led e0.1 here) x_word (λ tail. (_, step_before e0.2))))
    (λ w1 y1. rw y1 tt)))

field_set : {w : Bool} {p : Place} {ts : List Token} {e : Expression} {z : End} → Stuck (NActRest w p e z) ts ts
field_set = stops here set_field (λ tail us h. (_, assign (to_field (post_of h)) (operand (bare int_literal))))

pub act_rest_stuck : (w : Bool) (p : Place) (e : Expression) (z : End) (ts : List Token) → Unfinished (act_rest_step w p e z ts) (Stuck (NActRest w p e z) ts)
act_rest_stuck w p e z ts = option_cases (after marks.Assign ts)
    (λ n0. rw (n0, act_rest_step) (option_cases (compound_next ts)
    (λ n1. rw n1 (option_cases (stepping_next ts)
    (λ n2. rw n2 (bool_cases (is_call z)
    (λ y3. rw y3 tt)
    (λ y3. rw y3 field_set)))
    (λ w2 y2. rw y2 (option_cases (named z e)
    (λ n3. rw n3 field_set)
    (λ w3 y3. rw y3 tt)))))
    (λ w1 y1. let e1 = stands_is compound ts w1 y1 in rw y1 (option_cases (named z e)
    (λ n2. rw n2 field_set)
    (λ w2 y2. rw y2 (
      λ rest s. carry (led e1.1 here) same s (λ us tail d vs h. (_, compound_act {w = (w1.0, w1.1, us)} (e1.0, refl, e1.2) y2 h d.1)),
      λ v3 r3 d3. tt,
    ))))))
    (λ w0 y0. let e0 = after_is marks.Assign ts w0 y0 in rw (y0, act_rest_step) (bool_cases (is_target z)
    (λ y1. rw y1 (
      λ rest s. carry (led e0 here) same s (λ us tail d vs h. (_, assign (target_of h y1) d.1)),
      λ v2 r2 d2. tt,
    ))
    (λ y1. rw y1 field_set)))

pub tested_stuck : (ts : List Token) → Unfinished (tested_step ts) (Stuck NTested ts)
tested_stuck ts = option_cases (after marks.OpenRound ts)
    (λ n0. rw (n0, tested_step) (stops here (λ tail. open_round (zero (close_round tail)))
    (λ tail. (_, record { open_at = _; close_at = _; inner = _; starts = refl; test = operand (bare int_literal) }))))
    (λ w0 y0. let e0 = after_is marks.OpenRound ts w0 y0 in rw (y0, tested_step) (
      λ rest s. carry (led e0 here) close_round s
          (λ us tail d. (_, record { open_at = _; close_at = _; inner = us; starts = refl; test = d.1 })),
      λ v1 r1 d1. let k = expr_alone d1 in option_cases (after marks.CloseRound r1)
          (λ n2. rw n2 (stops (led e0 k.cut) close_round
          (λ tail. (_, record { open_at = _; close_at = _; inner = _; starts = refl; test = k.again (close_round tail) }))))
          (λ w2 y2. rw y2 tt),
    ))

pub item_stuck : (ts : List Token) → Unfinished (item_step ts) (Stuck NItem ts)
item_stuck ts = bool_cases (starts_local ts)
    (λ y0. rw (y0, item_step) (
      λ rest s. carry here semi s (λ us tail d. (_, local_item d.1)),
      λ v1 r1 d1. let k = local_alone d1 in option_cases (after marks.Semi r1)
          (λ n2. rw n2 (stops k.cut semi (λ tail. (_, local_item (k.again (semi tail))))))
          (λ w2 y2. rw y2 tt),
    ))
    (λ y0. rw (y0, item_step) (λ rest s. carry here same s (λ us tail d. (_, stmt_item d.2)), λ v r d. tt))

pub items_stuck : (ss : Statements) (ts : List Token) → Unfinished (items_step ss ts) (Stuck (NItems ss) ts)
items_stuck ss ts = option_cases (after marks.CloseBrace ts)
    (λ n0. rw (n0, items_step) (
      λ rest s. carry here close_brace s (λ us tail d. (_, next_item d.1 no_items)),
      λ v1 r1 d1. (
        λ rest s. let k = item_alone d1 in carry k.cut same s (λ us tail d. (_, next_item (k.again us) d.1)),
        λ v r d. tt,
      ),
    ))
    (λ w0 y0. rw (y0, items_step) tt)

-- a `for` of which the head was read
for_stuck : {ts us vs rest : List Token} {p : Place} {f g : OptionalStatement} {v : Option Expression} → ts ≡ key keys.For p ∷ us
    → Headed us f v g vs → Stuck NStmt vs rest → Stuck NStmt ts rest
for_stuck e (headed first test step) s =
    let a = first_alone first in let b = value_alone test in let c = step_alone step in
    carry (led e (led refl (join a.cut (led refl (join b.cut (led refl (join c.cut (led refl here)))))))) same s (λ us tail d.
    (_, _, for_loop (a.again (_ ∷ b.cut.put (_ ∷ c.cut.put (_ ∷ us)))) (b.again (_ ∷ c.cut.put (_ ∷ us))) (c.again (_ ∷ us)) d.2))

-- a statement of which the head was read ends with a `;`
for_ended : {p : Place} {us tail : List Token} {f g : OptionalStatement} {v : Option Expression} → Headed us f v g (semi tail)
    → IsStmt false (key keys.For p ∷ us) tail (ForOf f v g no_statements p)
for_ended (headed first test step) = for_loop first test step empty

while_ended : {p : Place} {us tail : List Token} {e : Expression} → Tested us e (semi tail)
    → IsStmt false (key keys.While p ∷ us) tail (WhileOf e no_statements p)
while_ended t = rw t.starts (while_loop t.test empty)

arm_ended : {us tail : List Token} {e : Expression} → Tested us e (semi tail) → IsArms true us tail (and_arm e no_statements no_arms) no_else
arm_ended t = rw t.starts (last_arm t.test empty)

pub stmt_stuck : (ts : List Token) → Unfinished (stmt_step ts) (Stuck NStmt ts)
stmt_stuck ts = start_cases (start ts)
    (λ p0 us0 y0. rw (y0, stmt_step) (λ rest s. carry (led (starts_at ts y0) here) same s (λ us tail d. (_, _, block d.1)), λ v1 r1 d1. tt))
    (λ p0 us0 y0. rw (y0, stmt_step) tt)
    (λ p0 us0 y0. rw (y0, stmt_step) (λ rest s. carry (led (starts_at ts y0) here) same s (λ us tail d. (_, _, choice d.3)), λ v1 r1 d1. tt))
    (λ p0 us0 y0. rw (y0, stmt_step) (
      λ rest s. carry (led (starts_at ts y0) here) semi s (λ us tail d. (_, _, while_ended d.1)),
      λ v1 r1 d1. (
        λ rest s. let k = expr_alone d1.test in carry (led (starts_at ts y0) (led d1.starts (join k.cut (led refl here)))) same s
            (λ us tail d. (_, _, while_loop (k.again (_ ∷ us)) d.2)),
        λ v2 r2 d2. tt,
      ),
    ))
    (λ p0 us0 y0. rw (y0, stmt_step) (
      λ rest s. carry (led (starts_at ts y0) here) semi s (λ us tail d. (_, _, for_ended d.3)),
      λ v1 r1 d1. (λ rest s. for_stuck (starts_at ts y0) d1 s, λ v2 r2 d2. tt),
    ))
    (λ p0 us0 y0. rw (y0, stmt_step) (
      λ rest s. carry (led (starts_at ts y0) here) semi s (λ us tail d. (_, _, return_word d.1)),
      λ v1 r1 d1. let k = value_alone d1 in option_cases (after marks.Semi r1)
          (λ n2. rw n2 (stops (led (starts_at ts y0) k.cut) semi (λ tail. (_, _, return_word (k.again (semi tail))))))
          (λ w2 y2. rw y2 tt),
    ))
    (λ p0 us0 y0. rw (y0, stmt_step) (option_cases (after marks.Semi us0)
    (λ n1. rw n1 (stops (led (starts_at ts y0) here) semi (λ tail. (_, _, break_word))))
    (λ w1 y1. rw y1 tt)))
    (λ p0 us0 y0. rw (y0, stmt_step) (option_cases (after marks.Semi us0)
    (λ n1. rw n1 (stops (led (starts_at ts y0) here) semi (λ tail. (_, _, continue_word))))
    (λ w1 y1. rw y1 tt)))
    (λ y0. rw (y0, stmt_step) (
      λ rest s. carry here semi s (λ us tail d. (_, _, acting d.1)),
      λ v1 r1 d1. let k = act_alone d1 in option_cases (after marks.Semi r1)
          (λ n2. rw n2 (stops k.cut semi (λ tail. (_, _, acting (k.again (semi tail))))))
          (λ w2 y2. rw y2 tt),
    ))

pub for_head_stuck : (ts : List Token) → Unfinished (for_head_step ts) (Stuck NForHead ts)
for_head_stuck ts = option_cases (after marks.OpenRound ts)
    (λ n0. rw (n0, for_head_step) (stops here (λ tail. open_round (semi (semi (close_round tail)))) (λ tail. (_, _, _, headed no_first no_value no_step))))
    (λ w0 y0. let e0 = after_is marks.OpenRound ts w0 y0 in rw (y0, for_head_step) (
      λ rest s. carry (led e0 here) (λ tail. semi (semi (close_round tail))) s (λ us tail d. (_, _, _, headed d.1 no_value no_step)),
      λ v1 r1 d1. let a = first_alone d1 in option_cases (after marks.Semi r1)
          (λ n2. rw n2 (stops (led e0 a.cut) (λ tail. semi (semi (close_round tail))) (λ tail. (_, _, _, headed (a.again _) no_value no_step))))
          (λ w2 y2. let e2 = after_is marks.Semi r1 w2 y2 in rw y2 (
            λ rest s. carry (led e0 (join a.cut (led e2 here))) (λ tail. semi (close_round tail)) s
                (λ us tail d. (_, _, _, headed (a.again (_ ∷ us)) d.1 no_step)),
            λ v3 r3 d3. let b = value_alone d3 in option_cases (after marks.Semi r3)
                (λ n4. rw n4 (stops (led e0 (join a.cut (led e2 b.cut))) (λ tail. semi (close_round tail))
                (λ tail. (_, _, _, headed (a.again _) (b.again (semi (close_round tail))) no_step))))
                (λ w4 y4. let e4 = after_is marks.Semi r3 w4 y4 in rw y4 (
                  λ rest s. carry (led e0 (join a.cut (led e2 (join b.cut (led e4 here))))) close_round s
                      (λ us tail d. (_, _, _, headed (a.again _) (b.again (_ ∷ us)) d.1)),
                  λ v5 r5 d5. let c = step_alone d5 in option_cases (after marks.CloseRound r5)
                      (λ n6. rw n6 (stops (led e0 (join a.cut (led e2 (join b.cut (led e4 c.cut))))) close_round
                      (λ tail. (_, _, _, headed (a.again _) (b.again _) (c.again (close_round tail))))))
                      (λ w6 y6. rw y6 tt),
                )),
          )),
    ))

pub first_stuck : (ts : List Token) → Unfinished (first_step ts) (Stuck NFirst ts)
first_stuck ts = option_cases (after marks.Semi ts)
    (λ n0. rw (n0, first_step) (bool_cases (starts_local ts)
    (λ y1. rw y1 (λ rest s. carry here same s (λ us tail d. (_, first_local d.1)), λ v2 r2 d2. tt))
    (λ y1. rw y1 (λ rest s. carry here same s (λ us tail d. (_, first_act d.1)), λ v2 r2 d2. tt))))
    (λ w0 y0. rw (y0, first_step) tt)

pub step_stuck : (ts : List Token) → Unfinished (step_step ts) (Stuck NStep ts)
step_stuck ts = option_cases (after marks.CloseRound ts)
    (λ n0. rw (n0, step_step) (λ rest s. carry here same s (λ us tail d. (_, a_step d.1)), λ v1 r1 d1. tt))
    (λ w0 y0. rw (y0, step_step) tt)

-- whether an `if` is next depends on the next token alone
chosen_alike : {A : Type 0} (b : Bool) (x y : A) → is_some (if b then Some x else None) ≡ is_some (if b then Some y else None)
chosen_alike true x y = refl
chosen_alike false x y = refl

if_by : (k : TokenKind) (p : Place) (us vs : List Token) → is_some (after_key_by keys.If k p us) ≡ is_some (after_key_by keys.If k p vs)
if_by (kinds.Key k) p us vs = chosen_alike (sameb key_type k keys.If) (p, us) (p, vs)
if_by _ p us vs = refl

if_token : (t : Token) (us vs : List Token) → is_some (after_key keys.If (t ∷ us)) ≡ is_some (after_key keys.If (t ∷ vs))
if_token t us vs = if_by t.kind t.place us vs

-- a statement behind an `else` that begins with no `if` can be completed to one that is none
other_ends : {ts rest : List Token} → after_key keys.If ts ≡ None → (s : Stuck NStmt ts rest) → (tail : List Token) →
    (us : List Token) × (o : Bool) × (t : Statement) × IsStmt o (s.cut.put us) tail t × (is_choice t ≡ false)
other_ends n s tail = ⊎_elim
    (λ h. let d = s.ends tail in
    let g = same_front (λ ts. is_some (after_key keys.If ts)) if_token s.cut h d.0 ∙ ap is_some n in
    (d.0, d.1.0, d.1.1, d.1.2, no_choice d.1.2 (none_of (after_key keys.If (s.cut.put d.0)) g)))
    (λ e. (semi tail, false, BlockOf no_statements nowhere, rw (e (semi tail)) empty, refl))
    (taken s.cut)

pub branches_stuck : (a : Arms) (ts : List Token) → Unfinished (branches_step a ts) (Stuck (NBranches a) ts)
branches_stuck a ts = (
  λ rest s. carry here semi s (λ us tail d. (_, _, _, arm_ended d.1)),
  λ v0 r0 d0. let k = expr_alone d0.test in (
    λ rest s. carry (led d0.starts (join k.cut (led refl here))) same s (λ us tail d. (_, _, _, last_arm (k.again (_ ∷ us)) d.2)),
    λ v1 r1 d1. option_cases (after_key keys.Else r1)
        (λ n2. rw n2 tt)
        (λ w2 y2. let e2 = after_key_is keys.Else r1 w2 y2 in let b = stmt_alone (shut_at e2 d1) in rw y2 (option_cases (after_key keys.If w2.1)
        (λ n3. rw n3 (
          λ rest s. record {
            cut = led d0.starts (join k.cut (led refl (join b.cut (led refl s.cut))));
            ends = λ tail.
                let d = other_ends n3 s tail in
                (d.0, (_, _, _, else_arm (k.again (_ ∷ b.cut.put (_ ∷ s.cut.put d.0))) (b.again (_ ∷ s.cut.put d.0)) d.3 d.4));
          },
          λ v4 r4 d4. tt,
        ))
        (λ w3 y3. let e3 = after_key_is keys.If w2.1 w3 y3 in rw y3 (
          λ rest s. carry (led d0.starts (join k.cut (led refl (join b.cut (led refl (led e3 here)))))) same s
              (λ us tail d. (_, _, _, more_arms (k.again (_ ∷ b.cut.put (_ ∷ _ ∷ us))) (b.again (_ ∷ _ ∷ us)) d.3)),
          λ v r d. tt,
        )))),
  ),
)
