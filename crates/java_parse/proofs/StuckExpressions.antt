-- Where reading an expression or a type stops, it can be completed.
use Rattle.std.proofs.Common.{arith, refl, ◌≡◌, ℕ, pos, List, ◌∷◌, true, ⊎_elim, ◌∙◌}
use Rattle.kaba_base.specs.declared.Place.{Place}
use Rattle.kaba_base.specs.declared.words.Keyword.TheVariants as keys
use Rattle.java_lex.specs.declared.Token.{Token}
use Rattle.java_lex.specs.declared.Mark.TheVariants as marks
use Rattle.java_tree.specs.declared.TypeBase.{TypeBase}
use Rattle.java_tree.specs.Syntax.{Expression, IntLit, Expressions}
use Rattle.java_tree.specs.declared.TypeName.{TypeName}
use Rattle.java_tree.specs.Places.{nowhere}
use Rattle.java_tree.specs.Tokens.{mark, casts}
use Rattle.java_tree.specs.Expressions.{IsPrefixed, named_base, no_dims, one_dim, a_type, binary, instance_of, operand, signed, cast_named, cast_int, cast_char, bare, field, call_on, index, int_literal, call, super_call, round, new_object, new_array, no_args, some_args, last_arg, next_arg}
use Rattle.java_tree.specs.Statements.{to_field, to_index, call_upon}
use Rattle.java_parse.specs.declared.End.{End}
use Rattle.java_parse.specs.Want.{NExpr, NMore, NPrefixed, NPost, NAtom, NSuper, NNew, NSized, NDims, NType, NTail, NArgs, NMoreArgs}
use Rattle.java_parse.specs.Front.{after, after_key, word_next, operator, instance_next, least_next, sign_next, opens_cast, cast_next, base_next, literal_next, index_next}
use Rattle.java_parse.proofs.Fronts.{option_cases, after_is, after_key_is, word_is, operator_is, instance_is, sign_is, Opened, opened_int, opened_char, opens_is, Cast, cast_of, cast_is, base_is, index_is}
use Rattle.java_parse.proofs.Post.{by_target, by_call}
use Rattle.java_parse.specs.ReadExpressions.{expr_step, more_step, prefixed_step, post_step, atom_step, super_step, new_step, sized_step, dims_step, type_step, tail_step, args_step, more_args_step}
use Rattle.java_parse.proofs.SoundExpressions.{post_of, open_post, loosen}
use Rattle.java_parse.proofs.Cuts.{here, on, led, join, taken, same_front}
use Rattle.java_parse.proofs.AloneExpressions.{base_alone, expr_alone, prefixed_alone, args_alone}
use Rattle.java_parse.proofs.AloneStatements.{ended_alone}
use Rattle.java_parse.proofs.Stuck.{Stuck, Unfinished, carry, stops, same, zero, x_word, dot, open_round, close_round, open_square, close_square}

pub expr_stuck : (l : ℕ) (ts : List Token) → Unfinished (expr_step l ts) (Stuck (NExpr l) ts)
expr_stuck l ts = (
  λ rest s. carry here same s (λ us tail d. (d.0, operand d.1)),
  λ v0 r0 d0. (
    λ rest s. let a = prefixed_alone d0 in carry a.cut same s (λ us tail d. d (a.cut.put us) (operand (a.again us)) (operand (a.again us))),
    λ v r d. tt,
  ),
)

pub more_stuck : (l : ℕ) (c : ℕ) (e : Expression) (ts : List Token) → Unfinished (more_step l c e ts) (Stuck (NMore l c e) ts)
more_stuck l c e ts = option_cases (operator l c ts)
    (λ n0. rw (n0, more_step) (option_cases (instance_next l c ts)
    (λ n1. rw n1 tt)
    (λ w1 y1. let e1 = instance_is l c ts w1 y1 in rw y1 (option_cases (word_next w1.1)
    (λ n2. rw n2 (stops (led e1.0 here) x_word (λ tail us a b. (_, instance_of e1.1 (loosen e1.2 b)))))
    (λ w2 y2. let e2 = word_is w1.1 w2 y2 in rw y2 (
      λ rest s. carry (led e1.0 (led e2 here)) same s
          (λ us tail d vs a b. d vs (instance_of e1.1 (loosen e1.2 b)) (instance_of (omega arith) (loosen e1.2 b))),
      λ v r d. tt,
    ))))))
    (λ w0 y0. let e0 = operator_is l c ts w0 y0 in rw (y0, more_step) (
      λ rest s. carry (led e0.0 here) same s (λ us tail d vs a b. (_, binary e0.1 e0.2 (loosen e0.3 b) d.1)),
      λ v1 r1 d1. (
        λ rest s. let k = expr_alone d1 in carry (led e0.0 k.cut) same s (λ us tail d vs a b.
            d vs (binary e0.1 e0.2 (loosen e0.3 b) (k.again us)) (binary e0.1 (omega arith) (loosen e0.3 b) (k.again us))),
        λ v r d. tt,
      ),
    ))

-- the operand of a cast to a name can be completed so that its first token makes the name a cast
cast_ends : {ts rest : List Token} → casts ts ≡ true → (s : Stuck NPrefixed ts rest) → (tail : List Token) →
    (us : List Token) × (e : Expression) × IsPrefixed (s.cut.put us) tail e × (casts (s.cut.put us) ≡ true)
cast_ends c s tail = ⊎_elim
    (λ h. let d = s.ends tail in (d.0, d.1.0, d.1.1, same_front casts (λ t us vs. refl) s.cut h d.0 ∙ c))
    (λ e. (zero tail, IntLit (pos 0) nowhere, rw (e (zero tail)) (bare int_literal), rw (e (zero tail)) refl))
    (taken s.cut)

cast_stuck : {ts rest : List Token} {w : TypeName × Place × List Token} → Cast ts w → Stuck NPrefixed w.2 rest → Stuck NPrefixed ts rest
cast_stuck (cast_of h) s = record { cut = on (on (on s.cut)); ends = λ tail. let d = cast_ends h s tail in (d.0, (_, cast_named d.3 d.2)) }

opened_stuck : {ts vs rest : List Token} {w : TypeName × Place × List Token} {q : Place} → Opened ts w → w.2 ≡ mark marks.CloseRound q ∷ vs
    → Stuck NPrefixed vs rest → Stuck NPrefixed ts rest
opened_stuck opened_int g s = carry (on (on (led g here))) same s (λ us tail d. (_, cast_int d.1))
opened_stuck opened_char g s = carry (on (on (led g here))) same s (λ us tail d. (_, cast_char d.1))

still_open : {ts : List Token} {w : TypeName × Place × List Token} → Opened ts w → Stuck NPrefixed ts w.2
still_open opened_int = stops (on (on here)) (λ tail. close_round (zero tail)) (λ tail. (_, cast_int (bare int_literal)))
still_open opened_char = stops (on (on here)) (λ tail. close_round (zero tail)) (λ tail. (_, cast_char (bare int_literal)))

pub prefixed_stuck : (ts : List Token) → Unfinished (prefixed_step ts) (Stuck NPrefixed ts)
prefixed_stuck ts = option_cases (least_next ts)
    (λ n0. rw (n0, prefixed_step) (option_cases (sign_next ts)
    (λ n1. rw n1 (option_cases (opens_cast ts)
    (λ n2. rw n2 (option_cases (cast_next ts)
    (λ n3. rw n3 (λ rest s. carry here same s (λ us tail d. (_, bare d.2)), λ v r d. tt))
    (λ w3 y3. rw y3 (λ rest s. cast_stuck (cast_is ts w3 y3) s, λ v r d. tt))))
    (λ w2 y2. let e2 = opens_is ts w2 y2 in rw y2 (option_cases (after marks.CloseRound w2.2)
    (λ n3. rw n3 (still_open e2))
    (λ w3 y3. rw y3 (λ rest s. opened_stuck e2 (after_is marks.CloseRound w2.2 w3 y3) s, λ v r d. tt))))))
    (λ w1 y1. let e1 = sign_is ts w1 y1 in rw y1 (
      λ rest s. carry (led e1.0 here) same s (λ us tail d. (_, signed e1.1 d.1)),
      λ v r d. tt,
    ))))
    (λ w0 y0. rw (y0, prefixed_step) tt)

pub post_stuck : (ts : List Token) → Unfinished (post_step ts) (Stuck NPost ts)
post_stuck ts = (
  λ rest s. carry here same s (λ us tail d. d),
  λ v0 r0 d0. (
    λ rest s. let a = ended_alone d0 in carry a.cut same s (λ us tail d. d (a.cut.put us) (a.again us)),
    λ v r d. tt,
  ),
)

pub atom_stuck : (ts : List Token) → Unfinished (atom_step ts) (Stuck NAtom ts)
atom_stuck ts = option_cases (literal_next ts)
    (λ n0. rw (n0, atom_step) (option_cases (word_next ts)
    (λ n1. rw n1 (option_cases (after marks.OpenRound ts)
    (λ n2. rw n2 (option_cases (after_key keys.New ts)
    (λ n3. rw n3 (option_cases (after_key keys.Super ts)
    (λ n4. rw n4 (stops here zero (λ tail. (_, _, int_literal))))
    (λ w4 y4. let e4 = after_key_is keys.Super ts w4 y4 in rw y4 (
      λ rest s. carry (led e4 here) same s (λ us tail d. let x = d w4.0 in (_, x.0, x.1)),
      λ v r d. tt,
    ))))
    (λ w3 y3. let e3 = after_key_is keys.New ts w3 y3 in rw y3 (λ rest s. carry (led e3 here) same s (λ us tail d. d), λ v r d. tt))))
    (λ w2 y2. let e2 = after_is marks.OpenRound ts w2 y2 in rw y2 (
      λ rest s. carry (led e2 here) close_round s (λ us tail d. (_, _, round d.1)),
      λ v3 r3 d3. option_cases (after marks.CloseRound r3)
          (λ n4. rw n4 (let k = expr_alone d3 in stops (led e2 k.cut) close_round (λ tail. (_, _, round (k.again (close_round tail))))))
          (λ w4 y4. rw y4 tt),
    ))))
    (λ w1 y1. let e1 = word_is ts w1 y1 in rw y1 (option_cases (after marks.OpenRound w1.2)
    (λ n2. rw n2 tt)
    (λ w2 y2. let e2 = after_is marks.OpenRound w1.2 w2 y2 in rw y2 (
      λ rest s. carry (led e1 (led e2 here)) same s (λ us tail d. (_, _, call d.1)),
      λ v3 r3 d3. tt,
    ))))))
    (λ w0 y0. rw (y0, atom_step) tt)

pub super_stuck : (ts : List Token) → Unfinished (super_step ts) (Stuck NSuper ts)
super_stuck ts = option_cases (after marks.Dot ts)
    (λ n0. rw (n0, super_step) (stops here (λ tail. dot (x_word (open_round (close_round tail)))) (λ tail q. (_, super_call no_args))))
    (λ w0 y0. let e0 = after_is marks.Dot ts w0 y0 in rw (y0, super_step) (option_cases (word_next w0.1)
    (λ n1. rw n1 (stops (led e0 here) (λ tail. x_word (open_round (close_round tail))) (λ tail q. (_, super_call no_args))))
    (λ w1 y1. let e1 = word_is w0.1 w1 y1 in rw y1 (option_cases (after marks.OpenRound w1.2)
    (λ n2. rw n2 (stops (led e0 (led e1 here)) (λ tail. open_round (close_round tail)) (λ tail q. (_, super_call no_args))))
    (λ w2 y2. let e2 = after_is marks.OpenRound w1.2 w2 y2 in rw y2 (
      λ rest s. carry (led e0 (led e1 (led e2 here))) same s (λ us tail d q. (_, super_call d.1)),
      λ v3 r3 d3. tt,
    ))))))

pub new_stuck : (p : Place) (ts : List Token) → Unfinished (new_step p ts) (Stuck (NNew p) ts)
new_stuck p ts = option_cases (word_next ts)
    (λ n0. rw (n0, new_step) (option_cases (base_next ts)
    (λ n1. rw n1 (stops here (λ tail. x_word (open_round (close_round tail))) (λ tail. (_, _, new_object no_args))))
    (λ w1 y1. let k = base_alone (base_is ts w1 y1) in rw y1 (
      λ rest s. carry k.cut same s (λ us tail d. let x = d (k.cut.put us) (k.again us) in (_, x.0, x.1)),
      λ v r d. tt,
    ))))
    (λ w0 y0. let e0 = word_is ts w0 y0 in rw (y0, new_step) (option_cases (after marks.OpenRound w0.2)
    (λ n1. rw n1 (
      λ rest s. carry (led e0 here) same s (λ us tail d. let x = d _ named_base in (_, x.0, x.1)),
      λ v r d. tt,
    ))
    (λ w1 y1. let e1 = after_is marks.OpenRound w0.2 w1 y1 in rw y1 (
      λ rest s. carry (led e0 (led e1 here)) same s (λ us tail d. (_, _, new_object d.1)),
      λ v2 r2 d2. tt,
    ))))

pub sized_stuck : (p : Place) (b : TypeBase) (q : Place) (ts : List Token) → Unfinished (sized_step p b q ts) (Stuck (NSized p b q) ts)
sized_stuck p b q ts = option_cases (after marks.OpenSquare ts)
    (λ n0. rw (n0, sized_step) (stops here (λ tail. open_square (zero (close_square tail)))
    (λ tail us h. (_, new_array h (operand (bare int_literal)) no_dims))))
    (λ w0 y0. let e0 = after_is marks.OpenSquare ts w0 y0 in rw (y0, sized_step) (
      λ rest s. carry (led e0 here) close_square s (λ us tail d vs h. (_, new_array h d.1 no_dims)),
      λ v1 r1 d1. let k = expr_alone d1 in option_cases (after marks.CloseSquare r1)
          (λ n2. rw n2 (stops (led e0 k.cut) close_square (λ tail us h. (_, new_array h (k.again (close_square tail)) no_dims))))
          (λ w2 y2. let e2 = after_is marks.CloseSquare r1 w2 y2 in rw y2 (
            λ rest s. carry (led e0 (join k.cut (led e2 here))) same s (λ us tail d vs h. (_, new_array h (k.again (_ ∷ us)) d.1)),
            λ v3 r3 d3. tt,
          )),
    ))

pub dims_stuck : (d : ℕ) (ts : List Token) → Unfinished (dims_step d ts) (Stuck (NDims d) ts)
dims_stuck d ts = option_cases (after marks.OpenSquare ts)
    (λ n0. rw (n0, dims_step) tt)
    (λ w0 y0. let e0 = after_is marks.OpenSquare ts w0 y0 in rw (y0, dims_step) (option_cases (after marks.CloseSquare w0.1)
    (λ n1. rw n1 (stops (led e0 here) close_square (λ tail. (_, one_dim _ _ no_dims))))
    (λ w1 y1. let e1 = after_is marks.CloseSquare w0.1 w1 y1 in rw y1 (
      λ rest s. carry (led e0 (led e1 here)) same s (λ us tail d. (_, one_dim _ _ d.1)),
      λ v r d. tt,
    ))))

pub type_stuck : (ts : List Token) → Unfinished (type_step ts) (Stuck NType ts)
type_stuck ts = option_cases (base_next ts)
    (λ n0. rw (n0, type_step) (stops here x_word (λ tail. (_, a_type named_base no_dims))))
    (λ w0 y0. let k = base_alone (base_is ts w0 y0) in rw (y0, type_step) (
      λ rest s. carry k.cut same s (λ us tail d. (_, a_type (k.again us) d.1)),
      λ v1 r1 d1. tt,
    ))

pub tail_stuck : (e : Expression) (z : End) (ts : List Token) → Unfinished (tail_step e z ts) (Stuck (NTail e z) ts)
tail_stuck e z ts = option_cases (after marks.Dot ts)
    (λ n0. rw (n0, tail_step) (option_cases (index_next z ts)
    (λ n1. rw n1 tt)
    (λ w1 y1. let e1 = index_is z ts w1 y1 in rw y1 (
      λ rest s. carry (led e1.0 here) close_square s (λ us tail d vs h. (_, _, index (open_post e1.1 h) d.1)),
      λ v2 r2 d2. let k = expr_alone d2 in option_cases (after marks.CloseSquare r2)
          (λ n3. rw n3 (stops (led e1.0 k.cut) close_square (λ tail vs h. (_, _, index (open_post e1.1 h) (k.again (close_square tail))))))
          (λ w3 y3. let e3 = after_is marks.CloseSquare r2 w3 y3 in rw y3 (
            λ rest s. carry (led e1.0 (join k.cut (led e3 here))) same s
                (λ us tail d vs h. d vs (by_target (to_index (open_post e1.1 h) (k.again (_ ∷ us))))),
            λ v r d. tt,
          )),
    ))))
    (λ w0 y0. let e0 = after_is marks.Dot ts w0 y0 in rw (y0, tail_step) (option_cases (word_next w0.1)
    (λ n1. rw n1 (stops (led e0 here) x_word (λ tail vs h. (_, _, field (post_of h)))))
    (λ w1 y1. let e1 = word_is w0.1 w1 y1 in rw y1 (option_cases (after marks.OpenRound w1.2)
    (λ n2. rw n2 (
      λ rest s. carry (led e0 (led e1 here)) same s (λ us tail d vs h. d vs (by_target (to_field (post_of h)))),
      λ v r d. tt,
    ))
    (λ w2 y2. let e2 = after_is marks.OpenRound w1.2 w2 y2 in rw y2 (
      λ rest s. carry (led e0 (led e1 (led e2 here))) same s (λ us tail d vs h. (_, _, call_on (post_of h) d.1)),
      λ v3 r3 d3. let k = args_alone d3 in (
        λ rest s. carry (led e0 (led e1 (led e2 k.cut))) same s
            (λ us tail d vs h. d vs (by_call (call_upon (post_of h) (k.again us)))),
        λ v r d. tt,
      ),
    ))))))

pub args_stuck : (ts : List Token) → Unfinished (args_step ts) (Stuck NArgs ts)
args_stuck ts = option_cases (after marks.CloseRound ts)
    (λ n0. rw (n0, args_step) (
      λ rest s. carry here close_round s (λ us tail d. (_, some_args d.1 last_arg)),
      λ v1 r1 d1. (
        λ rest s. let k = expr_alone d1 in carry k.cut same s (λ us tail d. (_, some_args (k.again us) d.1)),
        λ v r d. tt,
      ),
    ))
    (λ w0 y0. rw (y0, args_step) tt)

pub more_args_stuck : (es : Expressions) (ts : List Token) → Unfinished (more_args_step es ts) (Stuck (NMoreArgs es) ts)
more_args_stuck es ts = option_cases (after marks.CloseRound ts)
    (λ n0. rw (n0, more_args_step) (option_cases (after marks.Comma ts)
    (λ n1. rw n1 (stops here close_round (λ tail. (_, last_arg))))
    (λ w1 y1. let e1 = after_is marks.Comma ts w1 y1 in rw y1 (
      λ rest s. carry (led e1 here) close_round s (λ us tail d. (_, next_arg d.1 last_arg)),
      λ v2 r2 d2. (
        λ rest s. let k = expr_alone d2 in carry (led e1 k.cut) same s (λ us tail d. (_, next_arg (k.again us) d.1)),
        λ v r d. tt,
      ),
    ))))
    (λ w0 y0. rw (y0, more_args_step) tt)
