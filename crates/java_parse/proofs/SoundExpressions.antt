-- Expressions and types that are read are in the grammar.
use Rattle.std.proofs.Common.{arith, refl, sym, ap, ◌∙◌, subst, ◌≡◌, ℕ, suc, ◌<◌, ◌≤◌, List, ◌∷◌, Bool, true, false}
use Rattle.kaba_base.specs.declared.Place.{Place}
use Rattle.kaba_base.specs.declared.words.Keyword.TheVariants as keys
use Rattle.java_lex.specs.declared.Token.{Token}
use Rattle.java_lex.specs.declared.Mark.{Mark}
use Rattle.java_lex.specs.declared.Mark.TheVariants as marks
use Rattle.java_tree.specs.declared.TypeBase.{TypeBase}
use Rattle.java_tree.specs.Syntax.{Expression, NewArrayOf, InstanceOfClass, BinaryOf, Expressions, no_more, and_more}
use Rattle.java_tree.specs.Tokens.{mark, key, word, level}
use Rattle.java_tree.proofs.Appended.{append_exprs, exprs_end}
use Rattle.java_parse.specs.declared.End.{End}
use Rattle.java_parse.specs.declared.End.TheVariants as ends
use Rattle.java_parse.specs.Want.{NExpr, NMore, NPrefixed, NPost, NAtom, NSuper, NNew, NSized, NDims, NType, NTail, NArgs, NMoreArgs}
use Rattle.java_parse.specs.Front.{after, after_key, word_next, operator, instance_next, least_next, sign_next, opens_cast, cast_next, base_next, literal_next, index_next, is_array, expr_snoc}
use Rattle.java_tree.specs.Expressions.{IsBase, named_base, IsDims, no_dims, one_dim, a_type, IsExpr, binary, instance_of, operand, signed, least, bare, IsPost, field, call_on, index, name, call, super_call, round, new_object, new_array, IsArgs, no_args, some_args, last_arg, next_arg}
use Rattle.java_tree.specs.Statements.{IsTarget, to_name, to_field, to_index, IsCall, plain_call, call_upon, call_above}
use Rattle.java_parse.proofs.Fronts.{option_cases, after_is, after_key_is, word_is, operator_is, instance_is, least_is, sign_is, opens_is, opened_cast, cast_is, named_cast, base_is, literal_is, index_is}
use Rattle.java_parse.proofs.Post.{Ended, by_name, by_target, by_call, by_new, by_array, by_other, Counted, MoreArgs, Post}
use Rattle.java_parse.proofs.Runs.{Good}
use Rattle.java_parse.specs.ReadExpressions.{expr_step, more_step, prefixed_step, post_step, atom_step, super_step, new_step, sized_step, dims_step, type_step, tail_step, args_step, more_args_step}

target_post : {ts rest : List Token} {e : Expression} → IsTarget ts rest e → IsPost true ts rest e
target_post to_name = name
target_post (to_field d) = field d
target_post (to_index d i) = index d i

call_post : {ts rest : List Token} {e : Expression} → IsCall ts rest e → IsPost true ts rest e
call_post (plain_call a) = call a
call_post (call_upon d a) = call_on d a
call_post (call_above a) = super_call a

abbrev pub indexes : End → Bool
indexes ends.Array = false
indexes _ = true

pub post_of : {z : End} {ts rest : List Token} {e : Expression} → Ended z ts rest e → IsPost (indexes z) ts rest e
post_of by_name = name
post_of (by_target d) = target_post d
post_of (by_call d) = call_post d
post_of (by_new a) = new_object a
post_of (by_array d) = d
post_of (by_other d) = d

pub open_post : {z : End} {ts rest : List Token} {e : Expression} → is_array z ≡ false → Ended z ts rest e → IsPost true ts rest e
open_post h by_name = name
open_post h (by_target d) = target_post d
open_post h (by_call d) = call_post d
open_post h (by_new a) = new_object a
open_post h (by_array d) = cc
open_post h (by_other d) = d

pub loosen : {l k : ℕ} {ts rest : List Token} {e : Expression} → l ≤ k → IsExpr k ts rest e → IsExpr l ts rest e
loosen {l = l} {k = k} h (binary {m = m} a b x y) = binary a (omega (arith, h, b)) x y
loosen {l = l} {k = k} h (instance_of a x) = instance_of (omega (arith, h, a)) x
loosen h (operand d) = operand d

more_binary : {l c : ℕ} {e b : Expression} {us ts rest : List Token} {w : Mark × Place × List Token} {P : Type 0} →
    (ts ≡ mark w.0 w.1 ∷ w.2) × (0 < level w.0) × (l ≤ level w.0) × (level w.0 ≤ c) → IsExpr c us ts e → IsExpr (suc (level w.0)) w.2 rest b →
    (IsExpr l us rest (BinaryOf w.0 e b w.1) → IsExpr (level w.0) us rest (BinaryOf w.0 e b w.1) → P) → P
more_binary {e = e} {us = us} {w = w} f a d go =
    let x : IsExpr (level w.0) us (mark w.0 w.1 ∷ w.2) e = subst (λ (ts : List Token). IsExpr (level w.0) us ts e) f.0 (loosen f.3 a) in
    go (binary f.1 f.2 x d) (binary f.1 (omega arith) x d)

more_instance : {l c : ℕ} {e : Expression} {us ts : List Token} {v : Place × List Token} {w : List ℕ × Place × List Token} {P : Type 0} →
    (ts ≡ key keys.InstanceOf v.0 ∷ v.1) × (l ≤ 7) × (7 ≤ c) → v.1 ≡ word w.0 w.1 ∷ w.2 → IsExpr c us ts e →
    (IsExpr l us w.2 (InstanceOfClass e (record { name = w.0; place = w.1 }) v.0)
    → IsExpr 7 us w.2 (InstanceOfClass e (record { name = w.0; place = w.1 }) v.0) → P) → P
more_instance {e = e} {us = us} {v = v} {w = w} f g a go =
    let x : IsExpr 7 us (key keys.InstanceOf v.0 ∷ word w.0 w.1 ∷ w.2) e = subst (λ (ts : List Token). IsExpr 7 us ts e) (f.0
    ∙ ap (λ r. key keys.InstanceOf v.0 ∷ r) g) (loosen f.2 a) in
    go (instance_of f.1 x) (instance_of (omega arith) x)

sized_array : {us ts vs rest : List Token} {b : TypeBase} {e : Expression} {d : ℕ} {p q s : Place} {w : Place × List Token} →
    ts ≡ mark marks.OpenSquare w.0 ∷ w.1 → IsExpr 1 w.1 (mark marks.CloseSquare s ∷ vs) e → Counted 1 vs d rest → IsBase us ts b q →
    Ended ends.Array (key keys.New p ∷ us) rest (NewArrayOf (record { base = b; dim = d; place = q }) e p)
sized_array {us = us} {rest = rest} {b = b} {e = e} {d = d} {p = p} {q = q} f x c h =
    let g : suc c.more ≡ d = omega (arith, c.is) in
    subst (λ (n : ℕ). Ended ends.Array (key keys.New p ∷ us) rest (NewArrayOf (record { base = b; dim = n; place = q }) e p)) g
    (by_array (new_array (subst (λ (ts : List Token). IsBase us ts b q) f h) x c.dims))

counted_all : {ts rest : List Token} {d : ℕ} → Counted 0 ts d rest → IsDims ts rest d
counted_all {ts = ts} {rest = rest} c = let g : c.more ≡ _ = omega (arith, c.is) in subst (λ (n : ℕ). IsDims ts rest n) g c.dims

pub exprs_snoc : (a : Expressions) (e : Expression) (b : Expressions) → append_exprs (expr_snoc a e) b ≡ append_exprs a (and_more e b)
exprs_snoc no_more e b = refl
exprs_snoc (and_more x a) e b = ap (and_more x) (exprs_snoc a e b)

args_all : {ts us rest : List Token} {e : Expression} {es : Expressions} → IsExpr 1 ts us e → MoreArgs (and_more e no_more) us es rest → IsArgs ts rest es
args_all {ts = ts} {rest = rest} d m = subst (λ (es : Expressions). IsArgs ts rest es) (sym m.is) (some_args d m.args)

pub expr_good : (l : ℕ) (ts : List Token) → Good Post (expr_step l ts) (Post (NExpr l) ts)
expr_good l ts = λ v0 r0 d0. (λ v r d. d ts (operand d0) (operand d0))

pub more_good : (l : ℕ) (c : ℕ) (e : Expression) (ts : List Token) → Good Post (more_step l c e ts) (Post (NMore l c e) ts)
more_good l c e ts = option_cases (operator l c ts)
    (λ n0. rw (n0, more_step) (option_cases (instance_next l c ts)
    (λ n1. rw n1 (λ us a b. a))
    (λ w1 y1. let e1 = instance_is l c ts w1 y1 in rw y1 (option_cases (word_next w1.1)
    (λ n2. rw n2 tt)
    (λ w2 y2. let e2 = word_is w1.1 w2 y2 in rw y2 (λ v r d. λ us a b. more_instance e1 e2 b (d us)))))))
    (λ w0 y0. let e0 = operator_is l c ts w0 y0 in rw (y0, more_step) (λ v1 r1 d1. (λ v r d. λ us a b. more_binary e0 b d1 (d us))))

pub prefixed_good : (ts : List Token) → Good Post (prefixed_step ts) (Post NPrefixed ts)
prefixed_good ts = option_cases (least_next ts)
    (λ n0. rw (n0, prefixed_step) (option_cases (sign_next ts)
    (λ n1. rw n1 (option_cases (opens_cast ts)
    (λ n2. rw n2 (option_cases (cast_next ts)
    (λ n3. rw n3 (λ v4 r4 d4. (bare (post_of d4))))
    (λ w3 y3. let e3 = cast_is ts w3 y3 in rw y3 (λ v4 r4 d4. (named_cast e3 d4)))))
    (λ w2 y2. let e2 = opens_is ts w2 y2 in rw y2 (option_cases (after marks.CloseRound w2.2)
    (λ n3. rw n3 tt)
    (λ w3 y3. let e3 = after_is marks.CloseRound w2.2 w3 y3 in rw y3 (λ v4 r4 d4. (opened_cast e2 e3 d4)))))))
    (λ w1 y1. let e1 = sign_is ts w1 y1 in rw y1 (λ v2 r2 d2. (rw e1.0 (signed e1.1 d2))))))
    (λ w0 y0. let e0 = least_is ts w0 y0 in rw (y0, prefixed_step) (rw e0.1 least))

pub post_good : (ts : List Token) → Good Post (post_step ts) (Post NPost ts)
post_good ts = λ v0 r0 d0. (λ v r d. d ts d0)

pub atom_good : (ts : List Token) → Good Post (atom_step ts) (Post NAtom ts)
atom_good ts = option_cases (literal_next ts)
    (λ n0. rw (n0, atom_step) (option_cases (word_next ts)
    (λ n1. rw n1 (option_cases (after marks.OpenRound ts)
    (λ n2. rw n2 (option_cases (after_key keys.New ts)
    (λ n3. rw n3 (option_cases (after_key keys.Super ts)
    (λ n4. rw n4 tt)
    (λ w4 y4. let e4 = after_key_is keys.Super ts w4 y4 in rw y4 (λ v r d. rw e4 (d w4.0)))))
    (λ w3 y3. let e3 = after_key_is keys.New ts w3 y3 in rw y3 (λ v r d. rw e3 d))))
    (λ w2 y2. let e2 = after_is marks.OpenRound ts w2 y2 in rw y2 (λ v3 r3 d3. (option_cases (after marks.CloseRound r3)
    (λ n4. rw n4 tt)
    (λ w4 y4. let e4 = after_is marks.CloseRound r3 w4 y4 in rw y4 (rw e2 (by_other (round (rw e4 at d3))))))))))
    (λ w1 y1. let e1 = word_is ts w1 y1 in rw y1 (option_cases (after marks.OpenRound w1.2)
    (λ n2. rw n2 (rw e1 by_name))
    (λ w2 y2. let e2 = after_is marks.OpenRound w1.2 w2 y2 in rw y2 (λ v3 r3 d3. (rw (e1, e2) (by_call (plain_call d3)))))))))
    (λ w0 y0. let e0 = literal_is ts w0 y0 in rw (y0, atom_step) (by_other e0))

pub super_good : (ts : List Token) → Good Post (super_step ts) (Post NSuper ts)
super_good ts = option_cases (after marks.Dot ts)
    (λ n0. rw (n0, super_step) tt)
    (λ w0 y0. let e0 = after_is marks.Dot ts w0 y0 in rw (y0, super_step) (option_cases (word_next w0.1)
    (λ n1. rw n1 tt)
    (λ w1 y1. let e1 = word_is w0.1 w1 y1 in rw y1 (option_cases (after marks.OpenRound w1.2)
    (λ n2. rw n2 tt)
    (λ w2 y2. let e2 = after_is marks.OpenRound w1.2 w2 y2 in rw y2 (λ v3 r3 d3. (λ q. rw (e0, e1, e2) (by_call (call_above d3)))))))))

pub new_good : (p : Place) (ts : List Token) → Good Post (new_step p ts) (Post (NNew p) ts)
new_good p ts = option_cases (word_next ts)
    (λ n0. rw (n0, new_step) (option_cases (base_next ts)
    (λ n1. rw n1 tt)
    (λ w1 y1. let e1 = base_is ts w1 y1 in rw y1 (λ v r d. d ts e1))))
    (λ w0 y0. let e0 = word_is ts w0 y0 in rw (y0, new_step) (option_cases (after marks.OpenRound w0.2)
    (λ n1. rw n1 (λ v r d. d ts (rw e0 named_base)))
    (λ w1 y1. let e1 = after_is marks.OpenRound w0.2 w1 y1 in rw y1 (λ v2 r2 d2. (rw (e0, e1) (by_new d2))))))

pub sized_good : (p : Place) (b : TypeBase) (q : Place) (ts : List Token) → Good Post (sized_step p b q ts) (Post (NSized p b q) ts)
sized_good p b q ts = option_cases (after marks.OpenSquare ts)
    (λ n0. rw (n0, sized_step) tt)
    (λ w0 y0. let e0 = after_is marks.OpenSquare ts w0 y0 in rw (y0, sized_step) (λ v1 r1 d1. (option_cases (after marks.CloseSquare r1)
    (λ n2. rw n2 tt)
    (λ w2 y2. let e2 = after_is marks.CloseSquare r1 w2 y2 in rw y2 (λ v3 r3 d3. (λ us h. sized_array e0 (rw e2 at d1) d3 h))))))

pub dims_good : (d : ℕ) (ts : List Token) → Good Post (dims_step d ts) (Post (NDims d) ts)
dims_good d ts = option_cases (after marks.OpenSquare ts)
    (λ n0. rw (n0, dims_step) (record { more = 0; is = omega arith; dims = no_dims }))
    (λ w0 y0. let e0 = after_is marks.OpenSquare ts w0 y0 in rw (y0, dims_step) (option_cases (after marks.CloseSquare w0.1)
    (λ n1. rw n1 tt)
    (λ w1 y1. let e1 = after_is marks.CloseSquare w0.1 w1 y1 in rw y1
    (λ v r d. record { more = suc d.more; is = omega (arith, d.is); dims = rw (e0, e1) (one_dim _ _ d.dims) }))))

pub type_good : (ts : List Token) → Good Post (type_step ts) (Post NType ts)
type_good ts = option_cases (base_next ts)
    (λ n0. rw (n0, type_step) tt)
    (λ w0 y0. let e0 = base_is ts w0 y0 in rw (y0, type_step) (λ v1 r1 d1. (a_type e0 (counted_all d1))))

pub tail_good : (e : Expression) (z : End) (ts : List Token) → Good Post (tail_step e z ts) (Post (NTail e z) ts)
tail_good e z ts = option_cases (after marks.Dot ts)
    (λ n0. rw (n0, tail_step) (option_cases (index_next z ts)
    (λ n1. rw n1 (λ us h. h))
    (λ w1 y1. let e1 = index_is z ts w1 y1 in rw y1 (λ v2 r2 d2. (option_cases (after marks.CloseSquare r2)
    (λ n3. rw n3 tt)
    (λ w3 y3. let e3 = after_is marks.CloseSquare r2 w3 y3 in rw y3
    (λ v r d. λ us h. d us (by_target (to_index (open_post e1.1 (rw e1.0 at h)) (rw e3 at d2))))))))))
    (λ w0 y0. let e0 = after_is marks.Dot ts w0 y0 in rw (y0, tail_step) (option_cases (word_next w0.1)
    (λ n1. rw n1 tt)
    (λ w1 y1. let e1 = word_is w0.1 w1 y1 in rw y1 (option_cases (after marks.OpenRound w1.2)
    (λ n2. rw n2 (λ v r d. λ us h. d us (by_target (to_field (post_of (rw (e0, e1) at h))))))
    (λ w2 y2. let e2 = after_is marks.OpenRound w1.2 w2 y2 in rw y2
    (λ v3 r3 d3. (λ v r d. λ us h. d us (by_call (call_upon (post_of (rw (e0, e1, e2) at h)) d3)))))))))

pub args_good : (ts : List Token) → Good Post (args_step ts) (Post NArgs ts)
args_good ts = option_cases (after marks.CloseRound ts)
    (λ n0. rw (n0, args_step) (λ v1 r1 d1. (λ v r d. args_all d1 d)))
    (λ w0 y0. let e0 = after_is marks.CloseRound ts w0 y0 in rw (y0, args_step) (rw e0 no_args))

pub more_args_good : (es : Expressions) (ts : List Token) → Good Post (more_args_step es ts) (Post (NMoreArgs es) ts)
more_args_good es ts = option_cases (after marks.CloseRound ts)
    (λ n0. rw (n0, more_args_step) (option_cases (after marks.Comma ts)
    (λ n1. rw n1 tt)
    (λ w1 y1. let e1 = after_is marks.Comma ts w1 y1 in rw y1
    (λ v2 r2 d2. (λ v r d. record { more = and_more v2 d.more; is = d.is ∙ exprs_snoc es v2 d.more; args = rw e1 (next_arg d2 d.args) })))))
    (λ w0 y0. let e0 = after_is marks.CloseRound ts w0 y0 in rw (y0, more_args_step)
    (record { more = no_more; is = sym (exprs_end es); args = rw e0 last_arg }))
