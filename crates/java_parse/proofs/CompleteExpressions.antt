-- Expressions and types of the grammar are read.
use Rattle.std.proofs.Common.{arith, refl, sym, ap, subst, ◌+◌, ◌≡◌, ℕ, suc, ◌<◌, ◌≤◌, List, [], ◌∷◌, Option, Some, None, Ok, Bool, true, false, if◌then◌else◌, ◌&&◌}
use Rattle.kaba_base.specs.declared.Place.{Place}
use Rattle.kaba_base.specs.declared.words.Keyword.{Keyword}
use Rattle.kaba_base.specs.declared.words.Keyword.TheVariants as keys
use Rattle.java_lex.specs.declared.Token.{Token}
use Rattle.java_lex.specs.declared.TokenKind.{TokenKind}
use Rattle.java_lex.specs.declared.TokenKind.TheVariants as kinds
use Rattle.java_lex.specs.declared.Mark.{Mark}
use Rattle.java_lex.specs.declared.Mark.TheVariants as marks
use Rattle.java_lex.specs.Lexing.{token}
use Rattle.java_tree.specs.declared.TypeBase.{TypeBase}
use Rattle.java_tree.specs.declared.TypeName.{TypeName}
use Rattle.java_tree.specs.Syntax.{Expression, NewArrayOf, Expressions, no_more, and_more}
use Rattle.java_tree.specs.Tokens.{mark, key, word, level, casts}
use Rattle.java_parse.specs.declared.End.{End}
use Rattle.java_parse.specs.declared.End.TheVariants as ends
use Rattle.java_parse.specs.Want.{NExpr, NMore, NPrefixed, NPost, NAtom, NNew, NSized, NDims, NType, NTail, NArgs, NMoreArgs}
use Rattle.java_tree.specs.Expressions.{IsBase, named_base, IsDims, no_dims, one_dim, IsType, a_type, IsExpr, binary, instance_of, operand, IsPrefixed, signed, least, cast_named, cast_int, cast_char, bare, IsPost, field, call_on, index, name, call, super_call, round, new_object, new_array, IsArgs, no_args, some_args, IsMoreArgs, last_arg, next_arg, int_base, boolean_base, char_base, int_literal, char_literal, string_literal, true_literal, false_literal, null_literal, this_word}
use Rattle.java_parse.specs.Front.{after, word_next, operator, instance_next, opens_cast, opens_by, cast_next, base_next, literal_next, index_next, is_array, expr_snoc, after_key_by, operator_by, cast_by, cast_end, word_by}
use Rattle.java_parse.proofs.Fronts.{option_cases, after_is}
use Rattle.java_parse.proofs.Begins.{begins_post, begins, no_round, post_begins, prefixed_begins, expr_begins, signed_not_least, sign_here, post_none}
use Rattle.std.proofs.lemmas.Bool.{le-leb, lt-leb}
use Rattle.std.specs.Prelude.{nat_lt, nat_le}
use Rattle.java_tree.specs.Nesting.{next_is}
use Rattle.java_parse.specs.Reading.{ParseOutcome, Reads}
use Rattle.java_tree.proofs.Appended.{append_exprs, exprs_end}
use Rattle.java_parse.proofs.SoundExpressions.{exprs_snoc}
use Rattle.java_parse.proofs.ExpressionSteps as x

-- the level of the operator that is next, or 0
abbrev pub level_by : TokenKind → ℕ
level_by (kinds.Mark m) = level m
level_by (kinds.Key keys.InstanceOf) = 7
level_by _ = 0

abbrev pub next_level : List Token → ℕ
next_level [] = 0
next_level (t ∷ ts) = level_by t.kind

-- what follows ends an expression without operators
pub record Ends (rest : List Token) : Type 0 where
  pub dot : after marks.Dot rest ≡ None
  pub round : after marks.OpenRound rest ≡ None
  pub square : after marks.OpenSquare rest ≡ None
  pub cast : casts rest ≡ false

-- and one whose operators bind at least so tightly
pub record Stops (l : ℕ) (rest : List Token) : Type 0 where
  pub below : next_level rest < l
  pub ends_ : Ends rest

never_both : {A : Type 0} (b : Bool) (o : Option A) → (if b && false then o else None) ≡ None
never_both true o = refl
never_both false o = refl

same_none : {A : Type 0} (b : Bool) → ◌≡◌ {A = Option A} (if b then None else None) None
same_none true = refl
same_none false = refl

op_kind : (l c : ℕ) (k : TokenKind) (p : Place) (ts : List Token) → level_by k < l → operator_by l c k p ts ≡ None
op_kind l c (kinds.Mark m) p ts h = rw (lt-leb l (level m) h) (never_both (nat_lt 0 (level m)) _)
op_kind l c _ p ts h = refl

op_none : (l c : ℕ) (rest : List Token) → next_level rest < l → operator l c rest ≡ None
op_none l c [] h = refl
op_none l c (t ∷ ts) h = op_kind l c t.kind t.place ts h

inst_key : (l c : ℕ) (k : Keyword) (p : Place) (ts : List Token) → level_by (kinds.Key k) < l
    → (if nat_le l 7 && nat_le 7 c then after_key_by keys.InstanceOf (kinds.Key k) p ts else None) ≡ None
inst_key l c keys.InstanceOf p ts h = rw (lt-leb l 7 h) refl
inst_key l c _ p ts h = same_none (nat_le l 7 && nat_le 7 c)

inst_kind : (l c : ℕ) (k : TokenKind) (p : Place) (ts : List Token) → level_by k < l
    → (if nat_le l 7 && nat_le 7 c then after_key_by keys.InstanceOf k p ts else None) ≡ None
inst_kind l c (kinds.Key k) p ts h = inst_key l c k p ts h
inst_kind l c _ p ts h = same_none (nat_le l 7 && nat_le 7 c)

inst_none : (l c : ℕ) (rest : List Token) → next_level rest < l → instance_next l c rest ≡ None
inst_none l c [] h = same_none (nat_le l 7 && nat_le 7 c)
inst_none l c (t ∷ ts) h = inst_kind l c t.kind t.place ts h

op_here : (l c : ℕ) (m : Mark) (p : Place) (ts : List Token) → 0 < level m → l ≤ level m → level m ≤ c → operator l c (mark m p ∷ ts) ≡ Some (m, p, ts)
op_here l c m p ts h j k = rw (le-leb 1 (level m) h, le-leb l (level m) j, le-leb (level m) c k) refl

inst_here : (l c : ℕ) (p : Place) (ts : List Token) → l ≤ 7 → 7 ≤ c → instance_next l c (key keys.InstanceOf p ∷ ts) ≡ Some (p, ts)
inst_here l c p ts j k = rw (le-leb l 7 j, le-leb 7 c k) refl

level_small : (m : Mark) → level m ≤ 10
level_small marks.Either = omega arith
level_small marks.Both = omega arith
level_small marks.Or = omega arith
level_small marks.Xor = omega arith
level_small marks.And = omega arith
level_small marks.Equal = omega arith
level_small marks.NotEqual = omega arith
level_small marks.Less = omega arith
level_small marks.Greater = omega arith
level_small marks.AtMost = omega arith
level_small marks.AtLeast = omega arith
level_small marks.ShiftLeft = omega arith
level_small marks.ShiftRight = omega arith
level_small marks.ShiftRightLogical = omega arith
level_small marks.Plus = omega arith
level_small marks.Minus = omega arith
level_small marks.Star = omega arith
level_small marks.Slash = omega arith
level_small marks.Percent = omega arith
level_small _ = omega arith

-- a binary operator ends what stands before it
op_ends : (m : Mark) (p : Place) (ts : List Token) → 0 < level m → Ends (mark m p ∷ ts)
op_ends marks.Dot p ts h = absurd (omega (arith, h))
op_ends marks.OpenRound p ts h = absurd (omega (arith, h))
op_ends marks.OpenSquare p ts h = absurd (omega (arith, h))
op_ends marks.Bang p ts h = absurd (omega (arith, h))
op_ends marks.Flip p ts h = absurd (omega (arith, h))
op_ends _ p ts h = record { dot = refl; round = refl; square = refl; cast = refl }

op_stops : (m : Mark) (p : Place) (ts : List Token) → 0 < level m → Stops (suc (level m)) (mark m p ∷ ts)
op_stops m p ts h = record { below = omega arith; ends_ = op_ends m p ts h }

looser : {l k : ℕ} {rest : List Token} → l ≤ k → Stops l rest → Stops k rest
looser h s = record { below = omega (arith, h, s.below); ends_ = s.ends_ }

-- the marks that close an expression
pub stops_round : {p : Place} {us : List Token} → Stops 1 (mark marks.CloseRound p ∷ us)
stops_round = record { below = omega arith; ends_ = record { dot = refl; round = refl; square = refl; cast = refl } }

pub stops_square : {p : Place} {us : List Token} → Stops 1 (mark marks.CloseSquare p ∷ us)
stops_square = record { below = omega arith; ends_ = record { dot = refl; round = refl; square = refl; cast = refl } }

pub stops_semi : {p : Place} {us : List Token} → Stops 1 (mark marks.Semi p ∷ us)
stops_semi = record { below = omega arith; ends_ = record { dot = refl; round = refl; square = refl; cast = refl } }

pub stops_comma : {p : Place} {us : List Token} → Stops 1 (mark marks.Comma p ∷ us)
stops_comma = record { below = omega arith; ends_ = record { dot = refl; round = refl; square = refl; cast = refl } }

abbrev rest_of : List Token → List Token
rest_of [] = []
rest_of (t ∷ ts) = ts

no_round_next : {us vs : List Token} {c : Place} {P : Type 0} → us ≡ mark marks.CloseRound c ∷ vs → after marks.CloseRound us ≡ None → P
no_round_next {us = us} {vs = vs} {c = c} e h = let z : after marks.CloseRound us ≡ Some (c, vs) = ap (after marks.CloseRound) e in absurd (let g : ⊥ = cc in g)

no_word : {ts us : List Token} {n : List ℕ} {q : Place} {P : Type 0} → ts ≡ word n q ∷ us → word_next ts ≡ None → P
no_word {ts = ts} {us = us} {n = n} {q = q} e h = let z : word_next ts ≡ Some (n, q, us) = ap word_next e in absurd (let g : ⊥ = cc in g)

-- an expression that begins with a word and a closing bracket is the word alone
alone_post : {b : Bool} {ts rest vs : List Token} {e : Expression} {n : List ℕ} {q c : Place} → IsPost b ts rest e
    → ts ≡ word n q ∷ mark marks.CloseRound c ∷ vs → rest ≡ mark marks.CloseRound c ∷ vs
alone_post (field d) h = no_round_next (alone_post d h) refl
alone_post (call_on d a) h = no_round_next (alone_post d h) refl
alone_post (index d i) h = no_round_next (alone_post d h) refl
alone_post int_literal h = no_word h refl
alone_post char_literal h = no_word h refl
alone_post string_literal h = no_word h refl
alone_post true_literal h = no_word h refl
alone_post false_literal h = no_word h refl
alone_post null_literal h = no_word h refl
alone_post this_word h = no_word h refl
alone_post name h = ap rest_of h
alone_post (call a) h = no_round_next (ap rest_of h) refl
alone_post (super_call a) h = no_word h refl
alone_post (round d) h = no_word h refl
alone_post (new_object a) h = no_word h refl
alone_post (new_array b e d) h = no_word h refl

alone_prefixed : {ts rest vs : List Token} {e : Expression} {n : List ℕ} {q c : Place} → IsPrefixed ts rest e
    → ts ≡ word n q ∷ mark marks.CloseRound c ∷ vs → rest ≡ mark marks.CloseRound c ∷ vs
alone_prefixed (signed s d) h = no_word h refl
alone_prefixed least h = no_word h refl
alone_prefixed (cast_named s d) h = no_word h refl
alone_prefixed (cast_int d) h = no_word h refl
alone_prefixed (cast_char d) h = no_word h refl
alone_prefixed (bare d) h = alone_post d h

alone_expr : {l : ℕ} {ts rest vs : List Token} {e : Expression} {n : List ℕ} {q c : Place} → IsExpr l ts rest e
    → ts ≡ word n q ∷ mark marks.CloseRound c ∷ vs → rest ≡ mark marks.CloseRound c ∷ vs
alone_expr (binary {m = m} po le a b) h = let z : level m ≡ 0 = ap next_level (alone_expr a h) in absurd (omega (arith, po, z))
alone_expr (instance_of le a) h = no_round_next (alone_expr a h) refl
alone_expr (operand d) h = alone_prefixed d h

opens_key : (k : Keyword) (q p : Place) (us : List Token) → begins_post (kinds.Key k) ≡ true → opens_by (kinds.Key k) q p us ≡ None
opens_key keys.Int q p us h = cc
opens_key keys.Char q p us h = cc
opens_key _ q p us h = refl

opens_kind : (k : TokenKind) (q p : Place) (us : List Token) → begins k ≡ true → opens_by k q p us ≡ None
opens_kind (kinds.Key k) q p us h = opens_key k q p us h
opens_kind _ q p us h = refl

opens_none : (p : Place) (us : List Token) → next_is begins us ≡ true → opens_cast (mark marks.OpenRound p ∷ us) ≡ None
opens_none p [] h = refl
opens_none p (t ∷ us) h = opens_kind t.kind t.place p us h

-- an expression without operators opens no cast
post_no_opens : {b : Bool} {ts rest : List Token} {e : Expression} → IsPost b ts rest e → opens_cast ts ≡ None
post_no_opens (field d) = post_no_opens d
post_no_opens (call_on d a) = post_no_opens d
post_no_opens (index d i) = post_no_opens d
post_no_opens (round {p = p} {ts = ts} d) = opens_none p ts (expr_begins d)
post_no_opens _ = refl

cast_word : (n : List ℕ) (tp p q : Place) (us rest : List Token) → ((c : Place) (vs : List Token) → us ≡ mark marks.CloseRound c ∷ vs
    → mark marks.CloseRound q ∷ rest ≡ mark marks.CloseRound c ∷ vs) → casts rest ≡ false →
    cast_end n tp p (after marks.CloseRound us) ≡ None
cast_word n tp p q us rest alone h = option_cases (after marks.CloseRound us)
    (λ no. rw no refl)
    (λ c yes.
    let f : rest ≡ c.1 = ap rest_of (alone c.0 c.1 (after_is marks.CloseRound us c yes)) in
    let g : casts c.1 ≡ false = subst (λ (r : List Token). casts r ≡ false) f h in
    rw yes (rw g refl))

cast_kind : (k : TokenKind) (tp p q : Place) (us rest : List Token) → ((n : List ℕ) (r c : Place) (vs : List Token)
    → token k tp ∷ us ≡ word n r ∷ mark marks.CloseRound c ∷ vs → mark marks.CloseRound q ∷ rest
    ≡ mark marks.CloseRound c ∷ vs) → casts rest ≡ false →
    cast_by p (word_by k tp us) ≡ None
cast_kind (kinds.Word n) tp p q us rest alone g = cast_word n tp p q us rest (λ c vs e. alone n tp c vs (ap (λ r. word n tp ∷ r) e)) g
cast_kind _ tp p q us rest alone g = refl

cast_none : (p q : Place) (us rest : List Token) → ((n : List ℕ) (r c : Place) (vs : List Token) → us ≡ word n r ∷ mark marks.CloseRound c ∷ vs
    → mark marks.CloseRound q ∷ rest
    ≡ mark marks.CloseRound c ∷ vs) → casts rest ≡ false →
    cast_next (mark marks.OpenRound p ∷ us) ≡ None
cast_none p q [] rest alone g = refl
cast_none p q (t ∷ us) rest alone g = cast_kind t.kind t.place p q us rest alone g

post_no_cast : {b : Bool} {ts rest : List Token} {e : Expression} → IsPost b ts rest e → casts rest ≡ false → cast_next ts ≡ None
post_no_cast (field d) h = post_no_cast d refl
post_no_cast (call_on d a) h = post_no_cast d refl
post_no_cast (index d i) h = post_no_cast d refl
post_no_cast (round {p = p} {q = q} {ts = ts} {rest = rest} d) h = cast_none p q ts rest (λ n r c vs e. alone_expr d e) h
post_no_cast _ h = refl

index_here : (z : End) (p : Place) (us : List Token) → is_array z ≡ false → index_next z (mark marks.OpenSquare p ∷ us) ≡ Some (p, us)
index_here z p us h = rw h refl

guarded_none : {A : Type 0} (b : Bool) (o : Option A) → o ≡ None → (if b then None else o) ≡ None
guarded_none true o h = refl
guarded_none false o h = h

pub index_none : (z : End) (rest : List Token) → after marks.OpenSquare rest ≡ None → index_next z rest ≡ None
index_none z rest h = guarded_none (is_array z) (after marks.OpenSquare rest) h

-- an expression without operators is read up to where it may go on
pub record PostRead (b : Bool) (ts rest : List Token) (e : Expression) : Type 0 where
  pub end_ : End
  pub kind : b ≡ true → is_array end_ ≡ false
  pub goes : (o : ParseOutcome (Expression × End)) → Reads (NTail e end_) rest o → Reads NPost ts o

read_up_to : {b : Bool} {ts rest : List Token} {e : Expression} (z : End) → (b ≡ true → is_array z ≡ false)
    → ((o : ParseOutcome (Expression × End)) → Reads (NTail e z) rest o → Reads NPost ts o) → PostRead b ts rest e
read_up_to z k g = record { end_ = z; kind = k; goes = g }

atom_reads : {b : Bool} {ts rest : List Token} {e : Expression} (z : End) → (b ≡ true → is_array z ≡ false) → Reads NAtom ts (Ok ((e, z), rest))
    → PostRead b ts rest e
atom_reads z k a = read_up_to z k (λ o q. x.post_steps a q)

literal_reads : {b : Bool} {ts rest : List Token} {e : Expression} → literal_next ts ≡ Some (e, rest) → PostRead b ts rest e
literal_reads h = atom_reads ends.Other (λ h. refl) (x.atom_literal h)

pub dims_read : {ts rest : List Token} {d : ℕ} → IsDims ts rest d → after marks.OpenSquare rest ≡ None → (n : ℕ) → Reads (NDims n) ts (Ok (n + d, rest))
dims_read {rest = rest} no_dims h n = let e : n ≡ n + 0 = omega arith in subst (λ (d : ℕ). Reads (NDims n) rest (Ok (d, rest))) e (x.dims_ends h)
dims_read {rest = rest} (one_dim {ts = ts} {d = d} p q r) h n =
    let e : suc n + d ≡ n + suc d = omega arith in
    subst (λ (k : ℕ). Reads (NDims n) (mark marks.OpenSquare p ∷ mark marks.CloseSquare q ∷ ts) (Ok (k, rest))) e
    (x.dims_more refl refl (dims_read r h (suc n)))

pub more_stops : {us rest : List Token} {es : Expressions} → IsMoreArgs us rest es → Stops 1 us
more_stops last_arg = stops_round
more_stops (next_arg a b) = stops_comma

no : {P : Type 0} → true ≡ false → P
no h = absurd (let g : ⊥ = cc in g)

based : {ts us : List Token} {b : TypeBase} {p q r : Place} {o : ParseOutcome (Expression × End)} → IsBase ts (mark marks.OpenSquare r ∷ us) b q
    → Reads (NSized p b q) (mark marks.OpenSquare r ∷ us) o → Reads (NNew p) ts o
based int_base a = x.new_base refl refl a
based boolean_base a = x.new_base refl refl a
based char_base a = x.new_base refl refl a
based named_base a = x.new_named refl refl a

array_reads : {ts us rest : List Token} {b : TypeBase} {e : Expression} {d : ℕ} {p q r : Place} → IsBase ts (mark marks.OpenSquare r ∷ us) b q →
    Reads (NSized p b q) (mark marks.OpenSquare r ∷ us) (Ok ((NewArrayOf (record { base = b; dim = 1 + d; place = q }) e p, ends.Array), rest)) →
    Reads (NNew p) ts (Ok ((NewArrayOf (record { base = b; dim = suc d; place = q }) e p, ends.Array), rest))
array_reads {ts = ts} {rest = rest} {b = b} {e = e} {d = d} {p = p} {q = q} h a =
    let f : 1 + d ≡ suc d = omega arith in
    subst (λ (k : ℕ). Reads (NNew p) ts (Ok ((NewArrayOf (record { base = b; dim = k; place = q }) e p, ends.Array), rest))) f (based h a)

-- an expression that ends here is read as it is
stops_more : {rest : List Token} {e : Expression} → Stops 1 rest → (c : ℕ) → 1 ≤ c → Reads (NMore 1 c e) rest (Ok (e, rest))
stops_more {rest = rest} s c h = x.more_ends (op_none 1 c rest s.below) (inst_none 1 c rest s.below)

closed : {ts rest : List Token} {e : Expression} → ((k : ℕ) → k ≤ 1 → 1 ≤ 11 → Stops (suc 1) rest → (o : ParseOutcome Expression)
    → ((c : ℕ) → 1 ≤ c → Reads (NMore k c e) rest o) → Reads (NExpr k) ts o) → Stops 1 rest → Reads (NExpr 1) ts (Ok (e, rest))
closed read s = read 1 (omega arith) (omega arith) (looser (omega arith) s) _ (stops_more s)

mutual
  pub expr_reads : {l : ℕ} {ts rest : List Token} {e : Expression} → IsExpr l ts rest e → (k : ℕ) → k ≤ l → l ≤ 11 → Stops (suc l) rest
      → (o : ParseOutcome Expression) → ((c : ℕ) → l ≤ c → Reads (NMore k c e) rest o) → Reads (NExpr k) ts o
  expr_reads (binary {l = l} {m = m} {p = p} {a = a} {b = b} {ts = ts} {us = us} {rest = rest} po le da db) k kl lb s o end =
      let small : level m ≤ 10 = level_small m in
      let s1 : Stops (suc (level m)) rest = looser (omega arith) s in
      let s2 : Stops (suc (suc (level m))) rest = looser (omega arith) s in
      let right : Reads (NExpr (suc (level m))) us (Ok (b, rest)) = expr_reads db (suc (level m)) (omega arith) (omega arith) s2 (Ok (b, rest))
      (λ c h. x.more_ends (op_none (suc (level m)) c rest s1.below) (inst_none (suc (level m)) c rest s1.below)) in
      expr_reads da k (omega arith) (omega arith) (op_stops m p us po) o (λ c h. x.more_binary (op_here k c m p us po (omega arith) h) right (end (level m) le))
  expr_reads (instance_of {l = l} {n = n} {p = p} {q = q} {e = e} {ts = ts} {rest = rest} le d) k kl lb s o end =
      expr_reads d k (omega arith) (omega arith) (record { below = omega arith; ends_ = record { dot = refl; round = refl; square = refl; cast = refl } }) o
      (λ c h. x.more_instance refl (inst_here k c p (word n q ∷ rest) (omega arith) h) refl (end 7 le))
  expr_reads (operand d) k kl lb s o end = x.expr_steps (prefixed_reads d s.ends_) (end 11 lb)

  prefixed_reads : {ts rest : List Token} {e : Expression} → IsPrefixed ts rest e → Ends rest → Reads NPrefixed ts (Ok (e, rest))
  prefixed_reads (signed {m = m} {p = p} {ts = ts} h d) s = x.prefixed_signed (signed_not_least m p ts (prefixed_begins d)) (sign_here m p ts h)
      (prefixed_reads d s)
  prefixed_reads least s = x.prefixed_least refl
  prefixed_reads (cast_named h d) s = x.prefixed_cast refl refl refl (rw h refl) (prefixed_reads d s)
  prefixed_reads (cast_int d) s = x.prefixed_base refl refl refl refl (prefixed_reads d s)
  prefixed_reads (cast_char d) s = x.prefixed_base refl refl refl refl (prefixed_reads d s)
  prefixed_reads (bare {ts = ts} {rest = rest} {e = e} d) s =
      let f = post_none ts (post_begins d) in
      let r = post_reads d s.round (λ h. s.square) in
      x.prefixed_bare f.0 f.1 (post_no_opens d) (post_no_cast d s.cast) (r.goes (Ok ((e, r.end_), rest)) (x.tail_ends s.dot (index_none r.end_ rest s.square)))

  pub post_reads : {b : Bool} {ts rest : List Token} {e : Expression} → IsPost b ts rest e → after marks.OpenRound rest ≡ None
      → (b ≡ false → after marks.OpenSquare rest ≡ None) → PostRead b ts rest e
  post_reads (field d) s t = let r = post_reads d refl (λ h. refl) in read_up_to ends.Target (λ h. refl) (λ o q. r.goes o (x.tail_field refl refl s q))
  post_reads (call_on d a) s t = let r = post_reads d refl (λ h. refl) in read_up_to ends.Call (λ h. refl)
      (λ o q. r.goes o (x.tail_call refl refl refl (args_reads a) q))
  post_reads (index {p = p} {us = us} d i) s t = let r = post_reads d refl (λ h. no h) in read_up_to ends.Target (λ h. refl)
      (λ o q. r.goes o (x.tail_index refl (index_here r.end_ p us (r.kind refl)) (closed (expr_reads i) stops_square) refl q))
  post_reads int_literal s t = literal_reads refl
  post_reads char_literal s t = literal_reads refl
  post_reads string_literal s t = literal_reads refl
  post_reads true_literal s t = literal_reads refl
  post_reads false_literal s t = literal_reads refl
  post_reads null_literal s t = literal_reads refl
  post_reads this_word s t = literal_reads refl
  post_reads name s t = atom_reads ends.Name (λ h. refl) (x.atom_name refl refl s)
  post_reads (call a) s t = atom_reads ends.Call (λ h. refl) (x.atom_call refl refl refl (args_reads a))
  post_reads (super_call a) s t = atom_reads ends.Call (λ h. refl) (x.atom_super refl refl refl refl refl (x.super_call refl refl refl (args_reads a)))
  post_reads (round d) s t = atom_reads ends.Other (λ h. refl) (x.atom_round refl refl refl (closed (expr_reads d) stops_round) refl)
  post_reads (new_object a) s t = atom_reads ends.New (λ h. refl) (x.atom_new refl refl refl refl (x.new_object refl refl (args_reads a)))
  post_reads (new_array b e d) s t = atom_reads ends.Array (λ h. no (sym h))
      (x.atom_new refl refl refl refl (array_reads b (x.sized_array refl (closed (expr_reads e) stops_square) refl (dims_read d (t refl) 1))))

  pub args_reads : {us rest : List Token} {es : Expressions} → IsArgs us rest es → Reads NArgs us (Ok (es, rest))
  args_reads no_args = x.args_none refl
  args_reads (some_args {ts = ts} d m) =
      x.args_some (no_round ts (expr_begins d)) (closed (expr_reads d) (more_stops m)) (more_reads m (and_more _ no_more))

  more_reads : {us rest : List Token} {es : Expressions} → IsMoreArgs us rest es → (before : Expressions)
      → Reads (NMoreArgs before) us (Ok (append_exprs before es, rest))
  more_reads last_arg before = rw exprs_end (x.more_args_end refl)
  more_reads (next_arg {e = e} {es = es} d m) before =
      rw (← exprs_snoc before e es) (x.more_args_next refl refl (closed (expr_reads d) (more_stops m)) (more_reads m (expr_snoc before e)))

pub closed_reads : {ts rest : List Token} {e : Expression} → IsExpr 1 ts rest e → Stops 1 rest → Reads (NExpr 1) ts (Ok (e, rest))
closed_reads d s = closed (expr_reads d) s

pub type_reads : {ts rest : List Token} {t : TypeName} → IsType ts rest t → after marks.OpenSquare rest ≡ None → Reads NType ts (Ok (t, rest))
type_reads {rest = rest} (a_type {ts = ts} {us = us} {b = b} {p = p} {d = d} h r) s =
    let e : 0 + d ≡ d = omega arith in
    subst (λ (k : ℕ). Reads NType ts (Ok (record { base = b; dim = k; place = p }, rest))) e (x.type_is (base_reads h) (dims_read r s 0))
  where
    base_reads : {ts us : List Token} {b : TypeBase} {p : Place} → IsBase ts us b p → base_next ts ≡ Some (b, p, us)
    base_reads int_base = refl
    base_reads boolean_base = refl
    base_reads char_base = refl
    base_reads named_base = refl
