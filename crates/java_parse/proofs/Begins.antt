-- What the first token of an expression rules out.
use Rattle.std.proofs.Common.{refl, subst, ◌≡◌, ℕ, List, [], ◌∷◌, Some, None, Bool, true, false}
use Rattle.kaba_base.specs.declared.Place.{Place}
use Rattle.java_lex.specs.declared.Token.{Token}
use Rattle.java_lex.specs.declared.TokenKind.{TokenKind}
use Rattle.java_lex.specs.declared.TokenKind.TheVariants as kinds
use Rattle.java_lex.specs.declared.Mark.{Mark}
use Rattle.java_lex.specs.declared.Mark.TheVariants as marks
use denote.Enum.Bare.{sameb, same_true}
use Rattle.java_lex.specs.contracts.Mark.{the_type as mark_type}
use Rattle.java_lex.specs.Lexing.{token}
use Rattle.java_tree.specs.Syntax.{Expression}
use Rattle.java_tree.specs.Tokens.{mark, is_sign, casts_kind}
use Rattle.java_tree.specs.Nesting.{next_is}
use Rattle.java_tree.specs.Expressions.{IsExpr, binary, instance_of, operand, IsPrefixed, signed, least, cast_named, cast_int, cast_char, bare, IsPost, field, call_on, index}
use Rattle.java_parse.specs.Front.{after, least_next, sign_next, stepping_next, after_by, least_by, least_kind, closes}
use Rattle.java_parse.proofs.Fronts.{bool_cases}

-- the tokens that begin an expression without prefix operators
abbrev pub begins_post : TokenKind → Bool
begins_post (kinds.Mark marks.OpenRound) = true
begins_post (kinds.Mark m) = false
begins_post k = casts_kind k

-- and any expression
abbrev pub begins_mark : Mark → Bool
begins_mark marks.OpenRound = true
begins_mark m = is_sign m

abbrev pub begins : TokenKind → Bool
begins (kinds.Mark m) = begins_mark m
begins k = begins_post k

pub post_begins : {b : Bool} {ts rest : List Token} {e : Expression} → IsPost b ts rest e → next_is begins_post ts ≡ true
post_begins (field d) = post_begins d
post_begins (call_on d a) = post_begins d
post_begins (index d i) = post_begins d
post_begins _ = refl

wider_mark : (m : Mark) → begins_post (kinds.Mark m) ≡ true → begins_mark m ≡ true
wider_mark marks.OpenRound h = refl
wider_mark _ h = cc

wider : (k : TokenKind) → begins_post k ≡ true → begins k ≡ true
wider (kinds.Mark m) h = wider_mark m h
wider (kinds.Word n) h = refl
wider (kinds.Int v) h = refl
wider kinds.Least h = h
wider (kinds.Char c) h = refl
wider (kinds.Str u) h = refl
wider (kinds.Key k) h = h

widen : (ts : List Token) → next_is begins_post ts ≡ true → next_is begins ts ≡ true
widen [] h = h
widen (t ∷ ts) h = wider t.kind h

sign_begins : (m : Mark) → is_sign m ≡ true → begins_mark m ≡ true
sign_begins marks.OpenRound h = refl
sign_begins m h = h

pub prefixed_begins : {ts rest : List Token} {e : Expression} → IsPrefixed ts rest e → next_is begins ts ≡ true
prefixed_begins (signed {m = m} h d) = sign_begins m h
prefixed_begins least = refl
prefixed_begins (cast_named h d) = refl
prefixed_begins (cast_int d) = refl
prefixed_begins (cast_char d) = refl
prefixed_begins (bare {ts = ts} d) = widen ts (post_begins d)

pub expr_begins : {l : ℕ} {ts rest : List Token} {e : Expression} → IsExpr l ts rest e → next_is begins ts ≡ true
expr_begins (binary a b d e) = expr_begins d
expr_begins (instance_of a d) = expr_begins d
expr_begins (operand d) = prefixed_begins d

no_mark_kind : (m : Mark) (k : TokenKind) (p : Place) (ts : List Token) → begins_mark m ≡ false → begins k ≡ true → after_by m k p ts ≡ None
no_mark_kind m (kinds.Mark k) p ts f h = bool_cases (sameb mark_type k m)
    (λ yes. let e : k ≡ m = same_true mark_type tt k m yes in let g : begins_mark m ≡ true = subst (λ (m : Mark). begins_mark m ≡ true) e h in cc)
    (λ no. rw no refl)
no_mark_kind m _ p ts f h = refl

-- no mark that begins none stands where an expression begins
pub no_mark : (m : Mark) (ts : List Token) → begins_mark m ≡ false → next_is begins ts ≡ true → after m ts ≡ None
no_mark m [] f h = refl
no_mark m (t ∷ ts) f h = no_mark_kind m t.kind t.place ts f h

pub no_round : (ts : List Token) → next_is begins ts ≡ true → after marks.CloseRound ts ≡ None
no_round ts h = no_mark marks.CloseRound ts refl h

pub no_semi : (ts : List Token) → next_is begins ts ≡ true → after marks.Semi ts ≡ None
no_semi ts h = no_mark marks.Semi ts refl h

no_closes_mark : (m : Mark) (p : Place) (ts : List Token) → begins_mark m ≡ true → closes (mark m p ∷ ts) ≡ false
no_closes_mark marks.CloseSquare p ts h = cc
no_closes_mark _ p ts h = refl

no_closes_kind : (k : TokenKind) (p : Place) (ts : List Token) → begins k ≡ true → closes (token k p ∷ ts) ≡ false
no_closes_kind (kinds.Mark m) p ts h = no_closes_mark m p ts h
no_closes_kind _ p ts h = refl

pub no_closes : (ts : List Token) → next_is begins ts ≡ true → closes ts ≡ false
no_closes [] h = refl
no_closes (t ∷ ts) h = no_closes_kind t.kind t.place ts h

-- a sign before an expression is no minus before 2147483648
not_least_kind : (k : TokenKind) (p : Place) (ts : List Token) → begins k ≡ true → least_kind k p ts ≡ None
not_least_kind kinds.Least p ts h = cc
not_least_kind _ p ts h = refl

not_least_by : (p : Place) (ts : List Token) → next_is begins ts ≡ true → least_by p ts ≡ None
not_least_by p [] h = refl
not_least_by p (t ∷ ts) h = not_least_kind t.kind p ts h

pub signed_not_least : (m : Mark) (p : Place) (ts : List Token) → next_is begins ts ≡ true → least_next (mark m p ∷ ts) ≡ None
signed_not_least marks.Minus p ts h = not_least_by p ts h
signed_not_least _ p ts h = refl

pub sign_here : (m : Mark) (p : Place) (ts : List Token) → is_sign m ≡ true → sign_next (mark m p ∷ ts) ≡ Some (m, p, ts)
sign_here m p ts h = rw h refl

post_mark_none : (m : Mark) (p : Place) (ts : List Token) → begins_post (kinds.Mark m) ≡ true → (least_next (mark m p ∷ ts) ≡ None)
    × (sign_next (mark m p ∷ ts) ≡ None) × (stepping_next (mark m p ∷ ts) ≡ None)
post_mark_none marks.OpenRound p ts h = (refl, refl, refl)
post_mark_none _ p ts h = cc

post_kind_none : (k : TokenKind) (p : Place) (ts : List Token) → begins_post k ≡ true → (least_next (token k p ∷ ts) ≡ None)
    × (sign_next (token k p ∷ ts) ≡ None) × (stepping_next (token k p ∷ ts) ≡ None)
post_kind_none (kinds.Mark m) p ts h = post_mark_none m p ts h
post_kind_none _ p ts h = (refl, refl, refl)

pub post_none : (ts : List Token) → next_is begins_post ts ≡ true → (least_next ts ≡ None) × (sign_next ts ≡ None) × (stepping_next ts ≡ None)
post_none [] h = (refl, refl, refl)
post_none (t ∷ ts) h = post_kind_none t.kind t.place ts h
