-- What the tests of the front say of the tokens.
use Rattle.std.proofs.Common.{◌≡◌, ℕ, ◌<◌, ◌≤◌, List, [], ◌∷◌, Bool, true, false, Option, Some, None, refl, sym, ap, ◌∙◌, subst}
use Rattle.std.proofs.lemmas.Bool.{leb-true, and_parts}
use Rattle.std.specs.Prelude.{nat_lt, nat_le, ◌&&◌, if◌then◌else◌}
use Rattle.kaba_base.specs.declared.Place.{Place}
use Rattle.kaba_base.specs.declared.words.Keyword.{Keyword}
use Rattle.kaba_base.specs.declared.words.Keyword.TheVariants as keys
use Rattle.java_lex.specs.declared.Token.{Token}
use Rattle.java_lex.specs.declared.TokenKind.{TokenKind}
use Rattle.java_lex.specs.declared.TokenKind.TheVariants as kinds
use Rattle.java_lex.specs.declared.Mark.{Mark}
use Rattle.java_lex.specs.declared.Mark.TheVariants as marks
use Rattle.java_tree.specs.declared.Modifier.{Modifier}
use Rattle.java_tree.specs.declared.TypeBase.{TypeBase}
use Rattle.java_tree.specs.declared.TypeBase.TheVariants as bases
use Rattle.java_tree.specs.declared.TypeName.{TypeName}
use Rattle.java_tree.specs.Syntax.{Expression, CastOf}
use Rattle.java_tree.specs.Tokens.{mark, key, word, level, is_sign, is_modifier, casts, first_place}
use Rattle.java_tree.specs.Nesting.{next_is}
use Rattle.java_tree.specs.Expressions.{IsBase, int_base, boolean_base, char_base, named_base, IsPrefixed, cast_named, cast_int, cast_char, IsPost, int_literal, char_literal, string_literal, true_literal, false_literal, null_literal, this_word}
use Rattle.java_tree.specs.Statements.{is_word, printed, printed_by, IsFinal, not_final, is_final}
use Rattle.java_parse.specs.declared.End.{End}
use Rattle.java_parse.specs.Front.{after, after_by, after_key, after_key_by, word_next, word_by, maker_next, up_next, operator, operator_by, instance_next, least_next, least_by, least_kind, sign_next, sign_by, opens_cast, opens_by, opens_behind, cast_next, base_next, base_by, literal_next, literal_by, index_next, is_array, final_of, stands_next, stands_by, operator_of, Start, SBlock, SEmpty, SIf, SWhile, SFor, SReturn, SBreak, SContinue, SOther, start, start_by, modifier_next, modifier_by, done, done_by}
use denote.Enum.Bare.{sameb, same_true}
use Rattle.java_lex.specs.contracts.Mark.{the_type as mark_type}
use Rattle.java_lex.specs.Lexing.{token}
use Rattle.kaba_base.specs.contracts.words.Keyword.{the_type as key_type}

pub option_cases : {A P : Type 0} (o : Option A) → (o ≡ None → P) → ((x : A) → o ≡ Some x → P) → P
option_cases None f g = f refl
option_cases (Some x) f g = g x refl

pub bool_cases : {P : Type 0} (b : Bool) → (b ≡ true → P) → (b ≡ false → P) → P
bool_cases true f g = f refl
bool_cases false f g = g refl

chosen : {A : Type 0} (b : Bool) (v o : A) → (if b then Some v else None) ≡ Some o → (b ≡ true) × (v ≡ o)
chosen true v o h = (refl, cc)
chosen false v o h = cc

-- the token that passes a test is the one that is looked for
same_kind : {B : Type 0} (f : B → Place → Token) (k m : B) (b : Bool) (p : Place) (ts : List Token) (w : Place × List Token) → (b ≡ true → k ≡ m)
    → (if b then Some (p, ts) else None) ≡ Some w → f k p ∷ ts ≡ f m w.0 ∷ w.1
same_kind f k m b p ts w e h = let c = chosen b (p, ts) w h in
    subst (λ (w : Place × List Token). f k p ∷ ts ≡ f m w.0 ∷ w.1) c.1 (ap (λ m. f m p ∷ ts) (e c.0))

after_kind : (m : Mark) (k : TokenKind) (p : Place) (ts : List Token) (w : Place × List Token) → after_by m k p ts ≡ Some w → token k p ∷ ts ≡ mark m w.0 ∷ w.1
after_kind m (kinds.Mark k) p ts w h = same_kind mark k m (sameb mark_type k m) p ts w (same_true mark_type tt k m) h
after_kind m _ p ts w h = cc

pub after_is : (m : Mark) (ts : List Token) (w : Place × List Token) → after m ts ≡ Some w → ts ≡ mark m w.0 ∷ w.1
after_is m [] w h = cc
after_is m (t ∷ ts) w h = after_kind m t.kind t.place ts w h

after_key_kind : (m : Keyword) (k : TokenKind) (p : Place) (ts : List Token) (w : Place × List Token) → after_key_by m k p ts ≡ Some w
    → token k p ∷ ts ≡ key m w.0 ∷ w.1
after_key_kind m (kinds.Key k) p ts w h = same_kind key k m (sameb key_type k m) p ts w (same_true key_type tt k m) h
after_key_kind m _ p ts w h = cc

pub after_key_is : (m : Keyword) (ts : List Token) (w : Place × List Token) → after_key m ts ≡ Some w → ts ≡ key m w.0 ∷ w.1
after_key_is m [] w h = cc
after_key_is m (t ∷ ts) w h = after_key_kind m t.kind t.place ts w h

word_kind : (k : TokenKind) (p : Place) (ts : List Token) (w : List ℕ × Place × List Token) → word_by k p ts ≡ Some w → token k p ∷ ts ≡ word w.0 w.1 ∷ w.2
word_kind (kinds.Word n) p ts w h = cc
word_kind _ p ts w h = cc

pub word_is : (ts : List Token) (w : List ℕ × Place × List Token) → word_next ts ≡ Some w → ts ≡ word w.0 w.1 ∷ w.2
word_is [] w h = cc
word_is (t ∷ ts) w h = word_kind t.kind t.place ts w h

-- a name and the bracket behind it
pub maker_is : (ts : List Token) (w : List ℕ × Place × List Token) → maker_next ts ≡ Some w → (q : Place)
    × (ts ≡ word w.0 w.1 ∷ mark marks.OpenRound q ∷ w.2)
maker_is ts w h = option_cases (word_next ts)
    (λ no. let g = rw (no, maker_next) at h in cc)
    (λ a yes. let g = rw (yes, maker_next) at h in
    option_cases (after marks.OpenRound a.2)
    (λ no1. let g1 = rw no1 at g in cc)
    (λ b yes1. let g1 = rw yes1 at g in
    let e : (a.0, a.1, b.1) ≡ w = cc in
    subst (λ (w : List ℕ × Place × List Token). (q : Place) × (ts ≡ word w.0 w.1 ∷ mark marks.OpenRound q ∷ w.2)) e
    (b.0, word_is ts a yes ∙ ap (λ us. word a.0 a.1 ∷ us) (after_is marks.OpenRound a.2 b yes1))))

-- `super` and the bracket behind it
pub up_is : (ts : List Token) (w : Place × List Token) → up_next ts ≡ Some w → (q : Place) × (ts ≡ key keys.Super q ∷ mark marks.OpenRound w.0 ∷ w.1)
up_is ts w h = option_cases (after_key keys.Super ts)
    (λ no. let g = rw (no, up_next) at h in cc)
    (λ a yes. let g = rw (yes, up_next) at h in
    (a.0, after_key_is keys.Super ts a yes ∙ ap (λ us. key keys.Super a.0 ∷ us) (after_is marks.OpenRound a.1 w g)))

operator_kind : (l c : ℕ) (k : TokenKind) (p : Place) (ts : List Token) (w : Mark × Place × List Token) → operator_by l c k p ts ≡ Some w →
    (token k p ∷ ts ≡ mark w.0 w.1 ∷ w.2) × (0 < level w.0) × (l ≤ level w.0) × (level w.0 ≤ c)
operator_kind l c (kinds.Mark m) p ts w h =
    let d = chosen (nat_lt 0 (level m) && (nat_le l (level m) && nat_le (level m) c)) (m, p, ts) w h in
    let a = and_parts (nat_lt 0 (level m)) (nat_le l (level m) && nat_le (level m) c) d.0 in
    let b = and_parts (nat_le l (level m)) (nat_le (level m) c) a.1 in
    subst (λ (w : Mark × Place × List Token). (mark m p ∷ ts ≡ mark w.0 w.1 ∷ w.2) × (0 < level w.0) × (l ≤ level w.0) × (level w.0 ≤ c)) d.1
    (refl, leb-true 1 (level m) a.0, leb-true l (level m) b.0, leb-true (level m) c b.1)
operator_kind l c _ p ts w h = cc

pub operator_is : (l c : ℕ) (ts : List Token) (w : Mark × Place × List Token) → operator l c ts ≡ Some w →
    (ts ≡ mark w.0 w.1 ∷ w.2) × (0 < level w.0) × (l ≤ level w.0) × (level w.0 ≤ c)
operator_is l c [] w h = cc
operator_is l c (t ∷ ts) w h = operator_kind l c t.kind t.place ts w h

guarded : {A : Type 0} (b : Bool) (o : Option A) (w : A) → (if b then o else None) ≡ Some w → (b ≡ true) × (o ≡ Some w)
guarded true o w h = (refl, h)
guarded false o w h = cc

pub instance_is : (l c : ℕ) (ts : List Token) (w : Place × List Token) → instance_next l c ts ≡ Some w → (ts ≡ key keys.InstanceOf w.0 ∷ w.1)
    × (l ≤ 7) × (7 ≤ c)
instance_is l c ts w h =
    let g = guarded (nat_le l 7 && nat_le 7 c) (after_key keys.InstanceOf ts) w h in
    let b = and_parts (nat_le l 7) (nat_le 7 c) g.0 in
    (after_key_is keys.InstanceOf ts w g.1, leb-true l 7 b.0, leb-true 7 c b.1)

least_of : (k : TokenKind) (p q : Place) (ts : List Token) (w : Place × List Token) → least_kind k p ts ≡ Some w → mark marks.Minus p ∷ token k q ∷ ts
    ≡ mark marks.Minus w.0 ∷ token kinds.Least q ∷ w.1
least_of kinds.Least p q ts w h = cc
least_of _ p q ts w h = cc

least_behind : (p : Place) (ts : List Token) (w : Place × List Token) → least_by p ts ≡ Some w → (q : Place)
    × (mark marks.Minus p ∷ ts ≡ mark marks.Minus w.0 ∷ token kinds.Least q ∷ w.1)
least_behind p [] w h = cc
least_behind p (t ∷ ts) w h = (t.place, least_of t.kind p t.place ts w h)

pub least_is : (ts : List Token) (w : Place × List Token) → least_next ts ≡ Some w → (q : Place) × (ts ≡ mark marks.Minus w.0 ∷ token kinds.Least q ∷ w.1)
least_is ts w h = option_cases (after marks.Minus ts)
    (λ no. let g = rw (no, least_next) at h in cc)
    (λ a yes. let g = rw (yes, least_next) at h in
    let b = least_behind a.0 a.1 w g in (b.0, after_is marks.Minus ts a yes ∙ b.1))

sign_kind : (k : TokenKind) (p : Place) (ts : List Token) (w : Mark × Place × List Token) → sign_by k p ts ≡ Some w
    → (token k p ∷ ts ≡ mark w.0 w.1 ∷ w.2) × (is_sign w.0 ≡ true)
sign_kind (kinds.Mark m) p ts w h =
    let c = chosen (is_sign m) (m, p, ts) w h in
    subst (λ (w : Mark × Place × List Token). (mark m p ∷ ts ≡ mark w.0 w.1 ∷ w.2) × (is_sign w.0 ≡ true)) c.1 (refl, c.0)
sign_kind _ p ts w h = cc

pub sign_is : (ts : List Token) (w : Mark × Place × List Token) → sign_next ts ≡ Some w → (ts ≡ mark w.0 w.1 ∷ w.2) × (is_sign w.0 ≡ true)
sign_is [] w h = cc
sign_is (t ∷ ts) w h = sign_kind t.kind t.place ts w h

based : {k : TokenKind} {p : Place} {ts : List Token} {b : TypeBase} (w : TypeBase × Place × List Token) → IsBase (token k p ∷ ts) ts b p
    → Some (b, p, ts) ≡ Some w → IsBase (token k p ∷ ts) w.2 w.0 w.1
based {k = k} {p = p} {ts = ts} {b = b} w d h =
    let e : (b, p, ts) ≡ w = cc in subst (λ (w : TypeBase × Place × List Token). IsBase (token k p ∷ ts) w.2 w.0 w.1) e d

base_key : (k : Keyword) (p : Place) (ts : List Token) (w : TypeBase × Place × List Token) → base_by (kinds.Key k) p ts ≡ Some w
    → IsBase (key k p ∷ ts) w.2 w.0 w.1
base_key keys.Int p ts w h = based w int_base h
base_key keys.Boolean p ts w h = based w boolean_base h
base_key keys.Char p ts w h = based w char_base h
base_key _ p ts w h = cc

base_kind : (k : TokenKind) (p : Place) (ts : List Token) (w : TypeBase × Place × List Token) → base_by k p ts ≡ Some w → IsBase (token k p ∷ ts) w.2 w.0 w.1
base_kind (kinds.Word n) p ts w h = based w named_base h
base_kind (kinds.Key k) p ts w h = base_key k p ts w h
base_kind _ p ts w h = cc

pub base_is : (ts : List Token) (w : TypeBase × Place × List Token) → base_next ts ≡ Some w → IsBase ts w.2 w.0 w.1
base_is [] w h = cc
base_is (t ∷ ts) w h = base_kind t.kind t.place ts w h

-- a round bracket and `int` or `char` at the front: the type, the place of the bracket and what follows the type
pub data Opened : List Token → TypeName × Place × List Token → Type 0 where
  opened_int : {p q : Place} {us : List Token} →
      Opened (mark marks.OpenRound p ∷ key keys.Int q ∷ us) (record { base = bases.Int; dim = 0; place = q }, p, us)
  opened_char : {p q : Place} {us : List Token} →
      Opened (mark marks.OpenRound p ∷ key keys.Char q ∷ us) (record { base = bases.Char; dim = 0; place = q }, p, us)

pub opened_cast : {ts vs rest : List Token} {w : TypeName × Place × List Token} {q : Place} {e : Expression} → Opened ts w
    → w.2 ≡ mark marks.CloseRound q ∷ vs → IsPrefixed vs rest e → IsPrefixed ts rest (CastOf w.0 e w.1)
opened_cast opened_int g d = rw g (cast_int d)
opened_cast opened_char g d = rw g (cast_char d)

opened_key : (k : Keyword) (q p : Place) (us : List Token) (w : TypeName × Place × List Token) → opens_by (kinds.Key k) q p us ≡ Some w
    → Opened (mark marks.OpenRound p ∷ key k q ∷ us) w
opened_key keys.Int q p us w h =
    let f : (record { base = bases.Int; dim = 0; place = q }, p, us) ≡ w = cc in
    subst (λ w. Opened (mark marks.OpenRound p ∷ key keys.Int q ∷ us) w) f opened_int
opened_key keys.Char q p us w h =
    let f : (record { base = bases.Char; dim = 0; place = q }, p, us) ≡ w = cc in
    subst (λ w. Opened (mark marks.OpenRound p ∷ key keys.Char q ∷ us) w) f opened_char
opened_key _ q p us w h = cc

opened_kind : (k : TokenKind) (q p : Place) (us : List Token) (w : TypeName × Place × List Token) → opens_by k q p us ≡ Some w
    → Opened (mark marks.OpenRound p ∷ token k q ∷ us) w
opened_kind (kinds.Key k) q p us w h = opened_key k q p us w h
opened_kind _ q p us w h = cc

opened_behind : (p : Place) (us : List Token) (w : TypeName × Place × List Token) → opens_behind p us ≡ Some w → Opened (mark marks.OpenRound p ∷ us) w
opened_behind p [] w h = cc
opened_behind p (t ∷ us) w h = opened_kind t.kind t.place p us w h

pub opens_is : (ts : List Token) (w : TypeName × Place × List Token) → opens_cast ts ≡ Some w → Opened ts w
opens_is ts w h = option_cases (after marks.OpenRound ts)
    (λ no. let g = rw (no, opens_cast) at h in cc)
    (λ a yes. let g = rw (yes, opens_cast) at h in
    subst (λ (ts : List Token). Opened ts w) (sym (after_is marks.OpenRound ts a yes)) (opened_behind a.0 a.1 w g))

-- a name in round brackets at the front, and behind it a token that makes it a cast
pub data Cast : List Token → TypeName × Place × List Token → Type 0 where
  cast_of : {n : List ℕ} {p q r : Place} {us : List Token} → casts us ≡ true →
      Cast (mark marks.OpenRound p ∷ word n q ∷ mark marks.CloseRound r ∷ us) (record { base = bases.Named n; dim = 0; place = q }, p, us)

pub named_cast : {ts rest : List Token} {w : TypeName × Place × List Token} {e : Expression} → Cast ts w → IsPrefixed w.2 rest e
    → IsPrefixed ts rest (CastOf w.0 e w.1)
named_cast (cast_of h) d = cast_named h d

pub cast_is : (ts : List Token) (w : TypeName × Place × List Token) → cast_next ts ≡ Some w → Cast ts w
cast_is ts w h = option_cases (after marks.OpenRound ts)
    (λ no. let g = rw (no, cast_next) at h in cc)
    (λ a yes. let g = rw (yes, cast_next) at h in
    let ea = after_is marks.OpenRound ts a yes in
    option_cases (word_next a.1)
    (λ no1. let g1 = rw no1 at g in cc)
    (λ b yes1. let g1 = rw yes1 at g in
    let eb = word_is a.1 b yes1 in
    option_cases (after marks.CloseRound b.2)
    (λ no2. let g2 = rw no2 at g1 in cc)
    (λ c yes2. let g2 = rw yes2 at g1 in
    let ec = after_is marks.CloseRound b.2 c yes2 in
    let f = chosen (casts c.1) (record { base = bases.Named b.0; dim = 0; place = b.1 }, a.0, c.1) w g2 in
    subst (λ (ts : List Token). Cast ts w) (sym (ea
    ∙ ap (λ (us : List Token). mark marks.OpenRound a.0 ∷ us) (eb ∙ ap (λ (us : List Token). word b.0 b.1 ∷ us) ec)))
    (subst (λ (w : TypeName × Place × List Token). Cast (mark marks.OpenRound a.0 ∷ word b.0 b.1 ∷ mark marks.CloseRound c.0 ∷ c.1) w) f.1 (cast_of f.0)))))

lit : {k : TokenKind} {p : Place} {ts : List Token} {e : Expression} (w : Expression × List Token) → IsPost true (token k p ∷ ts) ts e
    → Some (e, ts) ≡ Some w → IsPost true (token k p ∷ ts) w.1 w.0
lit {k = k} {p = p} {ts = ts} {e = e} w d h = let f : (e, ts) ≡ w = cc in subst (λ (w : Expression × List Token). IsPost true (token k p ∷ ts) w.1 w.0) f d

literal_key : (k : Keyword) (p : Place) (ts : List Token) (w : Expression × List Token) → literal_by (kinds.Key k) p ts ≡ Some w
    → IsPost true (key k p ∷ ts) w.1 w.0
literal_key keys.True p ts w h = lit w true_literal h
literal_key keys.False p ts w h = lit w false_literal h
literal_key keys.Null p ts w h = lit w null_literal h
literal_key keys.This p ts w h = lit w this_word h
literal_key _ p ts w h = cc

literal_kind : (k : TokenKind) (p : Place) (ts : List Token) (w : Expression × List Token) → literal_by k p ts ≡ Some w → IsPost true (token k p ∷ ts) w.1 w.0
literal_kind (kinds.Int v) p ts w h = lit w int_literal h
literal_kind (kinds.Char c) p ts w h = lit w char_literal h
literal_kind (kinds.Str u) p ts w h = lit w string_literal h
literal_kind (kinds.Key k) p ts w h = literal_key k p ts w h
literal_kind _ p ts w h = cc

pub literal_is : (ts : List Token) (w : Expression × List Token) → literal_next ts ≡ Some w → IsPost true ts w.1 w.0
literal_is [] w h = cc
literal_is (t ∷ ts) w h = literal_kind t.kind t.place ts w h

index_by : (b : Bool) (o : Option (Place × List Token)) (w : Place × List Token) → (if b then None else o) ≡ Some w → (b ≡ false) × (o ≡ Some w)
index_by true o w h = cc
index_by false o w h = (refl, h)

pub index_is : (z : End) (ts : List Token) (w : Place × List Token) → index_next z ts ≡ Some w → (ts ≡ mark marks.OpenSquare w.0 ∷ w.1) × (is_array z ≡ false)
index_is z ts w h = let g = index_by (is_array z) (after marks.OpenSquare ts) w h in (after_is marks.OpenSquare ts w g.1, g.0)

printed_is : (ts : List Token) (e : Expression) → printed ts e ≡ (if next_is is_word ts then printed_by e else None)
printed_is [] e = refl
printed_is (t ∷ ts) e = refl

-- a call as a statement, by what its tokens print
pub done_is : (ts : List Token) (e : Expression) (o : Option (Bool × Option Expression)) → printed ts e ≡ o
    → done (next_is is_word ts) (first_place ts) e ≡ done_by (first_place ts) e o
done_is ts e o h = ap (done_by (first_place ts) e) (sym (printed_is ts e) ∙ h)

pub final_is : (ts : List Token) → IsFinal ts (final_of ts).1 (final_of ts).0
final_is ts = option_cases (after_key keys.Final ts)
    (λ no. rw (no, final_of) not_final)
    (λ a yes. rw (yes, final_of) (subst (λ ts. IsFinal ts a.1 true) (sym (after_key_is keys.Final ts a yes)) is_final))

-- a mark of which `of` makes an operator
stepped_by : (f : Mark → Option Mark) (m : Mark) (p : Place) (ts : List Token) (o : Option Mark) (w : Mark × Place × List Token) → f m ≡ o
    → operator_of o p ts ≡ Some w →
    (n : Mark) × (mark m p ∷ ts ≡ mark n w.1 ∷ w.2) × (f n ≡ Some w.0)
stepped_by f m p ts None w g h = cc
stepped_by f m p ts (Some o) w g h = let e : (o, p, ts) ≡ w = cc in subst (λ (w : Mark × Place × List Token). (n : Mark)
    × (mark m p ∷ ts ≡ mark n w.1 ∷ w.2) × (f n ≡ Some w.0)) e (m, refl, g)

stands_kind : (f : Mark → Option Mark) (k : TokenKind) (p : Place) (ts : List Token) (w : Mark × Place × List Token) → stands_by f k p ts ≡ Some w
    → (n : Mark) × (token k p ∷ ts ≡ mark n w.1 ∷ w.2) × (f n ≡ Some w.0)
stands_kind f (kinds.Mark m) p ts w h = stepped_by f m p ts (f m) w refl h
stands_kind f _ p ts w h = cc

pub stands_is : (f : Mark → Option Mark) (ts : List Token) (w : Mark × Place × List Token) → stands_next f ts ≡ Some w
    → (n : Mark) × (ts ≡ mark n w.1 ∷ w.2) × (f n ≡ Some w.0)
stands_is f [] w h = cc
stands_is f (t ∷ ts) w h = stands_kind f t.kind t.place ts w h

modifier_kind : (k : TokenKind) (p : Place) (ts : List Token) (w : Modifier × List Token) → modifier_by k p ts ≡ Some w
    → (token k p ∷ ts ≡ key w.0.word w.0.place ∷ w.1) × (is_modifier w.0.word ≡ true)
modifier_kind (kinds.Key k) p ts w h =
    let c = chosen (is_modifier k) (record { word = k; place = p }, ts) w h in
    subst (λ (w : Modifier × List Token). (key k p ∷ ts ≡ key w.0.word w.0.place ∷ w.1) × (is_modifier w.0.word ≡ true)) c.1 (refl, c.0)
modifier_kind _ p ts w h = cc

pub modifier_is : (ts : List Token) (w : Modifier × List Token) → modifier_next ts ≡ Some w → (ts ≡ key w.0.word w.0.place ∷ w.1)
    × (is_modifier w.0.word ≡ true)
modifier_is [] w h = cc
modifier_is (t ∷ ts) w h = modifier_kind t.kind t.place ts w h

pub start_cases : {P : Type 0} (s : Start) → ((p : Place) (us : List Token) → s ≡ SBlock p us → P) → ((p : Place) (us : List Token) → s ≡ SEmpty p us → P) →
    ((p : Place) (us : List Token) → s ≡ SIf p us → P) → ((p : Place) (us : List Token) → s ≡ SWhile p us → P)
    → ((p : Place) (us : List Token) → s ≡ SFor p us → P) →
    ((p : Place) (us : List Token) → s ≡ SReturn p us → P) → ((p : Place) (us : List Token) → s ≡ SBreak p us → P)
    → ((p : Place) (us : List Token) → s ≡ SContinue p us → P) → (s ≡ SOther → P) → P
start_cases (SBlock p us) a b c d e f g h i = a p us refl
start_cases (SEmpty p us) a b c d e f g h i = b p us refl
start_cases (SIf p us) a b c d e f g h i = c p us refl
start_cases (SWhile p us) a b c d e f g h i = d p us refl
start_cases (SFor p us) a b c d e f g h i = e p us refl
start_cases (SReturn p us) a b c d e f g h i = f p us refl
start_cases (SBreak p us) a b c d e f g h i = g p us refl
start_cases (SContinue p us) a b c d e f g h i = h p us refl
start_cases SOther a b c d e f g h i = i refl

-- what the start says of the tokens
abbrev pub Starts : Start → List Token → Type 0
Starts (SBlock p us) ts = ts ≡ mark marks.OpenBrace p ∷ us
Starts (SEmpty p us) ts = ts ≡ mark marks.Semi p ∷ us
Starts (SIf p us) ts = ts ≡ key keys.If p ∷ us
Starts (SWhile p us) ts = ts ≡ key keys.While p ∷ us
Starts (SFor p us) ts = ts ≡ key keys.For p ∷ us
Starts (SReturn p us) ts = ts ≡ key keys.Return p ∷ us
Starts (SBreak p us) ts = ts ≡ key keys.Break p ∷ us
Starts (SContinue p us) ts = ts ≡ key keys.Continue p ∷ us
Starts SOther ts = after_key keys.If ts ≡ None

start_mark : (m : Mark) (p : Place) (ts : List Token) → Starts (start_by (kinds.Mark m) p ts) (mark m p ∷ ts)
start_mark marks.OpenBrace p ts = refl
start_mark marks.Semi p ts = refl
start_mark _ p ts = refl

start_key : (k : Keyword) (p : Place) (ts : List Token) → Starts (start_by (kinds.Key k) p ts) (key k p ∷ ts)
start_key keys.If p ts = refl
start_key keys.While p ts = refl
start_key keys.For p ts = refl
start_key keys.Return p ts = refl
start_key keys.Break p ts = refl
start_key keys.Continue p ts = refl
start_key _ p ts = refl

start_kind : (k : TokenKind) (p : Place) (ts : List Token) → Starts (start_by k p ts) (token k p ∷ ts)
start_kind (kinds.Mark m) p ts = start_mark m p ts
start_kind (kinds.Key k) p ts = start_key k p ts
start_kind _ p ts = refl

pub start_is : (ts : List Token) → Starts (start ts) ts
start_is [] = refl
start_is (t ∷ ts) = start_kind t.kind t.place ts
