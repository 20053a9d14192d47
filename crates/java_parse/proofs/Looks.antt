-- Tests of the next token: what they find depends on that token alone, and what follows is what stands behind it.
use Rattle.std.proofs.Common.{◌≡◌, ℕ, ◌<◌, List, [], ◌∷◌, length, Option, Some, None, Bool, true, false, if◌then◌else◌, nat_lt, nat_le, ◌&&◌, refl, subst, arith}
use Rattle.kaba_base.specs.declared.Place.{Place}
use Rattle.kaba_base.specs.declared.words.Keyword.{Keyword}
use Rattle.kaba_base.specs.declared.words.Keyword.TheVariants as keys
use Rattle.java_lex.specs.declared.Token.{Token}
use Rattle.java_lex.specs.declared.TokenKind.{TokenKind}
use Rattle.java_lex.specs.declared.TokenKind.TheVariants as kinds
use Rattle.java_lex.specs.declared.Mark.{Mark}
use Rattle.java_lex.specs.declared.Mark.TheVariants as marks
use Rattle.java_lex.specs.Lexing.{token}
use Rattle.java_tree.specs.declared.Modifier.{Modifier}
use Rattle.java_tree.specs.declared.TypeBase.{TypeBase}
use Rattle.java_tree.specs.declared.TypeBase.TheVariants as bases
use Rattle.java_tree.specs.declared.TypeName.{TypeName}
use Rattle.java_tree.specs.Syntax.{Expression, IntLit, CharLit, StrLit, BoolLit, NullLit, ThisRef}
use Rattle.java_tree.specs.Tokens.{level, is_sign, compound, stepping, is_modifier}
use Rattle.java_parse.specs.declared.End.{End}
use Rattle.java_parse.specs.Front.{after, after_key, word_next, operator, instance_next, least_by, sign_next, opens_behind, base_next, literal_next, index_next, is_array, stands_next, stepping_next, compound_next, modifier_next}
use Rattle.java_parse.proofs.Fronts.{option_cases, bool_cases}
use denote.Enum.Bare.{sameb}
use Rattle.java_lex.specs.contracts.Mark.{the_type as mark_type}
use Rattle.kaba_base.specs.contracts.words.Keyword.{the_type as key_type}

-- what a test makes of the lists that begin with one token: nothing of each, or the same of each, with what follows the token
pub data Tests {A B : Type 0} (find : List Token → Option A) (value : A → B) (rest : A → List Token) (x : Token) : Type 0 where
  misses : ((xs : List Token) → find (x ∷ xs) ≡ None) → Tests find value rest x
  finds : (b : B) (w : List Token → A) → ((xs : List Token) → find (x ∷ xs) ≡ Some (w xs)) → ((xs : List Token) → value (w xs) ≡ b)
      → ((xs : List Token) → rest (w xs) ≡ xs) → Tests find value rest x

pub record Look : Type 1 where
  pub whole : Type 0
  pub found : Type 0
  pub find : List Token → Option whole
  pub value : whole → found
  pub rest : whole → List Token
  pub at_end : find [] ≡ None
  pub tests : (x : Token) → Tests find value rest x

-- what is found is shorter
shorter_by : {A B : Type 0} {find : List Token → Option A} {value : A → B} {rest : A → List Token} {x : Token} → Tests find value rest x
    → (xs : List Token) (w : A) → find (x ∷ xs) ≡ Some w → length (rest w) < length (x ∷ xs)
shorter_by (misses h) xs w e = let g = h xs in cc
shorter_by {rest = rest} {x = x} (finds b v h f g) xs w e =
    let q : v xs ≡ w = (let k = h xs in cc) in
    subst (λ w. length (rest w) < length (x ∷ xs)) q (rw g (omega arith))

pub look_shorter : (l : Look) (ts : List Token) (w : l.whole) → l.find ts ≡ Some w → length (l.rest w) < length ts
look_shorter l [] w h = let g = l.at_end in cc
look_shorter l (x ∷ xs) w h = shorter_by (l.tests x) xs w h

-- a value and the tokens behind it, and with a place between
abbrev pub one_of : {A : Type 0} → A × List Token → A
one_of w = w.0

abbrev pub behind_one : {A : Type 0} → A × List Token → List Token
behind_one w = w.1

abbrev pub two_of : {A : Type 0} → A × Place × List Token → A × Place
two_of w = (w.0, w.1)

abbrev pub behind_two : {A : Type 0} → A × Place × List Token → List Token
behind_two w = w.2

one_found : {A : Type 0} {find : List Token → Option (A × List Token)} {x : Token} (v : A) → ((xs : List Token) → find (x ∷ xs) ≡ Some (v, xs))
    → Tests find one_of behind_one x
one_found v h = finds v (λ xs. (v, xs)) h (λ xs. refl) (λ xs. refl)

two_found : {A : Type 0} {find : List Token → Option (A × Place × List Token)} {x : Token} (v : A) (p : Place)
    → ((xs : List Token) → find (x ∷ xs) ≡ Some (v, p, xs)) → Tests find two_of behind_two x
two_found v p h = finds (v, p) (λ xs. (v, p, xs)) h (λ xs. refl) (λ xs. refl)

pub guarded : {A B : Type 0} {find : List Token → Option A} {value : A → B} {rest : A → List Token} {x : Token} (b : Bool) → Tests find value rest x
    → Tests (λ ts. if b then find ts else None) value rest x
guarded true t = t
guarded false t = misses (λ xs. refl)

pub barred : {A B : Type 0} {find : List Token → Option A} {value : A → B} {rest : A → List Token} {x : Token} (b : Bool) → Tests find value rest x
    → Tests (λ ts. if b then None else find ts) value rest x
barred true t = misses (λ xs. refl)
barred false t = t

pub guarded_end : {A : Type 0} (b : Bool) → ◌≡◌ {A = Option A} (if b then None else None) None
guarded_end true = refl
guarded_end false = refl

pub mark_tests : (m : Mark) (k : TokenKind) (p : Place) → Tests (after m) one_of behind_one (token k p)
mark_tests m (kinds.Mark k) p = bool_cases (sameb mark_type k m) (λ yes. one_found p (λ xs. rw yes refl)) (λ no. misses (λ xs. rw no refl))
mark_tests m _ p = misses (λ xs. refl)

abbrev pub a_mark : Mark → Look
a_mark m = record {
  whole = Place × List Token;
  found = Place;
  find = after m;
  value = one_of;
  rest = behind_one;
  at_end = refl;
  tests = λ x. mark_tests m x.kind x.place;
}

pub key_tests : (m : Keyword) (k : TokenKind) (p : Place) → Tests (after_key m) one_of behind_one (token k p)
key_tests m (kinds.Key k) p = bool_cases (sameb key_type k m) (λ yes. one_found p (λ xs. rw yes refl)) (λ no. misses (λ xs. rw no refl))
key_tests m _ p = misses (λ xs. refl)

abbrev pub a_key : Keyword → Look
a_key m = record {
  whole = Place × List Token;
  found = Place;
  find = after_key m;
  value = one_of;
  rest = behind_one;
  at_end = refl;
  tests = λ x. key_tests m x.kind x.place;
}

pub word_tests : (k : TokenKind) (p : Place) → Tests word_next two_of behind_two (token k p)
word_tests (kinds.Word n) p = two_found n p (λ xs. refl)
word_tests _ p = misses (λ xs. refl)

abbrev pub a_word : Look
a_word = record {
  whole = List ℕ × Place × List Token;
  found = List ℕ × Place;
  find = word_next;
  value = two_of;
  rest = behind_two;
  at_end = refl;
  tests = λ x. word_tests x.kind x.place;
}

pub operator_tests : (l c : ℕ) (k : TokenKind) (p : Place) → Tests (operator l c) two_of behind_two (token k p)
operator_tests l c (kinds.Mark m) p = bool_cases (nat_lt 0 (level m) && (nat_le l (level m) && nat_le (level m) c))
    (λ yes. two_found m p (λ xs. rw yes refl)) (λ no. misses (λ xs. rw no refl))
operator_tests l c _ p = misses (λ xs. refl)

abbrev pub an_operator : ℕ → ℕ → Look
an_operator l c = record {
  whole = Mark × Place × List Token;
  found = Mark × Place;
  find = operator l c;
  value = two_of;
  rest = behind_two;
  at_end = refl;
  tests = λ x. operator_tests l c x.kind x.place;
}

abbrev pub an_instance : ℕ → ℕ → Look
an_instance l c = record {
  whole = Place × List Token;
  found = Place;
  find = instance_next l c;
  value = one_of;
  rest = behind_one;
  at_end = guarded_end (nat_le l 7 && nat_le 7 c);
  tests = λ x. guarded (nat_le l 7 && nat_le 7 c) (key_tests keys.InstanceOf x.kind x.place);
}

pub least_tests : (q : Place) (k : TokenKind) (p : Place) → Tests (least_by q) one_of behind_one (token k p)
least_tests q kinds.Least p = one_found q (λ xs. refl)
least_tests q _ p = misses (λ xs. refl)

-- 2147483648 behind a minus
abbrev pub a_least : Place → Look
a_least q = record {
  whole = Place × List Token;
  found = Place;
  find = least_by q;
  value = one_of;
  rest = behind_one;
  at_end = refl;
  tests = λ x. least_tests q x.kind x.place;
}

pub sign_tests : (k : TokenKind) (p : Place) → Tests sign_next two_of behind_two (token k p)
sign_tests (kinds.Mark m) p = bool_cases (is_sign m) (λ yes. two_found m p (λ xs. rw yes refl)) (λ no. misses (λ xs. rw no refl))
sign_tests _ p = misses (λ xs. refl)

abbrev pub a_sign : Look
a_sign = record {
  whole = Mark × Place × List Token;
  found = Mark × Place;
  find = sign_next;
  value = two_of;
  rest = behind_two;
  at_end = refl;
  tests = λ x. sign_tests x.kind x.place;
}

opens_key : (p : Place) (k : Keyword) (q : Place) → Tests (opens_behind p) two_of behind_two (token (kinds.Key k) q)
opens_key p keys.Int q = two_found (record { base = bases.Int; dim = 0; place = q }) p (λ xs. refl)
opens_key p keys.Char q = two_found (record { base = bases.Char; dim = 0; place = q }) p (λ xs. refl)
opens_key p _ q = misses (λ xs. refl)

pub opens_tests : (p : Place) (k : TokenKind) (q : Place) → Tests (opens_behind p) two_of behind_two (token k q)
opens_tests p (kinds.Key k) q = opens_key p k q
opens_tests p _ q = misses (λ xs. refl)

-- `int` or `char` behind a round bracket
abbrev pub an_opened : Place → Look
an_opened p = record {
  whole = TypeName × Place × List Token;
  found = TypeName × Place;
  find = opens_behind p;
  value = two_of;
  rest = behind_two;
  at_end = refl;
  tests = λ x. opens_tests p x.kind x.place;
}

base_key : (k : Keyword) (p : Place) → Tests base_next two_of behind_two (token (kinds.Key k) p)
base_key keys.Int p = two_found bases.Int p (λ xs. refl)
base_key keys.Boolean p = two_found bases.Boolean p (λ xs. refl)
base_key keys.Char p = two_found bases.Char p (λ xs. refl)
base_key _ p = misses (λ xs. refl)

pub base_tests : (k : TokenKind) (p : Place) → Tests base_next two_of behind_two (token k p)
base_tests (kinds.Word n) p = two_found (bases.Named n) p (λ xs. refl)
base_tests (kinds.Key k) p = base_key k p
base_tests _ p = misses (λ xs. refl)

abbrev pub a_base : Look
a_base = record {
  whole = TypeBase × Place × List Token;
  found = TypeBase × Place;
  find = base_next;
  value = two_of;
  rest = behind_two;
  at_end = refl;
  tests = λ x. base_tests x.kind x.place;
}

literal_key : (k : Keyword) (p : Place) → Tests literal_next one_of behind_one (token (kinds.Key k) p)
literal_key keys.True p = one_found (BoolLit true p) (λ xs. refl)
literal_key keys.False p = one_found (BoolLit false p) (λ xs. refl)
literal_key keys.Null p = one_found (NullLit p) (λ xs. refl)
literal_key keys.This p = one_found (ThisRef p) (λ xs. refl)
literal_key _ p = misses (λ xs. refl)

pub literal_tests : (k : TokenKind) (p : Place) → Tests literal_next one_of behind_one (token k p)
literal_tests (kinds.Int v) p = one_found (IntLit v p) (λ xs. refl)
literal_tests (kinds.Char c) p = one_found (CharLit c p) (λ xs. refl)
literal_tests (kinds.Str u) p = one_found (StrLit u p) (λ xs. refl)
literal_tests (kinds.Key k) p = literal_key k p
literal_tests _ p = misses (λ xs. refl)

abbrev pub a_literal : Look
a_literal = record {
  whole = Expression × List Token;
  found = Expression;
  find = literal_next;
  value = one_of;
  rest = behind_one;
  at_end = refl;
  tests = λ x. literal_tests x.kind x.place;
}

abbrev pub an_index : End → Look
an_index z = record {
  whole = Place × List Token;
  found = Place;
  find = index_next z;
  value = one_of;
  rest = behind_one;
  at_end = guarded_end (is_array z);
  tests = λ x. barred (is_array z) (mark_tests marks.OpenSquare x.kind x.place);
}

pub stands_tests : (f : Mark → Option Mark) (k : TokenKind) (p : Place) → Tests (stands_next f) two_of behind_two (token k p)
stands_tests f (kinds.Mark m) p = option_cases (f m) (λ no. misses (λ xs. rw no refl)) (λ o yes. two_found o p (λ xs. rw yes refl))
stands_tests f _ p = misses (λ xs. refl)

abbrev pub a_step : Look
a_step = record {
  whole = Mark × Place × List Token;
  found = Mark × Place;
  find = stepping_next;
  value = two_of;
  rest = behind_two;
  at_end = refl;
  tests = λ x. stands_tests stepping x.kind x.place;
}

abbrev pub a_compound : Look
a_compound = record {
  whole = Mark × Place × List Token;
  found = Mark × Place;
  find = compound_next;
  value = two_of;
  rest = behind_two;
  at_end = refl;
  tests = λ x. stands_tests compound x.kind x.place;
}

pub modifier_tests : (k : TokenKind) (p : Place) → Tests modifier_next one_of behind_one (token k p)
modifier_tests (kinds.Key k) p = bool_cases (is_modifier k) (λ yes. one_found (record { word = k; place = p }) (λ xs. rw yes refl))
    (λ no. misses (λ xs. rw no refl))
modifier_tests _ p = misses (λ xs. refl)

abbrev pub a_modifier : Look
a_modifier = record {
  whole = Modifier × List Token;
  found = Modifier;
  find = modifier_next;
  value = one_of;
  rest = behind_one;
  at_end = refl;
  tests = λ x. modifier_tests x.kind x.place;
}
