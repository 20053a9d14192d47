-- How a part is read, as a plan that carries no tokens; each takes them from the left.
use Rattle.std.proofs.Common.{◌≡◌, ℕ, ◌<◌, ◌≤◌, List, length, Option, Some, None, Bool, true, false, refl, arith}
use Rattle.kaba_base.specs.declared.Place.{Place}
use Rattle.kaba_base.specs.declared.words.Keyword.TheVariants as keys
use Rattle.java_lex.specs.declared.Token.{Token}
use Rattle.java_tree.specs.Tokens.{first_place}
use Rattle.java_tree.specs.Statements.{is_word}
use Rattle.java_tree.specs.Nesting.{next_is}
use Rattle.java_parse.specs.Want.{Want, Val, ReadStep, Give, Fail, Ask}
use Rattle.java_parse.specs.Front.{after_key, final_of, at_end}
use Rattle.java_parse.proofs.Looks.{Look, look_shorter, a_key}
use Rattle.java_parse.proofs.Leaves.{Leaves, on_option, on_bool}

pub data Plan (A : Type 0) : Type 1 where
  Giving : A → Plan A
  Stopping : Plan A
  Asking : (n : Want) → (Val n → Plan A) → Plan A
  -- the token that passes the test is taken
  Looking : (l : Look) → (l.found → Plan A) → Plan A → Plan A
  -- the token that passes the test stays
  Peeking : (l : Look) → Plan A → Plan A → Plan A
  -- the token that passes the test is taken if something else is so; or else nothing goes on with it
  Guarding : {C : Type 0} (l : Look) → Option C → (l.found → C → Plan A) → Plan A → Plan A
  Allowing : (l : Look) → Bool → (l.found → Plan A) → Plan A → Plan A
  Choosing : {C : Type 0} → Option C → (C → Plan A) → Plan A → Plan A
  Testing : Bool → Plan A → Plan A → Plan A
  -- whether the next token is a name, and its place
  Heading : (Bool → Place → Plan A) → Plan A
  -- `final` is taken where it is next
  Finals : (Bool → Plan A) → Plan A
  -- where no token is left, or where one is
  Ending : Plan A → Plan A → Plan A

abbrev pub steps : {A : Type 0} → Plan A → List Token → ReadStep A
steps (Giving v) ts = Give v ts
steps Stopping ts = Fail ts
steps (Asking n k) ts = Ask n ts (λ v rest. steps (k v) rest)
steps (Looking l k s) ts = elim (l.find ts) [ Some w ↦ steps (k (l.value w)) (l.rest w) | None ↦ steps s ts ]
steps (Peeking l k s) ts = elim (l.find ts) [ Some w ↦ steps k ts | None ↦ steps s ts ]
steps (Guarding l o k s) ts = elim (l.find ts) [
  | Some w ↦ elim o [ Some c ↦ steps (k (l.value w) c) (l.rest w) | None ↦ Fail ts ]
  | None ↦ steps s ts
]
steps (Allowing l b k s) ts = elim (l.find ts) [
  | Some w ↦ elim b [ true ↦ steps (k (l.value w)) (l.rest w) | false ↦ Fail ts ]
  | None ↦ steps s ts
]
steps (Choosing o k s) ts = elim o [ Some c ↦ steps (k c) ts | None ↦ steps s ts ]
steps (Testing b p q) ts = elim b [ true ↦ steps p ts | false ↦ steps q ts ]
steps (Heading k) ts = steps (k (next_is is_word ts) (first_place ts)) ts
steps (Finals k) ts = steps (k (final_of ts).0) (final_of ts).1
steps (Ending p q) ts = elim (at_end ts) [ true ↦ steps p ts | false ↦ steps q ts ]

-- what `final_of` makes of its test
abbrev pub final_from : Option (Place × List Token) → List Token → Bool × List Token
final_from o ts = elim o [ None ↦ (false, ts) | Some a ↦ (true, a.1) ]

final_by : (o : Option (Place × List Token)) (ts : List Token) → ((w : Place × List Token) → o ≡ Some w → length w.1 < length ts)
    → length (final_from o ts).1 ≤ length ts
final_by None ts h = omega arith
final_by (Some w) ts h = let l = h w refl in omega (arith, l)

final_shorter : (ts : List Token) → length (final_of ts).1 ≤ length ts
final_shorter ts = final_by (after_key keys.Final ts) ts (λ w h. look_shorter (a_key keys.Final) ts w h)

pub leaves : {A : Type 0} (p : Plan A) (n : ℕ) (ts : List Token) → length ts ≤ n → Leaves n (steps p ts)
leaves (Giving v) n ts h = h
leaves Stopping n ts h = h
leaves (Asking m k) n ts h = (h, λ v rest le. leaves (k v) n rest (omega (arith, h, le)))
leaves (Looking l k s) n ts h = on_option (Leaves n) (l.find ts) (λ w. steps (k (l.value w)) (l.rest w)) (steps s ts) (λ no. leaves s n ts h)
    (λ w yes. leaves (k (l.value w)) n (l.rest w) (let lt = look_shorter l ts w yes in omega (arith, h, lt)))
leaves (Peeking l k s) n ts h = on_option (Leaves n) (l.find ts) (λ w. steps k ts) (steps s ts) (λ no. leaves s n ts h) (λ w yes. leaves k n ts h)
leaves (Guarding l o k s) n ts h = on_option (Leaves n) (l.find ts) (λ w. elim o [ Some c ↦ steps (k (l.value w) c) (l.rest w) | None ↦ Fail ts ])
    (steps s ts) (λ no. leaves s n ts h) (λ w yes. on_option (Leaves n) o (λ c. steps (k (l.value w) c) (l.rest w)) (Fail ts) (λ no. h)
    (λ c is. leaves (k (l.value w) c) n (l.rest w) (let lt = look_shorter l ts w yes in omega (arith, h, lt))))
leaves (Allowing l b k s) n ts h = on_option (Leaves n) (l.find ts) (λ w. elim b [ true ↦ steps (k (l.value w)) (l.rest w) | false ↦ Fail ts ])
    (steps s ts) (λ no. leaves s n ts h) (λ w yes. on_bool (Leaves n) b (steps (k (l.value w)) (l.rest w)) (Fail ts)
    (leaves (k (l.value w)) n (l.rest w) (let lt = look_shorter l ts w yes in omega (arith, h, lt))) h)
leaves (Choosing o k s) n ts h = on_option (Leaves n) o (λ c. steps (k c) ts) (steps s ts) (λ no. leaves s n ts h) (λ c yes. leaves (k c) n ts h)
leaves (Testing b p q) n ts h = on_bool (Leaves n) b (steps p ts) (steps q ts) (leaves p n ts h) (leaves q n ts h)
leaves (Heading k) n ts h = leaves (k (next_is is_word ts) (first_place ts)) n ts h
leaves (Finals k) n ts h = leaves (k (final_of ts).0) n (final_of ts).1 (let le = final_shorter ts in omega (arith, h, le))
leaves (Ending p q) n ts h = on_bool (Leaves n) (at_end ts) (steps p ts) (steps q ts) (leaves p n ts h) (leaves q n ts h)
