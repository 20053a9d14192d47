-- No part leaves more tokens than it is given.
use Rattle.std.proofs.Common.{◌≡◌, ℕ, suc, ◌<◌, ◌≤◌, List, length, Option, Some, None, Bool, true, false, Ok, Err, arith, refl}
use Rattle.java_lex.specs.declared.Token.{Token}
use Rattle.java_parse.specs.Want.{Val, ReadStep, Give, Fail, Ask}
use Rattle.java_parse.specs.Reading.{Fault, Left, NoMemory, ParseOutcome}

-- a step leaves no more than n tokens, if its parts leave no more than they are given
abbrev pub Leaves : {A : Type 0} → ℕ → ReadStep A → Type 0
Leaves n (Give v rest) = length rest ≤ n
Leaves n (Fail rest) = length rest ≤ n
Leaves n (Ask m ts k) = (length ts ≤ n) × ((v : Val m) (rest : List Token) → length rest ≤ length ts → Leaves n (k v rest))

-- what is left is fewer tokens than n
abbrev pub Below : {A : Type 0} → ℕ → ParseOutcome A → Type 0
Below n (Ok x) = length x.1 < n
Below n (Err (Left rest)) = length rest < n
Below n (Err NoMemory) = Unit {0}

-- and not fewer
abbrev pub Reaches : {A : Type 0} → ℕ → ParseOutcome A → Type 0
Reaches n (Ok x) = n ≤ length x.1
Reaches n (Err (Left rest)) = n ≤ length rest
Reaches n (Err NoMemory) = ⊥

pub not_both : {A : Type 0} (n : ℕ) (o : ParseOutcome A) → Below n o → Reaches n o → ⊥
not_both n (Ok x) a b = absurd (omega (arith, a, b))
not_both n (Err (Left rest)) a b = absurd (omega (arith, a, b))
not_both n (Err NoMemory) a b = b

pub below_more : {A : Type 0} (n k : ℕ) (o : ParseOutcome A) → Below n o → n ≤ k → Below k o
below_more n k (Ok x) a le = omega (arith, a, le)
below_more n k (Err (Left rest)) a le = omega (arith, a, le)
below_more n k (Err NoMemory) a le = tt

pub fault_below : (A B : Type 0) (n k : ℕ) (f : Fault) → Below {A = A} (suc n) (Err f) → n ≤ k → Below {A = B} (suc k) (Err f)
fault_below A B n k (Left rest) h le = omega (arith, h, le)
fault_below A B n k NoMemory h le = tt

-- what holds of both ways of a test holds of the test
pub on_option : {A : Type 0} {B : Type 0} (P : B → Type 0) (o : Option A) (f : A → B) (s : B) → (o ≡ None → P s) → ((w : A) → o ≡ Some w → P (f w))
    → P (elim o [ Some w ↦ f w | None ↦ s ])
on_option P None f s h k = h refl
on_option P (Some w) f s h k = k w refl

pub on_bool : {B : Type 0} (P : B → Type 0) (b : Bool) (x y : B) → P x → P y → P (elim b [ true ↦ x | false ↦ y ])
on_bool P true x y h k = h
on_bool P false x y h k = k
