-- Mirror. What a call answers: what it was to give, or the refusal that it was to give, or that memory is short.
use Rattle.std.specs.Prelude.{◌≡◌, List, [], ◌∷◌, Option, Some, None, Result, Ok, Err}
use Rattle.name_rules.specs.declared.Refusal.{Refusal}
use Rattle.name_rules.specs.declared.Refusal.TheVariants as refusals

-- what follows where there is no fault
abbrev pub with : {A B : Type 0} → Result A Refusal → (A → Result B Refusal) → Result B Refusal
with (Ok a) go = go a
with (Err r) go = Err r

-- a fault, or what follows
abbrev pub unless : {A : Type 0} → Option Refusal → Result A Refusal → Result A Refusal
unless None go = go
unless (Some r) go = Err r

-- one step after the other over a list, up to the first fault
abbrev pub run : {A S : Type 0} → (S → A → Result S Refusal) → S → List A → Result S Refusal
run f s [] = Ok s
run f s (x ∷ xs) = with (f s x) (λ t. run f t xs)

-- the call refused this, or there was no memory
abbrev pub IsRefused : {B : Type 0} → Refusal → Result B Refusal → Type 0
IsRefused refusals.Memory o = Unit {0}
IsRefused (refusals.Unknown n p) o = o ≡ Err (refusals.Unknown n p)
IsRefused (refusals.Twice n p) o = o ≡ Err (refusals.Twice n p)
IsRefused (refusals.Loop n p) o = o ≡ Err (refusals.Loop n p)
IsRefused (refusals.Overload n p) o = o ≡ Err (refusals.Overload n p)
IsRefused (refusals.TwoKinds n p) o = o ≡ Err (refusals.TwoKinds n p)
IsRefused (refusals.PrivateReused n p) o = o ≡ Err (refusals.PrivateReused n p)
IsRefused refusals.NoMain o = o ≡ Err refusals.NoMain
IsRefused (refusals.NotInProfile f p) o = o ≡ Err (refusals.NotInProfile f p)

-- the call gave this, or there was no memory
abbrev pub GivesValue : {A B : Type 0} → (A → B) → Result A Refusal → Result B Refusal → Type 0
GivesValue f (Ok a) o = o ≡ Ok (f a)
GivesValue f (Err r) o = IsRefused r o
