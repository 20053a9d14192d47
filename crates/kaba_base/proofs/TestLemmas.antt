-- What tests and options say of each other.
use Rattle.std.proofs.Common.{◌≡◌, Bool, true, false, not, Option, Some, None, refl, sym}
use Rattle.std.specs.Option.{is_some}
use Rattle.std.proofs.lemmas.Bool.{false≢true}

pub same_truth : (a b : Bool) → (a ≡ true → b ≡ true) → (b ≡ true → a ≡ true) → a ≡ b
same_truth true b f g = sym (f refl)
same_truth false true f g = g refl
same_truth false false f g = refl

pub refuted : {A : Type 0} (b : Bool) → not b ≡ true → b ≡ true → A
refuted true h k = absurd (false≢true h)
refuted false h k = absurd (false≢true k)

pub from_not : (b : Bool) → not b ≡ true → b ≡ false
from_not true h = absurd (false≢true h)
from_not false h = refl

pub none_of : {A : Type 0} (o : Option A) → is_some o ≡ false → o ≡ None
none_of None h = refl
none_of (Some x) h = absurd (false≢true (sym h))

pub none_or_some : {A : Type 0} (o : Option A) (x : A) → o ≡ None → o ≡ Some x → ⊥
none_or_some None x n s = absurd (cc)
none_or_some (Some y) x n s = absurd (cc)
