-- What is not there is not something.
use Rattle.std.proofs.Common.{◌≡◌, Option, Some, None, sym, ◌∙◌}

pub none_some : {A : Type 0} {x : A} {o : Option A} → o ≡ None → o ≡ Some x → ⊥
none_some h k = let e = sym h ∙ k in cc e
