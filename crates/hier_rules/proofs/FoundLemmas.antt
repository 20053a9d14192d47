-- The first answer over two numbers, where it is found at the first of them.
use Rattle.std.proofs.Common.{◌≡◌, ℕ, ◌<◌, Option, Some, None, sym}
use Rattle.kaba_bits.specs.Sets.{first_below}
use Rattle.kaba_bits.proofs.FirstLemmas.{first_below_found}

pub found_in : {B : Type 0} {x : B} (m i n : ℕ) (p : ℕ → ℕ → Option B) → first_below i (λ r. first_below m (p r)) ≡ None
    → Some x ≡ first_below m (p i) → i < n → Some x ≡ first_below n (λ r. first_below m (p r))
found_in {x = x} m i n p none here lt = sym (first_below_found (λ r. first_below m (p r)) i n x lt none (sym here))
