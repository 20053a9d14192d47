use Rattle.std.proofs.Common.{◌≡◌, ℕ, ◌<◌, true, All, get_or, length}
use Rattle.kaba_bits.specs.Sets.{bit, row}
use Rattle.hier_model.proofs.begin.row_above.Given as goal

abbrev pub invariant-loop-i : goal.invariant-loop-i
invariant-loop-i l = record {
  width : length l.above ≡ length l.concepts;
  all : (b k : ℕ) → bit l.above b ≡ true → k < l.i-index → bit (row l.having (get_or l.i-items k 0)) b ≡ true;
  from : (b : ℕ) → All (λ i. bit (row l.having i) b ≡ true) l.i-items → bit l.above b ≡ true;
}
