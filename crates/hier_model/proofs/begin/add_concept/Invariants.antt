use Rattle.std.proofs.Common.{◌≡◌, ◌==◌, ◌-◌, ◌<◌, ◌≤◌, ◌&&◌, ◌||◌, ℕ, length}
use Rattle.kaba_bits.specs.Sets.{bit, row}
use Rattle.hier_model.proofs.begin.add_concept.Given as goal

abbrev pub invariant-scan : goal.invariant-scan
invariant-scan l = record {
  below : l.at ≤ length l.set;
  len : length l.rows ≡ length l.fn.rows;
  widths : (i : ℕ) → length (row l.rows i) ≡ length (row l.fn.rows i);
  done : (i x : ℕ) → i < l.at → bit (row l.rows i) x ≡ (bit (row l.fn.rows i) x || ((l.b == x) && bit l.set i));
  rest : (i : ℕ) → l.at ≤ i → row l.rows i ≡ row l.fn.rows i;
}

abbrev pub decreases-scan : goal.decreases-scan
decreases-scan l = length l.set - l.at
