use Rattle.std.proofs.Common.{◌≡◌, ◌≢◌, ℕ, ◌<◌, ◌≤◌, ◌-◌, false, length}
use Rattle.kaba_bits.specs.Sets.{bit, row}
use Rattle.concept_build.proofs.columns.add_place.Given as goal

abbrev pub invariant-loop-c : goal.invariant-loop-c
invariant-loop-c l = record {
  at : l.at ≤ length l.columns;
  len : length l.sets ≡ length l.fn.sets;
  widths : (c : ℕ) → length (row l.sets c) ≡ length (row l.fn.sets c);
  others : (c i : ℕ) → i ≢ l.p → bit (row l.sets c) i ≡ bit (row l.fn.sets c) i;
  done : (c : ℕ) → c < l.at → bit (row l.sets c) l.p ≡ bit l.columns c;
  rest : (c : ℕ) → l.at ≤ c → bit (row l.sets c) l.p ≡ false;
}

abbrev pub decreases-loop-c : goal.decreases-loop-c
decreases-loop-c l = length l.columns - l.at
