use Rattle.std.proofs.Common.{◌≡◌, ℕ, ◌<◌, ◌≤◌, false, length}
use Rattle.kaba_bits.specs.Sets.{bit}
use Rattle.hier_model.specs.Hierarchies.{is_offered}
use Rattle.hier_model.proofs.Hier.offered.Given as goal

abbrev pub invariant-loop-c : goal.invariant-loop-c
invariant-loop-c l = record {
  width : length l.offered ≡ l.width;
  done : (k : ℕ) → k < l.c → bit l.offered k ≡ is_offered l.self l.n.0 k;
  rest : (k : ℕ) → l.c ≤ k → bit l.offered k ≡ false;
}
