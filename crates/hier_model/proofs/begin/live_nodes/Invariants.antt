use Rattle.std.proofs.Common.{◌≡◌, ℕ, ◌<◌, ◌≤◌, false, length}
use Rattle.kaba_bits.specs.Sets.{bit}
use Rattle.hier_model.specs.Start.{is_filled}
use Rattle.hier_model.specs.Listed.{extent_of}
use Rattle.hier_model.proofs.begin.live_nodes.Given as goal

abbrev pub invariant-loop-k : goal.invariant-loop-k
invariant-loop-k l = record {
  width : length l.live ≡ length l.concepts;
  done : (j : ℕ) → j < l.k → bit l.live j ≡ is_filled (extent_of l.concepts j);
  rest : (j : ℕ) → l.k ≤ j → bit l.live j ≡ false;
}
