use Rattle.std.proofs.Common.{◌≡◌, ℕ, ◌||◌, length}
use Rattle.kaba_bits.specs.Sets.{bit}
use Rattle.hier_model.specs.Hierarchies.{any_below}
use Rattle.hier_rules.specs.Asked.{is_array_at}
use Rattle.hier_rules.proofs.outcomes.add_arrays.Given as goal

abbrev pub invariant-loop-a : goal.invariant-loop-a
invariant-loop-a l = record {
  width : length l.targets ≡ length l.fn.targets;
  added : (t : ℕ) → bit l.targets t ≡ (bit l.fn.targets t || any_below l.a (is_array_at l.asked.facts.now l.asked.pt.now l.base t));
}
