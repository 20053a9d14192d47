use Rattle.std.proofs.Common.{◌≡◌, ℕ, ◌<◌, ◌≤◌, ◌-◌, false, length}
use Rattle.kaba_bits.specs.Sets.{bit}
use Rattle.hier_model.specs.Hierarchies.{is_class_node}
use Rattle.hier_model.proofs.Hier.mark_class_nodes.Given as goal

abbrev pub invariant-scan : goal.invariant-scan
invariant-scan l = record {
  below : l.at ≤ length l.unasked;
  width : length l.classes ≡ length l.fn.classes;
  done : (x : ℕ) → x < l.at → bit l.classes x ≡ is_class_node l.facts l.self x;
  rest : (x : ℕ) → bit l.unasked x ≡ false → bit l.classes x ≡ is_class_node l.facts l.self x;
}

abbrev pub decreases-scan : goal.decreases-scan
decreases-scan l = length l.unasked - l.at
