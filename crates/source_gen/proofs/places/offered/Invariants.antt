use Rattle.std.proofs.Common.{◌≡◌, ℕ, ◌<◌, length}
use Rattle.kaba_bits.specs.Sets.{bit}
use Rattle.hier_model.specs.Hierarchies.{any_below}
use Rattle.write_forms.specs.Sources.{old_program}
use Rattle.source_gen.specs.Seen.{is_offered_as}
use Rattle.source_gen.proofs.places.offered.Given as goal

abbrev pub invariant-loop-c : goal.invariant-loop-c
invariant-loop-c l = record {
  width : length l.slots ≡ length (old_program l.nodes.source).slots;
  offered : (x : ℕ) → x < length l.slots → bit l.slots x ≡ any_below l.c (is_offered_as l.nodes.facts.now l.nodes.source.hier.now l.n.0 x l.bodies);
}
