use Rattle.std.proofs.Common.{◌≡◌, ℕ, ◌&&◌, eqb, length, take}
use Rattle.std.specs.List.{list_any}
use Rattle.kaba_bits.specs.Sets.{bit, row}
use Rattle.hier_rules.proofs.met.operands_at.Given as goal

abbrev pub invariant-loop-x : goal.invariant-loop-x
invariant-loop-x l = record {
  width : length l.sites ≡ length l.asked.facts.now.sites.items;
  added : (s : ℕ) → bit l.sites s ≡ (list_any (λ x. eqb x.place.at l.p && bit (row l.asked.pt.now.points.items x.from) s)
      (take l.x-index l.asked.facts.now.tests.items));
}
