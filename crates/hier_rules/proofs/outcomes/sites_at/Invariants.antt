use Rattle.std.proofs.Common.{◌≡◌, ℕ, ◌||◌, ◌&&◌, length, take}
use Rattle.std.specs.List.{list_any}
use Rattle.kaba_bits.specs.Sets.{bit, row}
use Rattle.hier_rules.specs.Asked.{is_tested, is_store_at}
use Rattle.hier_rules.proofs.outcomes.sites_at.Given as goal

abbrev pub invariant-loop-x : goal.invariant-loop-x
invariant-loop-x l = record {
  width : length l.sites ≡ length l.asked.facts.now.sites.items;
  added : (s : ℕ) → bit l.sites s
      ≡ (is_tested l.asked.facts.now l.asked.pt.now l.p l.t s || list_any (λ x. is_store_at l.asked.facts.now l.asked.pt.now l.p l.t x && bit
      (row l.asked.pt.now.points.items x.value) s)
      (take l.x-index l.asked.facts.now.stores.items));
}
