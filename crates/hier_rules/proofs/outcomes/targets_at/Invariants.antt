use Rattle.std.proofs.Common.{◌≡◌, ℕ, ◌||◌, length, take}
use Rattle.std.specs.List.{list_any}
use Rattle.kaba_bits.specs.Sets.{bit}
use Rattle.hier_rules.specs.Asked.{is_test_at, is_store_at}
use Rattle.hier_rules.proofs.outcomes.targets_at.Given as goal

abbrev pub invariant-loop-x : goal.invariant-loop-x
invariant-loop-x l = record {
  width : length l.targets ≡ length l.asked.facts.now.rows.items;
  added : (t : ℕ) → bit l.targets t ≡ (list_any (is_test_at l.p t) l.asked.facts.now.tests.items || list_any
      (is_store_at l.asked.facts.now l.asked.pt.now l.p t)
      (take l.x-index l.asked.facts.now.stores.items));
}
