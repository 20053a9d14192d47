use Rattle.std.proofs.Common.{◌≡◌, ℕ, ◌⊎◌, true, length}
use Rattle.std.specs.List.{AllWithin}
use Rattle.kaba_bits.specs.Sets.{bit, row, IsSubset}
use Rattle.points_to.specs.Rounds.{IsInSome}
use Rattle.points_to.proofs.reads.hold_all.Given as goal

abbrev pub invariant-loop-n : goal.invariant-loop-n
invariant-loop-n l = record {
  width : length l.held ≡ length l.facts.sites.items;
  kept : IsSubset l.fn.held l.held;
  gained : (s : ℕ) → bit l.held s ≡ true → (bit l.fn.held s ≡ true) ⊎ IsInSome l.sets l.list s;
  whole : AllWithin (λ n. IsSubset (row l.sets n) l.held) l.list 0 l.n-index;
}
