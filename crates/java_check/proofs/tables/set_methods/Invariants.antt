use Rattle.std.proofs.Common.{◌≡◌, ◌||◌, ℕ, ◌+◌, ◌*◌, ◌<◌, length, drop}
use Rattle.std.specs.List.{list_any}
use Rattle.java_core.specs.Programs.{program_of}
use Rattle.java_check.specs.SlotOutcome.{bit, own_at, says}
use Rattle.java_check.proofs.tables.set_methods.Given as goal

-- the bits so far, and those of the rest
abbrev pub invariant-loop-at : goal.invariant-loop-at
invariant-loop-at l = record {
  len : length l.table ≡ length l.fn.table;
  bits : (c i : ℕ) → c < length l.fn.table → i < 64
      → (bit (own_at l.table c) i || list_any (λ m. says (program_of l.p) l.asked c (64 * l.batch + i) m) (drop l.at-index l.list))
      ≡ (bit (own_at l.fn.table c) i || list_any (λ m. says (program_of l.p) l.asked c (64 * l.batch + i) m) l.list);
}
