use Rattle.std.proofs.Common.{◌≡◌, ℕ, ◌||◌, length}
use Rattle.kaba_bits.specs.Sets.{bit}
use Rattle.hier_model.specs.Hierarchies.{any_below}
use Rattle.hier_model.specs.Classes.{is_member_at, is_object_at}
use Rattle.hier_model.proofs.Hier.holders.Given as goal

abbrev pub invariant-loop-c : goal.invariant-loop-c
invariant-loop-c l = record {
  width : length l.holders ≡ length l.self.order.live;
  marked : (p : ℕ) → bit l.holders p ≡ any_below l.c (is_member_at l.facts l.self p);
}

abbrev pub invariant-loop-s : goal.invariant-loop-s
invariant-loop-s l = record {
  width : length l.holders ≡ length l.self.order.live;
  marked : (p : ℕ) → bit l.holders p
      ≡ (any_below (length l.facts.columns.items) (is_member_at l.facts l.self p) || any_below l.s (is_object_at l.facts l.self p));
}
