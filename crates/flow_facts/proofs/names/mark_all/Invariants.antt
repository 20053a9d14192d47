-- What the members left will mark.
use Rattle.std.proofs.Common.{◌≡◌, ℕ, ◌<◌, drop, length, get_or}
use Rattle.std.specs.Prelude.{◌||◌, false}
use Rattle.std.specs.List.{list_any}
use Rattle.flow_facts.proofs.names.mark_all.Given as goal

abbrev pub invariant-loop-member : goal.invariant-loop-member
invariant-loop-member g l =
    record {
      count : length l.holders ≡ length l.fn.holders;
      value : (c : ℕ) → c < length l.fn.holders → (get_or l.holders c false || list_any (λ m. g.T.Member.holds m c) (drop l.member-index l.members.items))
          ≡ (get_or l.fn.holders c false || list_any (λ m. g.T.Member.holds m c) l.members.items);
    }
