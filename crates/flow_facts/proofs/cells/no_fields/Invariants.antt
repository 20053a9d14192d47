-- So many lists so far, all of them empty.
use Rattle.std.proofs.Common.{◌≡◌, ℕ, [], length}
use Rattle.flow_facts.specs.Owned.{own_at}
use Rattle.flow_facts.proofs.cells.no_fields.Given as goal

abbrev pub invariant-loop-class : goal.invariant-loop-class
invariant-loop-class l = record {
  count : length l.own.items ≡ l.class;
  empty : (c : ℕ) → own_at l.own.items c ≡ [];
}
