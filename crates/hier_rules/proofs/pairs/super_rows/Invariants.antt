use Rattle.std.proofs.Common.{◌≡◌, ℕ, length, take}
use Rattle.std.specs.List.{list_any}
use Rattle.kaba_bits.specs.Sets.{bit, row, HasWidth}
use Rattle.hier_rules.specs.Asked.{is_pair}
use Rattle.hier_rules.proofs.pairs.super_rows.Given as goal

abbrev pub invariant-loop-x : goal.invariant-loop-x
invariant-loop-x l = record {
  len : length l.rows.items ≡ length l.facts.rows.items;
  widths : HasWidth (length l.facts.columns.items) l.rows.items;
  added : (r c : ℕ) → bit (row l.rows.items r) c ≡ list_any (λ x. is_pair x.row.0 x.column.0 r c) (take l.x-index l.facts.supers.items);
}
