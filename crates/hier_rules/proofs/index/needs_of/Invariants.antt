use Rattle.std.proofs.Common.{◌≡◌, ℕ, ◌&&◌, length, take}
use Rattle.std.specs.List.{list_any}
use Rattle.kaba_bits.specs.Sets.{bit, row}
use Rattle.fact_model.specs.Items.{site_class}
use Rattle.fact_model.specs.Classes.{finds}
use Rattle.hier_rules.specs.Index.{is_number}
use Rattle.hier_rules.proofs.index.needs_of.Given as goal

abbrev pub invariant-loop-call : goal.invariant-loop-call
invariant-loop-call l = record {
  width : length l.bodies ≡ length l.asked.facts.now.columns.items;
  added : (d : ℕ) → bit l.bodies d ≡ (list_any (λ k. bit (row l.asked.pt.now.points.items k.receiver) l.s && is_number
      (finds l.asked.facts.now (site_class l.asked.facts.now l.s) k.slot) d) (take l.call-index l.asked.facts.now.calls.items));
}
