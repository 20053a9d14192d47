use Rattle.std.proofs.Common.{◌≡◌, ◌==◌, ◌&&◌, false}
use Rattle.fact_model.specs.Items.{site_at, site_row}
use Rattle.kaba_order.specs.Orders.{is_le}
use Rattle.hier_model.specs.Hierarchies.{any_below, place_of_row}
use Rattle.hier_model.proofs.Hier.has_object.Given as goal

abbrev pub invariant-loop-s : goal.invariant-loop-s
invariant-loop-s l = any_below l.s (λ s. ((site_at l.facts s).dim == 0) && is_le l.self.order l.n.0 (place_of_row l.self (site_row l.facts s))) ≡ false
