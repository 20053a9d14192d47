use Rattle.std.proofs.Common.{◌≡◌, ◌++◌, drop, map}
use Rattle.flow_facts.proofs.infos.point_rows.Given as goal

abbrev pub invariant-loop-point : goal.invariant-loop-point
invariant-loop-point l = l.list.items ++ map (λ p. record { 0 = p.row }) (drop l.point-index l.points.items) ≡ map (λ p. record { 0 = p.row }) l.points.items
