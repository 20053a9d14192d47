-- The list is counted.
use Rattle.std.proofs.Common.{◌≡◌, length, arith}
use Rattle.flow_facts.proofs.Refusals.{at_most, above}
use Rattle.flow_facts.proofs.top.number_by_place.Goals as goal

pub returns-in-Err-within-clause-refused : goal.returns-in-Err-within-clause-refused
returns-in-Err-within-clause-refused g c =
    let n : c.len.result ≡ length c.in-Ok.made.items.items = omega (arith, c.in-Ok.made.items.ok.0) in
    above _ _ c.in-Err-within.fault n c.in-Ok.ensures.items c.in-Err-within.ensures.refused

pub returns-clause-ok : goal.returns-clause-ok
returns-clause-ok g c =
    let n : c.len.result ≡ length c.in-Ok.made.items.items = omega (arith, c.in-Ok.made.items.ok.0) in
    record { items = c.in-Ok.ensures.items; keys = c.in-Ok.ensures.keys; few = at_most n c.in-Ok.ensures.items c.in-Ok-within.ensures.ok }
