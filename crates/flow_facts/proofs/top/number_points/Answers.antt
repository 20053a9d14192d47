-- The flow points are those of the program, and they are counted.
use Rattle.std.proofs.Common.{◌≡◌, length, ◌∙◌, ap, map, arith}
use Rattle.java_core.specs.Programs.{program_of}
use Rattle.flow_rules.specs.declared.faults.Counted.TheVariants as counted
use Rattle.flow_rules.proofs.Same.{same_points}
use Rattle.flow_facts.proofs.Counts.{points_are, outlines_are}
use Rattle.flow_rules.specs.Ordered.{by_place}
use Rattle.flow_facts.proofs.Refusals.{at_most, above, refused, too_many_points}
use Rattle.flow_facts.proofs.top.number_points.Goals as goal

pub returns-in-Err-within-clause-refused : goal.returns-in-Err-within-clause-refused
returns-in-Err-within-clause-refused c =
    let P = program_of c.args.program.now in
    let n : c.len.result ≡ length c.in-Ok-once.made.items.items = omega (arith, c.in-Ok-once.made.items.ok.0) in
    let all = points_are P _ _ _ _ same_points c.requires.table.rows.keys (c.in-Ok.ensures.value ∙ ap (by_place (λ p. p.place.at)) c.requires.statics)
    (outlines_are P _ _ c.requires.outlines c.in-Ok-by_place.ensures.value) c.in-Ok-all_points.ensures.value in
    refused P _ 65536 counted.Points c.in-Err-within.fault
    (above _ _ c.in-Err-within.fault n (c.in-Ok-once.ensures.items ∙ all) c.in-Err-within.ensures.refused)
    (too_many_points P c.requires.table.rows.few c.requires.table.columns.few c.requires.sites)

pub returns-clause-ok : goal.returns-clause-ok
returns-clause-ok c =
    let P = program_of c.args.program.now in
    let n : c.len.result ≡ length c.in-Ok-once.made.items.items = omega (arith, c.in-Ok-once.made.items.ok.0) in
    let all = points_are P _ _ _ _ same_points c.requires.table.rows.keys (c.in-Ok.ensures.value ∙ ap (by_place (λ p. p.place.at)) c.requires.statics)
    (outlines_are P _ _ c.requires.outlines c.in-Ok-by_place.ensures.value) c.in-Ok-all_points.ensures.value in
    record {
      items = c.in-Ok-once.ensures.items ∙ all;
      keys = c.in-Ok-once.ensures.keys ∙ ap (map (λ p. p.item)) all;
      few = at_most n (c.in-Ok-once.ensures.items ∙ all) c.in-Ok-within.ensures.ok;
    }
