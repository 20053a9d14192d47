-- What is listed are the sites and the flow points of the program.
use Rattle.java_core.specs.Programs.{program_of}
use Rattle.flow_rules.specs.declared.faults.Counted.TheVariants as counted
use Rattle.flow_facts.proofs.Counts.{sites_are, over_sites}
use Rattle.flow_facts.proofs.Refusals.{listed_as, refused, above_as}
use Rattle.flow_facts.proofs.top.number_flow.Goals as goal

pub returns-in-Err-number_by_place-clause-refused : goal.returns-in-Err-number_by_place-clause-refused
returns-in-Err-number_by_place-clause-refused c =
    let P = program_of c.args.program.now in
    let t = c.requires.table in
    let all = sites_are P _ _ _ t.rows.keys c.requires.bodies c.in-Ok.ensures.value in
    refused P _ 8192 counted.Sites c.in-Err-number_by_place.fault (above_as _ _ _ all c.in-Err-number_by_place.ensures.refused)
    (over_sites P t.rows.few t.columns.few)

pub number_points-requires : goal.number_points-requires
number_points-requires c =
    let sites = listed_as (sites_are (program_of c.args.program.now) _ _ _ c.requires.table.rows.keys
    c.requires.bodies c.in-Ok.ensures.value) c.in-Ok-number_by_place.ensures.ok in
    record { table = c.requires.table; statics = c.requires.statics; outlines = c.requires.outlines; sites = sites.few }

pub returns-clause-ok : goal.returns-clause-ok
returns-clause-ok c = record {
  sites = listed_as (sites_are (program_of c.args.program.now) _ _ _ c.requires.table.rows.keys
      c.requires.bodies c.in-Ok.ensures.value) c.in-Ok-number_by_place.ensures.ok;
  points = c.in-Ok-number_points.ensures.ok;
}
