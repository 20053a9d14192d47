use Rattle.std.proofs.Common.{[], sym, ap, ◌∙◌}
use Rattle.std.specs.Option.{option_map_or}
use Rattle.java_core.specs.Programs.{program_of}
use Rattle.flow_rules.specs.declared.items.PointItem.TheVariants as point
use Rattle.flow_rules.specs.Facts.{body_if, column_body}
use Rattle.flow_facts.specs.Seen.{numbers_seen}
use Rattle.flow_facts.proofs.Walks.{if_ok}
use Rattle.flow_facts.proofs.infos.body_of.Goals as goal

pub returns-in-Some : goal.returns-in-Some
returns-in-Some c =
    let N = numbers_seen c.args.given.now.numbering.now in
    let P = program_of c.args.given.now.program.now in
    let e = ap (λ o. option_map_or (λ k. body_if N P c.args.c c.in-Def.m k (N.point (point.This c.in-Def.m))) o []) c.in-Some.ensures.value
    ∙ ap (column_body N P c.args.c) (sym c.in-Def.is) in
    record { value = if_ok c.method_body.result (λ _ h. h ∙ e) (c.method_body.ensures.value P) }
