use Rattle.std.proofs.Common.{sym}
use Rattle.fact_model.specs.Items.{site_class}
use Rattle.fact_model.specs.Entries.{by_need}
use Rattle.fact_model.proofs.ClassLemmas.{finds-found}
use Rattle.table_rules.proofs.raw_table.mark_need.Goals as goal

pub mark-requires-clause-column : goal.mark-requires-clause-column
mark-requires-clause-column c =
    let facts = c.args.facts.now in
    let found = rw c.site_at-site.ensures at c.in-Some.ensures in
    (finds-found facts (site_class facts c.args.o) c.args.call.now.slot c.in-Some.d.0 (sym found)).body.below

pub mark-requires-clause-entry : goal.mark-requires-clause-entry
mark-requires-clause-entry c =
    let call = c.args.call.now in
    let found = rw c.site_at-site.ensures at c.in-Some.ensures in
    let has = rw (c.row_at.ensures, c.deref.ensures.value) at c.if-not-has.ensures in
    rw c.site_at-site.ensures (by_need call c.args.o c.in-Some.d.0 c.requires.call ((c.requires.sets.points call.receiver c.args.o).0 (sym has)) (sym found))
