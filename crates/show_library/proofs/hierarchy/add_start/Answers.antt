use Rattle.std.proofs.Common.{subst, sym}
use Rattle.hier_rules.specs.First.{MeetsEdit}
use Rattle.hier_laws.proofs.StartMeets.{start_meets}
use Rattle.show_library.proofs.hierarchy.add_start.Goals as goal

pub add_undone-requires-clause-meets : goal.add_undone-requires-clause-meets
add_undone-requires-clause-meets c =
    let F = c.args.facts.now in
    let pt = c.in_ok-sets.sets in
    subst (MeetsEdit F pt) (sym c.in_ok-hier.ensures.value)
    (start_meets F pt c.in_ok-table.table c.in-Ok.lattice
    (record {
      range = c.requires.range;
      order = c.requires.order;
      sets = c.in_ok-sets.ensures.sets;
      table = c.in_ok-table.ensures.table;
      lattice = c.in-Ok.ensures.lattice;
    }))
