use Rattle.std.proofs.Common.{subst, sym}
use Rattle.std.specs.List.{All}
use Rattle.hier_laws.proofs.StartMeets.{start_meets}
use Rattle.hier_rules.specs.First.{MeetsEdit}
use Rattle.edit_script.specs.Script.{lines_of}
use Rattle.hier_script.specs.Histories.{ActNamesSome}
use Rattle.hier_script.proofs.Sound.{all_named}
use Rattle.hier_script.proofs.scripts.run_script.Goals as goal

pub run_edits-requires-clause-meets : goal.run_edits-requires-clause-meets
run_edits-requires-clause-meets c =
    let F = c.args.facts.now in
    let pt = c.args.sets.now in
    subst (MeetsEdit F pt) (sym c.in_ok-hier-in-Ok.ensures.value)
    (start_meets F pt c.args.table.now c.args.lattice.now
    (record { range = c.requires.range; order = c.requires.order; sets = c.requires.sets; table = c.requires.table; lattice = c.requires.lattice }))

pub run_edits-requires-clause-some : goal.run_edits-requires-clause-some
run_edits-requires-clause-some c =
    subst (All (λ line. ActNamesSome line.act)) (sym c.deref.ensures.value) (all_named 1 (lines_of c.args.script.now.items) c.in-Ok.lines.items
    c.in-Ok.ensures.edits)
