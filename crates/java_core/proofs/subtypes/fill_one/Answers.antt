use Rattle.std.proofs.Common.{set, sym, subst, arith}
use Rattle.java_core.specs.Subtypes.{Filled}
use Rattle.java_core.proofs.Walks.{filled-one}
use Rattle.java_core.proofs.subtypes.fill_one.Goals as goal

pub returns : goal.returns
returns c =
    let rows = set c.args.rows.now c.args.b c.in_ok-rows.field-0 in
    subst (λ k. Filled c.args.graph.now.lists.now c.args.graph.now.count c.args.b c.args.known.now k rows) (sym c.set.ensures.after)
    (filled-one c.args.graph.now.lists.now c.args.graph.now.count c.args.b c.args.known.now c.args.rows.now c.in_ok-rows.field-0 (omega arith)
    c.requires.before c.in_ok-rows.ensures)
