use Rattle.std.proofs.Common.{length, sym, arith}
use Rattle.hier_model.specs.Names.{is_namesake_above}
use Rattle.hier_model.proofs.AnyLemmas.{any_below_found}
use Rattle.hier_model.proofs.names.has_namesake_above.Goals as goal

pub returns-then-is_namesake_above : goal.returns-then-is_namesake_above
returns-then-is_namesake_above c =
    sym (any_below_found (is_namesake_above c.args.facts.now c.args.c.0) (length c.args.facts.now.columns.items) c.loop-d.d c.loop-d.invariant
    (omega arith) (sym c.if-is_namesake_above.ensures))
