use Rattle.std.proofs.Common.{sym, subst}
use Rattle.kaba_top.specs.Proposals.{IsStuck}
use Rattle.kaba_top.proofs.Stuck.{stuck_at}
use Rattle.kaba_top.proofs.regen.regenerate.Goals as goal

pub returns-in-Err-NoTree : goal.returns-in-Err-NoTree
returns-in-Err-NoTree c = record {
  regenerated = subst (IsStuck c.args.facts.now c.args.sets.now c.args.hier) (sym c.in-Err-NoTree.fault-is)
      (stuck_at c.args.facts.now c.args.sets.now c.args.hier c.make_tree.new.hier c.in-Err-NoTree.fault c.in-Err-NoTree.field-0 c.in-Err-NoTree.field-0-is
      c.in-Err-NoTree.ensures.fault c.in-Err-NoTree.ensures.found);
}
