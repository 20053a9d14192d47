-- Where the steps towards a tree end at a conflict.
use Rattle.std.proofs.Common.{◌≡◌, sym, ◌∙◌, subst}
use Rattle.fact_model.specs.declared.facts.Facts.{Facts}
use Rattle.fact_model.specs.declared.sets.PointsTo.{PointsTo}
use Rattle.fact_model.specs.declared.sets.Table.{Table}
use Rattle.fact_model.specs.declared.sets.Lattice.{Lattice}
use Rattle.hier_model.specs.Hierarchies.{Hierarchy}
use Rattle.hier_laws.specs.Laws.{AreAnalysed}
use Rattle.hier_tree.specs.Kept.{HasNoInterface}
use Rattle.hier_tree.specs.Reached.{IsReached}
use Rattle.tree_merge.specs.declared.trees.NoTree.{NoTree}
use Rattle.tree_merge.specs.declared.trees.TreeFault.{TreeFault}
use Rattle.tree_merge.specs.declared.trees.TreeFault.TheVariants as fault
use Rattle.tree_merge.specs.Logs.{IsTreeFault}
use Rattle.kaba_top.specs.Proposals.{IsStuck}

-- a fault that is no want of memory says where they ended, and they began at no start that drops and fresh names changed
pub stuck_at : (F : Facts) (S : PointsTo) (H New : Hierarchy) (n : NoTree) (e : TreeFault) → e ≡ fault.NoTree n → IsTreeFault F S H New e
    → ((t : Table) (l : Lattice) → AreAnalysed F S t l → HasNoInterface F → IsReached F S t l H → e ≡ fault.Memory) → IsStuck F S H n
stuck_at F S H New n e is ends found =
    let at : IsTreeFault F S H New (fault.NoTree n) = subst (IsTreeFault F S H New) is ends in
    record {
      ends = record { last = New; grows = at.0; edits = at.1 };
      unreached = λ t l a i r. let z : fault.NoTree n ≡ fault.Memory = sym is ∙ found t l a i r in cc;
    }
