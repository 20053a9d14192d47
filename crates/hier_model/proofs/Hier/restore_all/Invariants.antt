use Rattle.std.proofs.Common.{◌≡◌, length, All}
use Rattle.hier_model.specs.Restored.{restored, FitsIn}
use Rattle.hier_model.proofs.Hier.restore_all.Given as goal

abbrev pub invariant-back : goal.invariant-back
invariant-back l = record {
  is : restored l.self l.left.items ≡ restored l.fn.self l.fn.changes.items;
  fits : All (FitsIn l.self) l.left.items;
}

abbrev pub decreases-back : goal.decreases-back
decreases-back l = length l.left.items
