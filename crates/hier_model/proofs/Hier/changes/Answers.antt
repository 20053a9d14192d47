use Rattle.hier_model.proofs.EditedLemmas.{edited_alike}
use Rattle.hier_model.proofs.Hier.changes.Goals as goal

pub all_changes-requires : goal.all_changes-requires
all_changes-requires c = edited_alike c.args.self.now c.args.newer.now c.requires
