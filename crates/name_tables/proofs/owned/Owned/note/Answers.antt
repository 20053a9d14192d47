use Rattle.std.proofs.Common.{ap, sym, ◌∙◌}
use Rattle.std.specs.Prelude.{is_some}
use Rattle.name_tables.specs.Owned.{owned_in}
use Rattle.name_tables.proofs.OwnedLemmas.{first_kept}
use Rattle.name_tables.proofs.owned.Owned.note.Goals as goal

pub returns-then-is_some : goal.returns-then-is_some
returns-then-is_some c = first_kept (owned_in c.args.self.now) c.args.class c.args.name.now c.args.number
    (sym (ap is_some c.at.ensures) ∙ sym c.is_some.ensures ∙ c.if-is_some.true)
