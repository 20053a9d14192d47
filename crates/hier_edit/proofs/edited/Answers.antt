use Rattle.std.proofs.Common.{sym, ⊎_elim}
use Rattle.hier_edit.proofs.edited.Goals as goal

pub tested-requires-clause-after : goal.tested-requires-clause-after
tested-requires-clause-after c = record {
  before = c.args.hier.now;
  fits = c.requires.hierarchy;
  meets = c.requires.meets;
  made = ⊎_elim (λ x. absurd (cc x)) (λ y. sym y) c.in-Ok.ensures.value;
}
