use Rattle.hier_undo.proofs.UndoneLemmas.{was_edited}
use Rattle.hier_undo.proofs.apply_kept.Goals as goal

pub replace-requires : goal.replace-requires
replace-requires c = was_edited c.args.facts.now c.args.sets.now c.args.hier.now c.in-Ok.made c.args.edit.now c.requires.range c.requires.hierarchy
    c.requires.some c.in-Ok.ensures.accepted
