use Rattle.std.proofs.Common.{subst}
use Rattle.hier_model.specs.Edits.{NamesSome}
use Rattle.hier_model.specs.declared.edits.Edit.TheVariants as edit
use Rattle.hier_model.proofs.PlacesLemmas.{fits_joined}
use Rattle.hier_model.proofs.Hier.join.Goals as goal

pub returns-in-Merge-clause-fits : goal.returns-in-Merge-clause-fits
returns-in-Merge-clause-fits c =
    fits_joined c.args.facts.now c.requires.range c.args.self.now c.requires.hierarchy (edit.Merge c.in-Merge.set)
    (subst NamesSome c.in-Merge.is c.requires.some) c.merge.result c.merge.new.self c.merge.ensures.made c.merge.ensures.kept

pub returns-in-Under-clause-fits : goal.returns-in-Under-clause-fits
returns-in-Under-clause-fits c =
    fits_joined c.args.facts.now c.requires.range c.args.self.now c.requires.hierarchy (edit.Under c.in-Under.n c.in-Under.p) tt
    c.put_under.result c.put_under.new.self c.put_under.ensures.made c.put_under.ensures.kept
