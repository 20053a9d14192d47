use Rattle.hier_model.specs.declared.edits.Edit.TheVariants as edit
use Rattle.hier_model.proofs.FitLemmas.{fits_of}
use Rattle.hier_model.proofs.Hier.changed.Goals as goal

pub returns-in-Merge-clause-fits : goal.returns-in-Merge-clause-fits
returns-in-Merge-clause-fits c = fits_of c.args.facts.now c.requires.range c.args.self.now c.requires.hierarchy c.args.edit.now c.requires.some
    c.joined.result c.joined.ensures

pub returns-in-Move-clause-fits : goal.returns-in-Move-clause-fits
returns-in-Move-clause-fits c = fits_of c.args.facts.now c.requires.range c.args.self.now c.requires.hierarchy (edit.Move c.in-Move.c c.in-Move.n) tt
    c.move_column.result c.move_column.ensures

pub returns-in-TypeName-clause-fits : goal.returns-in-TypeName-clause-fits
returns-in-TypeName-clause-fits c = fits_of c.args.facts.now c.requires.range c.args.self.now c.requires.hierarchy
    (edit.TypeName c.in-TypeName.n c.in-TypeName.name) tt c.name_type.result c.name_type.ensures

pub returns-in-MemberName-clause-fits : goal.returns-in-MemberName-clause-fits
returns-in-MemberName-clause-fits c = fits_of c.args.facts.now c.requires.range c.args.self.now c.requires.hierarchy
    (edit.MemberName c.in-MemberName.c c.in-MemberName.name) tt c.name_member.result c.name_member.ensures

pub returns-in-Drop-clause-fits : goal.returns-in-Drop-clause-fits
returns-in-Drop-clause-fits c = fits_of c.args.facts.now c.requires.range c.args.self.now c.requires.hierarchy (edit.Drop c.in-Drop.n) tt
    c.drop_node.result c.drop_node.ensures
