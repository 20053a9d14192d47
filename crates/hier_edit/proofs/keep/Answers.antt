use Rattle.hier_edit.proofs.keep.Goals as goal

pub judge-requires-clause-after : goal.judge-requires-clause-after
judge-requires-clause-after c = record {
  before = c.requires.joined.old;
  fits = c.requires.joined.fits;
  meets = c.requires.joined.meets;
  made = c.requires.joined.made;
}

pub part-requires : goal.part-requires
part-requires c = (c.requires.joined.old, c.requires.joined.fits.sized.order, c.requires.joined.before)
