use Rattle.std.proofs.Common.{sym, subst}
use Rattle.hier_edit.specs.Joins.{AreJoinTests}
use Rattle.hier_edit.proofs.BeforeLemmas.{before_members, fits_kept}
use Rattle.hier_edit.proofs.join.Goals as goal

pub keep-requires-clause-tests : goal.keep-requires-clause-tests
keep-requires-clause-tests c =
    subst (AreJoinTests c.args.tests.now)
    (sym (before_members c.args.hier.now c.join.new.self c.in-Ok.join c.in-Ok.ensures.before)) c.requires.tests

pub keep-requires-clause-joined : goal.keep-requires-clause-joined
keep-requires-clause-joined c = record {
  old = c.args.hier.now;
  fits = c.requires.hierarchy;
  meets = c.requires.meets;
  made = c.in-Ok.ensures.made;
  before = c.in-Ok.ensures.before;
  low = c.in-Ok.ensures.low;
}

pub returns-in-Ok-clause-is : goal.returns-in-Ok-clause-is
returns-in-Ok-clause-is c =
    fits_kept c.args.tests.now.facts.now c.keep.result c.args.hier.now c.join.new.self c.keep.new.hier c.in-Ok.join c.requires.hierarchy
    c.join.ensures.fits c.in-Ok.ensures.before c.keep.ensures.made c.keep.ensures.kept
