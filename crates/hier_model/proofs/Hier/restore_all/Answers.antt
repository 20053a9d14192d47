use Rattle.std.proofs.Common.{◌≡◌, [], ap, sym, ◌∙◌, arith}
use Rattle.std.proofs.lemmas.List.{nil_from_length}
use Rattle.hier_model.specs.Restored.{restored}
use Rattle.hier_model.proofs.WrittenLemmas.{restored_step, fits_last, fits_step}
use Rattle.hier_model.proofs.Hier.restore_all.Goals as goal

pub restore-requires : goal.restore-requires
restore-requires c = fits_last c.back.self c.back.self c.back.left.items c.pop.new.self.items c.in-Some.change c.in-Some.ensures.items c.back.invariant.fits

pub back-preserved : goal.back-preserved
back-preserved c = record {
  is = restored_step c.back.self c.restore.new.self c.back.left.items c.pop.new.self.items c.in-Some.change c.in-Some.ensures.items
      (restored c.args.self.now c.args.changes.items) c.back.invariant.is c.restore.ensures;
  fits = fits_step c.back.self c.restore.new.self c.back.left.items c.pop.new.self.items c.in-Some.change c.in-Some.ensures.items
      c.back.invariant.fits c.restore.ensures;
}

pub returns : goal.returns
returns c =
    let none : c.back.left.items ≡ [] = nil_from_length c.back.left.items (omega (arith, c.back.left.ok.0, c.in_default.ensures.cases.0)) in
    sym (ap (restored c.back.self) none) ∙ c.back.invariant.is
