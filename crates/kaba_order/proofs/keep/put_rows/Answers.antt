use Rattle.kaba_order.specs.Written.{written}
use Rattle.kaba_order.proofs.LowerLemmas.{put_lower}
use Rattle.kaba_order.proofs.WrittenLemmas.{written_step, within_step}
use Rattle.kaba_order.proofs.keep.put_rows.Goals as goal

pub back-preserved : goal.back-preserved
back-preserved c = record {
  is = written_step c.back.le c.back.left.items c.pop.new.self.items (c.in-Some.k, c.in-Some.row) c.in-Some.ensures.items
      (written c.args.le.now c.args.rows.items) c.back.invariant.is;
  lower = put_lower c.back.le c.back.lower c.add_number.new.lower c.in-Some.k c.in-Some.row c.back.invariant.lower c.add_number.ensures;
  fits = within_step c.back.le c.back.left.items c.pop.new.self.items (c.in-Some.k, c.in-Some.row) c.in-Some.ensures.items c.back.invariant.fits;
}
