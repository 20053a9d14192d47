use Rattle.std.proofs.Common.{arith}
use Rattle.std.proofs.lemmas.Grind.{common_steps}
use Rattle.kaba_bits.proofs.SetLemmas.{bit-below}
use Rattle.kaba_order.proofs.ScanLemmas.{spread_bit, spread_skips, spread_here, changed_next, changed_all}
use Rattle.kaba_order.proofs.rows.spread.Goals as goal

pub scan-preserved : goal.scan-preserved
scan-preserved c =
    let old = c.args.le.now in
    let low = c.args.low.now in
    let p = c.args.p in
    let next = c.in-Some.ensures in
    let x = c.scan.invariant.changed in
    let gains = c.join.ensures.joined in
    record {
      below = let lt = bit-below low c.in-Some.a next.holds in omega (arith, lt);
      widths = grind (arith, common_steps);
      changed = changed_next low (spread_bit old low p) old c.scan.le c.scan.at (spread_skips low old p) x c.join.new.rows c.in-Some.a next gains.others
          (spread_here low old p c.scan.le c.join.new.rows c.scan.at c.in-Some.a x next gains);
    }

pub returns-clause-rows : goal.returns-clause-rows
returns-clause-rows c =
    let old = c.args.le.now in
    let low = c.args.low.now in
    changed_all low (spread_bit old low c.args.p) old c.scan.le c.scan.at (spread_skips low old c.args.p) c.scan.invariant.changed c.in_default.ensures
