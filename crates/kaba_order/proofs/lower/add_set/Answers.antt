use Rattle.std.proofs.Common.{◌≡◌, true, sym, subst, arith}
use Rattle.kaba_bits.specs.Sets.{bit, HasWidth}
use Rattle.kaba_bits.proofs.SetLemmas.{bit-below}
use Rattle.kaba_order.proofs.LowerLemmas.{gained_row, scan_next}
use Rattle.kaba_order.proofs.lower.add_set.Goals as goal

pub scan-preserved : goal.scan-preserved
scan-preserved c =
    let above = c.args.above.now in
    let low = c.args.low.now in
    let next = c.in-Some.ensures in
    let x = c.scan.invariant.gained in
    let step = c.join_with.ensures in
    record {
      fits = let lt = bit-below above c.in-Some.b next.holds in omega (arith, lt);
      gained = scan_next (λ x. bit low x ≡ true) above c.scan.at c.args.lower.now c.scan.lower x c.in-Some.b c.join_with.new.rows next
          (gained_row c.scan.lower c.join_with.new.rows c.in-Some.b low step.len step.widths (subst (λ w. HasWidth w c.scan.lower) (sym x.size.len) x.size.widths) step.joined);
    }
