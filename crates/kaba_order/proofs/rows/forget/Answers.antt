use Rattle.std.proofs.Common.{◌==◌, ◌&&◌, [], set, not, arith}
use Rattle.std.proofs.lemmas.Grind.{common_steps}
use Rattle.std.proofs.lemmas.List.{get_or-set_other}
use Rattle.kaba_bits.specs.Sets.{bit, row}
use Rattle.kaba_bits.proofs.SetLemmas.{bit-below}
use Rattle.kaba_order.proofs.ScanLemmas.{forget_skips, changed_next, changed_all}
use Rattle.kaba_order.proofs.rows.forget.Goals as goal

pub scan-preserved : goal.scan-preserved
scan-preserved c =
    let old = c.args.le.now in
    let low = c.args.low.now in
    let n = c.args.n in
    let next = c.in-Some.ensures in
    let a = c.in-Some.a in
    let lt = bit-below low a next.holds in
    let x = c.scan.invariant.changed in
    record {
      below = omega (arith, lt);
      widths = grind (arith, common_steps);
      changed = changed_next low (λ k b. bit (row old k) b && not (b == n)) old c.scan.le c.scan.at (forget_skips low old n c.requires.low) x
          (set c.scan.le a c.remove.new.self) a next
          (λ k ne. get_or-set_other c.scan.le a k c.remove.new.self [] ne)
          (λ b. grind (arith, common_steps, x.rest a next.low));
    }

pub returns-clause-rows : goal.returns-clause-rows
returns-clause-rows c =
    let old = c.args.le.now in
    let low = c.args.low.now in
    changed_all low (λ k b. bit (row old k) b && not (b == c.args.n)) old c.scan.le c.scan.at (forget_skips low old c.args.n c.requires.low)
    c.scan.invariant.changed c.in_default.ensures
