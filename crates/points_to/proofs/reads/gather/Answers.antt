use Rattle.std.proofs.Common.{◌<◌, ◌∙◌, length, arith}
use Rattle.points_to.proofs.RoundLemmas.{covered_more, within_set}
use Rattle.points_to.proofs.reads.gather.Goals as goal

pub scan-preserved : goal.scan-preserved
scan-preserved c =
    let set = c.args.set.now in
    let old = c.scan.union.sites in
    let new = c.gather_site.new.union.sites in
    let o = c.in-Some.o in
    let found = c.in-Some.ensures in
    let step = c.in_ok-gather_site-in-Some.ensures in
    let before = c.scan.invariant in
    let lt : o < length old = omega (arith, found.1, before.gathered.sites) in
    record {
      gathered = step.gathered;
      member = step.member ∙ before.member;
      within = within_set set old new o c.scan.at step.sites lt before.within found.2;
      all = covered_more set old new o c.scan.at step.sites lt found.3 before.all;
      whole = λ w. step.whole (before.whole w);
    }
