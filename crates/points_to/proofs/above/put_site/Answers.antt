use Rattle.std.proofs.Common.{arith, refl, inl}
use Rattle.kaba_bits.proofs.SetLemmas.{bit-below}
use Rattle.points_to.proofs.AboveLemmas.{site_more, site_rest}
use Rattle.points_to.proofs.above.put_site.Goals as goal

pub set_at-requires-clause-k : goal.set_at-requires-clause-k
set_at-requires-clause-k c =
    let lt = bit-below c.args.classes.now c.in-Some.k c.in-Some.ensures.holds in
    omega (arith, lt, c.requires.len, c.scan.invariant.len)

pub set_at-requires-clause-i : goal.set_at-requires-clause-i
set_at-requires-clause-i c =
    let lt = bit-below c.args.classes.now c.in-Some.k c.in-Some.ensures.holds in
    let wide = c.requires.widths c.in-Some.k (omega (arith, lt, c.requires.len)) in
    omega (arith, wide, c.scan.invariant.widths c.in-Some.k)

pub scan-init : goal.scan-init
scan-init c = record {
  len = refl;
  widths = λ k. refl;
  kept = λ k x b. b;
  gained = λ k x b. inl b;
  all = λ k lt b. absurd (omega (arith, lt));
}

pub scan-preserved : goal.scan-preserved
scan-preserved c =
    let next = c.in-Some.ensures in
    let set = c.set_at.ensures in
    site_more c.args.rows.now c.scan.rows c.set_at.new.rows c.args.classes.now c.args.s c.scan.at c.in-Some.k c.scan.invariant next.least next.holds
    set.len set.widths set.added

pub returns-in-None : goal.returns-in-None
returns-in-None c = site_rest c.args.rows.now c.scan.rows c.args.classes.now c.args.s c.scan.at c.scan.invariant c.in-None.ensures

pub returns : goal.returns
returns c = site_rest c.args.rows.now c.scan.rows c.args.classes.now c.args.s c.scan.at c.scan.invariant
    (λ k high lt. absurd (omega (arith, high, lt, c.width-count.ensures)))
