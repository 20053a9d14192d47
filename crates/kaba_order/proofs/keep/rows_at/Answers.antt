use Rattle.std.proofs.Common.{ℕ, List, Bool, [], ◌∷◌, ◌++◌, length, ap, ◌∙◌, arith}
use Rattle.kaba_bits.specs.Sets.{bit, row}
use Rattle.kaba_bits.proofs.SetLemmas.{bit-below}
use Rattle.kaba_order.specs.Written.{each_below, only_if}
use Rattle.kaba_order.proofs.WrittenLemmas.{each_below-next, each_below-all}
use Rattle.kaba_order.proofs.keep.rows_at.Goals as goal

pub scan-preserved : goal.scan-preserved
scan-preserved c =
    let le = c.args.le.now in
    let low = c.args.low.now in
    let k = c.in-Some.k in
    let v : ℕ → ℕ × List Bool = λ k. (k, row le k) in
    let listed : List (ℕ × List Bool) = c.scan.rows.items in
    record {
      below = let lt = bit-below low k c.in-Some.ensures.holds in omega (arith, lt);
      list = each_below-next (bit low) v c.scan.at listed c.scan.invariant.list k c.push.new.self.items c.in-Some.ensures
          (c.in_ok-push.ensures.items ∙ ap (λ (r : List Bool). listed ++ (k, r) ∷ []) (c.in_ok-copy.ensures ∙ c.row_at.ensures));
    }

pub returns : goal.returns
returns c =
    let low = c.args.low.now in
    let v : ℕ → ℕ × List Bool = λ k. (k, row c.args.le.now k) in
    each_below-all (bit low) v c.scan.at c.scan.rows.items c.scan.invariant.list (length low) c.scan.invariant.below c.in_default.ensures
    ∙ ap (λ n. each_below n (λ k. only_if (bit low k) (v k))) c.requires.width
