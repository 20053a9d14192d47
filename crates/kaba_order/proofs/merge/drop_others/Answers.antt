use Rattle.std.proofs.Common.{◌≡◌, ℕ, ◌+◌, ◌&&◌, ◌==◌, not, arith, get_or, take, ap, refl, sym, Bool, ◌∙◌}
use Rattle.std.proofs.lemmas.Bool.{and_parts, eq-eqb}
use Rattle.std.proofs.lemmas.List.Folds.{list_any_at}
use Rattle.std.proofs.lemmas.Grind.{common_steps}
use Rattle.kaba_base.specs.declared.NodeId.{NodeId}
use Rattle.kaba_bits.specs.Sets.{bit, row}
use Rattle.kaba_order.specs.Orders.{stays}
use Rattle.kaba_order.proofs.ListLemmas.{stays_same, stays_less, swap_tests}
use Rattle.kaba_order.proofs.MergeSteps.{has_any_among}
use Rattle.kaba_order.proofs.merge.drop_others.Goals as goal
use Rattle.kaba_order.proofs.merge.drop_others.Goals.{then-s-m, else-s-m}

pub loop-s-preserved : goal.loop-s-preserved
loop-s-preserved c =
    let set = c.args.set.now in
    let m = c.args.m in
    let i = c.loop-s.s-index in
    let d : NodeId = record { 0 = 0 } in
    let s = (get_or set i d).0 in
    let old = c.loop-s.invariant.rows in
    elim c.if-s-m.branch [
      | then-s-m w ↦ record {
        widths = grind (arith, common_steps);
        rows = λ a b.
            let less : (x : ℕ) → stays (take (i + 1) set) m x ≡ (stays (take i set) m x && not (x == s)) = λ x. stays_less set m x i d (omega arith)
            w.if-s-m.true in
            ap (λ l. bit (row l a) b) w.le-is
            ∙ (w.drop_from.ensures.rows a b
            ∙ rw (old a b, less a, less b) (swap_tests (bit (row c.args.le.now a) b) (stays (take i set) m a) (stays (take i set) m b) (not (a == s))
            (not (b == s))));
      }
      | else-s-m w ↦ record {
        widths = grind (arith, common_steps);
        rows = λ a b.
            let same : (x : ℕ) → stays (take (i + 1) set) m x ≡ stays (take i set) m x = λ x. stays_same set m x i d (omega arith) w.if-s-m.false in
            rw (w.le-is, same a, same b) (old a b);
      }
    ]

pub drop_from-requires-clause-low : goal.drop_from-requires-clause-low
drop_from-requires-clause-low c = λ a h.
    let set = c.args.set.now in
    let d : NodeId = record { 0 = 0 } in
    let i = c.loop-s.s-index in
    let s = (get_or set i d).0 in
    let had = bit (row c.args.le.now a) s in
    let stayed : ℕ → Bool = λ x. stays (take i set) c.args.m x in
    c.requires.low a
    (has_any_among (row c.args.le.now a) set s (list_any_at (λ x. s == x.0) set i d c.loop-s-test.true (eq-eqb s s refl))
    (and_parts had (stayed a) (and_parts (had && stayed a) (stayed s) (sym (c.loop-s.invariant.rows a s) ∙ h)).0).0)
