use Rattle.std.proofs.Common.{◌≡◌, ⊎_elim, ℕ, [], length, get_or, sym, ap, ◌∙◌, subst, arith}
use Rattle.std.proofs.lemmas.Bool.{cases_lt}
use Rattle.std.proofs.lemmas.List.{get_or-map, length-map, get_or_past, with_items_is}
use Rattle.kaba_bits.specs.Sets.{bit, row}
use Rattle.concept_build.specs.Tables.{listed_rows}
use Rattle.concept_build.proofs.columns.columns_in.Goals as goal

pub loop-p-preserved : goal.loop-p-preserved
loop-p-preserved c =
    let T = c.args.table.now in
    let xs = c.args.rows.now in
    let p = c.loop-p.p in
    let sets = c.loop-p.sets.items in
    let new = c.add_place.new.sets in
    let inv = c.loop-p.invariant in
    let o = c.add_place.ensures in
    let value : c.deref_mut.result.now ≡ sets = c.deref_mut.ensures.value in
    let len : length new ≡ length sets = o.len ∙ ap length value in
    let kept = with_items_is c.loop-p.sets new (len ∙ sym c.loop-p.sets.ok.0) in
    let other = λ (k i : ℕ) (ne : i ≡ p → ⊥). o.others k i ne ∙ ap (λ l. bit (row l k) i) value in
    rw kept (record {
      len = len ∙ inv.len;
      widths = λ k lt. o.widths k ∙ (ap (λ l. length (row l k)) value ∙ inv.widths k (omega (arith, lt, len)));
      done = λ k i lt.
          ⊎_elim
          (λ low. other k i (λ e. absurd (omega (arith, e, low))) ∙ inv.done k i low)
          (λ high.
          let e : p ≡ i = omega (arith, high, lt) in
          subst (λ m. bit (row new k) m ≡ bit (row T (get_or xs m 0)) k) e (o.added k ∙ ap (λ s. bit s k) c.row_at.ensures))
          (cases_lt i p);
      rest = λ k i le. other k i (λ e. absurd (omega (arith, e, le))) ∙ inv.rest k i (omega (arith, le));
    })

pub returns : goal.returns
returns c =
    let T = c.args.table.now in
    let xs = c.args.rows.now in
    let n = c.loop-p.p in
    let long : length (listed_rows T xs) ≡ length xs = length-map xs (row T) in
    let is : n ≡ length xs = omega arith in
    record {
      small = omega (arith, long, c.requires.small);
      len = c.loop-p.invariant.len;
      widths = λ k lt. c.loop-p.invariant.widths k lt ∙ sym long;
      bits = λ k p.
          ⊎_elim
          (λ low. c.loop-p.invariant.done k p (omega (arith, low, is)) ∙ ap (λ r. bit r k) (sym (get_or-map (row T) xs p 0 [] low)))
          (λ high. c.loop-p.invariant.rest k p (omega (arith, high, is))
          ∙ ap (λ r. bit r k) (sym (get_or_past (listed_rows T xs) p [] (omega (arith, high, long)))))
          (cases_lt p (length xs));
      all = record { len = c.in_ok-all.ensures.width ∙ sym long; bits = λ p lt. c.in_ok-all.ensures.full p (omega (arith, lt, long)) };
    }
