-- Orders that are given by their pairs.
use Rattle.std.proofs.Common.{◌≡◌, ℕ, ◌<◌, Bool, true, false, List, [], length, map, sym, ap, ◌∙◌, arith, ⊎_elim}
use Rattle.std.specs.List.{range_with_len}
use Rattle.std.proofs.lemmas.List.{ext_get_or}
use Rattle.std.proofs.lemmas.List.FromFn.{get_or-map-range_with_len, length-map-range_with_len}
use Rattle.std.proofs.lemmas.Bool.{cases_lt, cases_Bool}
use Rattle.std.proofs.Math.ListN.{get_or-eq_default}
use Rattle.kaba_bits.specs.Sets.{bit, row, HasWidth}
use Rattle.kaba_bits.proofs.SetLemmas.{same_bits}
use Rattle.kaba_order.specs.Orders.{Ordered, is_le, is_live, IsPartialOrder}
use Rattle.hier_model.specs.Edits.{ordered_by}

module _ (o : Ordered) (live : ℕ → Bool) (le : ℕ → ℕ → Bool) where
  pub made_count : length (ordered_by o live le).live ≡ length o.live
  made_count = length-map-range_with_len live 0 (length o.live)

  live_at : (a : ℕ) → a < length o.live → is_live (ordered_by o live le) a ≡ live a
  live_at a lt = get_or-map-range_with_len live 0 (length o.live) a a false lt (omega arith)

  row_at : (a : ℕ) → a < length o.live → row (ordered_by o live le).le a ≡ map (le a) (range_with_len 0 (length o.live))
  row_at a lt = get_or-map-range_with_len (λ b. map (le b) (range_with_len 0 (length o.live))) 0 (length o.live) a a [] lt (omega arith)

  le_at : (a b : ℕ) → a < length o.live → b < length o.live → is_le (ordered_by o live le) a b ≡ le a b
  le_at a b la lb = ap (λ r. bit r b) (row_at a la) ∙ get_or-map-range_with_len (le a) 0 (length o.live) b b false lb (omega arith)

  rows : length (ordered_by o live le).le ≡ length o.live
  rows = length-map-range_with_len (λ b. map (le b) (range_with_len 0 (length o.live))) 0 (length o.live)

  row_width : (a : ℕ) → a < length o.live → length (row (ordered_by o live le).le a) ≡ length o.live
  row_width a lt = ap length (row_at a lt) ∙ length-map-range_with_len (le a) 0 (length o.live)

  -- an order with these pairs is that one
  pub made_order : (new : Ordered) → IsPartialOrder new → length new.live ≡ length o.live → ((a : ℕ) → is_live new a ≡ live a)
      → ((a b : ℕ) → is_le new a b ≡ le a b) → new ≡ ordered_by o live le
  made_order new p n lives les =
      let l : new.live ≡ (ordered_by o live le).live = same_bits new.live (ordered_by o live le).live (n ∙ sym made_count) (λ i lt. lives i
      ∙ sym (live_at i (omega (arith, lt, n)))) in
      let r : new.le ≡ (ordered_by o live le).le =
      ext_get_or [] new.le (ordered_by o live le).le (p.count ∙ n ∙ sym rows)
      (λ k lt.
      let here : k < length o.live = omega (arith, lt, p.count, n) in
      same_bits (row new.le k) (row (ordered_by o live le).le k) (p.widths k lt ∙ n ∙ sym (row_width k here))
      (λ i il. les k i ∙ sym (le_at k i here (omega (arith, il, p.widths k lt, n))))) in
      let first : new ≡ record { live = (ordered_by o live le).live; le = new.le } = ap
      (λ (x : List Bool). let y : Ordered = record { live = x; le = new.le } in y) l in
      first ∙ ap (λ (x : List (List Bool)). let y : Ordered = record { live = (ordered_by o live le).live; le = x } in y) r

  -- its pairs, where no others are given
  module _ (live_below : (a : ℕ) → live a ≡ true → a < length o.live) (le_below : (a b : ℕ) → le a b ≡ true → (a < length o.live) × (b < length o.live)) where
    none_false : (x : Bool) → (x ≡ true → ⊥) → x ≡ false
    none_false x n = ⊎_elim (λ t. absurd (n t)) (λ f. f) (cases_Bool x)

    pub made_live : (a : ℕ) → is_live (ordered_by o live le) a ≡ live a
    made_live a =
        ⊎_elim (live_at a)
        (λ past.
        let past_live : is_live (ordered_by o live le) a ≡ false = get_or-eq_default (ordered_by o live le).live false {n = a}
        (omega (arith, past, made_count)) in
        past_live ∙ sym (none_false (live a) (λ t. let lt = live_below a t in absurd (omega (arith, lt, past)))))
        (cases_lt a (length o.live))

    pub made_le : (a b : ℕ) → is_le (ordered_by o live le) a b ≡ le a b
    made_le a b =
        ⊎_elim
        (λ la. ⊎_elim (le_at a b la)
        (λ past.
        let gone : is_le (ordered_by o live le) a b ≡ false = get_or-eq_default (row (ordered_by o live le).le a) false {n = b}
        (omega (arith, past, row_width a la)) in
        gone ∙ sym (none_false (le a b) (λ t. let lt = (le_below a b t).1 in absurd (omega (arith, lt, past)))))
        (cases_lt b (length o.live)))
        (λ past.
        let empty : row (ordered_by o live le).le a ≡ [] = get_or-eq_default (ordered_by o live le).le [] {n = a} (omega (arith, past, rows)) in
        ap (λ r. bit r b) empty ∙ sym (none_false (le a b) (λ t. let lt = (le_below a b t).0 in absurd (omega (arith, lt, past)))))
        (cases_lt a (length o.live))

    pub made_widths : HasWidth (length (ordered_by o live le).live) (ordered_by o live le).le
    made_widths k lt = row_width k (omega (arith, lt, rows)) ∙ sym made_count

    pub made_rows : length (ordered_by o live le).le ≡ length (ordered_by o live le).live
    made_rows = rows ∙ sym made_count
