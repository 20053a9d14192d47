-- Sets that have for each node those at or below it keep that where they grow.
use Rattle.std.proofs.Common.{◌≡◌, ◌≢◌, ◌⊎◌, inl, inr, ⊎_elim, ℕ, ◌+◌, ◌<◌, ◌≤◌, ◌==◌, Bool, true, false, ◌&&◌, ◌||◌, not, List, [], length, set, refl, sym, ap, ◌∙◌, subst, arith}
use Rattle.std.proofs.lemmas.Bool.{cases_Bool, cases_lt, cases_eq, eq-eqb, ne_eqb, or_right, false≢true}
use Rattle.std.proofs.lemmas.List.{get_or_past, get_or-set_same, get_or-set_other, length-set}
use Rattle.kaba_base.specs.declared.NodeId.{NodeId}
use Rattle.kaba_bits.specs.Sets.{bit, row, HasWidth, GainsRow, IsNoneFrom, IsLeastFrom}
use Rattle.kaba_bits.proofs.SetLemmas.{bit-below}
use Rattle.kaba_bits.proofs.RowLemmas.{HasWidth-kept, GainsRow-keeps, bit-row-below}
use Rattle.kaba_order.specs.Orders.{has_any, any_has}
use Rattle.kaba_order.specs.Lower.{AreLower, HaveGained}
use Rattle.kaba_order.proofs.MergeLemmas.{has_any_some}
use Rattle.kaba_order.proofs.MergeSteps.{any_has_among}

-- they cover the new rows, where each new pair is covered
pub lower_kept : (Q : ℕ → ℕ → Type 0) (le new lower later : List (List Bool)) → AreLower le lower → HaveGained Q lower later → length new ≡ length le
    → ((a b : ℕ) → bit (row new a) b ≡ true → (bit (row le a) b ≡ true) ⊎ Q a b) → AreLower new later
lower_kept Q le new lower later x g len came = record {
  len = g.size.len ∙ (x.len ∙ sym len);
  widths = subst (λ w. HasWidth w later) (x.len ∙ sym len) g.size.widths;
  covers = λ a b lt h. ⊎_elim
      (λ old. g.grows a b (x.covers a b (omega (arith, lt, len)) old))
      (λ q. g.added a b (omega (arith, lt, len, x.len)) q)
      (came a b h);
}

-- they cover rows that only lost
pub lower_less : (le new lower : List (List Bool)) → AreLower le lower → length new ≡ length le
    → ((a b : ℕ) → bit (row new a) b ≡ true → bit (row le a) b ≡ true) → AreLower new lower
lower_less le new lower x len less = record {
  len = x.len ∙ sym len;
  widths = subst (λ w. HasWidth w lower) (sym len) x.widths;
  covers = λ a b lt h. x.covers a b (omega (arith, lt, len)) (less a b h);
}

-- two steps
pub gained_next : (P Q R : ℕ → ℕ → Type 0) (old now new : List (List Bool)) → HaveGained Q old now → HaveGained R now new
    → ((a b : ℕ) → P a b → Q a b ⊎ R a b) → HaveGained P old new
gained_next P Q R old now new x y came = record {
  size = record {
    len = y.size.len ∙ x.size.len;
    widths = subst (λ w. HasWidth w new) x.size.len y.size.widths;
  };
  grows = λ a b h. y.grows a b (x.grows a b h);
  added = λ a b lt p. ⊎_elim (λ q. y.grows a b (x.added a b lt q)) (λ r. y.added a b (omega (arith, lt, x.size.len)) r) (came a b p);
}

-- a walk over the numbers of a set
abbrev pub below : ℕ → (ℕ → Type 0) → List Bool → ℕ → ℕ → Type 0
below at T above a b = (b < at) × T a × (bit above b ≡ true)

module _ (T : ℕ → Type 0) (above : List Bool) (at : ℕ) (old now : List (List Bool)) (x : HaveGained (below at T above) old now) where
  pub scan_next : (i : ℕ) (new : List (List Bool)) → IsLeastFrom (bit above) at i → HaveGained (λ a b. T a × (b ≡ i)) now new
      → HaveGained (below (i + 1) T above) old new
  scan_next i new next y = gained_next (below (i + 1) T above) (below at T above) (λ a b. T a × (b ≡ i)) old now new x y (λ a b p.
      ⊎_elim (λ e. inr (p.1, e)) (λ ne. ⊎_elim
      (λ lt. inl (lt, p.1, p.2))
      (λ ge. absurd (false≢true (sym (next.least b ge (omega (arith, p.0, ne))) ∙ p.2)))
      (cases_lt b at)) (cases_eq b i))

  pub scan_all : IsNoneFrom (bit above) at (length above) → HaveGained (λ a b. T a × (bit above b ≡ true)) old now
  scan_all none = record {
    size = x.size;
    grows = x.grows;
    added = λ a b lt p. x.added a b lt (⊎_elim
        (λ low. (low, p.0, p.1))
        (λ ge. absurd (false≢true (sym (none b ge (bit-below above b p.1)) ∙ p.1)))
        (cases_lt b at));
  }

-- a set that gains another
pub gained_row : (old new : List (List Bool)) (i : ℕ) (low : List Bool) → length new ≡ length old → ((k : ℕ) → length (row new k) ≡ length (row old k))
    → HasWidth (length old) old → GainsRow old new i low → HaveGained (λ a b. (bit low a ≡ true) × (b ≡ i)) old new
gained_row old new i low len same widths g = record {
  size = record { len = len; widths = HasWidth-kept (length old) old new len same widths };
  grows = λ a b h. GainsRow-keeps old new i low g b a h;
  added = λ a b lt p. subst (λ k. bit (row new k) a ≡ true) (sym p.1) (g.joined a ∙ or_right (bit (row old i) a) (bit low a) p.0);
}

-- a row is put in its place
pub put_lower : (le lower later : List (List Bool)) (k : ℕ) (r : List Bool) → AreLower le lower → HaveGained (λ a b. (a ≡ k) × (bit r b ≡ true)) lower later
    → AreLower (set le k r) later
put_lower le lower later k r x g = lower_kept (λ a b. (a ≡ k) × (bit r b ≡ true)) le (set le k r) lower later x g (length-set le k r) (λ a b h.
    ⊎_elim
    (λ e.
    let here : bit (row (set le k r) k) b ≡ true = subst (λ j. bit (row (set le k r) j) b ≡ true) e h in
    let lt : k < length le = omega (arith, bit-row-below (set le k r) k b here, length-set le k r) in
    inr (e, ap (λ s. bit s b) (sym (get_or-set_same le k r [] lt)) ∙ here))
    (λ ne. inl (ap (λ s. bit s b) (sym (get_or-set_other le k a r [] ne)) ∙ h))
    (cases_eq a k))

-- a row with some node of a list is in the set of one
pub lower_some : (le lower : List (List Bool)) (set : List NodeId) → AreLower le lower → HasWidth (length le) le → (k : ℕ) → has_any (row le k) set ≡ true
    → any_has lower set k ≡ true
lower_some le lower set x widths k h =
    let s = has_any_some (row le k) set h in
    any_has_among lower set s.0 k s.1
    (x.covers k s.0 (omega (arith, bit-below (row le k) s.0 s.2, widths k (bit-row-below le k s.0 s.2))) s.2)

-- a set of which the numbers below one are those that pass a test, and which has all others that do
pub record AreKept (p : ℕ → Bool) (at : ℕ) (low : List Bool) : Type 0 where
  pub done : (x : ℕ) → x < at → bit low x ≡ p x
  pub rest : (x : ℕ) → at ≤ x → p x ≡ true → bit low x ≡ true

module _ (p : ℕ → Bool) (at : ℕ) (low : List Bool) (k : AreKept p at low) where
  passed : (x : ℕ) → at ≤ x → bit low x ≡ false → bit low x ≡ p x
  passed x ge f = ⊎_elim (λ t. absurd (false≢true (sym f ∙ k.rest x ge t))) (λ e. f ∙ sym e) (cases_Bool (p x))

  pub kept_next : (i : ℕ) (new : List Bool) → IsLeastFrom (bit low) at i → ((x : ℕ) → bit new x ≡ (bit low x && (not (x == i) || p i)))
      → AreKept p (i + 1) new
  kept_next i new next bits = record {
    done = λ x lt. ⊎_elim
        (λ e. subst (λ j. bit new j ≡ p j) (sym e) (bits i ∙ rw (next.holds, eq-eqb i i refl) refl))
        (λ ne. other x ne ∙ ⊎_elim (λ b. k.done x b) (λ ge. passed x ge (next.least x ge (omega (arith, lt, ne)))) (cases_lt x at))
        (cases_eq x i);
    rest = λ x ge h. let from : at ≤ i = next.low in other x (λ e. omega (arith, e, ge)) ∙ k.rest x (omega (arith, from, ge)) h;
  }
    where
      and-true : (y : Bool) → (y && true) ≡ y
      and-true true = refl
      and-true false = refl

      other : (x : ℕ) → x ≢ i → bit new x ≡ bit low x
      other x ne = bits x ∙ rw (ne_eqb x i ne) (and-true (bit low x))

  pub kept_all : IsNoneFrom (bit low) at (length low) → (x : ℕ) → bit low x ≡ p x
  kept_all none x =
      ⊎_elim
      (λ b. k.done x b)
      (λ ge. passed x ge (⊎_elim (λ lt. none x ge lt) (λ past. get_or_past low x false past) (cases_lt x (length low))))
      (cases_lt x at)
