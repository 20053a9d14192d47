-- The number of pairs of nodes that are not ordered falls where two of them become one, or one is put below another.
use Rattle.std.proofs.Common.{◌≡◌, ℕ, zero, suc, ◌+◌, ◌<◌, ◌≤◌, ⊎_elim, ◌==◌, ◌&&◌, ◌||◌, not, Bool, true, false, List, length, refl, sym, ap, ◌∙◌, subst, arith, eqb-true}
use Rattle.std.proofs.lemmas.Bool.{cases_eq, false≢true, and_parts, and_from, not-true, or_left, or_right, false_from_ne_true, and_right}
use Rattle.kaba_base.specs.declared.NodeId.{NodeId}
use Rattle.kaba_bits.specs.Sets.{bit}
use Rattle.kaba_bits.proofs.SetLemmas.{bit-below}
use Rattle.kaba_order.specs.Orders.{Ordered, is_le, is_live, is_among, is_below_some, is_above_some, stays, IsPartialOrder, IsBetween, IsLeastMerged}
use Rattle.hier_model.specs.Edits.{under_order, merged_order}
use Rattle.hier_model.proofs.OrderedLemmas.{made_le}
use Rattle.hier_model.proofs.EditedOrders.{under_pairs, under_live, merged_le, merged_live, merged_below, merged_made}
use Rattle.tree_merge.specs.Attempts.{sum_below, one_if, is_apart, unordered}

sum_le : (n : ℕ) (f g : ℕ → ℕ) → ((k : ℕ) → f k ≤ g k) → sum_below n f ≤ sum_below n g
sum_le zero f g h = omega arith
sum_le (suc n) f g h =
    let both : sum_below n f + f n ≤ sum_below n g + g n = omega (arith, sum_le n f g h, h n) in both

sum_lt : (n : ℕ) (f g : ℕ → ℕ) (k : ℕ) → k < n → ((j : ℕ) → f j ≤ g j) → f k < g k → sum_below n f < sum_below n g
sum_lt zero f g k lt h s = absurd (omega (arith, lt))
sum_lt (suc n) f g k lt h s =
    let both : sum_below n f + f n < sum_below n g + g n =
    ⊎_elim
    (λ e. let here : f n < g n = subst (λ j. f j < g j) e s in omega (arith, sum_le n f g h, here))
    (λ ne. let below : k < n = omega (arith, lt, ne) in omega (arith, sum_lt n f g k below h s, h n))
    (cases_eq k n) in both

one_le : (b c : Bool) → (b ≡ true → c ≡ true) → one_if b ≤ one_if c
one_le false c h = omega arith
one_le true c h = rw (h refl) (omega arith)

one_lt : (b c : Bool) → b ≡ false → c ≡ true → one_if b < one_if c
one_lt b c e f = rw (e, f) (omega arith)

fewer : (old new : Ordered) → length new.live ≡ length old.live → ((a b : ℕ) → is_apart new a b ≡ true → is_apart old a b ≡ true) → (x y : ℕ)
    → is_apart old x y ≡ true → is_apart new x y ≡ false → unordered new < unordered old
fewer old new len only x y was is =
    let N = length old.live in
    let lives = and_parts (is_live old x && is_live old y) (not (is_le old x y)) was in
    let both = and_parts (is_live old x) (is_live old y) lives.0 in
    let each : (a b : ℕ) → one_if (is_apart new a b) ≤ one_if (is_apart old a b) = λ a b. one_le (is_apart new a b) (is_apart old a b) (only a b) in
    let row_lt = sum_lt N (λ b. one_if (is_apart new x b)) (λ b. one_if (is_apart old x b)) y (bit-below old.live y both.1) (each x)
    (one_lt (is_apart new x y) (is_apart old x y) is was) in
    let less =
    sum_lt N (λ a. sum_below N (λ b. one_if (is_apart new a b))) (λ a. sum_below N (λ b. one_if (is_apart old a b))) x (bit-below old.live x both.0)
    (λ a. sum_le N (λ b. one_if (is_apart new a b)) (λ b. one_if (is_apart old a b)) (each a)) row_lt in
    subst (λ M. sum_below M (λ a. sum_below M (λ b. one_if (is_apart new a b))) < unordered old) (sym len) less

module _ (o : Ordered) (p : IsPartialOrder o) where
  was_apart : (new : Ordered) → ((a : ℕ) → is_live new a ≡ true → is_live o a ≡ true)
      → ((a b : ℕ) → is_live new a ≡ true → is_live new b ≡ true → is_le o a b ≡ true → is_le new a b ≡ true)
      → (a b : ℕ) → is_apart new a b ≡ true → is_apart o a b ≡ true
  was_apart new lives holds a b h =
      let x = and_parts (is_live new a && is_live new b) (not (is_le new a b)) h in
      let y = and_parts (is_live new a) (is_live new b) x.0 in
      let apart : is_le o a b ≡ false = false_from_ne_true (is_le o a b) (λ t. false≢true (sym (not-true (is_le new a b) x.1) ∙ holds a b y.0 y.1 t)) in
      and_from (is_live o a && is_live o b) (not (is_le o a b)) (and_from (is_live o a) (is_live o b) (lives a y.0) (lives b y.1)) (ap not apart)

  apart_from : (x y : ℕ) → is_live o x ≡ true → is_live o y ≡ true → is_le o x y ≡ false → is_apart o x y ≡ true
  apart_from x y lx ly apart = and_from (is_live o x && is_live o y) (not (is_le o x y)) (and_from (is_live o x) (is_live o y) lx ly) (ap not apart)

  pub under_fewer : (l h : ℕ) → is_live o l ≡ true → is_live o h ≡ true → is_le o l h ≡ false → unordered (under_order o l h) < unordered o
  under_fewer l h ll lh apart =
      let new = under_order o l h in
      let pair : is_le new l h ≡ true =
      under_pairs o p l h l h ∙ or_right (is_le o l h) (is_le o l l && is_le o h h)
      (and_from (is_le o l l) (is_le o h h) (p.reflexive l ll) (p.reflexive h lh)) in
      fewer o new (ap length (under_live o p l h))
      (was_apart new (λ a e. sym (ap (λ v. bit v a) (under_live o p l h)) ∙ e)
      (λ a b la lb e. under_pairs o p l h a b ∙ or_left (is_le o a b) (is_le o a l && is_le o h b) e))
      l h (apart_from l h ll lh apart) (and_right (is_live new l && is_live new h) (not (is_le new l h)) (ap not pair))

  module _ (set : List NodeId) (m : ℕ) (has : is_among set m ≡ true) (live : (s : ℕ) → is_among set s ≡ true → is_live o s ≡ true)
      (none : (x : ℕ) → IsBetween o set x → ⊥) where
    made : IsLeastMerged o set m (merged_order o set m)
    made = merged_made o p set m has live none

    stays_is : (x : ℕ) → is_among set x ≡ true → stays set m x ≡ true → x ≡ m
    stays_is x among h = let e : (not true || (x == m)) ≡ true = subst (λ b. (not b || (x == m)) ≡ true) among h in eqb-true x m e

    pub merged_fewer : (x y : ℕ) → is_among set x ≡ true → is_among set y ≡ true → is_le o x y ≡ false
        → unordered (merged_order o set m) < unordered o
    merged_fewer x y ax ay apart =
        let new = merged_order o set m in
        let parts : (a : ℕ) → is_live new a ≡ true → (is_live o a ≡ true) × (stays set m a ≡ true) =
        λ a e. and_parts (is_live o a) (stays set m a) (sym (made.live a) ∙ e) in
        let pairs = made_le o (λ x. is_live o x && stays set m x) (merged_le o p set m) (merged_live o p set m) (merged_below o p set m) in
        let same : is_live new x ≡ true → is_live new y ≡ true → x ≡ y = λ ex ey. stays_is x ax (parts x ex).1 ∙ sym (stays_is y ay (parts y ey).1) in
        fewer o new made.count
        (was_apart new (λ a e. (parts a e).0)
        (λ a b la lb e.
        let pair = is_le o a b || (is_below_some o set a && is_above_some o set b) in
        pairs a b
        ∙ and_from (pair && stays set m a) (stays set m b)
        (and_from pair (stays set m a) (or_left (is_le o a b) (is_below_some o set a && is_above_some o set b) e) (parts a la).1) (parts b lb).1))
        x y (apart_from x y (live x ax) (live y ay) apart)
        (false_from_ne_true (is_apart new x y) (λ t.
        let u = and_parts (is_live new x && is_live new y) (not (is_le new x y)) t in
        let v = and_parts (is_live new x) (is_live new y) u.0 in
        false≢true (sym apart ∙ subst (λ z. is_le o x z ≡ true) (same v.0 v.1) (p.reflexive x (live x ax)))))
