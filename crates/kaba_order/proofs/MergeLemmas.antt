use Rattle.std.proofs.Common.{◌≡◌, ◌⊎◌, inl, inr, ⊎_elim, ℕ, suc, ◌==◌, Bool, true, ◌&&◌, ◌||◌, not, List, [], ◌∷◌, length, refl, sym, ap, ◌∙◌, subst, arith, All}
use Rattle.std.proofs.lemmas.Bool.{cases_Bool, cond-true, cond-false, and_parts, and_from, or_cases, or_left, or_right, eqb-true, eq-eqb, false≢true}
use Rattle.kaba_base.specs.declared.NodeId.{NodeId}
use Rattle.kaba_bits.specs.Sets.{bit, row, HasWidth}
use Rattle.kaba_order.specs.Orders.{Ordered, is_le, is_live, IsPartialOrder, is_among, has_any, any_has, is_below_some, is_above_some, merged_to, stays, IsBetween, IsMerged, IsLeastMerged}
use Rattle.kaba_order.proofs.MergeSteps.{has_any_among, any_has_among}

-- a node of the list that a row has
pub has_any_some : (r : List Bool) (set : List NodeId) → has_any r set ≡ true → (s : ℕ) × (is_among set s ≡ true) × (bit r s ≡ true)
unfolding has_any
has_any_some r [] h = absurd (false≢true h)
has_any_some r (n ∷ set) h =
    ⊎_elim
    (λ here. (n.0, or_left (n.0 == n.0) (is_among set n.0) (eq-eqb n.0 n.0 refl), here))
    (λ later. let x = has_any_some r set later in (x.0, or_right (x.0 == n.0) (is_among set x.0) x.1, x.2))
    (or_cases (bit r n.0) (has_any r set) h)

pub any_has_some : (rows : List (List Bool)) (set : List NodeId) (b : ℕ) → any_has rows set b ≡ true → (s : ℕ) × (is_among set s ≡ true)
    × (bit (row rows s) b ≡ true)
unfolding any_has
any_has_some rows [] b h = absurd (false≢true h)
any_has_some rows (n ∷ set) b h =
    ⊎_elim
    (λ here. (n.0, or_left (n.0 == n.0) (is_among set n.0) (eq-eqb n.0 n.0 refl), here))
    (λ later. let x = any_has_some rows set b later in (x.0, or_right (x.0 == n.0) (is_among set x.0) x.1, x.2))
    (or_cases (bit (row rows n.0) b) (any_has rows set b) h)

-- what holds of each node of a list
pub among-All : (P : ℕ → Type 0) (set : List NodeId) → All (λ s. P s.0) set → (x : ℕ) → is_among set x ≡ true → P x
among-All P [] all x h = absurd (false≢true h)
among-All P (n ∷ set) all x h =
    ⊎_elim
    (λ e. subst P (sym (eqb-true x n.0 e)) (all 0 n (omega arith)))
    (λ later. among-All P set (λ k d lt. all (suc k) d (omega (arith, lt))) x later)
    (or_cases (x == n.0) (is_among set x) h)

pub stays-merged : (set : List NodeId) (m a : ℕ) → stays set m a ≡ true → merged_to set m a ≡ a
stays-merged set m a h =
    ⊎_elim
    (λ t. cond-true (is_among set a) m a t ∙ sym (eqb-true a m (sym (ap (λ x. not x || (a == m)) t) ∙ h)))
    (λ f. cond-false (is_among set a) m a f)
    (cases_Bool (is_among set a))

pub merged-stays : (set : List NodeId) (m a : ℕ) → merged_to set m a ≡ a → stays set m a ≡ true
merged-stays set m a e =
    ⊎_elim
    (λ t. ap (λ x. not x || (a == m)) t ∙ eq-eqb a m (sym e ∙ cond-true (is_among set a) m a t))
    (λ f. ap (λ x. not x || (a == m)) f)
    (cases_Bool (is_among set a))

module _ (old new : Ordered) (set : List NodeId) (m : ℕ) (o : IsPartialOrder old) (count : length new.le ≡ length new.live)
    (widths : HasWidth (length new.live) new.le) (n_count : length new.live ≡ length old.live) (n_live : (a : ℕ)
    → is_live new a ≡ (is_live old a && stays set m a)) (pairs : IsMerged old set m new)
    (has : is_among set m ≡ true) (live : (s : ℕ) → is_among set s ≡ true → is_live old s ≡ true) (none : (x : ℕ) → IsBetween old set x → ⊥) where
  abbrev Low : ℕ → Type 0
  Low a = (s : ℕ) × (is_among set s ≡ true) × (is_le old a s ≡ true)

  abbrev High : ℕ → Type 0
  High b = (t : ℕ) × (is_among set t ≡ true) × (is_le old t b ≡ true)

  convex : (s x t : ℕ) → is_among set s ≡ true → is_le old s x ≡ true → is_le old x t ≡ true → is_among set t ≡ true → is_among set x ≡ true
  convex s x t sm sx xt tm =
      ⊎_elim
      (λ y. y)
      (λ f. absurd (none x (record { outside = f; above = any_has_among old.le set s x sm sx; below = has_any_among (row old.le x) set t tm xt })))
      (cases_Bool (is_among set x))

  abbrev Came : ℕ → ℕ → Type 0
  Came a b = (is_le old a b ≡ true) ⊎ (Low a × High b)

  to_low : (a : ℕ) → is_below_some old set a ≡ true → Low a
  to_low a h = has_any_some (row old.le a) set h

  to_high : (b : ℕ) → is_above_some old set b ≡ true → High b
  to_high b h = any_has_some old.le set b h

  lives_in : (a : ℕ) → (is_live new a ≡ true) → (is_live old a ≡ true) × (merged_to set m a ≡ a)
  lives_in a h = let x = and_parts (is_live old a) (stays set m a) (sym (n_live a) ∙ h) in (x.0, stays-merged set m a x.1)

  lives_out : (a : ℕ) → is_live old a ≡ true → merged_to set m a ≡ a → is_live new a ≡ true
  lives_out a h e = n_live a ∙ and_from (is_live old a) (stays set m a) h (merged-stays set m a e)

  came_in : (a b : ℕ) → is_le new a b ≡ true → (is_live new a ≡ true) × (is_live new b ≡ true) × Came a b
  came_in a b h =
      let x = and_parts ((is_le old a b || (is_below_some old set a && is_above_some old set b)) && stays set m a) (stays set m b) (sym (pairs a b) ∙ h) in
      let y = and_parts (is_le old a b || (is_below_some old set a && is_above_some old set b)) (stays set m a) x.0 in
      let came : Came a b =
      ⊎_elim inl (λ k. let z = and_parts (is_below_some old set a) (is_above_some old set b) k in inr (to_low a z.0, to_high b z.1))
      (or_cases (is_le old a b) (is_below_some old set a && is_above_some old set b) y.0) in
      let la : is_live old a ≡ true = ⊎_elim (λ k. o.lower_lives a b k) (λ k. o.lower_lives a k.0.0 k.0.2) came in
      let lb : is_live old b ≡ true = ⊎_elim (λ k. o.upper_lives a b k) (λ k. o.upper_lives k.1.0 b k.1.2) came in
      (n_live a ∙ and_from (is_live old a) (stays set m a) la y.1, n_live b ∙ and_from (is_live old b) (stays set m b) lb x.1, came)

  came_out : (a b : ℕ) → is_live new a ≡ true → is_live new b ≡ true → Came a b → is_le new a b ≡ true
  came_out a b la lb came =
      let sa = (and_parts (is_live old a) (stays set m a) (sym (n_live a) ∙ la)).1 in
      let sb = (and_parts (is_live old b) (stays set m b) (sym (n_live b) ∙ lb)).1 in
      let pair =
      ⊎_elim
      (λ k. or_left (is_le old a b) (is_below_some old set a && is_above_some old set b) k)
      (λ k. or_right (is_le old a b) (is_below_some old set a && is_above_some old set b)
      (and_from (is_below_some old set a) (is_above_some old set b) (has_any_among (row old.le a) set k.0.0 k.0.1 k.0.2)
      (any_has_among old.le set k.1.0 b k.1.1 k.1.2)))
      came in
      pairs a b ∙ and_from ((is_le old a b || (is_below_some old set a && is_above_some old set b)) && stays set m a) (stays set m b)
      (and_from (is_le old a b || (is_below_some old set a && is_above_some old set b)) (stays set m a) pair sa) sb

  low_under : (a b : ℕ) → is_le old a b ≡ true → Low b → Low a
  low_under a b h l = (l.0, l.1, o.transitive a b l.0 h l.2)

  high_over : (a b : ℕ) → is_le old a b ≡ true → High a → High b
  high_over a b h l = (l.0, l.1, o.transitive l.0 a b l.2 h)

  -- a node that is at or below the set and at or above it is the one that stays
  kept_one : (a : ℕ) → is_live new a ≡ true → Low a → High a → a ≡ m
  kept_one a l low high = sym (lives_in a l).1 ∙ cond-true (is_among set a) m a (convex high.0 a low.0 high.1 high.2 low.2 low.1)

  anti : (a b : ℕ) → is_live new a ≡ true → is_live new b ≡ true → Came a b → Came b a → a ≡ b
  anti a b la lb (inl x) (inl y) = o.antisymmetric a b x y
  anti a b la lb (inl x) (inr y) = kept_one a la (low_under a b x y.0) y.1 ∙ sym (kept_one b lb y.0 (high_over a b x y.1))
  anti a b la lb (inr x) (inl y) = kept_one a la x.0 (high_over b a y x.1) ∙ sym (kept_one b lb (low_under b a y x.0) x.1)
  anti a b la lb (inr x) (inr y) = kept_one a la x.0 y.1 ∙ sym (kept_one b lb y.0 x.1)

  trans : (a b c : ℕ) → Came a b → Came b c → Came a c
  trans a b c (inl x) (inl y) = inl (o.transitive a b c x y)
  trans a b c (inl x) (inr y) = inr (low_under a b x y.0, y.1)
  trans a b c (inr x) (inl y) = inr (x.0, high_over b c y x.1)
  trans a b c (inr x) (inr y) = inr (x.0, y.1)

  new_order : IsPartialOrder new
  new_order = record {
    count = count;
    widths = widths;
    lower_lives = λ a b h. (came_in a b h).0;
    upper_lives = λ a b h. (came_in a b h).1;
    reflexive = λ a h. came_out a a h h (inl (o.reflexive a (lives_in a h).0));
    antisymmetric = λ a b h k. let x = came_in a b h in anti a b x.0 x.1 x.2 (came_in b a k).2;
    transitive = λ a b c h k. let x = came_in a b h in let y = came_in b c k in came_out a c x.0 y.1 (trans a b c x.2 y.2);
  }

  to_live : (a : ℕ) → is_live old a ≡ true → is_live new (merged_to set m a) ≡ true
  to_live a h =
      ⊎_elim
      (λ t. subst (λ x. is_live new x ≡ true) (sym (cond-true (is_among set a) m a t)) (lives_out m (live m has) (cond-true (is_among set m) m m has)))
      (λ f. subst (λ x. is_live new x ≡ true) (sym (cond-false (is_among set a) m a f)) (lives_out a h (cond-false (is_among set a) m a f)))
      (cases_Bool (is_among set a))

  -- where the ends went
  to_came : (a b : ℕ) → is_le old a b ≡ true → Came (merged_to set m a) (merged_to set m b)
  to_came a b h =
      ⊎_elim
      (λ t. ⊎_elim
      (λ v. subst (λ x. Came x (merged_to set m b)) (sym (cond-true (is_among set a) m a t)) (subst (Came m) (sym (cond-true (is_among set b) m b v))
      (inl (o.reflexive m (live m has)))))
      (λ g. subst (λ x. Came x (merged_to set m b)) (sym (cond-true (is_among set a) m a t)) (subst (Came m) (sym (cond-false (is_among set b) m b g))
      (inr ((m, has, o.reflexive m (live m has)), (a, t, h)))))
      (cases_Bool (is_among set b)))
      (λ f. ⊎_elim
      (λ v. subst (λ x. Came x (merged_to set m b)) (sym (cond-false (is_among set a) m a f)) (subst (Came a) (sym (cond-true (is_among set b) m b v))
      (inr ((b, v, h), (m, has, o.reflexive m (live m has))))))
      (λ g. subst (λ x. Came x (merged_to set m b)) (sym (cond-false (is_among set a) m a f))
      (subst (Came a) (sym (cond-false (is_among set b) m b g)) (inl h)))
      (cases_Bool (is_among set b)))
      (cases_Bool (is_among set a))

  pub least_merged : IsLeastMerged old set m new
  least_merged = record {
    order = new_order;
    count = n_count;
    live = n_live;
    holds = λ a b h. came_out (merged_to set m a) (merged_to set m b) (to_live a (o.lower_lives a b h)) (to_live b (o.upper_lives a b h)) (to_came a b h);
    least = λ other q keeps a b h.
        let x = came_in a b h in
        let ea = (lives_in a x.0).1 in
        let eb = (lives_in b x.1).1 in
        ⊎_elim
        (λ k. subst (λ y. is_le other y b ≡ true) ea (subst (λ y. is_le other (merged_to set m a) y ≡ true) eb (keeps a b k)))
        (λ k.
        let p = subst (λ y. is_le other y m ≡ true) ea (subst (λ y. is_le other (merged_to set m a) y ≡ true)
        (cond-true (is_among set k.0.0) m k.0.0 k.0.1) (keeps a k.0.0 k.0.2)) in
        let r = subst (λ y. is_le other m y ≡ true) eb (subst (λ y. is_le other y (merged_to set m b) ≡ true)
        (cond-true (is_among set k.1.0) m k.1.0 k.1.1) (keeps k.1.0 b k.1.2)) in
        q.transitive a m b p r)
        x.2;
  }
