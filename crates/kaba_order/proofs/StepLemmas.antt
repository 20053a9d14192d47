use Rattle.std.proofs.Common.{◌≡◌, ◌⊎◌, inl, inr, ⊎_elim, ℕ, ◌==◌, ◌<◌, Bool, true, false, ◌&&◌, not, List, length, take, drop, ◌++◌, refl, sym, ap, ◌∙◌, subst, arith, set}
use Rattle.std.specs.declared.vec.Vec.{Vec}
use Rattle.std.specs.declared.alloc.Global.{Global}
use Rattle.std.proofs.lemmas.List.{with_items_is}
use Rattle.std.proofs.lemmas.Bool.{eqb-true, eq-eqb, or_cases, or_left, or_right, and_parts, and_from}
use Rattle.std.proofs.lemmas.Grind.{common_steps}
use Rattle.kaba_bits.specs.Sets.{bit, HasWidth}
use Rattle.kaba_bits.proofs.SetLemmas.{bit-below}
use Rattle.kaba_bits.proofs.RowLemmas.{bit-row-below}
use Rattle.kaba_order.specs.Lower.{AreLower, IsStored}
use Rattle.kaba_order.specs.Orders.{Ordered, is_le, is_live, IsPartialOrder, IsUnder, IsLeastWith, IsDropped}
use Rattle.kaba_order.proofs.LowerLemmas.{lower_less}

-- a set that lost a number
pub dropped_live : (old new : List Bool) (n : ℕ) → new ≡ set old n false → (a : ℕ) → bit new a ≡ (bit old a && not (a == n))
dropped_live old new n e a = grind (arith, common_steps, e)

-- what is left where a node was taken out
module _ (old new : Ordered) (n : ℕ) (o : IsPartialOrder old) (count : length new.le ≡ length new.live) (widths : HasWidth (length new.live) new.le)
    (d : IsDropped old n new) where
  left : (a b : ℕ) → is_le new a b ≡ true → (is_le old a b ≡ true) × (not (a == n) ≡ true) × (not (b == n) ≡ true)
  left a b h =
      let x = and_parts (is_le old a b && not (a == n)) (not (b == n)) (sym (d.le a b) ∙ h) in
      let y = and_parts (is_le old a b) (not (a == n)) x.0 in
      (y.0, y.1, x.1)

  kept : (a b : ℕ) → is_le old a b ≡ true → not (a == n) ≡ true → not (b == n) ≡ true → is_le new a b ≡ true
  kept a b h x y = d.le a b ∙ and_from (is_le old a b && not (a == n)) (not (b == n)) (and_from (is_le old a b) (not (a == n)) h x) y

  lives_on : (a : ℕ) → is_live old a ≡ true → not (a == n) ≡ true → is_live new a ≡ true
  lives_on a h x = d.live a ∙ and_from (is_live old a) (not (a == n)) h x

  pub dropped_order : IsPartialOrder new
  dropped_order = record {
    count = count;
    widths = widths;
    lower_lives = λ a b h. let x = left a b h in lives_on a (o.lower_lives a b x.0) x.1;
    upper_lives = λ a b h. let x = left a b h in lives_on b (o.upper_lives a b x.0) x.2;
    reflexive = λ a h. let x = and_parts (is_live old a) (not (a == n)) (sym (d.live a) ∙ h) in kept a a (o.reflexive a x.0) x.1 x.1;
    antisymmetric = λ a b h k. o.antisymmetric a b (left a b h).0 (left b a k).0;
    transitive = λ a b c h k. let x = left a b h in let y = left b c k in kept a c (o.transitive a b c x.0 y.0) x.1 y.2;
  }

  pub dropped_stored : (lower : List (List Bool)) → AreLower old.le lower → IsStored new lower
  dropped_stored lower x = record {
    order = dropped_order;
    hints = lower_less old.le new.le lower x (count ∙ (d.count ∙ sym o.count)) (λ a b h. (left a b h).0);
  }

-- what a new pair leads to
module _ (old new : Ordered) (n p : ℕ) (o : IsPartialOrder old) (count : length new.le ≡ length new.live) (widths : HasWidth (length new.live) new.le)
    (same_live : new.live ≡ old.live) (u : IsUnder old n p new) (n_lives : is_live old n ≡ true) (p_lives : is_live old p ≡ true)
    (apart : is_le old p n ≡ true → p ≡ n) where
  -- each new pair is an old one, or leads through the new one
  came : (a b : ℕ) → is_le new a b ≡ true → (is_le old a b ≡ true) ⊎ ((is_le old a n ≡ true) × (is_le old p b ≡ true))
  came a b h = ⊎_elim inl (λ k. inr (and_parts (is_le old a n) (is_le old p b) k)) (or_cases (is_le old a b) (is_le old a n && is_le old p b) (sym (u a b) ∙ h))

  from_old : (a b : ℕ) → is_le old a b ≡ true → is_le new a b ≡ true
  from_old a b h = u a b ∙ or_left (is_le old a b) (is_le old a n && is_le old p b) h

  through : (a b : ℕ) → is_le old a n ≡ true → is_le old p b ≡ true → is_le new a b ≡ true
  through a b h k = u a b ∙ or_right (is_le old a b) (is_le old a n && is_le old p b) (and_from (is_le old a n) (is_le old p b) h k)

  lives : (a : ℕ) → is_live old a ≡ true → is_live new a ≡ true
  lives a h = subst (λ l. bit l a ≡ true) (sym same_live) h

  -- p ≤ n only where they are one
  meets_both : (a b : ℕ) → is_le old a n ≡ true → is_le old p b ≡ true → is_le old b a ≡ true → a ≡ b
  meets_both a b an pb ba =
      let pn = o.transitive p b n pb (o.transitive b a n ba an) in
      let e = apart pn in
      o.antisymmetric a b (o.transitive a n b an (subst (λ q. is_le old q b ≡ true) e pb)) ba

  new_order : IsPartialOrder new
  new_order = record {
    count = count;
    widths = widths;
    lower_lives = λ a b h. lives a (⊎_elim (λ k. o.lower_lives a b k) (λ k. o.lower_lives a n k.0) (came a b h));
    upper_lives = λ a b h. lives b (⊎_elim (λ k. o.upper_lives a b k) (λ k. o.upper_lives p b k.1) (came a b h));
    reflexive = λ a h. from_old a a (o.reflexive a (subst (λ l. bit l a ≡ true) same_live h));
    antisymmetric = λ a b h k.
        ⊎_elim
        (λ x. ⊎_elim (λ y. o.antisymmetric a b x y) (λ y. sym (meets_both b a y.0 y.1 x)) (came b a k))
        (λ x. ⊎_elim (λ y. meets_both a b x.0 x.1 y) (λ y.
        let pn = o.transitive p b n x.1 y.0 in
        let e = apart pn in
        o.antisymmetric a b (o.transitive a n b x.0 (subst (λ q. is_le old q b ≡ true) e x.1))
        (o.transitive b n a y.0 (subst (λ q. is_le old q a ≡ true) e y.1))) (came b a k))
        (came a b h);
    transitive = λ a b c h k.
        ⊎_elim
        (λ x. ⊎_elim (λ y. from_old a c (o.transitive a b c x y)) (λ y. through a c (o.transitive a b n x y.0) y.1) (came b c k))
        (λ x. ⊎_elim (λ y. through a c x.0 (o.transitive p b c x.1 y)) (λ y. through a c x.0 y.1) (came b c k))
        (came a b h);
  }

  pub least_under : IsLeastWith old n p new
  least_under = record {
    order = new_order;
    live = same_live;
    holds = from_old;
    pair = through n p (o.reflexive n n_lives) (o.reflexive p p_lives);
    least = λ other q within pair a b h.
        ⊎_elim (λ x. within a b x) (λ x. q.transitive a n b (within a n x.0) (q.transitive n p b pair (within p b x.1))) (came a b h);
  }

-- each node is related to itself alone
module _ (o : Ordered) (count : length o.le ≡ length o.live) (widths : HasWidth (length o.live) o.le) (pairs : (a b : ℕ) → a < length o.live
    → is_le o a b ≡ (a == b)) (full : (a : ℕ) → a < length o.live → is_live o a ≡ true) where
  within : (a b : ℕ) → is_le o a b ≡ true → a < length o.live
  within a b h = subst (λ n. a < n) count (bit-row-below o.le a b h)

  one : (a b : ℕ) → is_le o a b ≡ true → a ≡ b
  one a b h = eqb-true a b (sym (pairs a b (within a b h)) ∙ h)

  pub discrete_order : IsPartialOrder o
  discrete_order = record {
    count = count;
    widths = widths;
    lower_lives = λ a b h. full a (within a b h);
    upper_lives = λ a b h. subst (λ x. is_live o x ≡ true) (one a b h) (full a (within a b h));
    reflexive = λ a h. pairs a a (bit-below o.live a h) ∙ eq-eqb a a refl;
    antisymmetric = λ a b h k. one a b h;
    transitive = λ a b c h k. subst (λ x. is_le o a x ≡ true) (one b c k) h;
  }

  -- its rows are those sets themselves
  pub discrete_stored : IsStored o o.le
  discrete_stored = record {
    order = discrete_order;
    hints = record {
      len = refl;
      widths = subst (λ w. HasWidth w o.le) (sym count) widths;
      covers = λ a b lt h.
          let e = one a b h in
          subst (λ x. is_le o b x ≡ true) (sym e) (subst (λ x. is_le o x b ≡ true) e h);
    };
  }

-- an order by its nodes and its rows
abbrev pub ordered : List Bool → List (List Bool) → Ordered
ordered live le = record { live = live; le = le }

-- rows that are written into a `Vec` of as many
pub stored : (live : List Bool) (v : Vec (List Bool) Global) {old new : List (List Bool)} → length new ≡ length old → old ≡ v.items
    → ordered live new ≡ ordered live (take v.len (new ++ drop (length new) v.items))
stored live v {new = new} len is = ap (ordered live) (sym (with_items_is v new (len ∙ (ap length is ∙ sym v.ok.0))))

-- such an order with the sets that cover it, both written so
pub stored_both : (live : List Bool) (v w : Vec (List Bool) Global) (old new later : List (List Bool)) → length new ≡ length old → old ≡ v.items
    → AreLower v.items w.items → IsPartialOrder (ordered live new) → AreLower new later
    → IsStored (ordered live (take v.len (new ++ drop (length new) v.items))) (take w.len (later ++ drop (length later) w.items))
stored_both live v w old new later len is x order lower =
    let fits : length later ≡ w.len = lower.len ∙ (len ∙ (ap length is ∙ (sym x.len ∙ sym w.ok.0))) in
    let here : IsStored (ordered live new) later = record { order = order; hints = lower } in
    subst (λ l. IsStored (ordered live (take v.len (new ++ drop (length new) v.items))) l) (sym (with_items_is w later fits))
    (subst (λ o. IsStored o later) (stored live v len is) here)
