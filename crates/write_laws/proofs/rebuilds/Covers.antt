-- The named supertypes give the whole order.
use Rattle.std.proofs.Common.{◌≡◌, ◌≢◌, ◌⊎◌, inl, inr, ⊎_elim, ℕ, zero, suc, ◌+◌, ◌<◌, ◌≤◌, Bool, true, false, not, ◌&&◌, cond, refl, sym, ap, ◌∙◌, subst, arith}
use Rattle.std.proofs.lemmas.Bool.{cases_Bool, cases_eq}
use Rattle.write_laws.specs.rebuilds.Supertypes.{IsOrder, IsCoverBy, IsLowestClass, NamesSupertypes, extends, implements, Subtype, itself, by_name}

pub count : ℕ → (ℕ → Bool) → ℕ
count zero p = 0
count (suc n) p = cond (p n) 1 0 + count n p

true_false : {A : Type 0} → true ≡ false → A
true_false e = absurd (cc e)

one_le : (a b : Bool) → (a ≡ true → b ≡ true) → cond a 1 0 ≤ cond b 1 0
one_le true true k = omega arith
one_le true false k = true_false (sym (k refl))
one_le false true k = omega arith
one_le false false k = omega arith

count_le : (n : ℕ) (p q : ℕ → Bool) → ((x : ℕ) → p x ≡ true → q x ≡ true) → count n p ≤ count n q
unfolding count
count_le zero p q k = omega arith
count_le (suc n) p q k = let r = count_le n p q k in let s = one_le (p n) (q n) (k n) in omega (arith, r, s)

count_less : (n : ℕ) (p q : ℕ → Bool) (x : ℕ) → ((y : ℕ) → p y ≡ true → q y ≡ true) → x < n → p x ≡ false → q x ≡ true → count n p < count n q
unfolding count
count_less zero p q x k l a b = absurd (omega (arith, l))
count_less (suc n) p q x k l a b =
    ⊎_elim
    (λ e. let s : ◌≡◌ {A = ℕ} (cond (p n) 1 0) 0 = ap (λ o. cond o 1 0) (subst (λ y. p y ≡ false) e a) in let t : ◌≡◌ {A = ℕ} (cond (q n) 1 0) 1 = ap
    (λ o. cond o 1 0) (subst (λ y. q y ≡ true) e b) in let r = count_le n p q k in omega (arith, r, s, t))
    (λ ne. let r = count_less n p q x k (omega (arith, l, ne)) a b in let s = one_le (p n) (q n) (k n) in omega (arith, r, s))
    (cases_eq x n)

search_below : (n : ℕ) (p : ℕ → Bool) → ((x : ℕ) → x < n → p x ≡ false) ⊎ ((x : ℕ) × (p x ≡ true))
search_below zero p = inl (λ x l. absurd (omega (arith, l)))
search_below (suc n) p =
    ⊎_elim
    (λ none. ⊎_elim (λ y. inr (n, y)) (λ y. inl (λ x l. ⊎_elim (λ e. subst (λ w. p w ≡ false) (sym e) y) (λ ne. none x (omega (arith, l, ne)))
    (cases_eq x n))) (cases_Bool (p n)))
    (λ some. inr some)
    (search_below n p)

module _ (n : ℕ) (le : ℕ → ℕ → Bool) (O : IsOrder n le) where
  between : ℕ → ℕ → ℕ → Bool
  between a b x = le a x && (le x b && (not (le x a) && not (le b x)))

  between_is : (a b x : ℕ) → between a b x ≡ true → (le a x ≡ true) × (le x b ≡ true) × (le x a ≡ false) × (le b x ≡ false)
  unfolding between
  between_is a b x k = parts (le a x) (le x b) (le x a) (le b x) k
    where
      parts : (p q r s : Bool) → (p && (q && (not r && not s))) ≡ true → (p ≡ true) × (q ≡ true) × (r ≡ false) × (s ≡ false)
      parts true true false false k = (refl, refl, refl, refl)
      parts true true false true k = true_false (sym k)
      parts true true true s k = true_false (sym k)
      parts true false r s k = true_false (sym k)
      parts false q r s k = true_false (sym k)

  between_by : (a b x : ℕ) → le a x ≡ true → le x b ≡ true → le x a ≡ false → le b x ≡ false → between a b x ≡ true
  unfolding between
  between_by a b x p q r s = rw (p, q, r, s) refl

  strict : (a b : ℕ) → le a b ≡ true → a ≢ b → le b a ≡ false
  strict a b k ne = ⊎_elim (λ x. absurd (ne (O.both a b k x))) (λ x. x) (cases_Bool (le b a))

  not_itself : (a x : ℕ) → between a x x ≡ false
  not_itself a x = ⊎_elim (λ k. let p = between_is a x x k in true_false (sym (O.same_upper a x p.0) ∙ p.3)) (λ k. k) (cases_Bool (between a x x))

  smaller : (a b x : ℕ) → between a b x ≡ true → count n (between a x) < count n (between a b)
  smaller a b x y =
      let p = between_is a b x y in
      count_less n (between a x) (between a b) x
      (λ z w. let q = between_is a x z w in between_by a b z q.0 (O.through z x b q.1 p.1) q.2
      (⊎_elim (λ v. true_false (sym (O.through b z x v q.1) ∙ p.3)) (λ v. v) (cases_Bool (le b z))))
      (O.upper a x p.0) (not_itself a x) y

  ends : (a b x : ℕ) → between a b x ≡ false → le a x ≡ true → le x b ≡ true → (x ≡ a) ⊎ (x ≡ b)
  ends a b x k p q =
      ⊎_elim (λ e. inl e) (λ na. ⊎_elim (λ e. inr e) (λ nb. true_false (sym (between_by a b x p q (strict a x p (λ e. na (sym e))) (strict x b q nb)) ∙ k))
      (cases_eq x b)) (cases_eq x a)

  -- a node strictly below another has a cover that is at or below the other
  covered : (k a b : ℕ) → count n (between a b) < k → le a b ≡ true → a ≢ b → (c : ℕ) × IsCoverBy le a c × (le c b ≡ true)
  covered zero a b l u ne = absurd (omega (arith, l))
  covered (suc k) a b l u ne =
      ⊎_elim
      (λ none. (b, record { above = u; other = ne; next = λ x p q. ends a b x (none x (O.upper a x p)) p q }, O.same_upper a b u))
      (λ some.
      let x = some.0 in
      let p = between_is a b x some.1 in
      let less : count n (between a x) < count n (between a b) = smaller a b x some.1 in
      let r = covered k a x (omega (arith, l, less)) p.0 (λ e. true_false (sym (O.same_lower a b u) ∙ subst (λ w. le w a ≡ false) (sym e) p.2)) in
      (r.0, r.1, O.through r.0 x b r.2 p.1))
      (search_below n (between a b))

  above_less : (a c : ℕ) → le a c ≡ true → a ≢ c → count n (le c) < count n (le a)
  above_less a c u ne = count_less n (le c) (le a) a (λ y k. O.through a c y u k) (O.lower a c u) (strict a c u ne) (O.same_lower a c u)

  module _ (is_class : ℕ → Bool) (down : (a b : ℕ) → le a b ≡ true → is_class b ≡ true → is_class a ≡ true)
      (chain : (m a b : ℕ) → is_class a ≡ true → is_class b ≡ true → le m a ≡ true → le m b ≡ true → (le a b ≡ true) ⊎ (le b a ≡ true)) where
    -- a cover that is a class is the lowest class above
    cover_lowest : (a c : ℕ) → IsCoverBy le a c → is_class c ≡ true → IsLowestClass le is_class a c
    cover_lowest a c k h = record {
      class = h;
      above = k.above;
      other = k.other;
      lowest = λ x hx ax nx. ⊎_elim (λ y. y) (λ y. ⊎_elim (λ e. absurd (nx (sym e))) (λ e. subst (λ w. le c w ≡ true) (sym e) (O.same_upper a c k.above))
          (k.next x ax y)) (chain a c x h hx k.above ax);
    }

    named : (a c : ℕ) → IsCoverBy le a c → NamesSupertypes le is_class a c
    named a c k = ⊎_elim (λ h. extends (down a c k.above h) (cover_lowest a c k h)) (λ h. implements h k) (cases_Bool (is_class c))

    pub subtype_of_le : (k a b : ℕ) → count n (le a) < k → le a b ≡ true → Subtype le is_class a b
    subtype_of_le zero a b l u = absurd (omega (arith, l))
    subtype_of_le (suc k) a b l u =
        ⊎_elim
        (λ e. subst (λ w. Subtype le is_class a w) e itself)
        (λ ne.
        let c = covered (suc (count n (between a b))) a b (omega arith) u ne in
        let less : count n (le c.0) < count n (le a) = above_less a c.0 c.1.above c.1.other in
        by_name (named a c.0 c.1) (subtype_of_le k c.0 b (omega (arith, l, less)) c.2))
        (cases_eq a b)

    pub names_le : (a b : ℕ) → NamesSupertypes le is_class a b → le a b ≡ true
    names_le a b (extends h k) = k.above
    names_le a b (implements h k) = k.above
