-- The supertypes that the types of nodes name give the order of the nodes.
use Rattle.std.proofs.Common.{◌≡◌, ◌≢◌, ℕ, zero, suc, ◌+◌, ◌<◌, ◌&&◌, Bool, true, false, List, [], ◌∷◌, Option, Some, None, Contains, refl, sym, ap, ◌∙◌, subst, arith, inl, inr, ⊎_elim}
use Rattle.std.specs.Prelude.{not, length, filter, ◌==◌}
use Rattle.std.specs.List.{range_with_len}
use Rattle.std.proofs.lemmas.Bool.{false≢true, and_from, and_parts, cases_Bool, cases_eq, ne_eqb, eq-eqb, not-true}
use Rattle.kaba_base.proofs.ListLemmas.{contains_cases}
use Rattle.kaba_bits.specs.Sets.{when}
use Rattle.kaba_bits.proofs.FirstLemmas.{first_below_Some, first_below_None, when-Some, when-None}
use Rattle.kaba_bits.proofs.SetLemmas.{bit-below}
use Rattle.kaba_order.specs.Orders.{IsPartialOrder, is_le}
use Rattle.fact_model.specs.declared.facts.Facts.{Facts}
use Rattle.fact_model.specs.declared.sets.PointsTo.{PointsTo}
use Rattle.hier_model.specs.Hierarchies.{Hierarchy, any_below, is_class_node}
use Rattle.hier_model.proofs.AnyLemmas.{any_below_some, any_below_none}
use Rattle.hier_rules.specs.First.{first_broken}
use Rattle.flow_rules.proofs.Listed.{first, more}
use Rattle.write_model.specs.Supers.{is_above, is_cover, nodes_that, is_class_above, is_superclass, superclass}
use Rattle.write_laws.specs.rebuilds.Supertypes.{IsOrder, IsCoverBy, IsLowestClass}

pub filter_from : {A : Type 0} (p : A → Bool) (xs : List A) (x : A) → Contains (filter p xs) x → Contains xs x × (p x ≡ true)
filter_from p [] x c = absurd (omega (arith, c.1))
filter_from p (y ∷ ys) x c =
    ⊎_elim
    (λ h. ⊎_elim (λ e. (subst (Contains (y ∷ ys)) e (first y ys), subst (λ z. p z ≡ true) e h)) (λ d. let r = filter_from p ys x d in (more x y ys r.0, r.1))
    (contains_cases y (filter p ys) x (subst (λ z. Contains z x) (kept h) c)))
    (λ h. let r = filter_from p ys x (subst (λ z. Contains z x) (dropped h) c) in (more x y ys r.0, r.1))
    (cases_Bool (p y))
  where
    kept : p y ≡ true → filter p (y ∷ ys) ≡ y ∷ filter p ys
    kept h = rw h refl

    dropped : p y ≡ false → filter p (y ∷ ys) ≡ filter p ys
    dropped h = rw h refl

pub filter_has : {A : Type 0} (p : A → Bool) (xs : List A) (x : A) → Contains xs x → p x ≡ true → Contains (filter p xs) x
filter_has p [] x c h = c
filter_has p (y ∷ ys) x c h =
    ⊎_elim
    (λ e. let k : p y ≡ true = ap p e ∙ h in subst (λ z. Contains z x) (sym (kept k)) (subst (Contains (y ∷ filter p ys)) e (first y (filter p ys))))
    (λ d. let r = filter_has p ys x d h in ⊎_elim (λ k. subst (λ z. Contains z x) (sym (kept k)) (more x y (filter p ys) r))
    (λ k. subst (λ z. Contains z x) (sym (dropped k)) r) (cases_Bool (p y)))
    (contains_cases y ys x c)
  where
    kept : p y ≡ true → filter p (y ∷ ys) ≡ y ∷ filter p ys
    kept h = rw h refl

    dropped : p y ≡ false → filter p (y ∷ ys) ≡ filter p ys
    dropped h = rw h refl

pub range_has : (n a i : ℕ) → a < i + 1 → i < a + n → Contains (range_with_len a n) i
range_has zero a i l h = absurd (omega (arith, l, h))
range_has (suc n) a i l h = ⊎_elim (λ e. subst (Contains (a ∷ range_with_len (a + 1) n)) e (first a (range_with_len (a + 1) n)))
    (λ ne. more i a (range_with_len (a + 1) n) (range_has n (a + 1) i (omega (arith, l, ne)) (omega (arith, h)))) (cases_eq a i)

module _ (F : Facts) (H : Hierarchy) (order : IsPartialOrder H.order) (pt : PointsTo) (none : first_broken F pt H ≡ None) where
  abbrev N : ℕ
  N = length H.order.live

  abbrev le : ℕ → ℕ → Bool
  le = is_le H.order

  abbrev class : ℕ → Bool
  class = is_class_node F H

  pub ordered : IsOrder N le
  ordered = record {
    lower = λ a b h. bit-below H.order.live a (order.lower_lives a b h);
    upper = λ a b h. bit-below H.order.live b (order.upper_lives a b h);
    same_lower = λ a b h. order.reflexive a (order.lower_lives a b h);
    same_upper = λ a b h. order.reflexive b (order.upper_lives a b h);
    through = order.transitive;
    both = order.antisymmetric;
  }

  above_parts : (a b : ℕ) → is_above H.order a b ≡ true → (le a b ≡ true) × (a ≢ b)
  above_parts a b h =
      let p = and_parts (le a b) (not (a == b)) h in
      (p.0, λ e. false≢true (sym (ap not (eq-eqb a b e)) ∙ p.1))

  above_from : (a b : ℕ) → le a b ≡ true → a ≢ b → is_above H.order a b ≡ true
  above_from a b h other = and_from (le a b) (not (a == b)) h (ap not (ne_eqb a b other))

  pub cover_from : (a b : ℕ) → is_cover H.order a b ≡ true → IsCoverBy le a b
  cover_from a b h =
      let p = and_parts (is_above H.order a b) (not (any_below N (λ k. is_above H.order a k && is_above H.order k b))) h in
      let up = above_parts a b p.0 in
      record {
        above = up.0;
        other = up.1;
        next = λ x ax xb. ⊎_elim (λ e. inl (sym e)) (λ na. ⊎_elim (λ e. inr e) (λ nb.
            let no = any_below_none (λ k. is_above H.order a k && is_above H.order k b) N x (not-true _ p.1) (ordered.upper a x ax) in
            absurd (false≢true (sym no ∙ and_from (is_above H.order a x) (is_above H.order x b) (above_from a x ax na) (above_from x b xb nb))))
            (cases_eq x b)) (cases_eq a x);
      }

  pub cover_is : (a b : ℕ) → IsCoverBy le a b → is_cover H.order a b ≡ true
  cover_is a b k =
      and_from (is_above H.order a b) (not (any_below N (λ k. is_above H.order a k && is_above H.order k b))) (above_from a b k.above k.other)
      (⊎_elim
      (λ some. let z = any_below_some (λ k. is_above H.order a k && is_above H.order k b) N some in
      let p = and_parts (is_above H.order a z.0) (is_above H.order z.0 b) z.2 in
      let l = above_parts a z.0 p.0 in
      let u = above_parts z.0 b p.1 in
      ⊎_elim (λ e. absurd (l.1 (sym e))) (λ e. absurd (u.1 e)) (k.next z.0 l.0 u.0))
      (λ no. ap not no)
      (cases_Bool (any_below N (λ k. is_above H.order a k && is_above H.order k b))))

  lowest_from : (a b : ℕ) → is_superclass F H a b ≡ true → IsLowestClass le class a b
  lowest_from a b h =
      let rest = any_below N (λ x. is_class_above F H a x && not (le b x)) in
      let p = and_parts (is_class_above F H a b) (not rest) h in
      let q = and_parts (is_above H.order a b) (class b) p.0 in
      let up = above_parts a b q.0 in
      record {
        class = q.1;
        above = up.0;
        other = up.1;
        lowest = λ x cx ax other. ⊎_elim (λ t. t) (λ f.
            let no = any_below_none (λ x. is_class_above F H a x && not (le b x)) N x (not-true _ p.1) (ordered.upper a x ax) in
            absurd (false≢true (sym no ∙ and_from (is_class_above F H a x) (not (le b x))
            (and_from (is_above H.order a x) (class x) (above_from a x ax other) cx) (ap not f)))) (cases_Bool (le b x));
      }

  lowest_is : (a b : ℕ) → IsLowestClass le class a b → is_superclass F H a b ≡ true
  lowest_is a b k =
      let rest = any_below N (λ x. is_class_above F H a x && not (le b x)) in
      and_from (is_class_above F H a b) (not rest) (and_from (is_above H.order a b) (class b) (above_from a b k.above k.other) k.class)
      (⊎_elim
      (λ some. let z = any_below_some (λ x. is_class_above F H a x && not (le b x)) N some in
      let p = and_parts (is_class_above F H a z.0) (not (le b z.0)) z.2 in
      let q = and_parts (is_above H.order a z.0) (class z.0) p.0 in
      let up = above_parts a z.0 q.0 in
      absurd (false≢true (sym (ap not (k.lowest z.0 q.1 up.0 up.1)) ∙ p.1)))
      (λ no. ap not no)
      (cases_Bool rest))

  pub superclass_is : (a b : ℕ) → IsLowestClass le class a b → superclass F H a ≡ Some b
  superclass_is a b k = go (superclass F H a) refl
    where
      go : (o : Option ℕ) → superclass F H a ≡ o → o ≡ Some b
      go None e = let no = first_below_None (λ x. when (is_superclass F H a x) x) N b e (ordered.upper a b k.above) in
          absurd (false≢true (sym (when-None (is_superclass F H a b) b no) ∙ lowest_is a b k))
      go (Some x) e =
          let z = first_below_Some (λ x. when (is_superclass F H a x) x) N x e in
          let w = when-Some (is_superclass F H a z.0) z.0 x z.2 in
          let l = lowest_from a x (subst (λ y. is_superclass F H a y ≡ true) w.1 w.0) in
          ap Some (order.antisymmetric x b (l.lowest b k.class k.above k.other) (k.lowest x l.class l.above l.other))

  pub superclass_from : (a b : ℕ) → superclass F H a ≡ Some b → IsLowestClass le class a b
  superclass_from a b e =
      let z = first_below_Some (λ x. when (is_superclass F H a x) x) N b e in
      let w = when-Some (is_superclass F H a z.0) z.0 b z.2 in
      lowest_from a b (subst (λ y. is_superclass F H a y ≡ true) w.1 w.0)

  pub among_from : (p : ℕ → Bool) (b : ℕ) → Contains (nodes_that H.order p) b → p b ≡ true
  among_from p b c = (filter_from p (range_with_len 0 N) b c).1

  pub among_has : (p : ℕ → Bool) (b : ℕ) → b < N → p b ≡ true → Contains (nodes_that H.order p) b
  among_has p b lt h = filter_has p (range_with_len 0 N) b (range_has N 0 b (omega arith) (omega (arith, lt))) h
