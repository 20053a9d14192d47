-- The class nodes: what stands below one is one, and those at or above a node are a chain where no obligation is broken.
use Rattle.std.proofs.Common.{◌≡◌, ℕ, ◌<◌, ◌&&◌, Bool, true, false, Option, Some, None, refl, sym, ap, ◌∙◌, inl, inr, ⊎_elim}
use Rattle.std.specs.Prelude.{◌⊎◌, not, nat_lt, length, ◌==◌}
use Rattle.std.proofs.lemmas.Bool.{false≢true, and_from, and_parts, or_left, or_right, or_cases, cases_order, lt-ltb}
use Rattle.kaba_base.specs.declared.NodeId.{NodeId}
use Rattle.kaba_bits.specs.Sets.{first_below}
use Rattle.kaba_bits.proofs.FirstLemmas.{first_below_None, or_else-None, when-None}
use Rattle.kaba_bits.proofs.SetLemmas.{bit-below}
use Rattle.kaba_order.specs.Orders.{IsPartialOrder, is_le}
use Rattle.fact_model.specs.Items.{site_at, site_row, column_kind}
use Rattle.fact_model.specs.declared.facts.Facts.{Facts}
use Rattle.fact_model.specs.declared.sets.PointsTo.{PointsTo}
use Rattle.hier_model.specs.Hierarchies.{Hierarchy, place_of_column, place_of_row, is_above, is_offered, is_of_class, has_class_member, has_object, is_class_node}
use Rattle.hier_model.proofs.AnyLemmas.{any_below_some, any_below_has}
use Rattle.hier_rules.specs.Instances.{of_three}
use Rattle.hier_rules.specs.declared.broken.Rule.TheVariants.{B9}
use Rattle.hier_rules.specs.Obligations.{is_class_above, unchained, first_unchained}
use Rattle.hier_rules.specs.First.{first_of_edit, first_broken}

module _ (F : Facts) (H : Hierarchy) (order : IsPartialOrder H.order) where
  above_below : (a b : ℕ) (p : Option NodeId) → is_le H.order a b ≡ true → is_above H.order b p ≡ true → is_above H.order a p ≡ true
  above_below a b None h k = k
  above_below a b (Some p) h k = order.transitive a b p.0 h k

  pub offered_below : (a b c : ℕ) → is_le H.order a b ≡ true → is_offered H b c ≡ true → is_offered H a c ≡ true
  offered_below a b c h k = above_below a b (place_of_column H c) h k

  member_below : (a b : ℕ) → is_le H.order a b ≡ true → has_class_member F H b ≡ true → has_class_member F H a ≡ true
  member_below a b h k =
      let z = any_below_some (λ c. is_of_class (column_kind F c) && is_offered H b c) (length F.columns.items) k in
      let p = and_parts (is_of_class (column_kind F z.0)) (is_offered H b z.0) z.2 in
      any_below_has (λ c. is_of_class (column_kind F c) && is_offered H a c) (length F.columns.items) z.0 z.1
      (and_from (is_of_class (column_kind F z.0)) (is_offered H a z.0) p.0 (offered_below a b z.0 h p.1))

  object_below : (a b : ℕ) → is_le H.order a b ≡ true → has_object F H b ≡ true → has_object F H a ≡ true
  object_below a b h k =
      let z = any_below_some (λ s. ((site_at F s).dim == 0) && is_le H.order b (place_of_row H (site_row F s))) (length F.sites.items) k in
      let p = and_parts ((site_at F z.0).dim == 0) (is_le H.order b (place_of_row H (site_row F z.0))) z.2 in
      any_below_has (λ s. ((site_at F s).dim == 0) && is_le H.order a (place_of_row H (site_row F s))) (length F.sites.items) z.0 z.1
      (and_from ((site_at F z.0).dim == 0) (is_le H.order a (place_of_row H (site_row F z.0))) p.0
      (order.transitive a b (place_of_row H (site_row F z.0)) h p.1))

  pub class_down : (a b : ℕ) → is_le H.order a b ≡ true → is_class_node F H b ≡ true → is_class_node F H a ≡ true
  class_down a b h k =
      ⊎_elim (λ m. or_left (has_class_member F H a) (has_object F H a) (member_below a b h m))
      (λ o. or_right (has_class_member F H a) (has_object F H a) (object_below a b h o))
      (or_cases (has_class_member F H b) (has_object F H b) k)

  either : (a b c p q : Bool) → a ≡ true → b ≡ true → c ≡ true → (a && (b && c && not p && not q)) ≡ false → (p ≡ true) ⊎ (q ≡ true)
  either true true true true q ea eb ec h = inl refl
  either true true true false true ea eb ec h = inr refl
  either true true true false false ea eb ec h = absurd (false≢true (sym h))
  either true true false p q ea eb ec h = absurd (false≢true ec)
  either true false c p q ea eb ec h = absurd (false≢true eb)
  either false b c p q ea eb ec h = absurd (false≢true ea)

  module _ (pt : PointsTo) (none : first_broken F pt H ≡ None) where
    unchained_none : first_unchained F H ≡ None
    unchained_none = (or_else-None (first_of_edit F pt H) (first_unchained F H) none).1

    class_above : (n x : ℕ) → is_class_node F H x ≡ true → is_le H.order n x ≡ true → is_class_above F H n x ≡ true
    class_above n x c h =
        and_from (is_class_node F H n && is_class_node F H x) (is_le H.order n x)
        (and_from (is_class_node F H n) (is_class_node F H x) (class_down n x h c) c) h

    lower_first : (n x y : ℕ) → x < y → is_class_node F H x ≡ true → is_class_node F H y ≡ true → is_le H.order n x ≡ true → is_le H.order n y ≡ true
        → (is_le H.order x y ≡ true) ⊎ (is_le H.order y x ≡ true)
    lower_first n x y lt cx cy hx hy =
        let N = length H.order.live in
        let one = first_below_None (λ n. first_below N (λ x. first_below N (unchained F H n x))) N n unchained_none
        (bit-below H.order.live n (order.lower_lives n x hx)) in
        let two = first_below_None (λ x. first_below N (unchained F H n x)) N x one (bit-below H.order.live x (order.upper_lives n x hx)) in
        let three = first_below_None (unchained F H n x) N y two (bit-below H.order.live y (order.upper_lives n y hy)) in
        either (is_class_above F H n x) (is_class_above F H n y) (nat_lt x y) (is_le H.order x y) (is_le H.order y x) (class_above n x cx hx)
        (class_above n y cy hy) (lt-ltb x y lt)
        (when-None (is_class_above F H n x && (is_class_above F H n y && nat_lt x y && not (is_le H.order x y) && not (is_le H.order y x)))
        (of_three B9 n x y) three)

    swap : {A B : Type 0} → A ⊎ B → B ⊎ A
    swap z = ⊎_elim (λ a. inr a) (λ b. inl b) z

    pub chained : (n x y : ℕ) → is_class_node F H x ≡ true → is_class_node F H y ≡ true → is_le H.order n x ≡ true → is_le H.order n y ≡ true
        → (is_le H.order x y ≡ true) ⊎ (is_le H.order y x ≡ true)
    chained n x y cx cy hx hy =
        ⊎_elim
        (λ same. inl (ap (is_le H.order x) (sym same) ∙ order.reflexive x (order.upper_lives n x hx)))
        (λ other. ⊎_elim (λ lt. lower_first n x y lt cx cy hx hy) (λ gt. swap (lower_first n y x gt cy cx hy hx)) other)
        (cases_order x y)
