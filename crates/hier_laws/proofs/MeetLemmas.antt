-- What the halves of the obligations say as no first instance.
use Rattle.std.proofs.Common.{◌≡◌, ◌≢◌, ℕ, ◌⊎◌, ◌&&◌, ◌||◌, eqb, Bool, true, false, cond, length, Option, Some, None, refl, sym, ap, ◌∙◌, subst, arith, ⊎_elim, inl, inr}
use Rattle.std.specs.Prelude.{nat_lt, not}
use Rattle.std.specs.Option.{option_map, option_and_then}
use Rattle.std.proofs.lemmas.Bool.{false≢true, and_parts, and_from, or_cases, eqb-true, eq-eqb, ltb-true}
use Rattle.kaba_base.specs.declared.NodeId.{NodeId}
use Rattle.kaba_base.proofs.TestLemmas.{refuted}
use Rattle.kaba_bits.specs.Sets.{bit, row, or_else, first_below, when}
use Rattle.kaba_bits.proofs.FirstLemmas.{first_below_clear}
use Rattle.kaba_order.specs.Orders.{is_le, differ}
use Rattle.fact_model.specs.Items.{site_class, site_row, row_class, column_kind, column_class, column_slot}
use Rattle.fact_model.specs.Classes.{is_def, is_slot, below, finds}
use Rattle.fact_model.specs.declared.facts.Facts.{Facts}
use Rattle.fact_model.specs.declared.sets.PointsTo.{PointsTo}
use Rattle.fact_model.specs.declared.sets.Table.{Table}
use Rattle.hier_model.specs.Hierarchies.{Hierarchy, place_of_column, place_of_row, is_above, is_at, stands_at, is_offered}
use Rattle.hier_model.proofs.AnyLemmas.{any_below_some, any_below_has}
use Rattle.hier_model.specs.Edits.{is_one_slot}
use Rattle.hier_laws.specs.Shapes.{Given, Shape, OffersColumn}
use Rattle.hier_laws.specs.Obligations.{IsOther, Half, Rest}
use Rattle.hier_rules.specs.declared.broken.Rule.TheVariants.{B2, B3, B4, B5, B6, B7}
use Rattle.hier_rules.specs.Asked.{is_tie, is_super, is_called, slots_of, is_other_body, meets, places_of}
use Rattle.hier_rules.specs.Instances.{of_both, of_row, of_column}
use Rattle.hier_rules.specs.Obligations.{is_strictly_above, is_below, row_le, column_le, place_of_site, is_nearer, has_nearer, wrong_body, wrong_need, first_wrong_need, is_between, has_between, wrong_super, first_wrong_super, is_body_at, two_bodies, first_two_bodies, unoffered, first_unoffered, untied, unheld, first_untied, wrong_outcome, first_wrong_outcome}
use Rattle.hier_rules.specs.Obligations as rule
use Rattle.hier_laws.proofs.ShapeLemmas.{shape, placed}
use Rattle.hier_laws.proofs.GivenLemmas.{given}

pub none_by : {B : Type 0} (t : Bool) (v : B) → (t ≡ true → ⊥) → when t v ≡ None
none_by true v n = absurd (n refl)
none_by false v n = refl

pub none_both : {B : Type 0} (x y : Option B) → x ≡ None → y ≡ None → or_else x y ≡ None
none_both x y e f = rw (e, f) refl

one_slot_says : (a b : Option ℕ) → is_one_slot a b ≡ true → b ≡ a
one_slot_says None b h = absurd (false≢true h)
one_slot_says (Some x) None h = absurd (false≢true h)
one_slot_says (Some x) (Some y) h = ap Some (sym (eqb-true x y h))

module _ (F : Facts) (pt : PointsTo) (t : Table) (H : Hierarchy) (table : H.table ≡ t.rows.items) where
  abbrev G : Given
  G = given F pt t

  abbrev S : Shape
  S = shape H

  pub offers : (n c : ℕ) → OffersColumn S n c → is_offered H n c ≡ true
  offers n c o = rw (placed H c o.at o.stands) o.above

  pub offered_says : (n c : ℕ) → is_offered H n c ≡ true → OffersColumn S n c
  offered_says n c h = at (place_of_column H c) refl h
    where
      at : (o : Option NodeId) → place_of_column H c ≡ o → is_above H.order n o ≡ true → OffersColumn S n c
      at None e k = absurd (false≢true k)
      at (Some p) e k = record { at = p.0; stands = ap (option_map (λ (p : NodeId). p.0)) e; above = k }

  -- a column at or below another
  pub le_says : (c d : ℕ) → column_le H c d ≡ true → (n : ℕ) × (S.column c ≡ Some n) × ((k : ℕ) × (S.column d ≡ Some k) × (S.le n k ≡ true))
  le_says c d h = at (place_of_column H c) (place_of_column H d) refl refl h
    where
      at : (o q : Option NodeId) → place_of_column H c ≡ o → place_of_column H d ≡ q → is_below H.order o q ≡ true → (n : ℕ) × (S.column c ≡ Some n)
          × ((k : ℕ) × (S.column d ≡ Some k) × (S.le n k ≡ true))
      at None q e f k = absurd (false≢true k)
      at (Some p) None e f k = absurd (false≢true k)
      at (Some p) (Some q) e f k = (p.0, ap (option_map (λ (p : NodeId). p.0)) e, (q.0, ap (option_map (λ (p : NodeId). p.0)) f, k))

  -- a column strictly above a node
  pub above_says : (n c : ℕ) → rule.is_above H n c ≡ true → (m : ℕ) × (S.column c ≡ Some m) × (S.le n m ≡ true) × (n ≢ m)
  above_says n c h = at (place_of_column H c) refl h
    where
      at : (o : Option NodeId) → place_of_column H c ≡ o → is_strictly_above H.order n o ≡ true → (m : ℕ) × (S.column c ≡ Some m) × (S.le n m ≡ true) × (n ≢ m)
      at None e k = absurd (false≢true k)
      at (Some p) e k =
          let both = and_parts (is_le H.order n p.0) (not (eqb n p.0)) k in
          (p.0, ap (option_map (λ (p : NodeId). p.0)) e, both.0, λ x. refuted (eqb n p.0) both.1 (eq-eqb n p.0 x))

  pub above_test : (n c m : ℕ) → S.column c ≡ Some m → S.le n m ≡ true → n ≢ m → rule.is_above H n c ≡ true
  above_test n c m e k ne = rw (placed H c m e) (and_from (is_le H.order n m) (not (eqb n m)) k (differs (eqb n m) (λ x. ne (eqb-true n m x))))
    where
      differs : (b : Bool) → (b ≡ true → ⊥) → not b ≡ true
      differs true n = absurd (n refl)
      differs false n = refl

  pub stands_says : (n c : ℕ) → stands_at H n c ≡ true → S.column c ≡ Some n
  stands_says n c h = at (place_of_column H c) refl h
    where
      at : (o : Option NodeId) → place_of_column H c ≡ o → is_at n o ≡ true → S.column c ≡ Some n
      at None e k = absurd (false≢true k)
      at (Some p) e k = ap (option_map (λ (p : NodeId). p.0)) e ∙ ap Some (eqb-true p.0 n k)

  -- another body of a slot
  pub other_says : (d e m : ℕ) → is_other_body F d e ≡ true → S.column e ≡ Some m → IsOther G S d e m
  other_says d e m h at =
      let a = and_parts (not (eqb e d) && is_def (column_kind F e)) (is_one_slot (column_slot F d) (column_slot F e)) h in
      let b = and_parts (not (eqb e d)) (is_def (column_kind F e)) a.0 in
      record { body = b.1; slot = one_slot_says (column_slot F d) (column_slot F e) a.1; other = λ x. refuted (eqb e d) b.0 (eq-eqb e d x); stands = at }

  module _ (A : Half G S) (B : Rest G S) where
    unoffered_none : first_unoffered F H ≡ None
    unoffered_none =
        first_below_clear (λ r. first_below (length F.columns.items) (unoffered F H r)) (length F.rows.items) (λ r lr.
        first_below_clear (unoffered F H r) (length F.columns.items) (λ c lc.
        none_by (bit (row H.table r) c && not (is_offered H (place_of_row H r) c)) (of_both B2 (place_of_row H r) r c) (λ h.
        let p = and_parts (bit (row H.table r) c) (not (is_offered H (place_of_row H r) c)) h in
        refuted (is_offered H (place_of_row H r) c) p.1 (offers (place_of_row H r) c (A.offered r c (subst (λ x. bit (row x r) c ≡ true) table p.0))))))

    tied_none : first_below (length F.rows.items) (λ l. first_below (length F.rows.items) (untied F H l)) ≡ None
    tied_none =
        first_below_clear (λ l. first_below (length F.rows.items) (untied F H l)) (length F.rows.items) (λ l ll.
        first_below_clear (untied F H l) (length F.rows.items) (λ u lu.
        none_by (is_tie F l u && not (row_le H l u)) (of_row B3 (place_of_row H l) (place_of_row H u) l) (λ h.
        let p = and_parts (is_tie F l u) (not (row_le H l u)) h in
        refuted (row_le H l u) p.1 (A.tied l u p.0))))

    held_none : first_below (length F.sites.items) (λ o. first_below (length F.rows.items) (unheld F pt H o)) ≡ None
    held_none =
        first_below_clear (λ o. first_below (length F.rows.items) (unheld F pt H o)) (length F.sites.items) (λ o lo.
        first_below_clear (unheld F pt H o) (length F.rows.items) (λ v lv.
        none_by (bit (row pt.rows.items v) o && not (row_le H (site_row F o) v)) (of_row B3 (place_of_site F H o) (place_of_row H v) (site_row F o)) (λ h.
        let p = and_parts (bit (row pt.rows.items v) o) (not (row_le H (site_row F o) v)) h in
        refuted (row_le H (site_row F o) v) p.1 (A.held o v p.0))))

    untied_none : first_untied F pt H ≡ None
    untied_none = none_both (first_below (length F.rows.items) (λ l. first_below (length F.rows.items) (untied F H l)))
        (first_below (length F.sites.items) (λ o. first_below (length F.rows.items) (unheld F pt H o))) tied_none held_none

    nearer : (s x d : ℕ) → G.needs s x d ≡ true → has_nearer F H (place_of_site F H s) d ≡ true → ⊥
    nearer s x d need h =
        let e = any_below_some (is_nearer F H (place_of_site F H s) d) (length F.columns.items) h in
        let a = and_parts (is_other_body F d e.0 && is_offered H (place_of_site F H s) e.0) (column_le H e.0 d) e.2 in
        let b = and_parts (is_other_body F d e.0) (is_offered H (place_of_site F H s) e.0) a.0 in
        let o = offered_says (place_of_site F H s) e.0 b.1 in
        let le = le_says e.0 d a.1 in
        let same : o.at ≡ le.0 = cc (o.stands, le.1) in
        B.nearest s x d e.0 o.at need (other_says d e.0 o.at b.0 o.stands) o.above (le.2.0, le.2.1, subst (λ n. S.le n le.2.0 ≡ true) (sym same) le.2.2)

    needed_none : (s x : ℕ) (b : Bool) (f : Option ℕ) → is_called F pt s x ≡ b → finds F (site_class F s) x ≡ f
        → cond b (option_and_then (wrong_body F H s) f) None ≡ None
    needed_none s x false f called found = refl
    needed_none s x true None called found = refl
    needed_none s x true (Some d) called found =
        let need : G.needs s x d ≡ true = and_from (is_called F pt s x) (is_slot (finds F (site_class F s) x) d) called (ap (λ o. is_slot o d) found
        ∙ eq-eqb d d refl) in
        none_by (not (is_offered H (place_of_site F H s) d) || has_nearer F H (place_of_site F H s) d) (of_both B4 (place_of_site F H s) (site_row F s) d) (λ h.
        ⊎_elim
        (λ a. refuted (is_offered H (place_of_site F H s) d) a (offers (place_of_site F H s) d (A.needed s x d need)))
        (nearer s x d need)
        (or_cases (not (is_offered H (place_of_site F H s) d)) (has_nearer F H (place_of_site F H s) d) h))

    need_none : first_wrong_need F pt H ≡ None
    need_none =
        first_below_clear (λ s. first_below (slots_of F) (wrong_need F pt H s)) (length F.sites.items) (λ s ls.
        first_below_clear (wrong_need F pt H s) (slots_of F) (λ x lx. needed_none s x (is_called F pt s x) (finds F (site_class F s) x) refl refl))

    between : (r d : ℕ) → is_super F r d ≡ true → has_between F H r d ≡ true → ⊥
    between r d run h =
        let e = any_below_some (is_between F H r d) (length F.columns.items) h in
        let a = and_parts (is_other_body F d e.0 && rule.is_above H (place_of_row H r) e.0) (column_le H e.0 d || eqb (column_class F e.0)
        (row_class F r)) e.2 in
        let b = and_parts (is_other_body F d e.0) (rule.is_above H (place_of_row H r) e.0) a.0 in
        let up = above_says (place_of_row H r) e.0 b.1 in
        let other = other_says d e.0 up.0 b.0 up.1 in
        ⊎_elim
        (λ le.
        let k = le_says e.0 d le in
        let same : up.0 ≡ k.0 = cc (up.1, k.1) in
        B.between r d e.0 up.0 run other up.2 up.3 (k.2.0, k.2.1, subst (λ n. S.le n k.2.0 ≡ true) (sym same) k.2.2))
        (λ own. B.own r d e.0 up.0 run other up.2 up.3 (eqb-true (column_class F e.0) (row_class F r) own))
        (or_cases (column_le H e.0 d) (eqb (column_class F e.0) (row_class F r)) a.1)

    super_above : (r d : ℕ) → is_super F r d ≡ true → rule.is_above H (place_of_row H r) d ≡ true
    super_above r d run = let o = A.ran r d run in above_test (place_of_row H r) d o.at o.stands o.above (λ e. B.above r d run (o.stands ∙ ap Some (sym e)))

    super_none : first_wrong_super F H ≡ None
    super_none =
        first_below_clear (λ r. first_below (length F.columns.items) (wrong_super F H r)) (length F.rows.items) (λ r lr.
        first_below_clear (wrong_super F H r) (length F.columns.items) (λ d ld.
        none_by (is_super F r d && (not (rule.is_above H (place_of_row H r) d) || has_between F H r d)) (of_both B5 (place_of_row H r) r d) (λ h.
        let p = and_parts (is_super F r d) (not (rule.is_above H (place_of_row H r) d) || has_between F H r d) h in
        ⊎_elim
        (λ a. refuted (rule.is_above H (place_of_row H r) d) a (super_above r d p.0))
        (between r d p.0)
        (or_cases (not (rule.is_above H (place_of_row H r) d)) (has_between F H r d) p.1))))

    bodies_none : first_two_bodies F H ≡ None
    bodies_none =
        first_below_clear (λ n. first_below (length F.columns.items) (λ c. first_below (length F.columns.items) (two_bodies F H n c)))
        (length H.order.live) (λ n ln.
        first_below_clear (λ c. first_below (length F.columns.items) (two_bodies F H n c)) (length F.columns.items) (λ c lc.
        first_below_clear (two_bodies F H n c) (length F.columns.items) (λ d ld.
        none_by (is_body_at F H n c && (is_body_at F H n d && nat_lt c d && is_one_slot (column_slot F c) (column_slot F d))) (of_column B6 n d) (two n c d))))
      where
        two : (n c d : ℕ) → (is_body_at F H n c && (is_body_at F H n d && nat_lt c d && is_one_slot (column_slot F c) (column_slot F d))) ≡ true → ⊥
        two n c d h =
            let p = and_parts (is_body_at F H n c) (is_body_at F H n d && nat_lt c d && is_one_slot (column_slot F c) (column_slot F d)) h in
            let q = and_parts (is_body_at F H n d && nat_lt c d) (is_one_slot (column_slot F c) (column_slot F d)) p.1 in
            let r = and_parts (is_body_at F H n d) (nat_lt c d) q.0 in
            let one = and_parts (stands_at H n c) (is_def (column_kind F c)) p.0 in
            let other = and_parts (stands_at H n d) (is_def (column_kind F d)) r.0 in
            let lt = ltb-true c d r.1 in
            B.apart c d n one.1
            (record {
              body = other.1;
              slot = one_slot_says (column_slot F c) (column_slot F d) q.1;
              other = λ x. omega (arith, x, lt);
              stands =
                  stands_says n d other.0;
            })
            (stands_says n c one.0)

    differ_says : (x y : Bool) → differ x y ≡ true → ((x ≡ true) × (y ≡ false)) ⊎ ((x ≡ false) × (y ≡ true))
    differ_says true true h = absurd (false≢true h)
    differ_says true false h = inl (refl, refl)
    differ_says false true h = inr (refl, refl)
    differ_says false false h = absurd (false≢true h)

    outcome_none : first_wrong_outcome F pt H ≡ None
    outcome_none =
        first_below_clear (λ p. first_below (length F.rows.items) (λ t. first_below (length F.sites.items) (wrong_outcome F pt H p t))) (places_of F) (λ p lp.
        first_below_clear (λ t. first_below (length F.sites.items) (wrong_outcome F pt H p t)) (length F.rows.items) (λ k lk.
        first_below_clear (wrong_outcome F pt H p k) (length F.sites.items) (λ s ls.
        none_by (meets F pt p k s && differ (row_le H (site_row F s) k) (below F (site_class F s) (row_class F k)))
        (of_row B7 (place_of_site F H s) (place_of_row H k) (site_row F s)) (λ h.
        let a = and_parts (meets F pt p k s) (differ (row_le H (site_row F s) k) (below F (site_class F s) (row_class F k))) h in
        let met = any_below_has (λ p. meets F pt p k s) (places_of F) p lp a.0 in
        ⊎_elim
        (λ x. false≢true (sym x.1 ∙ B.fails s k met x.0))
        (λ x. false≢true (sym x.0 ∙ A.passes s k met x.1))
        (differ_says (row_le H (site_row F s) k) (below F (site_class F s) (row_class F k)) a.1)))))

    pub run_none : (first_unoffered F H ≡ None) × (first_untied F pt H ≡ None) × (first_wrong_need F pt H ≡ None) × (first_wrong_super F H ≡ None)
        × (first_two_bodies F H ≡ None) × (first_wrong_outcome F pt H ≡ None)
    run_none = (unoffered_none, untied_none, need_none, super_none, bodies_none, outcome_none)
