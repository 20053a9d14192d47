-- What the rows of an index say of needs, of other bodies, of super calls, and of what is at no low node.
use Rattle.std.proofs.Common.{◌≡◌, ℕ, ◌+◌, ◌<◌, ◌&&◌, ◌||◌, ◌==◌, not, cond, Bool, true, false, List, [], ◌∷◌, ◌++◌, length, Option, Some, None, refl, sym, ap, ◌∙◌, subst, arith, ⊎_elim}
use Rattle.std.specs.Prelude.{nat_lt}
use Rattle.std.specs.Option.{option_and_then}
use Rattle.std.proofs.lemmas.Bool.{cases_Bool, cases_lt, and_parts, and_from, eqb-true, eq-eqb, ne_eqb, ltb-true, false≢true, false_from_ne_true}
use Rattle.std.proofs.lemmas.List.{get_or_append_left, get_or_push, length_push}
use Rattle.kaba_base.specs.declared.NodeId.{NodeId}
use Rattle.kaba_bits.specs.Sets.{bit, row, first_below, when, IsEmpty}
use Rattle.kaba_bits.proofs.FirstLemmas.{first_below_clear}
use Rattle.kaba_order.specs.Orders.{is_live, is_below_some}
use Rattle.kaba_order.specs.Formers.{AreBelow}
use Rattle.fact_model.specs.Items.{site_class, site_row, column_kind, column_slot}
use Rattle.fact_model.specs.Classes.{is_def, finds}
use Rattle.fact_model.specs.InRange.{InRange}
use Rattle.fact_model.specs.declared.facts.Facts.{Facts}
use Rattle.fact_model.specs.declared.facts.CallInfo.{CallInfo}
use Rattle.fact_model.specs.declared.sets.PointsTo.{PointsTo}
use Rattle.fact_model.proofs.ClassLemmas.{finds-found}
use Rattle.hier_model.specs.Hierarchies.{Hierarchy, IsHierarchyOf, place_of_row, is_offered, stands_at}
use Rattle.hier_model.specs.Edits.{is_one_slot}
use Rattle.hier_model.proofs.AnyLemmas.{any_below_some}
use Rattle.hier_rules.specs.declared.broken.Rule.TheVariants.{B4, B5, B6}
use Rattle.hier_rules.specs.Asked.{is_called, slots_of, is_other_body, is_super}
use Rattle.hier_rules.specs.Instances.{of_both, of_column}
use Rattle.hier_rules.specs.Obligations.{column_le, is_above, place_of_site, is_nearer, has_nearer, wrong_body, wrong_need, has_between, wrong_super, is_body_at, two_bodies}
use Rattle.hier_rules.specs.Touched.{TestsHold, OutcomesHold, AllHold}
use Rattle.hier_rules.specs.After.{AreKeptOutside}
use Rattle.hier_rules.specs.Index.{is_number, is_needed, IsTestRow, AreTestRows}
use Rattle.hier_rules.proofs.AnyLemmas.{any_weaker}
use Rattle.hier_rules.proofs.NameLemmas.{dead_confused}

pub no_rows : (w : ℕ) (are : ℕ → ℕ → Bool) (rows : List (List Bool)) → rows ≡ [] → AreTestRows 0 w are rows
no_rows w are rows e = subst (AreTestRows 0 w are) (sym e) (record { len = refl; each = λ a lt. absurd (omega (arith, lt)) })

-- one row more
pub one_row : (n w : ℕ) (are : ℕ → ℕ → Bool) (rows more : List (List Bool)) (new : List Bool) → more ≡ rows ++ new ∷ [] → AreTestRows n w are rows
    → IsTestRow w (are n) new → AreTestRows (n + 1) w are more
one_row n w are rows more new e A r =
    subst (AreTestRows (n + 1) w are) (sym e) (record {
      len = length_push rows new ∙ ap (λ k. k + 1) A.len;
      each = λ a lt.
          ⊎_elim
          (λ inner. subst (IsTestRow w (are a)) (sym (get_or_append_left rows (new ∷ []) [] a inner)) (A.each a inner))
          (λ end.
          let len = A.len in
          let more = length_push rows new in
          let same : n ≡ a = omega (arith, len, more, lt, end) in
          subst (λ k. IsTestRow w (are k) (row (rows ++ new ∷ []) a)) same
          (subst (IsTestRow w (are n)) (sym (get_or_push rows new [] a (omega (arith, len, same)))) r))
          (cases_lt a (length rows));
    })

module _ (F : Facts) (pt : PointsTo) (H : Hierarchy) where
  abbrev C : ℕ
  C = length F.columns.items

  pub none_nearer : (n d : ℕ) (rivals : List Bool) → IsTestRow C (is_other_body F d) rivals
      → ((e : ℕ) → bit rivals e ≡ true → is_nearer F H n d e ≡ false) → has_nearer F H n d ≡ false
  none_nearer n d rivals R none = false_from_ne_true (has_nearer F H n d) (λ h.
      let s = any_below_some (is_nearer F H n d) C h in
      let x = and_parts (is_other_body F d s.0 && is_offered H n s.0) (column_le H s.0 d) s.2 in
      let y = and_parts (is_other_body F d s.0) (is_offered H n s.0) x.0 in
      false≢true (sym (none s.0 (R.exact s.0 s.1 ∙ y.0)) ∙ s.2))

  needed : (s x d : ℕ) → finds F (site_class F s) x ≡ Some d → is_called F pt s x ≡ true → is_needed F pt s d ≡ true
  needed s x d f h =
      any_weaker (λ (k : CallInfo). bit (row pt.points.items k.receiver) s && is_number (finds F (site_class F s) k.slot) d)
      (λ (k : CallInfo). bit (row pt.points.items k.receiver) s && (k.slot == x))
      (λ k t.
      let p = and_parts (bit (row pt.points.items k.receiver) s) (k.slot == x) t in
      and_from (bit (row pt.points.items k.receiver) s) (is_number (finds F (site_class F s) k.slot) d) p.0
      (ap (λ y. is_number (finds F (site_class F s) y) d) (eqb-true k.slot x p.1) ∙ (ap (λ o. is_number o d) f ∙ eq-eqb d d refl)))
      F.calls.items h

  -- where no body that a site needs is hidden, no call on it is wrong
  pub none_hidden : (s : ℕ) (needs : List Bool) → IsTestRow C (is_needed F pt s) needs
      → ((d : ℕ) → bit needs d ≡ true → (not (is_offered H (place_of_site F H s) d) || has_nearer F H (place_of_site F H s) d) ≡ false)
      → first_below (slots_of F) (wrong_need F pt H s) ≡ None
  none_hidden s needs N none = first_below_clear (wrong_need F pt H s) (slots_of F) (λ x lt. at x (is_called F pt s x) refl (finds F (site_class F s) x) refl)
    where
      at : (x : ℕ) (b : Bool) → is_called F pt s x ≡ b → (o : Option ℕ) → finds F (site_class F s) x ≡ o
          → cond b (option_and_then (wrong_body F H s) o) None ≡ None
      at x false e o f = refl
      at x true e None f = refl
      at x true e (Some d) f = ap (λ b. when b (of_both B4 (place_of_site F H s) (site_row F s) d))
          (none d (N.exact d (finds-found F _ _ _ f).body.below ∙ needed s x d f e))

  -- where none of the other bodies of its slot stands at a node, no second body does
  pub no_second : (n c : ℕ) (rivals : List Bool) → IsTestRow C (is_other_body F c) rivals → ((e : ℕ) → bit rivals e ≡ true → stands_at H n e ≡ false)
      → first_below C (two_bodies F H n c) ≡ None
  no_second n c rivals R none =
      first_below_clear (two_bodies F H n c) C (λ d lt.
      let slot = is_one_slot (column_slot F c) (column_slot F d) in
      let two = is_body_at F H n c && (is_body_at F H n d && nat_lt c d && slot) in
      ap (λ b. when b (of_column B6 n d)) (false_from_ne_true two (λ h.
      let p = and_parts (is_body_at F H n c) (is_body_at F H n d && nat_lt c d && slot) h in
      let q = and_parts (is_body_at F H n d && nat_lt c d) slot p.1 in
      let s = and_parts (is_body_at F H n d) (nat_lt c d) q.0 in
      let t = and_parts (stands_at H n d) (is_def (column_kind F d)) s.0 in
      let less = ltb-true c d s.1 in
      let apart : not (d == c) ≡ true = ap not (ne_eqb d c (λ e. omega (arith, less, e))) in
      let other = and_from (not (d == c) && is_def (column_kind F d)) slot (and_from (not (d == c)) (is_def (column_kind F d)) apart t.1) q.1 in
      false≢true (sym (none d (R.exact d lt ∙ other)) ∙ t.0))))

  -- where no super call is in the method of a row
  pub no_super : (r : ℕ) (bodies : List Bool) → ((c : ℕ) → bit bodies c ≡ is_super F r c) → IsEmpty bodies → first_below C (wrong_super F H r) ≡ None
  no_super r bodies is empty = first_below_clear (wrong_super F H r) C (λ c lc.
      ap (λ t. when (t && (not (is_above H (place_of_row H r) c) || has_between F H r c)) (of_both B5 (place_of_row H r) r c)) (sym (is c) ∙ empty c))

  -- what is kept outside of what is at or below some nodes holds at no low node
  module _ (range : InRange F) (fit : IsHierarchyOf F H) (roots : List NodeId) (low : List Bool) (below : AreBelow H.order roots low)
      (kept : AreKeptOutside F pt H roots) where
    outside : (n : ℕ) → bit low n ≡ false → is_below_some H.order roots n ≡ false
    outside n f = sym (below.exact n) ∙ f

    site_live : (s : ℕ) → s < length F.sites.items → is_live H.order (place_of_site F H s) ≡ true
    site_live s ls = fit.placed.rows (site_row F s) (range.sites s _ ls).0

    pub all_hold : AllHold F pt H low
    all_hold = record {
      needs = record { width = below.width; each = λ s ls f. kept.needs s ls (site_live s ls) (outside (place_of_site F H s) f) };
      supers = record { width = below.width; each = λ r lr f. kept.supers r lr (fit.placed.rows r lr) (outside (place_of_row H r) f) };
      outcomes = λ p t s lt ls f. kept.outcomes p t s lt ls (site_live s ls) (outside (place_of_site F H s) f);
      names = record {
        width = below.width;
        each = λ n f. ⊎_elim (λ live. kept.names n live (outside n f)) (dead_confused F H fit.sized.order n) (cases_Bool (is_live H.order n));
      };
    }

  pub outcomes_hold : (low sites : List Bool) → TestsHold F pt H low → IsTestRow (length F.sites.items) (λ s. bit low (place_of_site F H s)) sites
      → OutcomesHold F pt H sites
  outcomes_hold low sites kept is = record {
    width = is.width_is;
    each = λ p t s lt ls f. kept p t s lt ls (sym (is.exact s ls) ∙ f);
  }
