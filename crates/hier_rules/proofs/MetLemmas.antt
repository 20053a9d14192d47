-- Where no site that is asked of at a place is of a set, and outcomes hold outside of it, none is wrong there.
use Rattle.std.proofs.Common.{◌≡◌, ℕ, ◌&&◌, eqb, Bool, true, List, length, None, ap, ◌∙◌, ⊎_elim}
use Rattle.std.specs.List.{list_any}
use Rattle.std.proofs.lemmas.Bool.{cases_Bool, and_parts, and_from, or_cases, or_left, or_right, false_from_ne_true}
use Rattle.kaba_bits.specs.Sets.{bit, row, first_below, when, Meet}
use Rattle.kaba_bits.proofs.FirstLemmas.{first_below_clear}
use Rattle.kaba_order.specs.Orders.{differ}
use Rattle.fact_model.specs.Items.{site_class, site_row, row_class}
use Rattle.fact_model.specs.Classes.{below}
use Rattle.fact_model.specs.declared.facts.Facts.{Facts}
use Rattle.fact_model.specs.declared.facts.TestInfo.{TestInfo}
use Rattle.fact_model.specs.declared.facts.StoreInfo.{StoreInfo}
use Rattle.fact_model.specs.declared.sets.PointsTo.{PointsTo}
use Rattle.hier_model.specs.Hierarchies.{Hierarchy, place_of_row}
use Rattle.hier_rules.specs.declared.broken.Rule.TheVariants.{B7}
use Rattle.hier_rules.specs.Asked.{is_element, is_test_at, is_store_at, is_tested, is_stored, meets, has_array}
use Rattle.hier_rules.specs.Instances.{of_row}
use Rattle.hier_rules.specs.Obligations.{row_le, place_of_site, wrong_outcome, first_wrong_of_place}
use Rattle.hier_rules.specs.Touched.{OutcomesHold, is_at_place}
use Rattle.hier_rules.specs.Index.{IsTestRow}
use Rattle.hier_rules.proofs.AnyLemmas.{any_weaker}

module _ (F : Facts) (pt : PointsTo) where
  abbrev tests_at : ℕ → ℕ → TestInfo → Bool
  tests_at p s x = eqb x.place.at p && bit (row pt.points.items x.from) s

  abbrev stores_at : ℕ → ℕ → StoreInfo → Bool
  stores_at p s x = is_element x.column && eqb x.place.at p && bit (row pt.points.items x.value) s

  met_at : (p t s : ℕ) → meets F pt p t s ≡ true → is_at_place F pt p s ≡ true
  met_at p t s h =
      ⊎_elim
      (λ a. or_left (list_any (tests_at p s) F.tests.items) (list_any (stores_at p s) F.stores.items)
      (any_weaker (tests_at p s) (λ (x : TestInfo). is_test_at p t x && bit (row pt.points.items x.from) s)
      (λ x k.
      let y = and_parts (is_test_at p t x) (bit (row pt.points.items x.from) s) k in
      let z = and_parts (eqb x.place.at p) (eqb x.target.0 t) y.0 in
      and_from (eqb x.place.at p) (bit (row pt.points.items x.from) s) z.0 y.1) F.tests.items a))
      (λ b. or_right (list_any (tests_at p s) F.tests.items) (list_any (stores_at p s) F.stores.items)
      (any_weaker (stores_at p s) (λ (x : StoreInfo). is_store_at F pt p t x && bit (row pt.points.items x.value) s)
      (λ x k.
      let y = and_parts (is_store_at F pt p t x) (bit (row pt.points.items x.value) s) k in
      let z = and_parts (is_element x.column && eqb x.place.at p) (has_array F pt x.base t) y.0 in
      and_from (is_element x.column && eqb x.place.at p) (bit (row pt.points.items x.value) s) z.0 y.1) F.stores.items b))
      (or_cases (is_tested F pt p t s) (is_stored F pt p t s) h)

  pub no_low : (H : Hierarchy) (p : ℕ) (sites low : List Bool) → IsTestRow (length F.sites.items) (is_at_place F pt p) sites → OutcomesHold F pt H low
      → (Meet sites low → ⊥) → first_wrong_of_place F pt H p ≡ None
  no_low H p sites low is hold none =
      first_below_clear (λ t. first_below (length F.sites.items) (wrong_outcome F pt H p t)) (length F.rows.items) (λ t lt.
      first_below_clear (wrong_outcome F pt H p t) (length F.sites.items) (λ s ls.
      ⊎_elim
      (λ m. hold.each p t s lt ls (false_from_ne_true (bit low s) (λ h. none (s, is.exact s ls ∙ met_at p t s m, h))))
      (λ f. ap (λ b. when (b && differ (row_le H (site_row F s) t) (below F (site_class F s) (row_class F t)))
      (of_row B7 (place_of_site F H s) (place_of_row H t) (site_row F s))) f)
      (cases_Bool (meets F pt p t s))))
