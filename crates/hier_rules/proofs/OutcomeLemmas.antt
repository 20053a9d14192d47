-- A row that is no target at a place is met by no site there.
use Rattle.std.proofs.Common.{◌≡◌, ℕ, ◌&&◌, Bool, true, false, length, map, ◌++◌, ◌↔◌, Contains, None, refl, sym, ◌∙◌, ⊎_elim}
use Rattle.std.specs.Prelude.{◌==◌, filter}
use Rattle.std.specs.List.{list_any}
use Rattle.std.proofs.lemmas.Bool.{cases_Bool, and_parts, or_cases, or_left, or_right, false≢true}
use Rattle.kaba_bits.specs.Sets.{bit, row, first_below, when}
use Rattle.kaba_bits.proofs.FirstLemmas.{first_below_clear}
use Rattle.kaba_order.specs.Orders.{differ}
use Rattle.fact_model.specs.Items.{site_class, site_row, row_class}
use Rattle.fact_model.specs.Classes.{below}
use Rattle.fact_model.specs.declared.facts.Facts.{Facts}
use Rattle.fact_model.specs.declared.facts.TestInfo.{TestInfo}
use Rattle.fact_model.specs.declared.facts.StoreInfo.{StoreInfo}
use Rattle.fact_model.specs.declared.sets.PointsTo.{PointsTo}
use Rattle.hier_model.specs.Hierarchies.{Hierarchy, place_of_row}
use Rattle.hier_rules.specs.declared.broken.Rule.TheVariants.{B7}
use Rattle.hier_rules.specs.Asked.{is_element, is_test_at, is_store_at, is_target, is_tested, is_stored, meets, is_asked, has_array}
use Rattle.hier_rules.specs.Instances.{of_row}
use Rattle.hier_rules.specs.Obligations.{row_le, place_of_site, wrong_outcome, first_wrong_of_place}
use Rattle.std.proofs.lemmas.List.Elements.{Contains-append_cases, Contains-append_left, Contains-append_right}
use Rattle.hier_rules.proofs.AnyLemmas.{any_weaker}
use Rattle.hier_rules.proofs.KeyLemmas.{keys_of, keys_all}

module _ (F : Facts) (pt : PointsTo) where
  meets_target : (p t s : ℕ) → meets F pt p t s ≡ true → is_target F pt p t ≡ true
  meets_target p t s h =
      ⊎_elim
      (λ a. or_left (list_any (is_test_at p t) F.tests.items) (list_any (is_store_at F pt p t) F.stores.items)
      (any_weaker (is_test_at p t) (λ (x : TestInfo). is_test_at p t x && bit (row pt.points.items x.from) s)
      (λ x k. (and_parts (is_test_at p t x) (bit (row pt.points.items x.from) s) k).0) F.tests.items a))
      (λ b. or_right (list_any (is_test_at p t) F.tests.items) (list_any (is_store_at F pt p t) F.stores.items)
      (any_weaker (is_store_at F pt p t) (λ (x : StoreInfo). is_store_at F pt p t x && bit (row pt.points.items x.value) s)
      (λ x k. (and_parts (is_store_at F pt p t x) (bit (row pt.points.items x.value) s) k).0) F.stores.items b))
      (or_cases (is_tested F pt p t s) (is_stored F pt p t s) h)

  target_asked : (p t : ℕ) → is_target F pt p t ≡ true → is_asked F p ≡ true
  target_asked p t h =
      ⊎_elim
      (λ a. or_left (list_any (λ (x : TestInfo). x.place.at == p) F.tests.items)
      (list_any (λ (x : StoreInfo). is_element x.column && (x.place.at == p)) F.stores.items)
      (any_weaker (λ (x : TestInfo). x.place.at == p) (is_test_at p t) (λ x k. (and_parts (x.place.at == p) (x.target.0 == t) k).0) F.tests.items a))
      (λ b. or_right (list_any (λ (x : TestInfo). x.place.at == p) F.tests.items)
      (list_any (λ (x : StoreInfo). is_element x.column && (x.place.at == p)) F.stores.items)
      (any_weaker (λ (x : StoreInfo). is_element x.column && (x.place.at == p)) (is_store_at F pt p t)
      (λ x k. (and_parts (is_element x.column && (x.place.at == p)) (has_array F pt x.base t) k).0) F.stores.items b))
      (or_cases (list_any (is_test_at p t) F.tests.items) (list_any (is_store_at F pt p t) F.stores.items) h)

  unmet : (H : Hierarchy) (p t s : ℕ) → is_target F pt p t ≡ false → wrong_outcome F pt H p t s ≡ None
  unmet H p t s free = none (of_row B7 (place_of_site F H s) (place_of_row H t) (site_row F s)) (meets F pt p t s)
      (differ (row_le H (site_row F s) t) (below F (site_class F s) (row_class F t))) (λ h. false≢true (sym free ∙ meets_target p t s h))
    where
      none : {B : Type 0} (v : B) (a b : Bool) → (a ≡ true → ⊥) → when (a && b) v ≡ None
      none v true b n = absurd (n refl)
      none v false b n = refl

  -- no site meets what is no target
  pub no_target : (H : Hierarchy) (p t : ℕ) → is_target F pt p t ≡ false → first_below (length F.sites.items) (wrong_outcome F pt H p t) ≡ None
  no_target H p t free = first_below_clear (wrong_outcome F pt H p t) (length F.sites.items) (λ s lt. unmet H p t s free)

  -- and nothing is met where nothing is asked
  pub not_asked : (H : Hierarchy) (p : ℕ) → is_asked F p ≡ false → first_wrong_of_place F pt H p ≡ None
  not_asked H p free =
      first_below_clear (λ t. first_below (length F.sites.items) (wrong_outcome F pt H p t)) (length F.rows.items) (λ t lt.
      no_target H p t (⊎_elim (λ h. absurd (false≢true (sym free ∙ target_asked p t h))) (λ f. f) (cases_Bool (is_target F pt p t))))

-- the places of tests and of stores of elements are those that are asked
pub places_asked : (F : Facts) (p : ℕ) → Contains (map (λ (x : TestInfo). x.place.at) F.tests.items ++ map (λ (x : StoreInfo). x.place.at)
    (filter (λ (x : StoreInfo). is_element x.column) F.stores.items)) p ↔ (is_asked F p ≡ true)
places_asked F p =
    let ts = map (λ (x : TestInfo). x.place.at) F.tests.items in
    let ss = map (λ (x : StoreInfo). x.place.at) (filter (λ (x : StoreInfo). is_element x.column) F.stores.items) in
    let tests = keys_all (λ (x : TestInfo). x.place.at) F.tests.items p in
    let stores = keys_of (λ (x : StoreInfo). x.place.at) (λ (x : StoreInfo). is_element x.column) F.stores.items p in
    let one = list_any (λ (x : TestInfo). x.place.at == p) F.tests.items in
    let two = list_any (λ (x : StoreInfo). is_element x.column && (x.place.at == p)) F.stores.items in (
      λ c. ⊎_elim (λ a. or_left one two (tests.0 a)) (λ b. or_right one two (stores.0 b)) (Contains-append_cases ts ss p c),
      λ h. ⊎_elim (λ a. Contains-append_left ts ss p (tests.1 a)) (λ b. Contains-append_right ts ss p (stores.1 b)) (or_cases one two h),
    )
