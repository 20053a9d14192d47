-- The searches through the slots that are called on a site, and through the places that are asked.
use Rattle.std.proofs.Common.{◌≡◌, ℕ, ◌<◌, ◌↔◌, ◌&&◌, cond, eqb, true, List, length, get_or, Contains, Option, Some, None, ap, ◌∙◌, arith, ⊎_elim, inl, inr}
use Rattle.std.specs.Option.{option_and_then}
use Rattle.std.specs.List.{list_any}
use Rattle.std.specs.List.Sorted.{IsNonDecreasing}
use Rattle.std.proofs.lemmas.Bool.{cases_Bool, cases_lt, or_cases, false_from_ne_true}
use Rattle.std.proofs.lemmas.List.Elements.{Contains-get_or}
use Rattle.kaba_bits.specs.Sets.{bit, row, first_below}
use Rattle.kaba_bits.proofs.FirstLemmas.{first_below_None}
use Rattle.fact_model.specs.Items.{site_class}
use Rattle.fact_model.specs.Classes.{finds}
use Rattle.fact_model.specs.declared.facts.Facts.{Facts}
use Rattle.fact_model.specs.declared.facts.CallInfo.{CallInfo}
use Rattle.fact_model.specs.declared.facts.TestInfo.{TestInfo}
use Rattle.fact_model.specs.declared.facts.StoreInfo.{StoreInfo}
use Rattle.fact_model.specs.declared.sets.PointsTo.{PointsTo}
use Rattle.hier_model.specs.Hierarchies.{Hierarchy}
use Rattle.hier_rules.specs.declared.broken.Broken.{Broken}
use Rattle.hier_rules.specs.Asked.{is_called, slots_of, is_element, is_asked, places_of}
use Rattle.hier_rules.specs.Obligations.{wrong_body, wrong_need, first_wrong_of_place, first_wrong_outcome}
use Rattle.hier_rules.proofs.KeyLemmas.{AreKeys, key_found, key_none, bound_above}
use Rattle.hier_rules.proofs.OutcomeLemmas.{not_asked}

module _ (F : Facts) (pt : PointsTo) (H : Hierarchy) where
  module _ (s : ℕ) (slots : List ℕ) (sorted : IsNonDecreasing slots) (has : (x : ℕ) → Contains slots x ↔ (is_called F pt s x ≡ true)) where
    abbrev value : ℕ → Option Broken
    value x = option_and_then (wrong_body F H s) (finds F (site_class F s) x)

    call_keys : AreKeys (wrong_need F pt H s) (slots_of F) slots
    call_keys = record {
      sorted = sorted;
      below = λ k c. bound_above (λ (k : CallInfo). k.slot) (λ k. bit (row pt.points.items k.receiver) s) F.calls.items k ((has k).0 c);
      all = λ k. ⊎_elim (λ h. inl ((has k).1 h)) (λ h. inr (ap (λ b. cond b (value k) None) h)) (cases_Bool (is_called F pt s k));
    }

    valued : (j : ℕ) → j < length slots → wrong_need F pt H s (get_or slots j 0) ≡ value (get_or slots j 0)
    valued j lt = ap (λ b. cond b (value (get_or slots j 0)) None) ((has (get_or slots j 0)).0 (Contains-get_or slots j 0 lt))

    pub call_found : (i : ℕ) (x : Broken) → i < length slots → ((j : ℕ) → j < i → value (get_or slots j 0) ≡ None) → value (get_or slots i 0) ≡ Some x
        → first_below (slots_of F) (wrong_need F pt H s) ≡ Some x
    call_found i x lt none h = key_found (wrong_need F pt H s) (slots_of F) slots call_keys i x lt (λ j l. valued j (omega (arith, l, lt)) ∙ none j l)
        (valued i lt ∙ h)

    pub call_none : ((j : ℕ) → j < length slots → value (get_or slots j 0) ≡ None) → first_below (slots_of F) (wrong_need F pt H s) ≡ None
    call_none none = key_none (wrong_need F pt H s) (slots_of F) slots call_keys (λ j l. valued j l ∙ none j l)

  -- what is asked is asked at a place; where all places are right, nothing is wrong anywhere
  asked_below : (p : ℕ) → is_asked F p ≡ true → p < places_of F
  asked_below p h =
      ⊎_elim
      (λ a. let lt = bound_above (λ (x : TestInfo). x.place.at) (λ x. true) F.tests.items p a in omega (arith, lt))
      (λ b. let lt = bound_above (λ (x : StoreInfo). x.place.at) (λ x. is_element x.column) F.stores.items p b in omega (arith, lt))
      (or_cases (list_any (λ (x : TestInfo). eqb x.place.at p) F.tests.items) (list_any (λ (x : StoreInfo). is_element x.column && eqb x.place.at p)
      F.stores.items) h)

  pub none_anywhere : first_wrong_outcome F pt H ≡ None → (p : ℕ) → first_wrong_of_place F pt H p ≡ None
  none_anywhere none p =
      ⊎_elim
      (λ lt. first_below_None (first_wrong_of_place F pt H) (places_of F) p none lt)
      (λ past. not_asked F pt H p (false_from_ne_true (is_asked F p) (λ h. omega (arith, past, asked_below p h))))
      (cases_lt p (places_of F))

  module _ (places : List ℕ) (sorted : IsNonDecreasing places) (has : (p : ℕ) → Contains places p ↔ (is_asked F p ≡ true)) where
    place_keys : AreKeys (first_wrong_of_place F pt H) (places_of F) places
    place_keys = record {
      sorted = sorted;
      below = λ p c. asked_below p ((has p).0 c);
      all = λ p. ⊎_elim (λ h. inl ((has p).1 h)) (λ h. inr (not_asked F pt H p h)) (cases_Bool (is_asked F p));
    }

    pub place_found : (i : ℕ) (x : Broken) → i < length places → ((j : ℕ) → j < i → first_wrong_of_place F pt H (get_or places j 0) ≡ None)
        → first_wrong_of_place F pt H (get_or places i 0) ≡ Some x
        → first_below (places_of F) (first_wrong_of_place F pt H) ≡ Some x
    place_found i x lt none h = key_found (first_wrong_of_place F pt H) (places_of F) places place_keys i x lt none h

    pub place_none : ((j : ℕ) → j < length places → first_wrong_of_place F pt H (get_or places j 0) ≡ None)
        → first_below (places_of F) (first_wrong_of_place F pt H) ≡ None
    place_none none = key_none (first_wrong_of_place F pt H) (places_of F) places place_keys none
