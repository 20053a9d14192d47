-- The spots of the facts: each names a test or a call, and each cast and call of a body has its own.
use Rattle.std.proofs.Common.{◌≡◌, ℕ, ◌+◌, ◌<◌, List, [], ◌∷◌, ◌++◌, Some, length, refl, sym, ap, ◌∙◌, subst, arith}
use Rattle.std.specs.Prelude.{true, map, Contains, slice_get}
use Rattle.std.specs.List.{flat_map}
use Rattle.std.proofs.lemmas.List.{map-append, length-map}
use Rattle.std.proofs.lemmas.Grind.{flat_map-append}
use Rattle.kaba_base.proofs.ListLemmas.{all_of}
use Rattle.java_core.specs.Programs.{Plain, PlainMethod}
use Rattle.fact_model.specs.declared.facts.Facts.{Facts}
use Rattle.fact_model.specs.declared.facts.CallInfo.{CallInfo}
use Rattle.fact_model.specs.declared.facts.TestInfo.{TestInfo}
use Rattle.fact_model.specs.declared.facts.Spot.{Spot}
use Rattle.fact_model.specs.declared.facts.SpotKind.{SpotKind}
use Rattle.fact_model.specs.declared.facts.SpotKind.TheVariants as spot
use Rattle.flow_rules.specs.declared.items.Mark.{Mark}
use Rattle.flow_rules.specs.Ordered.{by_place}
use Rattle.flow_rules.specs.Parts.{Part, parts_of}
use Rattle.flow_rules.specs.Numbered.{BodyParts, bodies_of}
use Rattle.flow_rules.specs.Lists.{Placed, PlainCall, calls_of, tests_of}
use Rattle.flow_rules.specs.Spots.{has_spot, marks_of, mark_number, numbered_spots}
use Rattle.flow_rules.specs.Facts.{numbers, gathered, call_seen, IsFactsOf}
use Rattle.flow_rules.proofs.Listed.{map_has, map_at, at_map, index_at, place_has}
use Rattle.flow_rules.proofs.Spotted.{Entry, an_entry_call, an_entry_test, mark_of, call_in, test_in, entries_of, part_marks, part_calls, part_tests, marks_in_place, calls_in_place, tests_in_place, test_spot, call_spot, spot_below}
use Rattle.flow_laws.proofs.order.Tests.{gathered_has}
use Rattle.std.proofs.lemmas.List.Elements.{Contains-append_left, Contains-append_right}
use Rattle.sure_report.specs.Report.{IsNumberOf, AreSpotsInRange, test_at}

-- what is picked of what each gives, and what is made of it
picked : {A B C : Type 0} (g : B → List C) (e : A → List B) (f : A → List C) → ((a : A) → flat_map g (e a) ≡ f a) → (xs : List A)
    → flat_map g (flat_map e xs) ≡ flat_map f xs
picked g e f h [] = refl
picked g e f h (x ∷ xs) = flat_map-append g (e x) (flat_map e xs) ∙ ap (λ l. l ++ flat_map g (flat_map e xs)) (h x) ∙ ap (λ l. f x ++ l) (picked g e f h xs)

made : {A B C : Type 0} (g : B → C) (e : A → List B) (f : A → List C) → ((a : A) → map g (e a) ≡ f a) → (xs : List A) → map g (flat_map e xs) ≡ flat_map f xs
made g e f h [] = refl
made g e f h (x ∷ xs) = map-append g (e x) (flat_map e xs) ∙ ap (λ l. l ++ map g (flat_map e xs)) (h x) ∙ ap (λ l. f x ++ l) (made g e f h xs)

module _ (P : Plain) (F : Facts) (facts : IsFactsOf P F) where
  abbrev all : List Entry
  all = gathered P (λ b. entries_of P (numbers P))

  -- the calls and the tests by their place
  abbrev placed : List Entry
  placed = by_place (λ e. (mark_of e).place.at) all

  all_picked : {C : Type 0} (g : Entry → List C) (f : Part → List C) → ((p : Part) → flat_map g (entries_of P (numbers P) p) ≡ f p)
      → flat_map g all ≡ gathered P (λ b. f)
  all_picked g f h = picked g (λ (b : BodyParts). flat_map (entries_of P (numbers P)) b.parts) (λ (b : BodyParts). flat_map f b.parts)
      (λ (b : BodyParts). picked g (entries_of P (numbers P)) f h b.parts) (bodies_of P)

  all_made : {C : Type 0} (g : Entry → C) (f : Part → List C) → ((p : Part) → map g (entries_of P (numbers P) p) ≡ f p) → map g all ≡ gathered P (λ b. f)
  all_made g f h = made g (λ (b : BodyParts). flat_map (entries_of P (numbers P)) b.parts) (λ (b : BodyParts). flat_map f b.parts)
      (λ (b : BodyParts). made g (entries_of P (numbers P)) f h b.parts) (bodies_of P)

  tests_are : F.tests.items ≡ flat_map test_in placed
  tests_are = facts.tests ∙ ap (by_place (λ (t : TestInfo). t.place.at)) (sym (all_picked test_in (tests_of (numbers P)) (part_tests P (numbers P))))
      ∙ tests_in_place all

  calls_are : map call_seen F.calls.items ≡ map (λ c. c.item) (flat_map call_in placed)
  calls_are = facts.calls ∙ ap (λ l. map (λ (c : Placed PlainCall). c.item) l) (ap (by_place (λ (c : Placed PlainCall). c.place.at))
      (sym (all_picked call_in (calls_of (numbers P)) (part_calls P (numbers P)))) ∙ calls_in_place all)

  spots_are : F.spots.items ≡ numbered_spots 0 0 (map mark_of placed)
  spots_are = facts.spots ∙ ap (numbered_spots 0 0) (ap (by_place (λ (x : Mark). x.place.at))
      (sym (all_made mark_of (marks_of P (numbers P)) (part_marks P (numbers P)))) ∙ marks_in_place all)

  calls_count : length F.calls.items ≡ length (flat_map call_in placed)
  calls_count = sym (length-map F.calls.items call_seen) ∙ ap length calls_are ∙ length-map (flat_map call_in placed) (λ c. c.item)

  named : (k : SpotKind) (n : ℕ) → n < mark_number k (length (flat_map call_in placed)) (length (flat_map test_in placed)) → IsNumberOf F k n
  named spot.Cast n h = subst (λ z. n < z) (ap length (sym tests_are)) h
  named spot.Call n h = subst (λ z. n < z) (sym calls_count) h

  -- each spot names a test or a call of the facts
  pub spots_in_range : AreSpotsInRange F
  spots_in_range = all_of (λ s. IsNumberOf F s.kind s.at) F.spots.items (λ s c. named s.kind s.at
      (subst (λ z. s.at < mark_number s.kind z (length (flat_map test_in placed))) (zero_more (length (flat_map call_in placed)))
      (subst (λ z. s.at < mark_number s.kind (0 + length (flat_map call_in placed)) z) (zero_more (length (flat_map test_in placed)))
      (spot_below 0 0 placed s (subst (λ z. Contains z s) spots_are c)))))
    where
      zero_more : (n : ℕ) → 0 + n ≡ n
      zero_more n = omega arith

  -- the spot of a cast of the facts, and of a call
  pub record IsTestSpot (x : TestInfo) : Type 0 where
    pub found : Spot
    pub there : Contains F.spots.items found
    pub kind : found.kind ≡ spot.Cast
    pub place : found.place ≡ x.place
    pub test : test_at F found.at ≡ x

  pub record IsCallSpot (x : Placed PlainCall) : Type 0 where
    pub found : Spot
    pub there : Contains F.spots.items found
    pub kind : found.kind ≡ spot.Call
    pub place : found.place ≡ x.place
    pub call : CallInfo
    pub listed : slice_get F.calls.items found.at ≡ Some call
    pub seen : call_seen call ≡ x.item

  module _ (m : ℕ) (k : PlainMethod) (stands : slice_get P.methods m ≡ Some k) (p : Part) (part : Contains (parts_of P m k) p) (own : has_spot P p ≡ true) where
    pub test_spot_of : (x : TestInfo) → Contains (tests_of (numbers P) p) x → IsTestSpot x
    test_spot_of x c =
        let e = gathered_has P (λ b. entries_of P (numbers P)) (an_entry_test true x) m k p stands part
        (subst (λ z. Contains (map (an_entry_call (has_spot P p)) (calls_of (numbers P) p) ++ map (an_entry_test (has_spot P p)) (tests_of (numbers P) p))
        (an_entry_test z x)) own (Contains-append_right _ _ _ (map_has (an_entry_test (has_spot P p)) (tests_of (numbers P) p) x c))) in
        let r = test_spot 0 0 placed x (place_has (λ e. (mark_of e).place.at) all (an_entry_test true x) e) in
        let at : r.found.at ≡ r.number = let i = r.is in omega (arith, i) in
        record {
          found = r.found;
          there = subst (λ z. Contains z r.found) (sym spots_are) r.there;
          kind = r.kind;
          place = r.place;
          test = index_at F.tests.items r.found.at _ x (subst (λ z. slice_get z r.found.at ≡ Some x) (sym tests_are)
              (subst (λ n. slice_get (flat_map test_in placed) n ≡ Some x) (sym at) r.listed));
        }

    pub call_spot_of : (x : Placed PlainCall) → Contains (calls_of (numbers P) p) x → IsCallSpot x
    call_spot_of x c =
        let e = gathered_has P (λ b. entries_of P (numbers P)) (an_entry_call true x) m k p stands part
        (subst (λ z. Contains (map (an_entry_call (has_spot P p)) (calls_of (numbers P) p) ++ map (an_entry_test (has_spot P p)) (tests_of (numbers P) p))
        (an_entry_call z x)) own (Contains-append_left _ _ _ (map_has (an_entry_call (has_spot P p)) (calls_of (numbers P) p) x c))) in
        let r = call_spot 0 0 placed x (place_has (λ e. (mark_of e).place.at) all (an_entry_call true x) e) in
        let at : r.found.at ≡ r.number = let i = r.is in omega (arith, i) in
        let w = map_at call_seen F.calls.items r.found.at x.item (subst (λ z. slice_get z r.found.at ≡ Some x.item) (sym calls_are)
        (at_map (λ c. c.item) (flat_map call_in placed) r.found.at x (subst (λ n. slice_get (flat_map call_in placed) n ≡ Some x) (sym at) r.listed))) in
        record {
          found = r.found;
          there = subst (λ z. Contains z r.found) (sym spots_are) r.there;
          kind = r.kind;
          place = r.place;
          call = w.0;
          listed = w.1;
          seen = w.2;
        }
