-- The spots of a list of calls and tests: each call and each test that has one has it, with its number in its list.
use Rattle.std.proofs.Common.{◌≡◌, ℕ, suc, ◌+◌, ◌<◌, Bool, true, List, [], ◌∷◌, ◌++◌, Some, length, refl, sym, ap, ◌∙◌, subst, arith, inl, inr, ⊎_elim}
use Rattle.std.specs.Prelude.{map, Contains, slice_get}
use Rattle.std.specs.List.{flat_map}
use Rattle.std.proofs.lemmas.List.{map-append}
use Rattle.std.proofs.lemmas.Grind.{flat_map-append}
use Rattle.std.proofs.lemmas.List.Elements.{Contains-append_right, Contains-append_cases}
use Rattle.kaba_base.proofs.ListLemmas.{contains_cases}
use Rattle.fact_model.specs.declared.facts.Spot.{Spot}
use Rattle.fact_model.specs.declared.facts.SpotKind.TheVariants as spot
use Rattle.fact_model.specs.declared.facts.TestInfo.{TestInfo}
use Rattle.java_core.specs.Programs.{Plain}
use Rattle.flow_rules.specs.declared.items.Mark.{Mark}
use Rattle.flow_rules.specs.Parts.{Part}
use Rattle.flow_rules.specs.Ordered.{by_place}
use Rattle.flow_rules.specs.Lists.{Numbers, Placed, PlainCall, calls_of, tests_of}
use Rattle.flow_rules.specs.Spots.{has_spot, marks_of, mark_number, mark_spot, numbered_spots}
use Rattle.flow_rules.proofs.Listed.{first, one_from, when_from}
use Rattle.flow_rules.proofs.ByPlace.{AtMostOne, place_mapped, place_picked}

-- a call or a test of a part, with whether it has a spot
pub data Entry : Type 0 where
  an_entry_call : Bool → Placed PlainCall → Entry
  an_entry_test : Bool → TestInfo → Entry

abbrev pub mark_of : Entry → Mark
mark_of (an_entry_call b c) = record { kind = spot.Call; is_spot = b; place = c.place }
mark_of (an_entry_test b t) = record { kind = spot.Cast; is_spot = b; place = t.place }

abbrev pub call_in : Entry → List (Placed PlainCall)
call_in (an_entry_call b c) = c ∷ []
call_in (an_entry_test b t) = []

abbrev pub test_in : Entry → List TestInfo
test_in (an_entry_call b c) = []
test_in (an_entry_test b t) = t ∷ []

abbrev pub entries_of : Plain → Numbers → Part → List Entry
entries_of P N p = map (an_entry_call (has_spot P p)) (calls_of N p) ++ map (an_entry_test (has_spot P p)) (tests_of N p)

-- all of it
marks_calls : (b : Bool) (cs : List (Placed PlainCall)) → map mark_of (map (an_entry_call b) cs)
    ≡ map (λ c. record { kind = spot.Call; is_spot = b; place = c.place }) cs
marks_calls b [] = refl
marks_calls b (c ∷ cs) = ap (λ l. mark_of (an_entry_call b c) ∷ l) (marks_calls b cs)

marks_tests : (b : Bool) (ts : List TestInfo) → map mark_of (map (an_entry_test b) ts)
    ≡ map (λ t. record { kind = spot.Cast; is_spot = b; place = t.place }) ts
marks_tests b [] = refl
marks_tests b (t ∷ ts) = ap (λ l. mark_of (an_entry_test b t) ∷ l) (marks_tests b ts)

calls_calls : (b : Bool) (cs : List (Placed PlainCall)) → flat_map call_in (map (an_entry_call b) cs) ≡ cs
calls_calls b [] = refl
calls_calls b (c ∷ cs) = ap (λ l. c ∷ l) (calls_calls b cs)

calls_tests : (b : Bool) (ts : List TestInfo) → flat_map call_in (map (an_entry_test b) ts) ≡ []
calls_tests b [] = refl
calls_tests b (t ∷ ts) = calls_tests b ts

tests_calls : (b : Bool) (cs : List (Placed PlainCall)) → flat_map test_in (map (an_entry_call b) cs) ≡ []
tests_calls b [] = refl
tests_calls b (c ∷ cs) = tests_calls b cs

tests_tests : (b : Bool) (ts : List TestInfo) → flat_map test_in (map (an_entry_test b) ts) ≡ ts
tests_tests b [] = refl
tests_tests b (t ∷ ts) = ap (λ l. t ∷ l) (tests_tests b ts)

nil_right : {A : Type 0} (xs : List A) → xs ++ [] ≡ xs
nil_right [] = refl
nil_right (x ∷ xs) = ap (λ l. x ∷ l) (nil_right xs)

pub part_marks : (P : Plain) (N : Numbers) (p : Part) → map mark_of (entries_of P N p) ≡ marks_of P N p
part_marks P N p =
    map-append mark_of (map (an_entry_call (has_spot P p)) (calls_of N p)) (map (an_entry_test (has_spot P p)) (tests_of N p))
    ∙ ap (λ l. l ++ map mark_of (map (an_entry_test (has_spot P p)) (tests_of N p))) (marks_calls (has_spot P p) (calls_of N p))
    ∙ ap (λ l. map (λ c. record { kind = spot.Call; is_spot = has_spot P p; place = c.place }) (calls_of N p) ++ l) (marks_tests (has_spot P p) (tests_of N p))

pub part_calls : (P : Plain) (N : Numbers) (p : Part) → flat_map call_in (entries_of P N p) ≡ calls_of N p
part_calls P N p =
    flat_map-append call_in (map (an_entry_call (has_spot P p)) (calls_of N p)) (map (an_entry_test (has_spot P p)) (tests_of N p))
    ∙ ap (λ l. l ++ flat_map call_in (map (an_entry_test (has_spot P p)) (tests_of N p))) (calls_calls (has_spot P p) (calls_of N p))
    ∙ ap (λ l. calls_of N p ++ l) (calls_tests (has_spot P p) (tests_of N p)) ∙ nil_right (calls_of N p)

pub part_tests : (P : Plain) (N : Numbers) (p : Part) → flat_map test_in (entries_of P N p) ≡ tests_of N p
part_tests P N p =
    flat_map-append test_in (map (an_entry_call (has_spot P p)) (calls_of N p)) (map (an_entry_test (has_spot P p)) (tests_of N p))
    ∙ ap (λ l. l ++ flat_map test_in (map (an_entry_test (has_spot P p)) (tests_of N p))) (tests_calls (has_spot P p) (calls_of N p))
    ∙ tests_tests (has_spot P p) (tests_of N p)

-- by place
pub marks_in_place : (es : List Entry) → by_place (λ (x : Mark). x.place.at) (map mark_of es) ≡ map mark_of (by_place (λ e. (mark_of e).place.at) es)
marks_in_place es = place_mapped (λ (x : Mark). x.place.at) mark_of es

one_call : (e : Entry) → AtMostOne (λ e. (mark_of e).place.at) (λ (c : Placed PlainCall). c.place.at) call_in e
unfolding AtMostOne
one_call (an_entry_call b c) = inr (c, refl, refl)
one_call (an_entry_test b t) = inl refl

one_test : (e : Entry) → AtMostOne (λ e. (mark_of e).place.at) (λ (t : TestInfo). t.place.at) test_in e
unfolding AtMostOne
one_test (an_entry_call b c) = inl refl
one_test (an_entry_test b t) = inr (t, refl, refl)

pub calls_in_place : (es : List Entry) → by_place (λ (c : Placed PlainCall). c.place.at) (flat_map call_in es)
    ≡ flat_map call_in (by_place (λ e. (mark_of e).place.at) es)
calls_in_place es = place_picked (λ e. (mark_of e).place.at) (λ (c : Placed PlainCall). c.place.at) call_in one_call es

pub tests_in_place : (es : List Entry) → by_place (λ (t : TestInfo). t.place.at) (flat_map test_in es)
    ≡ flat_map test_in (by_place (λ e. (mark_of e).place.at) es)
tests_in_place es = place_picked (λ e. (mark_of e).place.at) (λ (t : TestInfo). t.place.at) test_in one_test es

-- the spots of a list of entries, after so many calls and tests
abbrev pub entry_spots : ℕ → ℕ → List Entry → List Spot
entry_spots c t es = numbered_spots c t (map mark_of es)

-- the spot of a test, whose number is that of the test, and of a call
pub record HasTestSpot (c t : ℕ) (es : List Entry) (x : TestInfo) : Type 0 where
  pub found : Spot
  pub there : Contains (entry_spots c t es) found
  pub kind : found.kind ≡ spot.Cast
  pub place : found.place ≡ x.place
  pub number : ℕ
  pub is : found.at ≡ t + number
  pub listed : slice_get (flat_map test_in es) number ≡ Some x

pub record HasCallSpot (c t : ℕ) (es : List Entry) (x : Placed PlainCall) : Type 0 where
  pub found : Spot
  pub there : Contains (entry_spots c t es) found
  pub kind : found.kind ≡ spot.Call
  pub place : found.place ≡ x.place
  pub number : ℕ
  pub is : found.at ≡ c + number
  pub listed : slice_get (flat_map call_in es) number ≡ Some x

test_here : (c t : ℕ) (es : List Entry) (x : TestInfo) → HasTestSpot c t (an_entry_test true x ∷ es) x
test_here c t es x = record {
  found = record { kind = spot.Cast; at = t; place = x.place };
  there = first (record { kind = spot.Cast; at = t; place = x.place }) (entry_spots c (t + 1) es);
  kind = refl;
  place = refl;
  number = 0;
  is = omega arith;
  listed = refl;
}

test_past_call : (c t : ℕ) (b : Bool) (y : Placed PlainCall) (es : List Entry) (x : TestInfo) → HasTestSpot (c + 1) t es x
    → HasTestSpot c t (an_entry_call b y ∷ es) x
test_past_call c t b y es x r = record {
  found = r.found;
  there = Contains-append_right (mark_spot (mark_of (an_entry_call b y)) c) (entry_spots (c + 1) t es) r.found r.there;
  kind = r.kind;
  place = r.place;
  number = r.number;
  is = r.is;
  listed = r.listed;
}

test_past_test : (c t : ℕ) (b : Bool) (y : TestInfo) (es : List Entry) (x : TestInfo) → HasTestSpot c (t + 1) es x
    → HasTestSpot c t (an_entry_test b y ∷ es) x
test_past_test c t b y es x r = record {
  found = r.found;
  there = Contains-append_right (mark_spot (mark_of (an_entry_test b y)) t) (entry_spots c (t + 1) es) r.found r.there;
  kind = r.kind;
  place = r.place;
  number = suc r.number;
  is = let i = r.is in omega (arith, i);
  listed = r.listed;
}

pub test_spot : (c t : ℕ) (es : List Entry) (x : TestInfo) → Contains es (an_entry_test true x) → HasTestSpot c t es x
test_spot c t [] x d = absurd (omega (arith, d.1))
test_spot c t (an_entry_call b y ∷ es) x d = ⊎_elim (λ h. absurd (let z : an_entry_call b y ≡ an_entry_test true x = h in cc))
    (λ h. test_past_call c t b y es x (test_spot (c + 1) t es x h)) (contains_cases (an_entry_call b y) es (an_entry_test true x) d)
test_spot c t (an_entry_test b y ∷ es) x d = ⊎_elim (λ h. subst (λ z. HasTestSpot c t (z ∷ es) x) (sym h) (test_here c t es x))
    (λ h. test_past_test c t b y es x (test_spot c (t + 1) es x h)) (contains_cases (an_entry_test b y) es (an_entry_test true x) d)

call_here : (c t : ℕ) (es : List Entry) (x : Placed PlainCall) → HasCallSpot c t (an_entry_call true x ∷ es) x
call_here c t es x = record {
  found = record { kind = spot.Call; at = c; place = x.place };
  there = first (record { kind = spot.Call; at = c; place = x.place }) (entry_spots (c + 1) t es);
  kind = refl;
  place = refl;
  number = 0;
  is = omega arith;
  listed = refl;
}

call_past_call : (c t : ℕ) (b : Bool) (y : Placed PlainCall) (es : List Entry) (x : Placed PlainCall) → HasCallSpot (c + 1) t es x
    → HasCallSpot c t (an_entry_call b y ∷ es) x
call_past_call c t b y es x r = record {
  found = r.found;
  there = Contains-append_right (mark_spot (mark_of (an_entry_call b y)) c) (entry_spots (c + 1) t es) r.found r.there;
  kind = r.kind;
  place = r.place;
  number = suc r.number;
  is = let i = r.is in omega (arith, i);
  listed = r.listed;
}

call_past_test : (c t : ℕ) (b : Bool) (y : TestInfo) (es : List Entry) (x : Placed PlainCall) → HasCallSpot c (t + 1) es x
    → HasCallSpot c t (an_entry_test b y ∷ es) x
call_past_test c t b y es x r = record {
  found = r.found;
  there = Contains-append_right (mark_spot (mark_of (an_entry_test b y)) t) (entry_spots c (t + 1) es) r.found r.there;
  kind = r.kind;
  place = r.place;
  number = r.number;
  is = r.is;
  listed = r.listed;
}

pub call_spot : (c t : ℕ) (es : List Entry) (x : Placed PlainCall) → Contains es (an_entry_call true x) → HasCallSpot c t es x
call_spot c t [] x d = absurd (omega (arith, d.1))
call_spot c t (an_entry_test b y ∷ es) x d = ⊎_elim (λ h. absurd (let z : an_entry_test b y ≡ an_entry_call true x = h in cc))
    (λ h. call_past_test c t b y es x (call_spot c (t + 1) es x h)) (contains_cases (an_entry_test b y) es (an_entry_call true x) d)
call_spot c t (an_entry_call b y ∷ es) x d = ⊎_elim (λ h. subst (λ z. HasCallSpot c t (z ∷ es) x) (sym h) (call_here c t es x))
    (λ h. call_past_call c t b y es x (call_spot (c + 1) t es x h)) (contains_cases (an_entry_call b y) es (an_entry_call true x) d)

-- each spot has a number of its list
pub spot_below : (c t : ℕ) (es : List Entry) (s : Spot) → Contains (entry_spots c t es) s
    → s.at < mark_number s.kind (c + length (flat_map call_in es)) (t + length (flat_map test_in es))
spot_below c t [] s d = absurd (omega (arith, d.1))
spot_below c t (an_entry_call b y ∷ es) s d =
    ⊎_elim (λ h. subst (λ z. z.at < mark_number z.kind (c + suc (length (flat_map call_in es))) (t + length (flat_map test_in es)))
    (one_from (record { kind = spot.Call; at = c; place = y.place }) s (when_from b _ s h).1) (omega arith))
    (λ h. subst (λ n. s.at < mark_number s.kind n (t + length (flat_map test_in es))) (omega arith) (spot_below (c + 1) t es s h))
    (Contains-append_cases (mark_spot (mark_of (an_entry_call b y)) c) (entry_spots (c + 1) t es) s d)
spot_below c t (an_entry_test b y ∷ es) s d =
    ⊎_elim (λ h. subst (λ z. z.at < mark_number z.kind (c + length (flat_map call_in es)) (t + suc (length (flat_map test_in es))))
    (one_from (record { kind = spot.Cast; at = t; place = y.place }) s (when_from b _ s h).1) (omega arith))
    (λ h. subst (λ n. s.at < mark_number s.kind (c + length (flat_map call_in es)) n) (omega arith) (spot_below c (t + 1) es s h))
    (Contains-append_cases (mark_spot (mark_of (an_entry_test b y)) t) (entry_spots c (t + 1) es) s d)
