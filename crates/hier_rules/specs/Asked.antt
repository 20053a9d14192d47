-- Believed. What the obligations ask of the facts and of their sets, as tests.
use Rattle.std.specs.Prelude.{ℕ, ◌+◌, ◌==◌, ◌&&◌, ◌||◌, max, nat_lt, Bool, true, false, not, List, [], ◌∷◌, length, Option, Some, None}
use Rattle.std.specs.List.{list_any}
use Rattle.kaba_base.specs.declared.ColId.{ColId}
use Rattle.kaba_bits.specs.Sets.{bit, row}
use Rattle.fact_model.specs.Items.{site_at, site_row, column_kind, column_slot}
use Rattle.fact_model.specs.Classes.{is_def}
use Rattle.fact_model.specs.declared.facts.Facts.{Facts}
use Rattle.fact_model.specs.declared.facts.TestInfo.{TestInfo}
use Rattle.fact_model.specs.declared.facts.StoreInfo.{StoreInfo}
use Rattle.fact_model.specs.declared.sets.PointsTo.{PointsTo}
use Rattle.hier_model.specs.Hierarchies.{any_below}
use Rattle.hier_model.specs.Edits.{is_one_slot}

-- whether two numbers are those of a pair
abbrev pub is_pair : ℕ → ℕ → ℕ → ℕ → Bool
is_pair a b x y = (a == x) && (b == y)

-- whether two rows are the lower and the upper of a tie
abbrev pub is_tie : Facts → ℕ → ℕ → Bool
is_tie F l u = list_any (λ t. is_pair t.lower.0 t.upper.0 l u) F.ties.items

-- whether a super call in the method whose `this` is the row r runs the body c
abbrev pub is_super : Facts → ℕ → ℕ → Bool
is_super F r c = list_any (λ x. is_pair x.row.0 x.column.0 r c) F.supers.items

-- whether the site s is in the receiver of a call of the slot x
abbrev pub is_called : Facts → PointsTo → ℕ → ℕ → Bool
is_called F t s x = list_any (λ k. bit (row t.points.items k.receiver) s && (k.slot == x)) F.calls.items

-- one more than the greatest of some numbers
abbrev pub bound_of : {X : Type 0} → (X → ℕ) → List X → ℕ
bound_of f [] = 0
bound_of f (x ∷ xs) = max (f x + 1) (bound_of f xs)

-- the slots of all calls are below this
abbrev pub slots_of : Facts → ℕ
slots_of F = bound_of (λ k. k.slot) F.calls.items

-- whether two slots are there and differ
abbrev pub are_two_slots : Option ℕ → Option ℕ → Bool
are_two_slots None y = false
are_two_slots (Some x) None = false
are_two_slots (Some x) (Some y) = not (x == y)

-- whether e is another body of the slot of d
abbrev pub is_other_body : Facts → ℕ → ℕ → Bool
is_other_body F d e = not (e == d) && is_def (column_kind F e) && is_one_slot (column_slot F d) (column_slot F e)

-- whether a store is one of an element
abbrev pub is_element : Option ColId → Bool
is_element None = true
is_element (Some c) = false

-- whether a is an array site in the set of a point, of the row t
abbrev pub is_array_at : Facts → PointsTo → ℕ → ℕ → ℕ → Bool
is_array_at F pt base t a = bit (row pt.points.items base) a && nat_lt 0 (site_at F a).dim && (site_row F a == t)

-- whether there is one
abbrev pub has_array : Facts → PointsTo → ℕ → ℕ → Bool
has_array F pt base t = any_below (length F.sites.items) (is_array_at F pt base t)

-- whether a cast or instanceof is at a place, and of the row t
abbrev pub is_test_at : ℕ → ℕ → TestInfo → Bool
is_test_at p t x = (x.place.at == p) && (x.target.0 == t)

-- whether a store is one of an element at a place, and into an array whose site has the row t
abbrev pub is_store_at : Facts → PointsTo → ℕ → ℕ → StoreInfo → Bool
is_store_at F pt p t x = is_element x.column && (x.place.at == p) && has_array F pt x.base t

-- whether the row t is that of a test, or of an array that is stored into, at a place
abbrev pub is_target : Facts → PointsTo → ℕ → ℕ → Bool
is_target F pt p t = list_any (is_test_at p t) F.tests.items || list_any (is_store_at F pt p t) F.stores.items

-- whether the site s is in the operand of a test of the row t at a place
abbrev pub is_tested : Facts → PointsTo → ℕ → ℕ → ℕ → Bool
is_tested F pt p t s = list_any (λ x. is_test_at p t x && bit (row pt.points.items x.from) s) F.tests.items

-- whether the site s is in the value that is stored into an array of the row t at a place
abbrev pub is_stored : Facts → PointsTo → ℕ → ℕ → ℕ → Bool
is_stored F pt p t s = list_any (λ x. is_store_at F pt p t x && bit (row pt.points.items x.value) s) F.stores.items

-- whether a site meets a target, the row of a test or of an array, at a place
abbrev pub meets : Facts → PointsTo → ℕ → ℕ → ℕ → Bool
meets F pt p t s = is_tested F pt p t s || is_stored F pt p t s

-- whether a test or a store of an element is at a place
abbrev pub is_asked : Facts → ℕ → Bool
is_asked F p = list_any (λ x. x.place.at == p) F.tests.items || list_any (λ x. is_element x.column && (x.place.at == p)) F.stores.items

-- the places of all tests and stores are below this
abbrev pub places_of : Facts → ℕ
places_of F = max (bound_of (λ x. x.place.at) F.tests.items) (bound_of (λ x. x.place.at) F.stores.items)
