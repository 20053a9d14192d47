-- Believed. The spots of the text: its casts and its calls through a receiver, each with its number among the tests or
-- the calls of the facts.
use Rattle.std.specs.Option.{option_map_or}
use Rattle.std.specs.Prelude.{ℕ, ◌+◌, ◌==◌, not, slice_get, Bool, true, false, List, [], ◌∷◌, ◌++◌, map, Option, Some, None}
use Rattle.java_core.specs.Programs.{Plain}
use Rattle.fact_model.specs.declared.facts.Spot.{Spot}
use Rattle.fact_model.specs.declared.facts.SpotKind.{SpotKind}
use Rattle.fact_model.specs.declared.facts.SpotKind.TheVariants as spot
use Rattle.flow_rules.specs.declared.items.RowItem.{RowItem}
use Rattle.flow_rules.specs.declared.items.RowItem.TheVariants as row
use Rattle.flow_rules.specs.declared.items.Mark.{Mark}
use Rattle.flow_rules.specs.Ordered.{when}
use Rattle.flow_rules.specs.Parts.{Part, a_load, an_element, a_creation, a_call, a_static_call, a_super_call, a_test, a_pair, a_set, a_store, an_element_store, a_return}
use Rattle.flow_rules.specs.Lists.{Numbers, calls_of, tests_of}

-- whether a row is that of a cast
abbrev pub is_cast_row : Option RowItem → Bool
is_cast_row None = false
is_cast_row (Some (row.Cast n)) = true
is_cast_row (Some (row.Field f)) = false
is_cast_row (Some (row.This m)) = false
is_cast_row (Some (row.Return s)) = false
is_cast_row (Some (row.Param s i)) = false
is_cast_row (Some (row.Result m)) = false
is_cast_row (Some (row.Local m i)) = false
is_cast_row (Some (row.New n)) = false
is_cast_row (Some (row.Test n)) = false

-- whether a slot is that of a constructor
abbrev pub is_maker_slot : Plain → Option ℕ → Bool
is_maker_slot P None = false
is_maker_slot P (Some s) = option_map_or (λ z. begins z.name) (slice_get P.slots s) false
  where
    begins : List ℕ → Bool
    begins [] = false
    begins (c ∷ cs) = c == 60

-- whether a part has a spot: a call through a receiver and a cast; a call of a constructor, a super call, a static call and an `instanceof` have none
abbrev pub has_spot : Plain → Part → Bool
has_spot P (a_call p b s d es o) = not (is_maker_slot P s)
has_spot P (a_test p e o) = is_cast_row o.row
has_spot P (a_load p b f o) = false
has_spot P (an_element p b o) = false
has_spot P (a_creation p u o s d es) = false
has_spot P (a_static_call p m es o) = false
has_spot P (a_super_call p m es o) = false
has_spot P (a_pair o l r) = false
has_spot P (a_set v o) = false
has_spot P (a_store p b f o) = false
has_spot P (an_element_store p b o) = false
has_spot P (a_return o) = false

-- each call and each test that a part gives to the facts, with or without a spot
abbrev pub marks_of : Plain → Numbers → Part → List Mark
marks_of P N p =
    map (λ c. record { kind = spot.Call; is_spot = has_spot P p; place = c.place }) (calls_of N p)
    ++ map (λ t. record { kind = spot.Cast; is_spot = has_spot P p; place = t.place }) (tests_of N p)

-- the number of a call among the calls, and of a test among the tests, where so many of each come before
abbrev pub mark_number : SpotKind → ℕ → ℕ → ℕ
mark_number spot.Call c t = c
mark_number spot.Cast c t = t

-- how many calls there are after it, and how many tests
abbrev pub calls_after : SpotKind → ℕ → ℕ
calls_after spot.Call c = c + 1
calls_after spot.Cast c = c

abbrev pub tests_after : SpotKind → ℕ → ℕ
tests_after spot.Call t = t
tests_after spot.Cast t = t + 1

-- the spot that stands at a call or a test of this number, where there is one
abbrev pub mark_spot : Mark → ℕ → List Spot
mark_spot x n = when x.is_spot (record { kind = x.kind; at = n; place = x.place } ∷ [])

-- the spots among calls and tests in the order of their places, after so many of each
abbrev pub numbered_spots : ℕ → ℕ → List Mark → List Spot
numbered_spots c t [] = []
numbered_spots c t (x ∷ xs) = mark_spot x (mark_number x.kind c t) ++ numbered_spots (calls_after x.kind c) (tests_after x.kind t) xs
