use Rattle.std.proofs.Common.{◌≡◌, ℕ, false, List, [], ◌∷◌, map, refl}
use Rattle.std.specs.Str.{encode_utf8_all}
use Rattle.serde_json.specs.Data.{number, unsigned, string}
use Rattle.serde_json.specs.View.{items_of}
use Rattle.serde_json.specs.Written.{has_float, items_have_float}
use Rattle.fact_model.specs.declared.facts.Facts.{Facts}
use Rattle.fact_model.specs.declared.sets.Concept.{Concept}
use Rattle.fact_model.specs.declared.sets.Lattice.{Lattice}
use Rattle.lattice_view.specs.Json.{concept_data, lattice_data}

numbers_whole : (ns : List ℕ) → items_have_float (items_of (map (λ n. number (unsigned n)) ns)) ≡ false
numbers_whole [] = refl
numbers_whole (n ∷ ns) = numbers_whole ns

names_whole : (names : List (List ℕ)) → items_have_float (items_of (map (λ name. string (encode_utf8_all name)) names)) ≡ false
names_whole [] = refl
names_whole (name ∷ names) = names_whole names

concepts_whole : (xs : List Concept) → items_have_float (items_of (map concept_data xs)) ≡ false
concepts_whole [] = refl
concepts_whole (x ∷ xs) = rw (
  numbers_whole x.above.items,
  numbers_whole (map (λ c. c.0) x.columns.items),
  numbers_whole
      (map (λ r. r.0) x.rows.items),
  concepts_whole xs,
) refl

-- the JSON of a lattice has whole numbers alone
pub lattice_whole : (f : Facts) (l : Lattice) → has_float (lattice_data f l) ≡ false
lattice_whole f l = rw (names_whole (map (λ c. c.label) f.columns.items), concepts_whole l.concepts.items, names_whole (map (λ r. r.label) f.rows.items)) refl
