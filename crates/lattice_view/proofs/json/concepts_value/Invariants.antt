use Rattle.std.proofs.Common.{◌≡◌, map, take}
use Rattle.serde_json.specs.View.{view}
use Rattle.lattice_view.specs.Json.{concept_data}
use Rattle.lattice_view.proofs.json.concepts_value.Given as goal

abbrev pub invariant-loop-k : goal.invariant-loop-k
invariant-loop-k l = map view l.values.items ≡ map concept_data (take l.k l.concepts)
