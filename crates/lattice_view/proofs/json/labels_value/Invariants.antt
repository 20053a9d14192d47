use Rattle.std.proofs.Common.{◌≡◌, map, take}
use Rattle.std.specs.Str.{encode_utf8_all}
use Rattle.serde_json.specs.Data.{string}
use Rattle.serde_json.specs.View.{view}
use Rattle.lattice_view.proofs.json.labels_value.Given as goal

abbrev pub invariant-loop-item : goal.invariant-loop-item
invariant-loop-item g l = map view l.names.items ≡ map (λ name. string (encode_utf8_all name)) (map g.T.Labelled.label (take l.item-index l.items.items))
