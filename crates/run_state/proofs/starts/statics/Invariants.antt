use Rattle.std.proofs.Common.{◌≡◌, ◌++◌, drop, map}
use Rattle.java_heap.specs.Seen.{value_of}
use Rattle.java_meaning.specs.Values.{default_of}
use Rattle.run_state.proofs.starts.statics.Given as goal

abbrev pub invariant-loop-field : goal.invariant-loop-field
invariant-loop-field l =
    map value_of l.values.items ++ map (λ f. default_of f.ty) (drop l.field-index l.p.fields.items)
    ≡ map (λ f. default_of f.ty) l.p.fields.items
